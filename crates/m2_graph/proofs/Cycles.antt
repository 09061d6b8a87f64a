-- Cycles of definitions, and where they begin.
use Rattle.std.proofs.Common.{◌≡◌, ◌<◌, ℕ, suc, Bool, true, false, cond, ◌==◌, List, [], ◌∷◌, length, get_or, map, refl, sym, ap, subst, ◌∙◌, inl, inr, arith, Option, Some, None, All}
use Rattle.std.specs.List.{filter_map, cons_option}
use Rattle.std.specs.Option.{option_map}
use Rattle.std.specs.Borrow.{Bor}
use Rattle.std.proofs.lemmas.Bool.{false≢true, eqb-true}
use Rattle.std.proofs.lemmas.List.{get_or-map, length-map}
use Rattle.m2_tree.specs.declared.decl.Module.{Module}
use Rattle.m2_tree.specs.declared.name.Ident.{Ident}
use Rattle.graph_walk.specs.Links.{has, targets, Leads}
use Rattle.m2_graph.specs.Imports.{first_that, definition_of, imports_of, links_of, links}
use Rattle.m2_graph.specs.Reported.{LeadsBack}
use Rattle.graph_walk.proofs.Chains.{or_true, first_step}

-- ---- a number that a list of answers has

pub none_has : {X : Type 0} (h : X → Option ℕ) (xs : List X) (to : ℕ) → All (λ x. h x ≡ Some to → ⊥) xs
    → has (filter_map h xs) to ≡ true → ⊥
none_has h [] to a e = false≢true e
none_has {X = X} h (x ∷ xs) to a e = step (none_has h xs to (λ k d l. a (suc k) d (omega arith))) (h x) refl e
  where
    step : (has (filter_map h xs) to ≡ true → ⊥) → (o : Option ℕ) → h x ≡ o
        → has (cons_option o (filter_map h xs)) to ≡ true → ⊥
    step later None q f = later f
    step later (Some y) q f = elim (or_true (y == to) (has (filter_map h xs) to) f)
        [ inl same ↦ a 0 x (omega arith) (q ∙ ap Some (eqb-true y to same)) | inr more ↦ later more ]

-- a definition on a cycle has an import that leads back to it
pub none_back : (xs : List (Bor Module)) (node : ℕ) (b : Bor Module) → node < length xs → b ≡ get_or xs node b
    → All (λ x. LeadsBack (map (λ (m : Bor Module). m.now) xs) node x → ⊥) (imports_of b.now)
    → Leads (links (map (λ (m : Bor Module). m.now) xs)) node node → ⊥
none_back xs node b l e none leads =
    let ms = map (λ (m : Bor Module). m.now) xs in
    let s = first_step (links ms) node node leads in
    let inside : node < length ms = rw length-map l in
    let is : targets (links ms) node ≡ links_of ms b.now = get_or-map (links_of ms) ms node b.now [] inside
    ∙ ap (links_of ms) (get_or-map (λ (m : Bor Module). m.now) xs node b b.now l
    ∙ ap (λ (m : Bor Module). m.now) (sym e)) in
    none_has (λ (i : Ident). definition_of ms i.name) (imports_of b.now) s.0
    (λ k d g found. none k d g (s.0, found, s.2)) (ap (λ (ts : List ℕ). has ts s.0) (sym is) ∙ s.1)

-- ---- pairs go to definitions

pass_step : {X : Type 0} (t : X → Bool) (x : X) (xs : List X) (i : ℕ) (d : X) (b : Bool) (r : Option ℕ) → t x ≡ b
    → ((j : ℕ) → r ≡ Some j → t (get_or xs j d) ≡ true) → cond b (Some 0) (option_map suc r) ≡ Some i
    → t (get_or (x ∷ xs) i d) ≡ true
pass_step t x xs i d true r f later e = let z : 0 ≡ i = cc in subst (λ (k : ℕ). t (get_or (x ∷ xs) k d) ≡ true) z f
pass_step t x xs i d false None f later e = cc
pass_step t x xs i d false (Some j) f later e = let z : suc j ≡ i = cc in
    subst (λ (k : ℕ). t (get_or (x ∷ xs) k d) ≡ true) z (later j refl)

pub passes : {X : Type 0} (t : X → Bool) (xs : List X) (i : ℕ) (d : X) → first_that t xs ≡ Some i
    → t (get_or xs i d) ≡ true
passes t [] i d e = cc
passes t (x ∷ xs) i d e = pass_step t x xs i d (t x) (first_that t xs) refl (λ j q. passes t xs j d q) e
