-- What is reported of files in order is determined.
use Rattle.std.proofs.Common.{◌≡◌, ℕ, suc, List, [], ◌∷◌, ◌++◌, All, refl, sym, ap, ap₂, subst, ◌∙◌, inl, inr, arith, Option, Some, None}
use Rattle.std.proofs.lemmas.Bool.{cases_order}
use Rattle.std.proofs.lemmas.Option.{same_Some}
use Rattle.m2_tree.specs.declared.decl.Module.{Module}
use Rattle.m2_tree.specs.declared.name.Ident.{Ident}
use Rattle.m2_tree.specs.declared.pos.Pos.{Pos}
use Rattle.m2_graph.specs.Files.{File, trees}
use Rattle.m2_graph.specs.Imports.{imports_of}
use Rattle.m2_graph.specs.Reported.{LeadsBack, IsBack, IsReportedCycle, AreCycles, Reported, refused_of, IsReported}
use Rattle.law_graph.proofs.Sorting.{same_first, same_rest}

-- the first of a list of which something holds
one_first : {X : Type 0} (P : X → Type 0) (us vs after after' : List X) (x y : X) → us ++ x ∷ after ≡ vs ++ y ∷ after'
    → P x → P y → All (λ z. P z → ⊥) us → All (λ z. P z → ⊥) vs → x ≡ y
one_first P [] [] after after' x y e p q none none' = same_first x y after after' e
one_first {X} P [] (v ∷ vs) after after' x y e p q none none' =
    absurd (none' 0 v (omega arith) (subst P (same_first x v after (vs ++ y ∷ after') e) p))
one_first {X} P (u ∷ us) [] after after' x y e p q none none' =
    absurd (none 0 u (omega arith) (subst P (sym (same_first u y (us ++ x ∷ after) after' e)) q))
one_first P (u ∷ us) (v ∷ vs) after after' x y e p q none none' =
    one_first P us vs after after' x y (same_rest u v (us ++ x ∷ after) (vs ++ y ∷ after') e) p q
    (λ k d l. none (suc k) d (omega (arith, l))) (λ k d l. none' (suc k) d (omega (arith, l)))

-- The place of the first import that leads back is determined.
pub one_back : (modules : List Module) (node : ℕ) (imports : List Ident) (p q : Pos) → IsBack modules node imports p
    → IsBack modules node imports q → p ≡ q
one_back modules node imports p q a b =
    let e = one_first (LeadsBack modules node) a.before b.before a.after b.after a.back b.back
    (sym a.written ∙ b.written) a.leads_back b.leads_back a.none_before b.none_before in
    a.place ∙ ap (λ (x : Ident). x.pos) e ∙ sym b.place

one_node : (modules : List Module) (m n : ℕ) (p q : Pos) → IsReportedCycle modules m p → IsReportedCycle modules n q
    → m ≡ n
one_node modules m n p q a b = elim (cases_order m n) [
  | inl e ↦ e
  | inr other ↦ elim other [ inl l ↦ absurd (b.first m l a.on_cycle) | inr g ↦ absurd (a.first n g b.on_cycle) ]
]

one_place : (modules : List Module) (node : ℕ) (p q : Pos) → IsReportedCycle modules node p
    → IsReportedCycle modules node q → p ≡ q
one_place modules node p q a b =
    let e : b.tree ≡ a.tree = same_Some b.tree a.tree (sym b.is_tree ∙ a.is_tree) in
    one_back modules node (imports_of a.tree) p q a.back
    (subst (λ (t : Module). IsBack modules node (imports_of t) q) e b.back)

-- What is reported of cycles is determined.
pub one_cycle : (modules : List Module) (c d : Option (ℕ × Pos)) → AreCycles modules c → AreCycles modules d → c ≡ d
one_cycle modules None None a b = refl
one_cycle modules None (Some t) a b = absurd (a t.0 b.on_cycle)
one_cycle modules (Some s) None a b = absurd (b s.0 a.on_cycle)
one_cycle modules (Some s) (Some t) a b =
    let e : t.0 ≡ s.0 = one_node modules t.0 s.0 t.1 s.1 b a in
    let p : s.1 ≡ t.1 = one_place modules s.0 s.1 t.1 a (subst (λ (n : ℕ). IsReportedCycle modules n t.1) e b) in
    ap₂ (λ (n : ℕ) (pos : Pos). Some (n, pos)) (sym e) p

-- What is reported of files in order is determined.
pub one_reported : (ordered : List File) (xs ys : List Reported) → IsReported ordered xs → IsReported ordered ys
    → xs ≡ ys
one_reported ordered xs ys a b = a.2 ∙ ap (refused_of ordered) (one_cycle (trees ordered) a.0 b.0 a.1 b.1) ∙ sym b.2
