-- What is reported of cycles is there.
use Rattle.std.proofs.Common.{◌≡◌, ◌<◌, ℕ, zero, suc, List, [], ◌∷◌, length, All, refl, sym, ap, subst, ◌∙◌, inl, inr, arith, Option, Some, None, option_map, ◌⊎◌}
use Rattle.std.specs.Prelude.{slice_get}
use Rattle.std.proofs.lemmas.Bool.{cases_lt, cases_eq}
use Rattle.std.proofs.lemmas.List.{length-map}
use Rattle.std.proofs.lemmas.List.Elements.{All-cons}
use Rattle.std.proofs.lemmas.Option.{none-some, same_Some, slice_get-map, get_or_from_slice_get, slice_get_within}
use Rattle.m2_tree.specs.declared.decl.Module.{Module}
use Rattle.m2_tree.specs.declared.name.Ident.{Ident}
use Rattle.m2_tree.specs.declared.pos.Pos.{Pos}
use Rattle.graph_walk.specs.Links.{has, targets, Leads}
use Rattle.graph_walk.proofs.Chains.{first_step, leads_from}
use Rattle.m2_graph.specs.Imports.{imports_of, definition_of, links_of, links}
use Rattle.m2_graph.specs.Reported.{LeadsBack, IsBack, IsReportedCycle, AreCycles}
use Rattle.law_graph.proofs.Lists.{has_among, filtered_among, some_at}
use Rattle.law_graph.proofs.Leading.{leads_or_not}

-- ---- the first node on a cycle

abbrev NoneBelow : List (List ℕ) → ℕ → Type 0
NoneBelow pairs n = (k : ℕ) → k < n → Leads pairs k k → ⊥

record FirstOnCycle (pairs : List (List ℕ)) : Type 0 where
  pub node : ℕ
  pub on_cycle : Leads pairs node node
  pub first : NoneBelow pairs node

none_more : (pairs : List (List ℕ)) (n : ℕ) → NoneBelow pairs n → (Leads pairs n n → ⊥) → NoneBelow pairs (suc n)
none_more pairs n none never k l c = elim (cases_eq k n) [
  | inl s ↦ never (subst (λ (j : ℕ). Leads pairs j j) s c)
  | inr ne ↦ elim (cases_lt k n) [ inl m ↦ none k m c | inr g ↦ ne (omega arith) ]
]

first_or_none : (pairs : List (List ℕ)) (n : ℕ) → FirstOnCycle pairs ⊎ NoneBelow pairs n
first_or_none pairs zero = inr (λ k l c. omega arith)
first_or_none pairs (suc n) = elim (first_or_none pairs n) [
  | inl f ↦ inl f
  | inr none ↦ elim (leads_or_not pairs n n)
      [ inl l ↦ inl (record { node = n; on_cycle = l; first = none }) | inr never ↦ inr (none_more pairs n none never) ]
]

-- ---- the first import that leads back

module _ (modules : List Module) (node : ℕ) where
  abbrev Back : Ident → Type 0
  Back x = LeadsBack modules node x

  back_or_not : (x : Ident) → Back x ⊎ (Back x → ⊥)
  back_or_not x = by (definition_of modules x.name) refl
    where
      from : (to : ℕ) → definition_of modules x.name ≡ Some to → Back x ⊎ (Back x → ⊥)
      from to e = elim (cases_eq to node) [
        | inl s ↦ inl (to, e, inl s)
        | inr ne ↦ elim (leads_or_not (links modules) to node) [
          | inl l ↦ inl (to, e, inr l)
          | inr never ↦ inr (λ b. let q : b.0 ≡ to = same_Some b.0 to (sym b.1 ∙ e) in
              elim b.2 [ inl s ↦ ne (sym q ∙ s) | inr l ↦ never (subst (λ (k : ℕ). Leads (links modules) k node) q l) ])
        ]
      ]

      by : (o : Option ℕ) → definition_of modules x.name ≡ o → Back x ⊎ (Back x → ⊥)
      by None e = inr (λ b. none-some b.0 (sym e ∙ b.1))
      by (Some to) e = from to e

  back_behind : (x : Ident) (xs : List Ident) (pos : Pos) → (Back x → ⊥) → IsBack modules node xs pos
      → IsBack modules node (x ∷ xs) pos
  back_behind x xs pos never b = record {
    before = x ∷ b.before;
    back = b.back;
    after = b.after;
    written = ap (λ (ys : List Ident). x ∷ ys) b.written;
    leads_back = b.leads_back;
    none_before = All-cons (λ y. Back y → ⊥) x b.before never b.none_before;
    place = b.place;
  }

  back_first : (x : Ident) (xs : List Ident) → Back x → IsBack modules node (x ∷ xs) x.pos
  back_first x xs b = record {
    before = [];
    back = x;
    after = xs;
    written = refl;
    leads_back = b;
    none_before = λ k d l. absurd (omega arith);
    place = refl;
  }

  first_back : (imports : List Ident) → ((pos : Pos) × IsBack modules node imports pos) ⊎ All (λ x. Back x → ⊥) imports
  first_back [] = inr (λ k d l. absurd (omega arith))
  first_back (x ∷ xs) = elim (back_or_not x) [
    | inl b ↦ inl (x.pos, back_first x xs b)
    | inr never ↦ elim (first_back xs) [
      | inl r ↦ inl (r.0, back_behind x xs r.0 never r.1)
      | inr none ↦ inr
          (All-cons (λ y. Back y → ⊥) x xs never none)
    ]
  ]

  links_at : (m : Module) → slice_get modules node ≡ Some m → targets (links modules) node ≡ links_of modules m
  links_at m e = get_or_from_slice_get (links modules) node (links_of modules m) []
      (slice_get-map (links_of modules) modules node ∙ ap (λ (o : Option Module). option_map (links_of modules) o) e)

  -- a module on a cycle has an import that leads back to it
  some_back : (m : Module) → slice_get modules node ≡ Some m → Leads (links modules) node node
      → All (λ x. Back x → ⊥) (imports_of m) → ⊥
  some_back m e l none =
      let s = first_step (links modules) node node l in
      let a = filtered_among (λ (i : Ident). definition_of modules i.name) (imports_of m) s.0
      (has_among (links_of modules m) s.0 (ap (λ (ts : List ℕ). has ts s.0) (sym (links_at m e)) ∙ s.1)) in
      among_all a.0 a.1 none (s.0, a.2, s.2)
    where
      among_all : (x : Ident) → ((k : ℕ) × (slice_get (imports_of m) k ≡ Some x)) → All (λ y. Back y → ⊥) (imports_of m)
          → Back x → ⊥
      among_all x k h b = h k.0 x (slice_get_within (imports_of m) k.0 x k.1)
          (subst Back (sym (get_or_from_slice_get (imports_of m) k.0 x x k.1)) b)

  report : (m : Module) → slice_get modules node ≡ Some m → Leads (links modules) node node
      → NoneBelow (links modules) node → (pos : Pos) × IsReportedCycle modules node pos
  report m e l first = elim (first_back (imports_of m)) [
    | inl r ↦ (r.0, record { on_cycle = l; first = first; tree = m; is_tree = e; back = r.1 })
    | inr none ↦ absurd (some_back m e l none)
  ]

-- Of all modules something is reported of cycles, or there is none.
pub cycles : (modules : List Module) → (cycle : Option (ℕ × Pos)) × AreCycles modules cycle
cycles modules = elim (first_or_none (links modules) (length (links modules)))
    [ inl f ↦ some f | inr none ↦ (None, λ node l. none node (leads_from (links modules) node node l) l) ]
  where
    some : FirstOnCycle (links modules) → (cycle : Option (ℕ × Pos)) × AreCycles modules cycle
    some f =
        let within = leads_from (links modules) f.node f.node f.on_cycle in
        let many = length-map modules (links_of modules) in
        let m = some_at modules f.node (omega (arith, within, many)) in
        let r = report modules f.node m.0 m.1 f.on_cycle f.first in
        (Some (f.node, r.0), r.1)
