-- Where nothing is reported, no definition is on a cycle.
use Rattle.std.proofs.Common.{◌≡◌, ◌<◌, ◌≤◌, ℕ, ◌+◌, List, [], ◌∷◌, ◌++◌, length, sym, ap, ◌∙◌, inl, inr, arith, Option, Some, None, eq-eqb}
use Rattle.std.proofs.lemmas.Bool.{cases_eq, cases_lt}
use Rattle.std.proofs.lemmas.List.{length-map, length_push}
use Rattle.m2_rule.specs.declared.rule.Rule.TheVariants as rule
use Rattle.m2_rule.specs.Breaches.{breach}
use Rattle.m2_tree.specs.declared.decl.Module.{Module}
use Rattle.m2_tree.specs.declared.pos.Pos.{Pos}
use Rattle.graph_walk.specs.Links.{Leads}
use Rattle.graph_walk.proofs.Chains.{leads_from}
use Rattle.m2_graph.specs.Files.{File, trees}
use Rattle.m2_graph.specs.Imports.{links_of, links}
use Rattle.m2_graph.specs.Refused.{breach_where, breaches_of, least_of}
use Rattle.m2_graph.specs.Reported.{Reported, reported_at, cycle_breaches, AreCycles, refused_from, refused_of, IsReported}
use Rattle.m2_graph.proofs.Deciding.{never_none, nothing_reported}

rest_none : (xs ys : List Reported) → xs ++ ys ≡ [] → ys ≡ []
rest_none [] ys e = e
rest_none (x ∷ xs) ys e = cc

refused_somewhere : (ms : List Module) (t : ℕ × Pos) (before : List Module) (fs : List File)
    → refused_from ms (Some t) before fs ≡ [] → length before ≤ t.0 → t.0 < length before + length fs → ⊥
refused_somewhere ms t before [] e low high = omega arith
refused_somewhere ms t before (f ∷ fs) e low high = elim (cases_eq t.0 (length before)) [
  | inl s ↦ never_none (breaches_of ms before f.given f.tree) (breach t.1 rule.Cycle) []
      (ap (λ b. least_of (breaches_of ms before f.given f.tree ++ breach_where b t.1 rule.Cycle))
      (sym (eq-eqb t.0 (length before) s))
      ∙ nothing_reported f.name (least_of (breaches_of ms before f.given f.tree
      ++ cycle_breaches (Some t) (length before))) (refused_from ms (Some t) (before ++ f.tree ∷ []) fs) e)
  | inr ne ↦ (
      let more = length_push before f.tree in
      refused_somewhere ms t (before ++ f.tree ∷ []) fs
      (rest_none (reported_at f.name (least_of
      (breaches_of ms before f.given f.tree ++ cycle_breaches (Some t) (length before))))
      (refused_from ms (Some t) (before ++ f.tree ∷ []) fs) e) (beyond ne more)
      (omega (arith, more)))
]
  where
    beyond : (t.0 ≡ length before → ⊥) → length (before ++ f.tree ∷ []) ≡ length before + 1
        → length (before ++ f.tree ∷ []) ≤ t.0
    beyond ne more = elim (cases_lt (length before) t.0) [ inl l ↦ omega arith | inr g ↦ absurd (ne (omega arith)) ]

cycle_refused : (fs : List File) (t : ℕ × Pos) → t.0 < length fs → refused_of fs (Some t) ≡ [] → ⊥
cycle_refused [] t l e = omega arith
cycle_refused (f ∷ fs) t l e = refused_somewhere (trees (f ∷ fs)) t [] (f ∷ fs) e (omega arith) (omega arith)

pub no_cycles : (fs : List File) → IsReported fs [] → (k : ℕ) → Leads (links (trees fs)) k k → ⊥
no_cycles fs h k l = step h.0 h.1 h.2
  where
    step : (c : Option (ℕ × Pos)) → AreCycles (trees fs) c → [] ≡ refused_of fs c → ⊥
    step None none e = none k l
    step (Some t) cycle e = cycle_refused fs t
        (let w = leads_from (links (trees fs)) t.0 t.0 cycle.on_cycle in
        let m = length-map (trees fs) (links_of (trees fs)) in let n = length-map fs (λ (f : File). f.tree) in
        omega (arith, w, m, n)) (sym e)
