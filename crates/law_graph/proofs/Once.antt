-- The files of a program have at most one graph, at most one list of refusals, and never both.
use Rattle.std.proofs.Common.{◌≡◌, ℕ, List, [], map, sym, ap, subst, ◌∙◌}
use Rattle.std.specs.Global.{Vec}
use Rattle.std.specs.List.{AllZip}
use Rattle.std.proofs.lemmas.Option.{same_Some}
use Rattle.m2_tree.specs.declared.refusal.Refusal.{Refusal}
use Rattle.graph_walk.specs.Starts.{IsStartOrder}
use Rattle.m2_graph.specs.declared.error.GraphError.TheVariants.{Refused}
use Rattle.m2_graph.specs.Imports.{links, walks}
use Rattle.m2_graph.specs.Files.{File, is_before, AreInOrder, trees, given_of}
use Rattle.m2_graph.specs.Order.{IsJob}
use Rattle.m2_graph.specs.Reported.{report_of, IsReported}
use Rattle.m2_graph.specs.Graph.{bodies_of, IsJobs, IsStarts, IsGraphOf, IsGraph, IsRefusal}
use Rattle.law_graph.proofs.Sorting.{one_stable_sort, by_key}
use Rattle.law_graph.proofs.Walking.{one_start_order}
use Rattle.law_graph.proofs.Circling.{one_reported}
use Rattle.law_graph.proofs.Rows.{one_job_order, one_rows}

-- The order of files is determined.
pub one_order : (given xs ys : List File) → AreInOrder given xs → AreInOrder given ys → xs ≡ ys
one_order given xs ys a b = one_stable_sort is_before (by_key (λ (f : File). f.name)) given xs ys a.sorted a.stable
    b.sorted b.stable

-- The files of the jobs are determined, and the jobs.
pub one_jobs : (ordered : List File) (fs gs : List ℕ) (js ks : List (List ℕ)) → IsJobs ordered fs js
    → IsJobs ordered gs ks → (fs ≡ gs) × (js ≡ ks)
one_jobs ordered fs gs js ks a b =
    let ms = trees ordered in
    let e : a.order ≡ b.order = one_job_order (links ms) ms a.order b.order a.is_order b.is_order in (
      a.compiled ∙ ap (map (given_of ordered)) e
          ∙ sym b.compiled,
      one_rows ms b.order b.order js ks (subst (λ (o : List ℕ). AllZip (IsJob ms o) o js) e a.needs)
          b.needs,
    )

-- The order in which the bodies start is determined.
pub one_starts : (ordered : List File) (ss ts : List ℕ) → IsStarts ordered ss → IsStarts ordered ts → ss ≡ ts
one_starts ordered ss ts a b =
    let ms = trees ordered in
    let e : b.program ≡ a.program = same_Some b.program a.program (sym b.is_program ∙ a.is_program) in
    let w : a.walk ≡ b.walk = one_start_order (walks ms) a.program a.walk b.walk a.is_walk
    (subst (λ (p : ℕ). IsStartOrder (walks ms) p b.walk) e b.is_walk) in
    a.started ∙ ap (λ (walk : List ℕ). map (given_of ordered) (bodies_of ms walk)) w ∙ sym b.started

one_graph_of : (ordered : List File) (fs gs : List ℕ) (js ks : List (List ℕ)) (ss ts : List ℕ)
    → IsGraphOf ordered fs js ss → IsGraphOf ordered gs ks ts → (fs ≡ gs) × (js ≡ ks) × (ss ≡ ts)
one_graph_of ordered fs gs js ks ss ts a b = let j = one_jobs ordered fs gs js ks a.is_jobs b.is_jobs in
    (j.0, j.1, one_starts ordered ss ts a.is_starts b.is_starts)

-- Files have at most one graph.
pub one_graph : (given : List File) (fs gs : List ℕ) (js ks : List (List ℕ)) (ss ts : List ℕ) → IsGraph given fs js ss
    → IsGraph given gs ks ts → (fs ≡ gs) × (js ≡ ks) × (ss ≡ ts)
one_graph given fs gs js ks ss ts a b =
    let e : b.0 ≡ a.0 = one_order given b.0 a.0 b.1 a.1 in
    one_graph_of a.0 fs gs js ks ss ts a.2 (subst (λ (ordered : List File). IsGraphOf ordered gs ks ts) e b.2)

-- Files have at most one list of refusals.
pub one_refusal : (given : List File) (r q : Vec Refusal) → IsRefusal given (Refused r) → IsRefusal given (Refused q)
    → map report_of r.items ≡ map report_of q.items
one_refusal given r q a b =
    let e : b.0 ≡ a.0 = one_order given b.0 a.0 b.1 a.1 in
    one_reported a.0 (map report_of r.items) (map report_of q.items) a.2.0
    (subst (λ (ordered : List File). IsReported ordered (map report_of q.items)) e b.2.0)

-- Files that have a graph are not refused.
pub graph_or_refusal : (given : List File) (fs : List ℕ) (js : List (List ℕ)) (ss : List ℕ) (r : Vec Refusal)
    → IsGraph given fs js ss → IsRefusal given (Refused r) → ⊥
graph_or_refusal given fs js ss r a b =
    let e : a.0 ≡ b.0 = one_order given a.0 b.0 a.1 b.1 in
    b.2.1 (one_reported b.0 (map report_of r.items) [] b.2.0
    (subst (λ (ordered : List File). IsReported ordered []) e a.2.fine))
