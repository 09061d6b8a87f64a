use Rattle.std.proofs.Common.{◌≡◌, ℕ, ◌<◌, List, [], length, map, sym, ap, ◌∙◌, subst, arith, vec_len, get_or}
use Rattle.std.proofs.lemmas.List.{length-map}
use Rattle.pool_board.specs.Graph.{targets_of, targets_table}
use Rattle.pool_board.proofs.Targets.{targets_table-length, targets_table-at, row_at}
use Rattle.pool_board.proofs.graph.JobGraph.targets.Goals as goal

pub index-requires : goal.index-requires
index-requires c =
    let table : List (List ℕ) = map (λ v. v.items) c.self.inside.prerequisites.items in
    let len : vec_len c.self.inside.targets ≡ length c.self.inside.targets.items = c.self.inside.targets.ok.0 in
    let rows : length c.self.inside.targets.items ≡ length (targets_table table) =
    sym (length-map c.self.inside.targets.items (λ v. v.items))
    ∙ ap (λ (l : List (List ℕ)). length l) c.self.invariant.1 in
    let same : length table ≡ length c.args.self.now = ap (λ (l : List (List ℕ)). length l) c.self.view_is in
    omega (arith, targets_table-length table)

pub returns-clause-targets : goal.returns-clause-targets
returns-clause-targets c =
    let table : List (List ℕ) = map (λ v. v.items) c.self.inside.prerequisites.items in
    let rows : length c.self.inside.targets.items ≡ length (targets_table table) =
    sym (length-map c.self.inside.targets.items (λ v. v.items))
    ∙ ap (λ (l : List (List ℕ)). length l) c.self.invariant.1 in
    let same : table ≡ c.args.self.now = c.self.view_is in
    let low : c.args.job < length table = subst (λ (g : List (List ℕ)). c.args.job < length g) (sym same) c.requires in
    c.as_slice.ensures.value
    ∙ (ap (λ v. v.items) c.index.ensures
    ∙ (row_at (λ v. v.items) c.self.inside.targets.items c.args.job c.index.result.now
    (omega (arith, targets_table-length table))
    ∙ (ap (λ (t : List (List ℕ)). get_or t c.args.job []) c.self.invariant.1
    ∙ (targets_table-at table c.args.job low ∙ ap (λ (g : List (List ℕ)). targets_of g c.args.job) same))))
