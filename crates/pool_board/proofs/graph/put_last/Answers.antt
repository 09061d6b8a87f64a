use Rattle.std.proofs.Common.{◌++◌, ◌∷◌, [], List, ℕ, map, set, ap, ◌∙◌}
use Rattle.std.proofs.lemmas.List.{map-set}
use Rattle.pool_board.proofs.Targets.{row_at}
use Rattle.pool_board.proofs.graph.put_last.Goals as goal

pub returns : goal.returns
returns c =
    let row = row_at (λ v. v.items) c.args.table.now c.args.row c.index-table-row.result c.requires in
    map-set (λ v. v.items) c.args.table.now c.args.row c.push.new.self
    ∙ ap (λ (r : List ℕ). set (map (λ v. v.items) c.args.table.now) c.args.row r)
    (c.in_ok-push.ensures.items ∙ ap (λ (r : List ℕ). r ++ c.args.job ∷ []) row)
