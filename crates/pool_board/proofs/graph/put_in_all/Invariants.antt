use Rattle.std.proofs.Common.{map, take}
use Rattle.pool_board.proofs.Graphs.{ArePut}
use Rattle.pool_board.proofs.graph.put_in_all.Given as goal

abbrev pub invariant-loop-i : goal.invariant-loop-i
invariant-loop-i l = ArePut (map (λ v. v.items) l.fn.table) (map (λ v. v.items) l.table) l.job (take l.i l.list)
