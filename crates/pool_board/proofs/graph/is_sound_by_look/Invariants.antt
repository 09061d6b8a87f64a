use Rattle.std.proofs.Common.{take}
use Rattle.pool_board.specs.Graph.{IsJob}
use Rattle.pool_board.proofs.graph.is_sound_by_look.Given as goal

abbrev pub invariant-loop-i : goal.invariant-loop-i
invariant-loop-i l = IsJob (take l.i l.list) l.job
