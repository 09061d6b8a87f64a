use Rattle.std.proofs.Common.{suc, take}
use Rattle.pool_board.specs.Graph.{AreBelow, IsJob}
use Rattle.pool_board.proofs.Marks.{AreMarked}
use Rattle.pool_board.proofs.graph.is_sound_by_marks.Given as goal

abbrev pub invariant-loop-i : goal.invariant-loop-i
invariant-loop-i l = record {
  sound : IsJob (take l.i l.list) l.job;
  marked : AreMarked l.marks l.job (take l.i l.list);
  below : AreBelow l.marks (suc l.job);
}
