use Rattle.std.proofs.Common.{length}
use Rattle.scan_tokens.proofs.Walks.{Walks}
use Rattle.scan_tokens.proofs.comment.comment_end.Given as goal

abbrev pub invariant-loop-rest : goal.invariant-loop-rest
invariant-loop-rest l = Walks l.text l.fn.start l.levels l.rest l.pos

abbrev pub decreases-loop-rest : goal.decreases-loop-rest
decreases-loop-rest l = length l.rest
