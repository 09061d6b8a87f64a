use Rattle.std.proofs.Common.{length}
use Rattle.scan_tokens.proofs.Scanned.{Scanned}
use Rattle.scan_tokens.proofs.tokens.scan.Given as goal

abbrev pub invariant-loop-alloc : goal.invariant-loop-alloc
invariant-loop-alloc l = Scanned l.text l.cut.rest.now l.cut.pos l.tokens.items

abbrev pub decreases-loop-alloc : goal.decreases-loop-alloc
decreases-loop-alloc l = length l.cut.rest.now
