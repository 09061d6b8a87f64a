use Rattle.std.proofs.Common.{length}
use Rattle.serve_meanings.proofs.inside.Inside.+go.Given as goal

abbrev pub decreases-go : goal.decreases-go
decreases-go l = length l.procedures.now
