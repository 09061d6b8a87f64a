use Rattle.std.proofs.Common.{length}
use Rattle.check_scope.proofs.scope.+open_field.Given as goal

abbrev pub decreases-open_field : goal.decreases-open_field
decreases-open_field l = length l.withs.now
