use Rattle.std.proofs.Common.{length}
use Rattle.serve_meanings.proofs.meaning.+last_field.Given as goal

abbrev pub decreases-last_field : goal.decreases-last_field
decreases-last_field l = length l.names.now
