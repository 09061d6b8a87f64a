use Rattle.law_compiling.proofs.Parts.{written_is_part}
use Rattle.law_compiling.proofs.what_is_written_is_a_part.Goals as goal

pub returns : goal.returns
returns c = written_is_part
