use Rattle.law_separation.proofs.Resulting.{other_files_apart}
use Rattle.law_separation.proofs.other_files.Goals as goal

pub returns : goal.returns
returns c = other_files_apart
