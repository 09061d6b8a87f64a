use Rattle.law_compiling.proofs.Whole.{compiling_and_linking}
use Rattle.law_compiling.proofs.compiling_and_linking_is_building.Goals as goal

pub returns : goal.returns
returns c = compiling_and_linking
