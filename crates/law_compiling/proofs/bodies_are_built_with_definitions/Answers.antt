use Rattle.law_compiling.proofs.Having.{built_with_definitions}
use Rattle.law_compiling.proofs.bodies_are_built_with_definitions.Goals as goal

pub returns : goal.returns
returns c = built_with_definitions
