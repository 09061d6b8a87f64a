use Rattle.law_compiling.proofs.Succeeding.{bodies_built}
use Rattle.law_compiling.proofs.bodies_are_built_alone.Goals as goal

pub returns : goal.returns
returns c = bodies_built
