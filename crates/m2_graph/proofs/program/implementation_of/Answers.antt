use Rattle.std.proofs.Common.{◌∙◌}
use Rattle.m2_graph.specs.Imports.{implements}
use Rattle.m2_graph.specs.Program.{modules_of}
use Rattle.m2_graph.proofs.Tables.{found_within}
use Rattle.m2_graph.proofs.program.implementation_of.Goals as goal

pub returns-clause-within : goal.returns-clause-within
returns-clause-within c = found_within (implements c.args.name.now) (modules_of c.args.program.now) c.find.result
    (c.find.ensures ∙ c.requires.implementations c.args.name.now)
