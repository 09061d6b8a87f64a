use Rattle.std.proofs.Common.{sym, ap, ◌∙◌}
use Rattle.m2_graph.specs.Imports.{is_program}
use Rattle.m2_graph.specs.Parts.{is_earlier}
use Rattle.m2_graph.specs.Program.{modules_of}
use Rattle.m2_graph.proofs.Tables.{any_earlier}
use Rattle.m2_graph.proofs.breaches.has_program_before.Goals as goal

pub returns : goal.returns
returns c = c.is_earlier.ensures ∙ ap (λ o. is_earlier o c.args.number) c.requires.program
    ∙ sym (any_earlier is_program (modules_of c.args.program.now) c.args.number)
