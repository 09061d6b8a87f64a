use Rattle.std.proofs.Common.{sym, ap, ◌∙◌}
use Rattle.m2_graph.specs.Parts.{is_earlier}
use Rattle.m2_graph.specs.Program.{modules_of}
use Rattle.m2_graph.specs.Refused.{are_one_part}
use Rattle.m2_graph.proofs.Tables.{any_earlier}
use Rattle.m2_graph.proofs.breaches.is_second.Goals as goal

pub returns : goal.returns
returns c = c.is_earlier.ensures ∙ ap (λ o. is_earlier o c.args.number) c.first_file_of-first.ensures
    ∙ sym (any_earlier (are_one_part c.args.tree.now) (modules_of c.args.program.now) c.args.number)
