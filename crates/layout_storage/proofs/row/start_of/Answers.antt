use Rattle.std.proofs.Common.{ap, ◌∙◌}
use Rattle.layout_storage.specs.declared.row.Row.{Row}
use Rattle.layout_storage.specs.Extents.{start_in}
use Rattle.layout_storage.proofs.Framed.{part_at}
use Rattle.layout_storage.proofs.row.start_of.Goals as goal

pub returns-clause-offset : goal.returns-clause-offset
returns-clause-offset c = λ at ts e. c.start_in.ensures ∙ ap (λ (r : Row). start_in r c.args.part) e
    ∙ part_at at ts c.args.part
