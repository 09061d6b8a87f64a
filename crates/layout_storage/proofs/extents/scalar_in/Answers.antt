use Rattle.std.proofs.Common.{ap, ◌∙◌}
use Rattle.layout_storage.specs.Extents.{kind_in}
use Rattle.layout_storage.specs.Shapes.{tree}
use Rattle.layout_storage.proofs.Rows.{kind_is}
use Rattle.layout_storage.proofs.extents.scalar_in.Goals as goal

pub returns : goal.returns
returns c = c.kind_at.ensures ∙ ap kind_in (c.requires.of c.args.t) ∙ kind_is (tree c.args.types.now c.args.t)
