use Rattle.std.proofs.Common.{ap, ◌∙◌}
use Rattle.layout_storage.specs.Extents.{field_in}
use Rattle.layout_storage.specs.Shapes.{tree}
use Rattle.layout_storage.specs.declared.extent.Extent.{Extent}
use Rattle.layout_storage.proofs.Rows.{field_is}
use Rattle.layout_storage.proofs.Fitted.{field_exact}
use Rattle.layout_storage.proofs.extents.field_offset.Goals as goal

pub returns-clause-capped : goal.returns-clause-capped
returns-clause-capped c = c.field_at.ensures ∙ ap (λ (x : Extent). field_in x c.args.number) (c.requires.of c.args.t)
    ∙ field_is (tree c.args.types.now c.args.t) c.args.number (c.requires.are_made c.args.t)

pub returns-clause-exact : goal.returns-clause-exact
returns-clause-exact c = λ f. field_exact c.args.types.now c.args.t c.args.number c.field_at.result
    (returns-clause-capped c) f
