use Rattle.std.proofs.Common.{ap, ◌∙◌}
use Rattle.layout_storage.specs.Extents.{element_in}
use Rattle.layout_storage.specs.Shapes.{tree}
use Rattle.layout_storage.proofs.Rows.{element_is}
use Rattle.layout_storage.proofs.Fitted.{element_exact}
use Rattle.layout_storage.proofs.extents.element_of.Goals as goal

pub returns-clause-capped : goal.returns-clause-capped
returns-clause-capped c = c.element_at.ensures ∙ ap element_in (c.requires.of c.args.t)
    ∙ element_is (tree c.args.types.now c.args.t)

pub returns-clause-exact : goal.returns-clause-exact
returns-clause-exact c = λ f. element_exact c.args.types.now c.args.t c.element_at.result (returns-clause-capped c) f
