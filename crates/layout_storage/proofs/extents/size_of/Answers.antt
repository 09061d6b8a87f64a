use Rattle.std.proofs.Common.{ap, ◌∙◌}
use Rattle.layout_storage.specs.Extents.{size_in}
use Rattle.layout_storage.specs.Shapes.{tree}
use Rattle.layout_storage.proofs.Rows.{size_is}
use Rattle.layout_storage.proofs.Fitted.{size_exact}
use Rattle.layout_storage.proofs.extents.size_of.Goals as goal

pub returns-clause-capped : goal.returns-clause-capped
returns-clause-capped c = c.size_at.ensures ∙ ap size_in (c.requires.of c.args.t)
    ∙ size_is (tree c.args.types.now c.args.t) (c.requires.are_made c.args.t)

pub returns-clause-exact : goal.returns-clause-exact
returns-clause-exact c = λ f. size_exact c.args.types.now c.args.t c.size_at.result (returns-clause-capped c) f
