use Rattle.std.proofs.Common.{ap, ◌∙◌}
use Rattle.layout_storage.specs.Texts.{body_texts}
use Rattle.layout_storage.specs.Counted.{character_count}
use Rattle.layout_storage.proofs.Bodies.{module_is}
use Rattle.layout_storage.proofs.body.texts_count.Goals as goal

pub returns : goal.returns
returns c = module_is c.args.module_body.now c.routines_count.result c.body_count.result c.sum.result
    c.routines_count.ensures (c.body_count.ensures ∙ ap (λ xs. character_count (body_texts xs)) c.as_slice.ensures)
    c.sum.ensures
