use Rattle.std.proofs.Common.{true, false, refl, sym, ap, ◌∙◌}
use Rattle.std.proofs.lemmas.Option.{slice_get_read}
use Rattle.emit_tables.specs.Marked.{marked_at}
use Rattle.emit_tables.proofs.Marking.{is_set}
use Rattle.emit_tables.proofs.marks.set.Goals as goal

pub returns-then-has_result : goal.returns-then-has_result
returns-then-has_result c =
    let marks = c.args.marks.now.items in
    is_set c.args.arguments true marks c.index_mut.result.now
    (slice_get_read marks _ c.args.arguments c.index_mut.result.now refl c.requires c.index_mut.ensures.value)
    ∙ ap (λ r. marked_at c.args.arguments r marks) (sym c.if-has_result.true)

pub returns-else-has_result : goal.returns-else-has_result
returns-else-has_result c =
    let marks = c.args.marks.now.items in
    let mark = c.index_mut-else-has_result.result.now in
    is_set c.args.arguments false marks mark
    (slice_get_read marks _ c.args.arguments mark refl c.requires c.index_mut-else-has_result.ensures.value)
    ∙ ap (λ r. marked_at c.args.arguments r marks) (sym c.if-has_result.false)
