use Rattle.std.proofs.Common.{[], List, ap, ◌∙◌}
use Rattle.std.specs.List.{fold}
use Rattle.typed_tree.specs.declared.typed_module.Routine.{Routine}
use Rattle.layout_storage.specs.Layouts.{with_routine}
use Rattle.layout_storage.proofs.Sized.{checked, data_is}
use Rattle.layout_storage.proofs.layout.with_frames.Goals as goal

pub returns : goal.returns
returns c =
    checked c.args.module_body.now c.args.layout c.requires c.with_size-data.result c.in_ok-procedures.procedures
    c.in_ok-locals.locals c.together.result
    (data_is c.args.module_body.now c.args.layout c.requires c.sum-bytes.result c.with_size-data.result
    c.sum-bytes.ensures c.with_size-data.ensures)
    (c.in_ok-procedures.ensures ∙ ap (λ (rs : List Routine). fold (with_routine c.args.module_body.now.types)
    (record { rows = []; too_large = c.with_size-data.result }) rs) c.as_slice.ensures)
    (c.in_ok-locals.ensures ∙ ap (λ (rs : List Routine). fold (with_routine c.args.module_body.now.types)
    (record { rows = []; too_large = c.in_ok-procedures.procedures.too_large }) rs) c.as_slice-2.ensures)
    c.together.ensures
