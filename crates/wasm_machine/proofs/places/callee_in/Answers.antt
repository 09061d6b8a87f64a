use Rattle.std.proofs.Common.{sym, ap, subst, ◌∙◌, Some}
use Rattle.wasm_machine.proofs.Ready.{instance_there, table_there, place_there, filling_there}
use Rattle.std.specs.Prelude.{slice_get}
use Rattle.wasm_machine.specs.There.{IsThere}
use Rattle.wasm_machine.proofs.places.callee_in.Goals as goal

pub the-instance-requires : goal.the-instance-requires
the-instance-requires c = subst (λ l. IsThere (slice_get l c.args.instance)) (sym c.as_slice.ensures)
    (instance_there c.args.store.now c.args.instance c.args.slot c.requires)

pub the-table-requires : goal.the-table-requires
the-table-requires c = subst (λ l. IsThere (slice_get l 0)) (sym c.as_slice-2.ensures)
    (table_there c.args.store.now c.args.instance c.args.slot c.requires c.the-instance.result.now
    (ap (λ l. slice_get l c.args.instance) (sym c.as_slice.ensures) ∙ c.the-instance.ensures))

pub the-table-requires-2 : goal.the-table-requires-2
the-table-requires-2 c = subst (λ l. IsThere (slice_get l c.the-table.result.now)) (sym c.as_slice-3.ensures)
    (place_there c.args.store.now c.args.instance c.args.slot c.requires c.the-instance.result.now
    (ap (λ l. slice_get l c.args.instance) (sym c.as_slice.ensures) ∙ c.the-instance.ensures) c.the-table.result.now
    (ap (λ l. slice_get l 0) (sym c.as_slice-2.ensures) ∙ c.the-table.ensures))

pub the-requires : goal.the-requires
the-requires c =
    subst (λ l. IsThere (slice_get l c.in_ok-address.address)) (sym c.as_slice-5.ensures)
    (filling_there c.args.store.now c.args.instance c.args.slot c.requires c.the-instance.result.now
    (ap (λ l. slice_get l c.args.instance) (sym c.as_slice.ensures) ∙ c.the-instance.ensures) c.the-table.result.now
    (ap (λ l. slice_get l 0) (sym c.as_slice-2.ensures) ∙ c.the-table.ensures) c.the-table-2.result.now
    c.in_ok-address.address (ap (λ l. slice_get l c.the-table.result.now) (sym c.as_slice-3.ensures)
    ∙ c.the-table-2.ensures)
    (ap (λ l. slice_get l c.args.slot) (sym c.as_slice-4.ensures)
    ∙ (sym c.in_ok-at.ensures ∙ ap (λ x. Some x) c.in_ok-address.was)))
