use Rattle.std.proofs.lemmas.Result.{err_from_is_err_and}
use Rattle.wasm_link.proofs.Fold.{linked_more, linked_fail, linked_none}
use Rattle.wasm_link.proofs.link.linked_all.Goals as goal

pub returns-in_err-linked_one : goal.returns-in_err-linked_one
returns-in_err-linked_one c =
    let p = err_from_is_err_and c.from_residual-in_err-linked_one.result c.from_residual-in_err-linked_one.ensures.1 in
    rw (p.1, p.2) (linked_fail c.args.modules.now c.args.modules.now c.loop-number.number c.loop-number.store
    c.in_err-linked_one.field-0.0 c.index-modules-number.result _ c.loop-number-test.true c.index-modules-number.is
    (rw c.module-tree.ensures.value at c.in_err-linked_one.ensures) c.loop-number.invariant)

pub loop-number-preserved : goal.loop-number-preserved
loop-number-preserved c =
    linked_more c.args.modules.now c.args.modules.now c.loop-number.number c.loop-number.store
    c.index-modules-number.result _ _ c.loop-number-test.true c.index-modules-number.is
    (rw c.module-tree.ensures.value at c.in_ok-linked_one.ensures) c.loop-number.invariant

pub returns : goal.returns
returns c = linked_none c.args.modules.now c.args.modules.now c.loop-number.number c.loop-number.store _
    c.loop-number-test.false c.loop-number.invariant
