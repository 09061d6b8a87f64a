use Rattle.std.proofs.lemmas.Result.{err_from_is_err_and}
use Rattle.wasm_tree.specs.Linking.{with_global}
use Rattle.wasm_link.specs.Placed.{link_result}
use Rattle.wasm_link.proofs.Fold.{each_more, each_fail, each_none}
use Rattle.wasm_link.proofs.store.with_globals.Goals as goal

pub returns-in_err-with_global : goal.returns-in_err-with_global
returns-in_err-with_global c =
    let p = err_from_is_err_and c.from_residual.result c.from_residual.ensures.1 in
    rw (p.1, p.2) (each_fail with_global c.args.globals.now c.loop-global.global-index
    (link_result c.loop-global.store c.loop-global.instance)
    c.in_err-with_global.field-0.0 c.global-item.result _ c.loop-global-test.true c.global-item.is
    c.in_err-with_global.ensures c.loop-global.invariant)

pub loop-global-preserved : goal.loop-global-preserved
loop-global-preserved c =
    each_more with_global c.args.globals.now c.loop-global.global-index
    (link_result c.loop-global.store c.loop-global.instance)
    c.global-item.result _ _ c.loop-global-test.true c.global-item.is c.in_ok-with_global.ensures
    c.loop-global.invariant

pub returns : goal.returns
returns c = each_none with_global c.args.globals.now c.loop-global.global-index
    (link_result c.loop-global.store c.loop-global.instance) _ c.loop-global-test.false c.loop-global.invariant
