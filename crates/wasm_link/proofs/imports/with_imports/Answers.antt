use Rattle.std.proofs.Common.{refl}
use Rattle.std.proofs.lemmas.Result.{err_from_is_err_and}
use Rattle.wasm_tree.specs.Linking.{with_import}
use Rattle.wasm_link.proofs.Fold.{fails_first, each_more, each_fail, each_none}
use Rattle.wasm_link.proofs.imports.with_imports.Goals as goal

pub returns-in_err-found : goal.returns-in_err-found
returns-in_err-found c =
    let p = err_from_is_err_and c.from_residual.result c.from_residual.ensures.1 in
    rw (p.1, p.2) (each_fail (with_import c.args.modules.now c.args.store.now c.args.tree.now) c.args.imports.now
    c.loop-import.import-index c.loop-import.instance
    c.in_err-found.field-0.0 c.import-item.result _ c.loop-import-test.true c.import-item.is
    (fails_first c.in_err-found.field-0.0 _ _ c.in_err-found.ensures) c.loop-import.invariant)

pub loop-import-preserved : goal.loop-import-preserved
loop-import-preserved c =
    rw c.in_ok-with_extern.ensures (each_more (with_import c.args.modules.now c.args.store.now c.args.tree.now)
    c.args.imports.now c.loop-import.import-index c.loop-import.instance
    c.import-item.result _ _ c.loop-import-test.true c.import-item.is (rw c.in_ok-found.ensures refl)
    c.loop-import.invariant)

pub returns : goal.returns
returns c =
    each_none (with_import c.args.modules.now c.args.store.now c.args.tree.now) c.args.imports.now
    c.loop-import.import-index c.loop-import.instance _ c.loop-import-test.false c.loop-import.invariant
