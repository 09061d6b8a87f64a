use Rattle.std.proofs.Common.{arith}
use Rattle.wasm_engine.proofs.WellKept.{seen_more}
use Rattle.wasm_engine.proofs.engine.see_valid.Goals as goal

pub loop-module-init : goal.loop-module-init
loop-module-init c = λ k d less. absurd (omega arith)

pub loop-module-preserved : goal.loop-module-preserved
loop-module-preserved c = seen_more c.args.modules.now c.loop-module.module-index c.module-item.result
    c.loop-module.invariant c.loop-module-test.true c.module-item.is c.module.ensures.valid

pub returns : goal.returns
returns c = λ k d less. c.loop-module.invariant k d (omega (arith, c.loop-module-test.false))
