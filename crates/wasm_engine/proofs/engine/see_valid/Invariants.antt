use Rattle.wasm_engine.proofs.WellKept.{AreValid}
use Rattle.wasm_engine.proofs.engine.see_valid.Given as goal

abbrev pub invariant-loop-module : goal.invariant-loop-module
invariant-loop-module l = AreValid l.module-index l.modules
