use Rattle.std.proofs.Common.{refl, sym, ◌∙◌}
use Rattle.wasm_machine.specs.Going.{going}
use Rattle.wasm_engine.proofs.AtOnce.{run_one}
use Rattle.wasm_engine.proofs.quick.once.Goals as goal

pub returns : goal.returns
returns c = (refl, c.in_ok-reduced.ensures ∙ sym (run_one c.args.modules.now (going c.args.machine.now)))
