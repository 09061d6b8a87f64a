use Rattle.wasm_machine.specs.Going.{going}
use Rattle.wasm_engine.proofs.AtOnce.{none_made}
use Rattle.wasm_engine.proofs.quick.at_once.Goals as goal

pub returns-in-Other-clause-goes : goal.returns-in-Other-clause-goes
returns-in-Other-clause-goes c = none_made c.args.modules.now (going c.args.machine.now)
