use Rattle.wasm_valid.proofs.Stacks.{takes_none}
use Rattle.wasm_valid.proofs.operands.take_given.Goals as goal

pub returns-in-None : goal.returns-in-None
returns-in-None c = rw c.in-None.is (takes_none c.args.operands.now)
