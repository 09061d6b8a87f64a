use Rattle.std.proofs.Common.{arith}
use Rattle.wasm_machine.proofs.Last.{waiting_last, no_more}
use Rattle.wasm_machine.proofs.call.pop_caller.Goals as goal

pub returns : goal.returns
returns c = waiting_last c.args.callers.now.items c.pop.new.self.items c.pop.result c.pop.ensures.items
    (no_more c.args.callers.now.items c.pop.result _ _ _ (omega (arith, c.args.callers.now.ok.0)) c.pop.ensures.cases)
