use Rattle.std.proofs.Common.{refl}
use Rattle.wasm_valid.proofs.Stacks.{takes_top, takes_below}
use Rattle.wasm_valid.proofs.operands.take.Goals as goal

pub returns-in-Some : goal.returns-in-Some
returns-in-Some c = takes_top c.is_same.result c.args.operands.now
    (record { known = c.pop.new.self; any_below = c.args.operands.now.any_below }) c.in-Some.top c.args.wanted
    c.in-Some.ensures refl c.is_same.ensures

pub returns-in-None : goal.returns-in-None
returns-in-None c = takes_below c.args.operands.now.any_below c.args.operands.now
    (record { known = c.pop.new.self; any_below = c.args.operands.now.any_below }) c.args.wanted refl refl
    c.in-None.ensures.0 c.in-None.ensures.1
