use Rattle.std.proofs.Common.{refl}
use Rattle.wasm_tree.specs.declared.kinds.ValueType.TheVariants.{I32}
use Rattle.wasm_valid.proofs.Stacks.{drops_top, drops_below}
use Rattle.wasm_valid.proofs.operands.drop_one.Goals as goal

pub returns-in-Some-clause-steps : goal.returns-in-Some-clause-steps
returns-in-Some-clause-steps c = drops_top c.args.operands.now
    (record { known = c.pop.new.self; any_below = c.args.operands.now.any_below }) c.in-Some.field-0 c.in-Some.ensures
    refl

pub returns-in-None-clause-steps : goal.returns-in-None-clause-steps
returns-in-None-clause-steps c = drops_below c.args.operands.now
    (record { known = c.pop.new.self; any_below = c.args.operands.now.any_below }) I32 c.if-operands.true
    c.if-operands.true c.in-None.ensures.0 c.in-None.ensures.1
