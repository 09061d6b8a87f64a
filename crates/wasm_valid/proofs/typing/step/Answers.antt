use Rattle.std.proofs.Common.{Option, subst}
use Rattle.wasm_valid.specs.Typing.{Change, Steps, MayRule}
use Rattle.wasm_valid.proofs.typing.step.Goals as goal

pub returns-in-Some : goal.returns-in-Some
returns-in-Some c = λ rest. subst (λ (o : Option Change). Steps c.affect.result (MayRule o) c.args.operands.now
    c.affect.new.operands) (c.in-Some.ensures rest) c.affect.ensures
