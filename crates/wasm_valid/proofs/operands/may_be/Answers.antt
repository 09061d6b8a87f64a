use Rattle.wasm_valid.proofs.Stacks.{may_be_none, may_be_these}
use Rattle.wasm_valid.proofs.operands.may_be.Goals as goal

pub returns-then-not-take_all : goal.returns-then-not-take_all
returns-then-not-take_all c = (
  λ h. absurd (cc),
  λ s. absurd
      (may_be_none c.args.operands.now c.args.wanted.now c.if-not-take_all.ensures s),
)

pub returns : goal.returns
returns c = may_be_these c.args.operands.now c.take_all.new.operands c.args.wanted.now c.is_empty.result
    c.if-not-take_all.ensures c.is_empty.ensures
