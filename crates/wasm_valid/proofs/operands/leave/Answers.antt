use Rattle.std.proofs.Common.{refl}
use Rattle.wasm_tree.specs.Validity.{result_types}
use Rattle.wasm_valid.proofs.Stacks.{cannot_leave, leaves, lacks_after, lacks_first, takes_both}
use Rattle.wasm_valid.proofs.operands.leave.Goals as goal

pub returns-then-not-take_given-clause-steps : goal.returns-then-not-take_given-clause-steps
returns-then-not-take_given-clause-steps c =
    cannot_leave c.args.operands.now _ (lacks_after c.args.operands.now (result_types c.args.first)
    (result_types c.args.second) c.if-not-take_given.ensures)

pub returns-then-not-take_given-2-clause-steps : goal.returns-then-not-take_given-2-clause-steps
returns-then-not-take_given-2-clause-steps c =
    cannot_leave c.args.operands.now _ (lacks_first c.args.operands.now c.take_given.new.operands
    (result_types c.args.first) (result_types c.args.second) c.if-not-take_given.ensures c.if-not-take_given-2.ensures)

pub returns-clause-steps : goal.returns-clause-steps
returns-clause-steps c = leaves c.args.operands.now c.take_given-2.new.operands _ _
    (takes_both c.args.operands.now c.take_given.new.operands c.take_given-2.new.operands (result_types c.args.first)
    (result_types c.args.second) c.if-not-take_given.ensures c.if-not-take_given-2.ensures) c.empty.ensures refl
