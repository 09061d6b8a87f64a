use Rattle.wasm_tree.specs.Validity.{result_types}
use Rattle.wasm_valid.proofs.Stacks.{cannot_exchange, exchanged, lacks_after, lacks_first, takes_both}
use Rattle.wasm_valid.proofs.operands.exchange_few.Goals as goal

pub returns-then-not-take_given : goal.returns-then-not-take_given
returns-then-not-take_given c = cannot_exchange c.args.operands.now _ (result_types c.args.given)
    (lacks_after c.args.operands.now (result_types c.args.first) (result_types c.args.second)
    c.if-not-take_given.ensures)

pub returns-then-not-take_given-2 : goal.returns-then-not-take_given-2
returns-then-not-take_given-2 c = cannot_exchange c.args.operands.now _ (result_types c.args.given)
    (lacks_first c.args.operands.now c.take_given.new.operands (result_types c.args.first) (result_types c.args.second)
    c.if-not-take_given.ensures c.if-not-take_given-2.ensures)

pub returns : goal.returns
returns c = exchanged c.put_given.result c.args.operands.now c.take_given-2.new.operands _ _ (result_types c.args.given)
    (takes_both c.args.operands.now c.take_given.new.operands c.take_given-2.new.operands (result_types c.args.first)
    (result_types c.args.second) c.if-not-take_given.ensures c.if-not-take_given-2.ensures) c.put_given.ensures
