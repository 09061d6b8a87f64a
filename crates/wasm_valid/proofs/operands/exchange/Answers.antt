use Rattle.wasm_valid.proofs.Stacks.{cannot_exchange, exchanged, lacks_after, lacks_first, takes_both}
use Rattle.wasm_valid.proofs.operands.exchange.Goals as goal

pub returns-then-not-take_all : goal.returns-then-not-take_all
returns-then-not-take_all c = cannot_exchange c.args.operands.now _ c.args.given.now
    (lacks_after c.args.operands.now c.args.first.now c.args.second.now c.if-not-take_all.ensures)

pub returns-then-not-take_all-2 : goal.returns-then-not-take_all-2
returns-then-not-take_all-2 c = cannot_exchange c.args.operands.now _ c.args.given.now
    (lacks_first c.args.operands.now c.take_all.new.operands c.args.first.now c.args.second.now
    c.if-not-take_all.ensures c.if-not-take_all-2.ensures)

pub returns : goal.returns
returns c = exchanged c.put_all.result c.args.operands.now c.take_all-2.new.operands _ _ c.args.given.now
    (takes_both c.args.operands.now c.take_all.new.operands c.take_all-2.new.operands c.args.first.now c.args.second.now
    c.if-not-take_all.ensures c.if-not-take_all-2.ensures) c.put_all.ensures
