use Rattle.std.proofs.Common.{◌<◌, length, refl, arith}
use Rattle.graph_walk.specs.Waiting.{numbers_in}
use Rattle.graph_walk.proofs.Numbers.{numbers_less}
use Rattle.graph_walk.proofs.Awaiting.{first_settled, awaits_begins, next_is, next_within, next_settled, awaits_goes_on, awaits_last}
use Rattle.graph_walk.proofs.numbering.definition_order.Goals as goal

pub settle_all-requires : goal.settle_all-requires
settle_all-requires c = first_settled c.args.links.now c.args.back.now c.in_ok-counts.counts.items _ _ c.requires.turned
    c.targets-all.ensures c.deref_mut.ensures.value c.in_ok-counts.ensures

pub loop-node-init : goal.loop-node-init
loop-node-init c = awaits_begins c.args.links.now c.args.back.now c.args.definitions.now c.in_ok-done.done.items _
    (length c.args.links.now) c.in_ok-counts.counts.len c.new-order.result c.in_ok-counts.counts.items _ _ _ _ _
    c.requires.turned c.requires.same c.in_ok-counts.ensures c.in_ok-done.ensures refl c.new-ready.ensures
    c.new-order.ensures c.deref.ensures.value c.targets-all.ensures c.deref_mut.ensures.value
    (omega (arith, c.in_ok-counts.counts.ok.0)) c.in_ok-settle_all.ensures

pub index_mut-requires : goal.index_mut-requires
index_mut-requires c =
    let a = c.loop-node.invariant in
    let w : c.in-Some.node < length c.args.links.now =
    next_within c.args.links.now c.args.definitions.now c.loop-node.done.items c.in-Some.node c.requires.same
    (next_is _ _ _ _ _ _ _ _ a c.in-Some.ensures.taken c.in-Some.ensures.least) in
    omega (arith, w, a.numbers.same, c.loop-node.done.ok.0)

pub targets-requires : goal.targets-requires
targets-requires c =
    let a = c.loop-node.invariant in
    let w : c.in-Some.node < length c.args.links.now =
    next_within c.args.links.now c.args.definitions.now c.loop-node.done.items c.in-Some.node c.requires.same
    (next_is _ _ _ _ _ _ _ _ a c.in-Some.ensures.taken c.in-Some.ensures.least) in
    omega (arith, w, c.requires.turned.many)

pub settle_all-requires-in-Some : goal.settle_all-requires-in-Some
settle_all-requires-in-Some c = next_settled c.args.links.now c.args.back.now c.args.definitions.now
    c.loop-node.done.items c.loop-node.order c.loop-node.counts.items _ _ (numbers_in c.loop-node.ready) c.in-Some.node
    c.requires.turned c.requires.same c.loop-node.invariant
    (next_is _ _ _ _ _ _ _ _ c.loop-node.invariant c.in-Some.ensures.taken c.in-Some.ensures.least) c.targets.ensures
    c.deref_mut-in-Some.ensures.value

pub loop-node-smaller : goal.loop-node-smaller
loop-node-smaller c =
    let n = next_is _ _ _ _ _ _ _ _ c.loop-node.invariant c.in-Some.ensures.taken c.in-Some.ensures.least in
    numbers_less c.args.links.now c.args.definitions.now c.loop-node.done.items c.loop-node.done.items c.loop-node.order
    c.in-Some.node refl c.loop-node.invariant.numbers
    (next_within c.args.links.now c.args.definitions.now c.loop-node.done.items c.in-Some.node c.requires.same n) n

pub loop-node-preserved : goal.loop-node-preserved
loop-node-preserved c = awaits_goes_on c.args.links.now c.args.back.now c.args.definitions.now c.loop-node.done.items _
    c.loop-node.counts.len c.loop-node.order _ c.loop-node.counts.items _ _ _ (numbers_in c.loop-node.ready) _ _
    c.in-Some.node c.requires.turned c.requires.same c.loop-node.invariant
    (next_is _ _ _ _ _ _ _ _ c.loop-node.invariant c.in-Some.ensures.taken c.in-Some.ensures.least)
    c.in-Some.ensures.taken c.in_ok-push.ensures.ok c.deref-in-Some.ensures.value c.targets.ensures
    c.deref_mut-in-Some.ensures.value (omega (arith, c.loop-node.counts.ok.0)) c.in_ok-settle_all-2.ensures

pub returns : goal.returns
returns c = awaits_last _ _ _ _ _ _ c.in_default.ensures.taken c.loop-node.invariant
