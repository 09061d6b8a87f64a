use Rattle.std.proofs.Common.{◌<◌, length, get_or, refl, arith}
use Rattle.graph_walk.proofs.Marking.{marks_none, marks_step, marks_whole}
use Rattle.graph_walk.proofs.flags.mark_all.Goals as goal

pub loop-node-init : goal.loop-node-init
loop-node-init c = marks_none c.args.flags.now c.args.todo.now

pub mark-requires : goal.mark-requires
mark-requires c =
    let h : get_or c.args.nodes.now c.loop-node.node-index 0 < length c.args.flags.now =
    c.requires c.loop-node.node-index 0 (omega arith) in
    omega (arith, h, c.loop-node.invariant.same)

pub loop-node-preserved : goal.loop-node-preserved
loop-node-preserved c = marks_step _ _ _ _ _ _ _ _ _ (omega arith) refl c.loop-node.invariant c.in_ok-mark.ensures

pub returns : goal.returns
returns c = marks_whole _ _ _ _ _ _ (omega arith) c.loop-node.invariant
