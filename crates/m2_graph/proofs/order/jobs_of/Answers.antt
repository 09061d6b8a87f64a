use Rattle.std.proofs.Common.{length, refl, ap, ◌∙◌, arith}
use Rattle.graph_walk.specs.Links.{flag}
use Rattle.m2_graph.specs.Order.{IsJob}
use Rattle.m2_graph.specs.Program.{modules_of}
use Rattle.m2_graph.proofs.Bodies.{so_far_none, so_far_more, zip_whole}
use Rattle.m2_graph.proofs.Places.{places_below}
use Rattle.m2_graph.proofs.order.jobs_of.Goals as goal

pub loop-node-init : goal.loop-node-init
loop-node-init c = so_far_none (λ v. v.items) (modules_of c.args.program.now) c.args.order.now (length c.args.order.now)
    c.in_ok-flags.flags.items c.new-jobs.result.items c.new-jobs.ensures.items c.in_ok-flags.ensures refl

pub job_of-requires-clause-within : goal.job_of-requires-clause-within
job_of-requires-clause-within c = c.requires.within c.loop-node.node-index 0 (omega arith)

pub job_of-requires-clause-below : goal.job_of-requires-clause-below
job_of-requires-clause-below c = places_below c.args.order.now c.in_ok-places.places.items c.deref.result.now
    (length c.deref_mut.result.now) c.in_ok-places.ensures c.deref.ensures.value
    (omega (arith, ap length c.deref_mut.ensures.value, c.loop-node.invariant.1))

pub job_of-requires-clause-unmarked : goal.job_of-requires-clause-unmarked
job_of-requires-clause-unmarked c = λ k. ap (λ fs. flag fs k) c.deref_mut.ensures.value ∙ c.loop-node.invariant.2 k

pub loop-node-preserved : goal.loop-node-preserved
loop-node-preserved c = so_far_more (λ v. v.items) (modules_of c.args.program.now) c.args.order.now
    c.in_ok-places.places.items c.deref.result.now c.loop-node.node-index c.loop-node.flags.len c.loop-node.flags.items
    c.deref_mut.result.now _ c.loop-node.jobs.items c.push.new.self.items _ c.in_ok-places.ensures c.deref.ensures.value
    (omega arith) c.deref_mut.ensures.value (omega (arith, c.loop-node.flags.ok.0)) c.loop-node.invariant
    c.in_ok-job_of.ensures.job c.in_ok-job_of.ensures.same c.in_ok-job_of.ensures.unmarked c.in_ok-push.ensures.items

pub returns : goal.returns
returns c = zip_whole (IsJob (modules_of c.args.program.now) c.args.order.now) c.args.order.now _ c.loop-node.node-index
    (omega arith) c.loop-node.invariant.0
