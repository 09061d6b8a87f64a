use Rattle.std.proofs.Common.{arith}
use Rattle.m2_graph.proofs.Places.{places_next}
use Rattle.m2_graph.proofs.jobs.places_of.Goals as goal

pub loop-number-preserved : goal.loop-number-preserved
loop-number-preserved c = places_next c.args.order.now c.loop-number.number c.args.count c.loop-number.places.len
    c.loop-number.places.items c.deref_mut.result.now c.put_place.new.places (omega arith) c.deref_mut.ensures.value
    (omega (arith, c.loop-number.places.ok.0)) c.loop-number.invariant c.put_place.ensures.len
    c.put_place.ensures.places
