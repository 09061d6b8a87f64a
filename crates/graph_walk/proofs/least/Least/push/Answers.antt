use Rattle.std.specs.BinaryHeap.{heap_items}
use Rattle.graph_walk.proofs.Holding.{times_pushed}
use Rattle.graph_walk.proofs.least.Least.push.Goals as goal

pub returns : goal.returns
returns c = times_pushed (λ r. r.0) _ (heap_items c.args.self.now.heap) (heap_items c.push.new.self)
    c.in_ok-push.ensures.permutation
