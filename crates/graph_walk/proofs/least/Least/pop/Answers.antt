use Rattle.std.specs.BinaryHeap.{heap_items}
use Rattle.graph_walk.proofs.Holding.{times_popped, least_popped}
use Rattle.graph_walk.proofs.least.Least.pop.Goals as goal

pub returns-clause-taken : goal.returns-clause-taken
returns-clause-taken c = times_popped (λ r. r.0) c.in_ok-number.field-0 (heap_items c.args.self.now.heap)
    (heap_items c.pop.new.self) c.in_ok-number.ensures.permutation

pub returns-clause-least : goal.returns-clause-least
returns-clause-least c = least_popped (λ r. r.0) c.in_ok-number.field-0 (heap_items c.args.self.now.heap)
    (c.in_ok-number.ensures.heap_order c.args.self.now.ordered).1
