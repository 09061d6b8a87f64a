use Rattle.std.proofs.Common.{arith}
use Rattle.m2_graph.proofs.Ordered.{borrowed_next}
use Rattle.m2_graph.proofs.sources.borrow_sources.Goals as goal

pub loop-given-preserved : goal.loop-given-preserved
loop-given-preserved c = borrowed_next c.args.files.now c.loop-given.given c.index-files-given.result
    c.loop-given.all.items c.push.new.self.items (omega arith) c.index-files-given.is c.loop-given.invariant
    c.in_ok-push.ensures.items
