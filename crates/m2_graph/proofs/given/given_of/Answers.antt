use Rattle.m2_graph.proofs.Ordered.{given_at}
use Rattle.m2_graph.proofs.given.given_of.Goals as goal

pub returns-then-number-sources : goal.returns-then-number-sources
returns-then-number-sources c = given_at c.args.sources.now c.args.number c.index-sources-number.result
    c.if-number-sources.true
