use Rattle.law_graph.proofs.Outcomes.{graph_or_refused}
use Rattle.law_graph.proofs.graph_or_refusal.Goals as goal

pub returns : goal.returns
returns c = graph_or_refused
