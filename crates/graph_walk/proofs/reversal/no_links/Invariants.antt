use Rattle.std.proofs.Common.{◌≡◌, [], replicate}
use Rattle.graph_walk.proofs.reversal.no_links.Given as goal

abbrev pub invariant-loop : goal.invariant-loop
invariant-loop l = l.rows.items ≡ replicate l.counter []
