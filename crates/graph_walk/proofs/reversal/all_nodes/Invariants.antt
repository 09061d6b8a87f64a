use Rattle.std.proofs.Common.{◌≡◌, ℕ, cond, nat_lt}
use Rattle.graph_walk.specs.Links.{times}
use Rattle.graph_walk.proofs.reversal.all_nodes.Given as goal

abbrev pub invariant-loop-node : goal.invariant-loop-node
invariant-loop-node l = (k : ℕ) → times l.nodes k ≡ cond (nat_lt k l.node) 1 0
