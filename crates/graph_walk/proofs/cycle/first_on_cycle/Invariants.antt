use Rattle.std.proofs.Common.{◌≡◌, ◌<◌, ℕ, false}
use Rattle.graph_walk.specs.Links.{flag}
use Rattle.graph_walk.proofs.cycle.first_on_cycle.Given as goal

abbrev pub invariant-loop-node : goal.invariant-loop-node
invariant-loop-node l = (k : ℕ) → k < l.node → flag l.flags.items k ≡ false
