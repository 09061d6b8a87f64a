use Rattle.std.proofs.Common.{◌≡◌, ◌+◌, ℕ, List, length, map, take}
use Rattle.graph_walk.proofs.counts.counts_of.Given as goal

abbrev pub invariant-loop-imports : goal.invariant-loop-imports
invariant-loop-imports l = l.counts.items ≡ map (λ (ts : List ℕ). length ts + 1) (take l.imports-index l.links)
