use Rattle.std.proofs.Common.{◌≡◌, ℕ, length, take}
use Rattle.m2_graph.specs.Jobs.{number_of, place_of}
use Rattle.m2_graph.proofs.jobs.places_of.Given as goal

abbrev pub invariant-loop-number : goal.invariant-loop-number
invariant-loop-number l = (length l.places.items ≡ l.fn.count)
    × ((k : ℕ) → place_of l.places.items k ≡ number_of (take l.number l.order) k)
