use Rattle.std.proofs.Common.{◌≡◌, map, take}
use Rattle.m2_graph.specs.Files.{given_of}
use Rattle.m2_graph.specs.Sources.{file_of}
use Rattle.m2_graph.proofs.given.given_all.Given as goal

abbrev pub invariant-loop-number : goal.invariant-loop-number
invariant-loop-number l = l.all.items ≡ map (given_of (map file_of l.sources)) (take l.number-index l.numbers)
