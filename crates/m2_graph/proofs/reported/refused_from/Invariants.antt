use Rattle.std.proofs.Common.{◌≡◌, [], map, take}
use Rattle.m2_graph.specs.Files.{trees}
use Rattle.m2_graph.specs.Sources.{file_of}
use Rattle.m2_graph.specs.Reported.{report_of, refused_from}
use Rattle.m2_graph.proofs.reported.refused_from.Given as goal

abbrev pub invariant-loop-number : goal.invariant-loop-number
invariant-loop-number l = map report_of l.refusals.items
    ≡ refused_from (trees (map file_of l.sources)) l.cycle [] (map file_of (take l.number l.sources))
