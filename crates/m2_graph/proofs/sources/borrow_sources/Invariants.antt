use Rattle.std.proofs.Common.{◌≡◌, map, take}
use Rattle.m2_graph.specs.Files.{number_files}
use Rattle.m2_graph.specs.Sources.{file_of}
use Rattle.m2_graph.proofs.Ordered.{of_pair}
use Rattle.m2_graph.proofs.sources.borrow_sources.Given as goal

abbrev pub invariant-loop-given : goal.invariant-loop-given
invariant-loop-given l = map file_of l.all.items ≡ number_files 0 (map of_pair (take l.given l.files))
