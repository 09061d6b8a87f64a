use Rattle.std.proofs.Common.{◌≡◌, take, map}
use Rattle.std.specs.Prelude.{slice_get}
use Rattle.std.specs.Option.{option_and_then}
use Rattle.m2_graph.specs.Jobs.{place_of}
use Rattle.build_results.specs.Results.{modules_at}
use Rattle.build_results.proofs.results.modules_at.Given as goal

abbrev pub invariant-loop-file : goal.invariant-loop-file
invariant-loop-file l = map (λ m. m.now) l.modules.items
    ≡ modules_at (λ file. option_and_then (slice_get l.results) (place_of l.places file)) (take l.file-index l.starts)
