use Rattle.std.proofs.Common.{◌≡◌, ◌++◌, drop, map}
use Rattle.std.specs.Prelude.{slice_get}
use Rattle.std.specs.Option.{option_and_then}
use Rattle.m2_graph.specs.Jobs.{place_of}
use Rattle.build_jobs.specs.Borrowed.{borrow_trees}
use Rattle.build_results.specs.Reported.{report_of}
use Rattle.build_results.specs.Results.{refused_from}
use Rattle.build_results.proofs.results.refused_by.Given as goal

abbrev pub invariant-loop-file : goal.invariant-loop-file
invariant-loop-file l =
    map report_of l.refusals.items ++ refused_from
    (λ file. option_and_then (slice_get l.results) (place_of l.places file)) l.file
    (borrow_trees (drop l.file l.trees))
    ≡ refused_from (λ file. option_and_then (slice_get l.results) (place_of l.places file)) 0 (borrow_trees l.trees)
