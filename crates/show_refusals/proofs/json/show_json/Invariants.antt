use Rattle.std.proofs.Common.{◌≡◌, List, map, take}
use Rattle.std.specs.List.{flat_map}
use Rattle.run_directory.specs.Reported.{Printed}
use Rattle.show_refusals.specs.Objects.{Row, line_of}
use Rattle.show_refusals.proofs.json.show_json.Given as goal

abbrev pub invariant-loop-refusal : goal.invariant-loop-refusal
invariant-loop-refusal g l =
    (rows : List Row)
    × (map (λ (row : Row). row.refusal) rows ≡ take l.refusal-index l.refusals)
    × Printed g.O.Sink.reported g.O.Sink.failed (flat_map line_of rows) l.fn.out l.out
