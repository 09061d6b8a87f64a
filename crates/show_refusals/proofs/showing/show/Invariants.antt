use Rattle.std.proofs.Common.{take}
use Rattle.std.specs.List.{flat_map}
use Rattle.run_directory.specs.Reported.{Printed}
use Rattle.m2_tree.specs.Lines.{line_of}
use Rattle.show_refusals.proofs.showing.show.Given as goal

abbrev pub invariant-loop-refusal : goal.invariant-loop-refusal
invariant-loop-refusal g l =
    Printed g.O.Sink.reported g.O.Sink.failed (flat_map line_of (take l.refusal-index l.refusals)) l.fn.out l.out
