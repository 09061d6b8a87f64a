use Rattle.std.proofs.Common.{take}
use Rattle.std.specs.List.{flat_map}
use Rattle.run_directory.specs.Reported.{Printed}
use Rattle.m2_tree.specs.Lines.{line_of}
use Rattle.m2c.proofs.say.print_refusals.Given as goal

abbrev pub invariant-loop-refusal : goal.invariant-loop-refusal
invariant-loop-refusal g l = Printed g.S.Sink.reported g.S.Sink.failed
    (flat_map line_of (take l.refusal-index l.refusals)) l.fn.out l.out
