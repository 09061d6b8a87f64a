use Rattle.std.proofs.Common.{take}
use Rattle.std.specs.List.{flat_map}
use Rattle.run_directory.specs.Reported.{Printed}
use Rattle.run_directory.proofs.say.say_all.Given as goal

abbrev pub invariant-loop-text : goal.invariant-loop-text
invariant-loop-text g l = Printed g.E.Sink.reported g.E.Sink.failed (flat_map (λ t. t.now) (take l.text-index l.texts))
    l.fn.err l.err
