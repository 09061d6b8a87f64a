use Rattle.std.proofs.Common.{take}
use Rattle.run_directory.specs.Reported.{Printed}
use Rattle.run_directory.proofs.say.say.Given as goal

abbrev pub invariant-loop-byte : goal.invariant-loop-byte
invariant-loop-byte g l = Printed g.E.Sink.reported g.E.Sink.failed (take l.byte-index l.bytes) l.fn.err l.err
