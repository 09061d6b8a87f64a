use Rattle.run_directory.proofs.Saying.{not_taken}
use Rattle.run_directory.proofs.say.say.Goals as goal

pub returns-then-not-take : goal.returns-then-not-take
returns-then-not-take g c =
    not_taken g.E.Sink.reported g.E.Sink.failed c.args.bytes.now c.loop-byte.byte-index c.args.err.now c.loop-byte.err
    c.take.new.self c.loop-byte.invariant c.if-not-take.ensures.failures c.if-not-take.ensures.bytes
