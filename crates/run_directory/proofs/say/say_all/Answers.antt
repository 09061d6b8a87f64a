use Rattle.std.proofs.Common.{ℕ, List}
use Rattle.std.specs.Borrow.{Bor}
use Rattle.run_directory.proofs.Saying.{not_said}
use Rattle.run_directory.proofs.say.say_all.Goals as goal

pub returns-then-not-say : goal.returns-then-not-say
returns-then-not-say g c =
    not_said g.E.Sink.reported g.E.Sink.failed (λ (t : Bor (List ℕ)). t.now) c.args.texts.now c.loop-text.text-index _
    c.as_bytes.result.now c.args.err.now c.loop-text.err c.say.new.err c.loop-text-test.true
    c.as_bytes.ensures.value c.loop-text.invariant c.if-not-say.ensures
