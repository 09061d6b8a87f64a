use Rattle.std.proofs.Common.{◌≢◌, sym, ◌∙◌, ap, arith, rules}
use Rattle.wasm_engine.specs.Reported.{with_bytes}
use Rattle.wasm_engine.specs.Instances.{config_of, modules_of}
use Rattle.wasm_engine.specs.declared.engine.End.TheVariants.{StillRunning}
use Rattle.wasm_engine.proofs.Held.{held_before, held_after, stays_safe}
use Rattle.wasm_engine.proofs.GoesOn.{at_first, over_early}
use Rattle.wasm_engine.proofs.Runs.{run-zero, with_bytes-nil}
use Rattle.wasm_engine.proofs.engine.Instances.run.Goals as goal

pub returns-then-self-clause-err : goal.returns-then-self-clause-err
returns-then-self-clause-err g c = (
  (
    0,
    omega arith,
    sym (ap (λ p. with_bytes (g.S.Sink.reported c.args.out.now) p.1)
        (run-zero (modules_of c.args.self.now) (config_of c.args.self.now))
        ∙ with_bytes-nil (g.S.Sink.reported c.args.out.now)),
  ),
  c.if-self.true,
)

pub go_on-answer-requires-clause-sound : goal.go_on-answer-requires-clause-sound
go_on-answer-requires-clause-sound g c = held_before c.args.self.now c.if-self.false

pub invariant_of-self-2 : goal.invariant_of-self-2
invariant_of-self-2 g c =
    record {
      sound = held_after g.S.Sink.reported g.S.Sink.failed c.args.steps _ c.go_on-answer.new.self c.args.out.now
          c.go_on-answer.new.out c.go_on-answer.result c.is_err-self.result c.is_err-self.ensures.value
          c.go_on-answer.ensures.ok c.go_on-answer.ensures.keeps.0 c.go_on-answer.ensures.keeps.2
          (held_before c.args.self.now c.if-self.false);
    }

pub returns-then-ne-clause-ok : goal.returns-then-ne-clause-ok
returns-then-ne-clause-ok g c =
    let stopped : c.args.self.now.end ≢ StillRunning = search rules in
    over_early g.S.Sink.reported g.S.Sink.failed c.args.self.now c.args.out.now 0 c.args.steps c.args.self.now
    c.args.out.now (omega arith) stopped (at_first g.S.Sink.reported g.S.Sink.failed c.args.self.now c.args.out.now)

pub returns-then-ne-clause-safe : goal.returns-then-ne-clause-safe
returns-then-ne-clause-safe g c = stays_safe c.args.self.now

pub returns-clause-safe : goal.returns-clause-safe
returns-clause-safe g c = stays_safe c.args.self.now
