use Rattle.std.proofs.Common.{◌≡◌, ◌≢◌, ◌+◌, ◌-◌, subst, arith, rules}
use Rattle.wasm_engine.specs.declared.engine.End.TheVariants.{StillRunning}
use Rattle.wasm_engine.specs.Instances.{config_of, modules_of}
use Rattle.wasm_engine.proofs.AtOnce.{holds_after}
use Rattle.wasm_engine.proofs.GoesOn.{SoFar, at_first, some_more, over_early, all_made}
use Rattle.wasm_engine.proofs.engine.Instances.go_on.Goals.{then-loop-left-test+else-eq, else-loop-left-test}
use Rattle.wasm_engine.proofs.engine.Instances.go_on.Goals as goal

pub loop-left-init : goal.loop-left-init
loop-left-init g c =
    let none : 0 ≡ c.args.steps - c.args.steps = omega arith in (
      omega arith,
      subst (λ k. SoFar g.S.Sink.reported g.S.Sink.failed k c.args.self.now c.args.self.now c.args.out.now
          c.args.out.now) none (at_first g.S.Sink.reported g.S.Sink.failed c.args.self.now c.args.out.now),
    )

pub loop-left-preserved : goal.loop-left-preserved
loop-left-preserved g c =
    let n = c.in_ok-left.field-0 in
    let made = c.in_ok-left.ensures.ok in
    let sum : (c.args.steps - c.loop-left.left) + n ≡ c.args.steps - (c.loop-left.left - n) =
    omega (arith, c.loop-left.invariant.0, made.1) in (
      omega (arith, c.loop-left.invariant.0),
      subst (λ k. SoFar g.S.Sink.reported g.S.Sink.failed k c.args.self.now c.some.new.self c.args.out.now
          c.some.new.out) sum
          (some_more g.S.Sink.reported g.S.Sink.failed c.args.self.now c.args.out.now (c.args.steps - c.loop-left.left)
          n c.loop-left.self c.some.new.self c.loop-left.out c.some.new.out c.loop-left.invariant.1
          made.2 c.in_ok-left.ensures.keeps.0 c.in_ok-left.ensures.keeps.1 c.in_ok-left.ensures.keeps.2),
    )

pub returns-clause-ok : goal.returns-clause-ok
returns-clause-ok g c = elim c.loop-left-test.branch [
  | then-loop-left-test+else-eq w ↦
      let stopped : c.loop-left.self.end ≢ StillRunning = search rules in
      over_early g.S.Sink.reported g.S.Sink.failed c.args.self.now c.args.out.now (c.args.steps - c.loop-left.left)
      c.args.steps c.loop-left.self c.loop-left.out (omega arith) stopped c.loop-left.invariant.1
  | else-loop-left-test w ↦
      let none : c.args.steps - c.loop-left.left ≡ c.args.steps = omega (arith, w.loop-left-test) in
      all_made g.S.Sink.reported g.S.Sink.failed c.args.self.now c.args.out.now (c.args.steps - c.loop-left.left)
      c.args.steps c.loop-left.self c.loop-left.out none c.loop-left.invariant.1
]

pub some-requires-clause-sound : goal.some-requires-clause-sound
some-requires-clause-sound g c =
    let so_far = c.loop-left.invariant.1 in
    rw (so_far.modules, so_far.table) (holds_after (modules_of c.args.self.now) c.args.self.now.table
    (c.args.steps - c.loop-left.left) (config_of c.args.self.now) (config_of c.loop-left.self) c.requires.sound
    so_far.config)
