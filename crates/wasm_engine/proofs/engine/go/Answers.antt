use Rattle.std.proofs.Common.{◌≡◌, ◌+◌, ◌-◌, sym, ap, ◌∙◌, arith, rules}
use Rattle.wasm_machine.specs.declared.frame.Reduced.TheVariants.{On}
use Rattle.wasm_machine.specs.Going.{going, progress}
use Rattle.wasm_tree.specs.Machine.{Progress, run}
use Rattle.wasm_engine.proofs.Runs.{run-zero}
use Rattle.wasm_engine.proofs.AtOnce.{after_some, holds_after}
use Rattle.wasm_engine.proofs.engine.go.Goals as goal

pub loop-count-init : goal.loop-count-init
loop-count-init c =
    let none : c.args.most - c.args.most ≡ 0 = omega arith in (
      c.requires.most,
      omega arith,
      ap (λ k. run c.args.modules.now k (going c.args.machine.now)) none
          ∙ run-zero c.args.modules.now (going c.args.machine.now),
    )

pub several-requires-clause-sound : goal.several-requires-clause-sound
several-requires-clause-sound c =
    holds_after c.args.modules.now c.args.table.now (c.args.most - c.loop-count.left) (going c.args.machine.now)
    (going c.loop-count.machine) c.requires.sound (ap (λ (p : Progress). p.0) (sym c.loop-count.invariant.2))

pub returns-then-left-eq0-clause-made : goal.returns-then-left-eq0-clause-made
returns-then-left-eq0-clause-made c =
    let on : c.in_ok-count.reduced ≡ On = search rules in
    let within = c.in_ok-count.ensures.within in
    let sum : (c.args.most - c.loop-count.left) + c.in_ok-count.count ≡ c.args.most =
    omega (arith, within.1, c.loop-count.invariant.1, c.if-left-eq0.true) in
    ap (λ r. progress r c.several.new.machine) (sym on)
    ∙ (c.in_ok-count.ensures.made
    ∙ (sym (after_some c.args.modules.now (c.args.most - c.loop-count.left) c.in_ok-count.count
    (going c.args.machine.now) (going c.loop-count.machine) c.loop-count.invariant.2)
    ∙ ap (λ k. run c.args.modules.now k (going c.args.machine.now)) sum))

pub returns-in-Printed : goal.returns-in-Printed
returns-in-Printed c =
    let within = c.in_ok-count.ensures.within in
    let sum : (c.args.most - c.loop-count.left) + c.in_ok-count.count
    ≡ c.args.most - (c.loop-count.left - c.in_ok-count.count) = omega (arith, within.1, c.loop-count.invariant.1) in
    record {
      within = (
        omega (arith, within.0, within.1, c.loop-count.invariant.1),
        omega
            (arith, within.1, c.loop-count.invariant.1),
      );
      made = c.in_ok-count.ensures.made
          ∙ (sym (after_some c.args.modules.now (c.args.most - c.loop-count.left) c.in_ok-count.count
          (going c.args.machine.now) (going c.loop-count.machine) c.loop-count.invariant.2)
          ∙ ap (λ k. run c.args.modules.now k (going c.args.machine.now)) sum);
    }

pub loop-count-preserved : goal.loop-count-preserved
loop-count-preserved c =
    let on : c.in_ok-count.reduced ≡ On = search rules in
    let within = c.in_ok-count.ensures.within in
    let sum : c.args.most - (c.loop-count.left - c.in_ok-count.count)
    ≡ (c.args.most - c.loop-count.left) + c.in_ok-count.count = omega (arith, within.1, c.loop-count.invariant.1) in (
      omega (arith, within.1, c.if-left-eq0.false),
      omega (arith, within.1, c.loop-count.invariant.1),
      ap (λ k. run c.args.modules.now k (going c.args.machine.now)) sum
          ∙ (after_some c.args.modules.now (c.args.most - c.loop-count.left) c.in_ok-count.count
          (going c.args.machine.now) (going c.loop-count.machine) c.loop-count.invariant.2
          ∙ (sym c.in_ok-count.ensures.made ∙ ap (λ r. progress r c.several.new.machine) on)),
    )
