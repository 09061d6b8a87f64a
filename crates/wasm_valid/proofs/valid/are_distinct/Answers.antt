use Rattle.std.proofs.Common.{◌≡◌, ◌+◌, ◌-◌, ℕ, List, cond, true, not, ap, sym, ◌∙◌, arith}
use Rattle.std.specs.Str.{bytes_eq}
use Rattle.wasm_valid.specs.Named.{holds}
use Rattle.wasm_valid.proofs.Names.{held_more, distinct_so, not_distinct}
use Rattle.wasm_valid.proofs.valid.are_distinct.Goals as goal

pub returns-then-not-branch : goal.returns-then-not-branch
returns-then-not-branch c =
    let e : c.loop-left.left ≡ c.loop-left.left - 1 + 1 = omega arith in
    let name = c.as_slice.ensures in
    let known = sym c.if-not-branch.true ∙ c.in_ok-is_added.ensures.new
    ∙ ap (λ (n : List ℕ). not (holds c.loop-left.names n)) name in
    let none = not_distinct c.loop-left.names (λ x. x.name) c.args.exports.now (c.loop-left.left - 1) c.loop-left.left _
    e c.loop-left.invariant.within c.loop-left.invariant.held known in
    (λ h. absurd (cc), λ all. absurd (none all))

pub loop-left-preserved : goal.loop-left-preserved
loop-left-preserved c =
    let e : c.loop-left.left ≡ c.loop-left.left - 1 + 1 = omega arith in
    let name = c.as_slice.ensures in
    let new = sym c.if-not-branch.false ∙ c.in_ok-is_added.ensures.new
    ∙ ap (λ (n : List ℕ). not (holds c.loop-left.names n)) name in
    record {
      distinct = distinct_so c.loop-left.names (λ x. x.name) c.args.exports.now (c.loop-left.left - 1) c.loop-left.left
          _ e c.loop-left.invariant.within c.loop-left.invariant.held new c.loop-left.invariant.distinct;
      held = held_more c.loop-left.names c.is_added.new.names (λ x. x.name) c.args.exports.now (c.loop-left.left - 1)
          c.loop-left.left _ e c.loop-left.invariant.within c.loop-left.invariant.held
          (λ n. c.in_ok-is_added.ensures.held n
          ∙ ap (λ (m : List ℕ). cond (bytes_eq m n) true (holds c.loop-left.names n)) name);
      within = omega arith;
    }
