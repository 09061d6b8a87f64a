use Rattle.std.specs.Prelude.{map}
use Rattle.std.proofs.Common.{◌≡◌, true, false, refl, sym, ap, ◌∙◌, rules, arith, inl, inr, None, Some}
use Rattle.std.proofs.lemmas.Grind.{common_steps}
use Rattle.m2_tree.specs.declared.token.Symbol.TheVariants.{Comma}
use Rattle.def_grammar.specs.declared.kind.Kind.TheVariants as the
use Rattle.def_grammar.specs.Grammar.{◌▸◌, ◌·◌}
use Rattle.def_grammar.specs.Ebnf.{add_op, expr, factor, item, mul_op, selector, term}
use Rattle.def_grammar.specs.Tables.{in_selector}
use Rattle.def_grammar.specs.Trees.{add_operand, multiply_operand, selectors_of}
use Rattle.def_grammar.specs.Reading.{begins}
use Rattle.def_grammar.proofs.Rules.{index_is, group_is, not_is, selectors_is}
use Rattle.def_grammar.proofs.Turns.{many-is}
use Rattle.def_grammar.proofs.Loops.{plain, mapped_each, joined_each, loop_turn, loop_stop, word_then, pair_then, turn_shorter, mapped_ok}
use Rattle.def_grammar.proofs.Items.{more_exprs, more_items, more_terms, more_factors, more_selectors}
use Rattle.parse_expr.proofs.cursor.Cursor.+expr.Goals as goal

pub exprs-returns-in_err-expr-2 : goal.exprs-returns-in_err-expr-2
exprs-returns-in_err-expr-2 t c =
    let u = many-is (Comma ▸ expr) c.args.room more_exprs c.loop-found.self in
    first_of (search rules, grind (arith, common_steps))

pub exprs-loop-found-smaller : goal.exprs-loop-found-smaller
exprs-loop-found-smaller t c =
    let w = c.loop-found-test.ensures in
    turn_shorter (Comma ▸ expr) c.args.room _ _ _ refl
    (word_then (the.Symbol Comma) expr c.args.room _ _ _ _ _ w.2 c.in_ok-expr-2.ensures)

pub exprs-loop-found-preserved : goal.exprs-loop-found-preserved
exprs-loop-found-preserved t c =
    let w = c.loop-found-test.ensures in
    rw c.in_ok-push-2.ensures.ok
    (sym (loop_turn (Comma ▸ expr) _ _ plain more_exprs c.args.room _ c.loop-found.found _ _ w.0
    (word_then (the.Symbol Comma) expr c.args.room _ _ _ _ _ w.2 c.in_ok-expr-2.ensures)) ∙ c.loop-found.invariant)

pub exprs-returns : goal.exprs-returns
exprs-returns t c =
    let w = c.loop-found-test.ensures in
    rw w.1 (mapped_ok _ _ _ _ (sym c.loop-found.invariant
    ∙ loop_stop (Comma ▸ expr) _ _ plain more_exprs c.args.room _ c.loop-found.found w.0))

pub items-returns-in_err-item-2 : goal.items-returns-in_err-item-2
items-returns-in_err-item-2 t c =
    let u = many-is (Comma ▸ item) c.args.room more_items c.loop-found.self in
    first_of (search rules, grind (arith, common_steps))

pub items-loop-found-smaller : goal.items-loop-found-smaller
items-loop-found-smaller t c =
    let w = c.loop-found-test.ensures in
    turn_shorter (Comma ▸ item) c.args.room _ _ _ refl
    (word_then (the.Symbol Comma) item c.args.room _ _ _ _ _ w.2 c.in_ok-item-2.ensures)

pub items-loop-found-preserved : goal.items-loop-found-preserved
items-loop-found-preserved t c =
    let w = c.loop-found-test.ensures in
    rw c.in_ok-push-2.ensures.ok
    (sym (loop_turn (Comma ▸ item) _ _ plain more_items c.args.room _ c.loop-found.found _ _ w.0
    (word_then (the.Symbol Comma) item c.args.room _ _ _ _ _ w.2 c.in_ok-item-2.ensures)) ∙ c.loop-found.invariant)

pub items-returns : goal.items-returns
items-returns t c =
    let w = c.loop-found-test.ensures in
    rw w.1 (mapped_ok _ _ _ _ (sym c.loop-found.invariant
    ∙ loop_stop (Comma ▸ item) _ _ plain more_items c.args.room _ c.loop-found.found w.0))

pub terms-returns-in_err-term : goal.terms-returns-in_err-term
terms-returns-in_err-term t c =
    let u = many-is (add_op · term) c.args.room more_terms c.loop-op.self in
    first_of (search rules, grind (arith, common_steps))

pub terms-loop-op-smaller : goal.terms-loop-op-smaller
terms-loop-op-smaller t c =
    let w = c.in-Some.ensures in
    turn_shorter (add_op · term) c.args.room _ _ _ refl
    (pair_then add_op term c.args.room _ _ _ _ _ w.2 c.in_ok-term.ensures)

pub terms-loop-op-preserved : goal.terms-loop-op-preserved
terms-loop-op-preserved t c =
    let w = c.in-Some.ensures in
    rw (c.in_ok-push.ensures.ok, w.3)
    (sym (loop_turn (add_op · term) _ _ (mapped_each add_operand) more_terms c.args.room _ c.loop-op.found _ _ w.0
    (pair_then add_op term c.args.room _ _ _ _ _ w.2 c.in_ok-term.ensures)) ∙ c.loop-op.invariant)

pub terms-returns : goal.terms-returns
terms-returns t c =
    let w = c.in_default.ensures in
    rw w.1 (mapped_ok (map add_operand) _ _ _
    (sym c.loop-op.invariant ∙ loop_stop (add_op · term) _ _ (mapped_each add_operand) more_terms c.args.room _
    c.loop-op.found w.0))

pub factors-returns-in_err-factor : goal.factors-returns-in_err-factor
factors-returns-in_err-factor t c =
    let u = many-is (mul_op · factor) c.args.room more_factors c.loop-op.self in
    first_of (search rules, grind (arith, common_steps))

pub factors-loop-op-smaller : goal.factors-loop-op-smaller
factors-loop-op-smaller t c =
    let w = c.in-Some.ensures in
    turn_shorter (mul_op · factor) c.args.room _ _ _ refl
    (pair_then mul_op factor c.args.room _ _ _ _ _ w.2 c.in_ok-factor.ensures)

pub factors-loop-op-preserved : goal.factors-loop-op-preserved
factors-loop-op-preserved t c =
    let w = c.in-Some.ensures in
    rw (c.in_ok-push.ensures.ok, w.3)
    (sym (loop_turn (mul_op · factor) _ _ (mapped_each multiply_operand) more_factors c.args.room _ c.loop-op.found _ _
    w.0 (pair_then mul_op factor c.args.room _ _ _ _ _ w.2 c.in_ok-factor.ensures)) ∙ c.loop-op.invariant)

pub factors-returns : goal.factors-returns
factors-returns t c =
    let w = c.in_default.ensures in
    rw w.1 (mapped_ok (map multiply_operand) _ _ _
    (sym c.loop-op.invariant ∙ loop_stop (mul_op · factor) _ _ (mapped_each multiply_operand) more_factors
    c.args.room _ c.loop-op.found w.0))

pub selectors-loop-self-init : goal.selectors-loop-self-init
selectors-loop-self-init t c = rw c.new-found.ensures (sym (selectors_is c.args.room c.args.self.now))

pub selectors-loop-self-smaller : goal.selectors-loop-self-smaller
selectors-loop-self-smaller t c = turn_shorter selector c.args.room _ _ _ refl c.in_ok-selector.ensures.1

pub selectors-loop-self-preserved : goal.selectors-loop-self-preserved
selectors-loop-self-preserved t c =
    let w = c.in_ok-selector.ensures in
    let b : begins in_selector c.loop-self.self ≡ true = cc in
    rw w.2 (sym (loop_turn selector _ _ (joined_each selectors_of) more_selectors c.args.room _ c.loop-self.found _ _ b
    w.1) ∙ c.loop-self.invariant)

pub selectors-returns-in_err-selector : goal.selectors-returns-in_err-selector
selectors-returns-in_err-selector t c =
    let u = many-is selector c.args.room more_selectors c.loop-self.self in
    let s = selectors_is c.args.room c.args.self.now in
    first_of (search rules, grind (arith, common_steps))

pub selectors-returns : goal.selectors-returns
selectors-returns t c =
    let b : begins in_selector c.loop-self.self ≡ false = cc in
    sym c.loop-self.invariant ∙ loop_stop selector _ _ (joined_each selectors_of) more_selectors c.args.room _
    c.loop-self.found b

pub negation-returns : goal.negation-returns
negation-returns t c =
    let e = not_is c.args.room c.args.self.now in
    let w = c.in_ok-pos.ensures in (
      (w.0, c.in_ok-operand.operand),
      first_of (search rules, grind (arith, common_steps)),
      first_of
          (search rules, grind (arith, common_steps)),
    )

pub bracket_expr-returns : goal.bracket_expr-returns
bracket_expr-returns t c =
    let e = group_is c.args.room c.args.self.now in
    let w = c.in_ok-pos.ensures in (
      (w.0, c.in_ok-value.value),
      first_of (search rules, grind (arith, common_steps)),
      first_of
          (search rules, grind (arith, common_steps)),
    )

pub name_use-returns-then-sees : goal.name_use-returns-then-sees
name_use-returns-then-sees t c =
    let w = c.in_ok-name.ensures in (
      (w.0, inl (c.in_ok-brace.brace, c.in_ok-brace.elements)),
      first_of (search rules, grind (arith, common_steps)),
      rw
          w.2 refl,
    )

pub name_use-returns-then-sees-2 : goal.name_use-returns-then-sees-2
name_use-returns-then-sees-2 t c =
    let w = c.in_ok-name.ensures in (
      (w.0, inr (c.in_ok-selectors.selectors, Some c.in_ok-args.args)),
      first_of
          (search rules, grind (arith, common_steps)),
      rw (c.in_ok-boxed.ensures, w.2) refl,
    )

pub name_use-returns : goal.name_use-returns
name_use-returns t c =
    let w = c.in_ok-name.ensures in
    ((w.0, inr (c.in_ok-selectors.selectors, None)), first_of (search rules, grind (arith, common_steps)), rw w.2 refl)

pub selector-returns-then-sees : goal.selector-returns-then-sees
selector-returns-then-sees t c =
    let v = c.in_ok-dot.ensures in
    let w = c.in_ok-name.ensures in
    (inl (v.0, w.0), first_of (search rules, grind (arith, common_steps)), rw (c.in_ok-push.ensures.ok, v.2, w.2) refl)

pub selector-returns : goal.selector-returns
selector-returns t c =
    let w = c.in_ok-bracket.ensures in
    let place = ap (λ p. p.0) w.2 in
    let indexes = ap (λ p. p.1) w.2 in (
      inr w.0,
      first_of (search rules, grind (arith, common_steps)),
      rw (c.in_ok-push_indexes.ensures, place, indexes)
          refl,
    )

pub subscript-returns-in_err-indexes : goal.subscript-returns-in_err-indexes
subscript-returns-in_err-indexes t c =
    let e = index_is c.args.room c.args.self.now in
    first_of (search rules, grind (arith, common_steps))

pub subscript-returns-in_err-expect : goal.subscript-returns-in_err-expect
subscript-returns-in_err-expect t c =
    let e = index_is c.args.room c.args.self.now in
    first_of (search rules, grind (arith, common_steps))

pub subscript-returns : goal.subscript-returns
subscript-returns t c =
    let e = index_is c.args.room c.args.self.now in
    let v = c.in_ok-bracket.ensures in
    let w = c.in_ok-indexes.ensures in
    ((v.0, w.0), first_of (search rules, grind (arith, common_steps)), rw (v.2, w.2) refl)
