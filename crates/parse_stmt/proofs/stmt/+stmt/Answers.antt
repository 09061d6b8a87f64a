use Rattle.std.proofs.Common.{refl, sym, ◌∙◌, rules, arith, inl, inr, Some}
use Rattle.std.proofs.lemmas.Grind.{common_steps}
use Rattle.m2_tree.specs.declared.token.Symbol.TheVariants.{Bar, Semicolon}
use Rattle.def_grammar.specs.declared.kind.Kind.TheVariants as the
use Rattle.def_grammar.specs.Grammar.{◌▸◌, opt}
use Rattle.def_grammar.specs.Ebnf.{arm, stmt}
use Rattle.def_grammar.specs.Trees.{present, with_first}
use Rattle.def_grammar.proofs.Truth.{kinds}
use Rattle.def_grammar.proofs.Rules as rules_of
use Rattle.def_grammar.proofs.Turns.{many-is}
use Rattle.def_grammar.proofs.Loops.{optional, loop_turn, loop_stop, word_then, turn_shorter, mapped_ok}
use Rattle.def_grammar.proofs.Items as each
use Rattle.parse_stmt.proofs.stmt.+stmt.Goals as goal

pub stmts-returns-in_err-maybe_stmt-2 : goal.stmts-returns-in_err-maybe_stmt-2
stmts-returns-in_err-maybe_stmt-2 t c =
    let u = many-is (Semicolon ▸ opt stmt) c.args.room each.more_stmts c.loop-cursor.cursor in
    first_of (search rules, grind (arith, common_steps))

pub stmts-loop-cursor-smaller : goal.stmts-loop-cursor-smaller
stmts-loop-cursor-smaller t c =
    let w = c.loop-cursor-test.ensures in
    let v = c.in_ok-maybe_stmt-2.ensures in
    turn_shorter (Semicolon ▸ opt stmt) c.args.room _ _ _ refl
    (word_then (the.Symbol Semicolon) (opt stmt) c.args.room _ _ _ _ _ w.2 v.1)

pub stmts-loop-cursor-preserved : goal.stmts-loop-cursor-preserved
stmts-loop-cursor-preserved t c =
    let w = c.loop-cursor-test.ensures in
    let v = c.in_ok-maybe_stmt-2.ensures in
    rw v.2 (sym (loop_turn (Semicolon ▸ opt stmt) _ _ optional each.more_stmts c.args.room _ c.loop-cursor.found _ _ w.0
    (word_then (the.Symbol Semicolon) (opt stmt) c.args.room _ _ _ _ _ w.2 v.1)) ∙ c.loop-cursor.invariant)

pub stmts-returns : goal.stmts-returns
stmts-returns t c =
    let w = c.loop-cursor-test.ensures in
    rw w.1 (sym c.loop-cursor.invariant ∙ loop_stop (Semicolon ▸ opt stmt) _ _ optional each.more_stmts c.args.room _
    c.loop-cursor.found w.0)

pub maybe_stmt-returns : goal.maybe_stmt-returns
maybe_stmt-returns t c =
    (Some c.in_ok-stmt.field-0, first_of (search rules, grind (arith, common_steps)), c.in_ok-push.ensures.ok)

pub arms-returns-in_err-maybe_arm-2 : goal.arms-returns-in_err-maybe_arm-2
arms-returns-in_err-maybe_arm-2 t c =
    let u = many-is (Bar ▸ opt arm) c.args.room each.more_arms c.loop-cursor.cursor in
    first_of (search rules, grind (arith, common_steps))

pub arms-loop-cursor-smaller : goal.arms-loop-cursor-smaller
arms-loop-cursor-smaller t c =
    let w = c.loop-cursor-test.ensures in
    let v = c.in_ok-maybe_arm-2.ensures in
    turn_shorter (Bar ▸ opt arm) c.args.room _ _ _ refl
    (word_then (the.Symbol Bar) (opt arm) c.args.room _ _ _ _ _ w.2 v.1)

pub arms-loop-cursor-preserved : goal.arms-loop-cursor-preserved
arms-loop-cursor-preserved t c =
    let w = c.loop-cursor-test.ensures in
    let v = c.in_ok-maybe_arm-2.ensures in
    rw v.2 (sym (loop_turn (Bar ▸ opt arm) _ _ optional each.more_arms c.args.room _ c.loop-cursor.found _ _ w.0
    (word_then (the.Symbol Bar) (opt arm) c.args.room _ _ _ _ _ w.2 v.1)) ∙ c.loop-cursor.invariant)

pub arms-returns : goal.arms-returns
arms-returns t c =
    let w = c.loop-cursor-test.ensures in
    rw w.1 (mapped_ok (λ p. present (with_first p)) _ _ _
    (sym c.loop-cursor.invariant ∙ loop_stop (Bar ▸ opt arm) _ _ optional each.more_arms c.args.room _
    c.loop-cursor.found w.0))

pub maybe_arm-returns : goal.maybe_arm-returns
maybe_arm-returns t c =
    (Some c.in_ok-arm.field-0, first_of (search rules, grind (arith, common_steps)), c.in_ok-push.ensures.ok)

pub if_stmt-returns : goal.if_stmt-returns
if_stmt-returns t c =
    let e = rules_of.if_stmt_is c.args.room c.args.cursor.now in (
      (c.in_ok-condition.condition, (c.in_ok-body.body, c.in_ok-rest.rest)),
      first_of
          (search rules, grind (arith, common_steps)),
      first_of (search rules, grind (arith, common_steps)),
    )

pub elsif_part-returns : goal.elsif_part-returns
elsif_part-returns t c =
    let e = rules_of.elsif_part_is c.args.room c.args.cursor.now in (
      (c.in_ok-condition.condition, (c.in_ok-body.body, c.in_ok-rest.rest)),
      first_of
          (search rules, grind (arith, common_steps)),
      first_of (search rules, grind (arith, common_steps)),
    )

pub case_stmt-returns : goal.case_stmt-returns
case_stmt-returns t c =
    let e = rules_of.case_stmt_is c.args.room c.args.cursor.now in
    let w = c.in_ok-found.ensures in (
      (c.in_ok-selector.selector, (w.0, c.in_ok-other.other)),
      first_of (search rules, grind (arith, common_steps)),
      first_of (search rules, grind (arith, common_steps)),
    )

pub while_stmt-returns : goal.while_stmt-returns
while_stmt-returns t c =
    let e = rules_of.while_stmt_is c.args.room c.args.cursor.now in (
      (c.in_ok-condition.condition, c.in_ok-body.body),
      first_of (search rules, grind (arith, common_steps)),
      first_of
          (search rules, grind (arith, common_steps)),
    )

pub repeat_stmt-returns : goal.repeat_stmt-returns
repeat_stmt-returns t c =
    let e = rules_of.repeat_stmt_is c.args.room c.args.cursor.now in (
      (c.in_ok-body.body, c.in_ok-condition.condition),
      first_of (search rules, grind (arith, common_steps)),
      first_of
          (search rules, grind (arith, common_steps)),
    )

pub loop_stmt-returns : goal.loop_stmt-returns
loop_stmt-returns t c =
    let e = rules_of.loop_stmt_is c.args.room c.args.cursor.now in (
      c.in_ok-body.body,
      first_of (search rules, grind (arith, common_steps)),
      first_of
          (search rules, grind (arith, common_steps)),
    )

pub for_stmt-returns : goal.for_stmt-returns
for_stmt-returns t c =
    let e = rules_of.for_stmt_is c.args.room c.args.cursor.now in
    let w = c.in_ok-variable.ensures in (
      (w.0, (c.in_ok-start.start, (c.in_ok-limit.limit, (c.in_ok-limit.step, c.in_ok-limit.body)))),
      first_of
          (search rules, grind (arith, common_steps)),
      first_of (search rules, grind (arith, common_steps)),
    )

pub with_stmt-returns : goal.with_stmt-returns
with_stmt-returns t c =
    let e = rules_of.with_stmt_is c.args.room c.args.cursor.now in (
      (c.in_ok-record.record, c.in_ok-body.body),
      first_of (search rules, grind (arith, common_steps)),
      first_of
          (search rules, grind (arith, common_steps)),
    )

pub other_stmt-returns-in_ok-found-in-Symbol-Repeat : goal.other_stmt-returns-in_ok-found-in-Symbol-Repeat
other_stmt-returns-in_ok-found-in-Symbol-Repeat t c =
    let w = c.in_ok-found-in-Symbol-Repeat.ensures in
    (inl w.0, first_of (search rules, grind (arith, common_steps, kinds)), rw w.2 refl)

pub other_stmt-returns-in_ok-found-in-Symbol-Loop : goal.other_stmt-returns-in_ok-found-in-Symbol-Loop
other_stmt-returns-in_ok-found-in-Symbol-Loop t c =
    let w = c.in_ok-found-in-Symbol-Loop.ensures in
    (inr (inl w.0), first_of (search rules, grind (arith, common_steps, kinds)), rw w.2 refl)

pub other_stmt-returns-in_ok-pos-in-Symbol-Exit : goal.other_stmt-returns-in_ok-pos-in-Symbol-Exit
other_stmt-returns-in_ok-pos-in-Symbol-Exit t c =
    let w = c.in_ok-pos-in-Symbol-Exit.ensures in
    (inr (inr (inl w.0)), first_of (search rules, grind (arith, common_steps, kinds)), rw w.2 refl)

pub other_stmt-returns-in_ok-found-in-Symbol-Return : goal.other_stmt-returns-in_ok-found-in-Symbol-Return
other_stmt-returns-in_ok-found-in-Symbol-Return t c =
    let w = c.in_ok-found-in-Symbol-Return.ensures in
    (inr (inr (inr (inl w.0))), first_of (search rules, grind (arith, common_steps, kinds)), rw w.2 refl)

pub other_stmt-returns-in_ok-found-in-Symbol-For : goal.other_stmt-returns-in_ok-found-in-Symbol-For
other_stmt-returns-in_ok-found-in-Symbol-For t c =
    let w = c.in_ok-found-in-Symbol-For.ensures in
    (inr (inr (inr (inr (inl w.0)))), first_of (search rules, grind (arith, common_steps, kinds)), rw w.2 refl)

pub other_stmt-returns-in_ok-found-in_default : goal.other_stmt-returns-in_ok-found-in_default
other_stmt-returns-in_ok-found-in_default t c =
    let w = c.in_ok-found-in_default.ensures in
    (inr (inr (inr (inr (inr w.0)))), first_of (search rules, grind (arith, common_steps, kinds)), rw w.2 refl)
