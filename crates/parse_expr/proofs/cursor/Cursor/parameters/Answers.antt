use Rattle.std.proofs.Common.{refl, sym, ◌∙◌, rules, arith}
use Rattle.std.proofs.lemmas.Grind.{common_steps}
use Rattle.m2_tree.specs.declared.token.Symbol.TheVariants.{Comma}
use Rattle.def_grammar.specs.declared.kind.Kind.TheVariants as the
use Rattle.def_grammar.specs.Grammar.{◌▸◌}
use Rattle.def_grammar.specs.Ebnf.{parameter}
use Rattle.def_grammar.proofs.Turns.{many-is}
use Rattle.def_grammar.proofs.Loops.{plain, loop_turn, loop_stop, word_then, turn_shorter, mapped_ok}
use Rattle.def_grammar.proofs.Items as each
use Rattle.parse_expr.proofs.cursor.Cursor.parameters.Goals as goal

pub returns-in_err-parameter-2 : goal.returns-in_err-parameter-2
returns-in_err-parameter-2 c =
    let u = many-is (Comma ▸ parameter) 0 each.more_parameters c.loop-comma.self in
    first_of (search rules, grind (arith, common_steps))

pub loop-comma-preserved : goal.loop-comma-preserved
loop-comma-preserved c =
    let w = c.in-Some.ensures in
    rw c.in_ok-push-2.ensures.ok
    (sym (loop_turn (Comma ▸ parameter) _ _ plain each.more_parameters 0 _ c.loop-comma.found _ _ w.0
    (word_then (the.Symbol Comma) parameter 0 _ _ _ _ _ w.2 c.in_ok-parameter-2.ensures)) ∙ c.loop-comma.invariant)

pub loop-comma-smaller : goal.loop-comma-smaller
loop-comma-smaller c =
    let w = c.in-Some.ensures in
    turn_shorter (Comma ▸ parameter) 0 _ _ _ refl
    (word_then (the.Symbol Comma) parameter 0 _ _ _ _ _ w.2 c.in_ok-parameter-2.ensures)

pub returns : goal.returns
returns c =
    let w = c.in_default.ensures in
    rw w.1 (mapped_ok _ _ _ _ (sym c.loop-comma.invariant
    ∙ loop_stop (Comma ▸ parameter) _ _ plain each.more_parameters 0 _ c.loop-comma.found w.0))
