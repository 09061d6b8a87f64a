use Rattle.std.proofs.Common.{refl, sym, ◌∙◌, rules, arith}
use Rattle.std.proofs.lemmas.Grind.{common_steps}
use Rattle.m2_tree.specs.declared.token.Symbol.TheVariants.{Comma}
use Rattle.def_grammar.specs.declared.kind.Kind.TheVariants as the
use Rattle.def_grammar.specs.Grammar.{◌▸◌}
use Rattle.def_grammar.specs.Ebnf.{ident}
use Rattle.def_grammar.specs.Trees.{ident_of}
use Rattle.def_grammar.proofs.Turns.{many-is}
use Rattle.def_grammar.proofs.Loops.{mapped_each, loop_turn, loop_stop, word_then, turn_shorter}
use Rattle.def_grammar.proofs.Items as each
use Rattle.parse_expr.proofs.cursor.Cursor.idents.Goals as goal

pub returns-in_err-ident-2 : goal.returns-in_err-ident-2
returns-in_err-ident-2 c =
    let u = many-is (Comma ▸ ident) 0 each.more_names c.loop-found.self in
    first_of (search rules, grind (arith, common_steps))

pub loop-found-preserved : goal.loop-found-preserved
loop-found-preserved c =
    let w = c.loop-found-test.ensures in
    let v = c.in_ok-ident-2.ensures in
    rw (c.in_ok-push-2.ensures.ok, v.2)
    (sym (loop_turn (Comma ▸ ident) _ _ (mapped_each ident_of) each.more_names 0 _ c.loop-found.found _ _ w.0
    (word_then (the.Symbol Comma) ident 0 _ _ _ _ _ w.2 v.1)) ∙ c.loop-found.invariant)

pub loop-found-smaller : goal.loop-found-smaller
loop-found-smaller c =
    let w = c.loop-found-test.ensures in
    let v = c.in_ok-ident-2.ensures in
    turn_shorter (Comma ▸ ident) 0 _ _ _ refl (word_then (the.Symbol Comma) ident 0 _ _ _ _ _ w.2 v.1)

pub returns : goal.returns
returns c =
    let w = c.loop-found-test.ensures in
    rw w.1 (sym c.loop-found.invariant ∙ loop_stop (Comma ▸ ident) _ _ (mapped_each ident_of) each.more_names 0 _
    c.loop-found.found w.0)
