use Rattle.std.proofs.Common.{refl, sym, ◌∙◌, rules, arith}
use Rattle.std.proofs.lemmas.Grind.{common_steps}
use Rattle.m2_tree.specs.declared.token.Symbol.TheVariants.{Semicolon}
use Rattle.def_grammar.specs.declared.kind.Kind.TheVariants as the
use Rattle.def_grammar.specs.Grammar.{◌▸◌}
use Rattle.def_grammar.specs.Ebnf.{section}
use Rattle.def_grammar.proofs.Turns.{many-is}
use Rattle.def_grammar.proofs.Loops.{plain, loop_turn, loop_stop, word_then, turn_shorter, mapped_ok}
use Rattle.def_grammar.proofs.Items as each
use Rattle.m2_parse.proofs.decl.sections.Goals as goal

pub returns-in_err-section-2 : goal.returns-in_err-section-2
returns-in_err-section-2 c =
    let u = many-is (Semicolon ▸ section) 0 each.more_sections c.loop-semicolon.cursor in
    first_of (search rules, grind (arith, common_steps))

pub loop-semicolon-preserved : goal.loop-semicolon-preserved
loop-semicolon-preserved c =
    let w = c.in-Some.ensures in
    rw c.in_ok-push-2.ensures.ok
    (sym (loop_turn (Semicolon ▸ section) _ _ plain each.more_sections 0 _ c.loop-semicolon.found _ _ w.0
    (word_then (the.Symbol Semicolon) section 0 _ _ _ _ _ w.2 c.in_ok-section-2.ensures))
    ∙ c.loop-semicolon.invariant)

pub loop-semicolon-smaller : goal.loop-semicolon-smaller
loop-semicolon-smaller c =
    let w = c.in-Some.ensures in
    turn_shorter (Semicolon ▸ section) 0 _ _ _ refl
    (word_then (the.Symbol Semicolon) section 0 _ _ _ _ _ w.2 c.in_ok-section-2.ensures)

pub returns : goal.returns
returns c =
    let w = c.in_default.ensures in
    rw w.1 (mapped_ok _ _ _ _ (sym c.loop-semicolon.invariant
    ∙ loop_stop (Semicolon ▸ section) _ _ plain each.more_sections 0 _ c.loop-semicolon.found w.0))
