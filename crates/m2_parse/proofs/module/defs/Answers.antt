use Rattle.std.proofs.Common.{◌≡◌, true, false, refl, sym, ◌∙◌, rules, arith}
use Rattle.std.proofs.lemmas.Grind.{common_steps}
use Rattle.def_grammar.specs.Ebnf.{def}
use Rattle.def_grammar.specs.Tables.{in_decl}
use Rattle.def_grammar.specs.Refusal.{max_nesting}
use Rattle.def_grammar.specs.Reading.{begins}
use Rattle.def_grammar.proofs.Turns.{many-is}
use Rattle.def_grammar.proofs.Loops.{plain, loop_turn, loop_stop, turn_shorter, mapped_ok}
use Rattle.def_grammar.proofs.Items as each
use Rattle.m2_parse.proofs.module.defs.Goals as goal

pub returns-in_err-def : goal.returns-in_err-def
returns-in_err-def c =
    let u = many-is def max_nesting each.more_defs c.loop-found.cursor in
    first_of (search rules, grind (arith, common_steps))

pub loop-found-smaller : goal.loop-found-smaller
loop-found-smaller c = turn_shorter def max_nesting _ _ _ refl c.in_ok-def.ensures

pub loop-found-preserved : goal.loop-found-preserved
loop-found-preserved c =
    let b : begins in_decl c.loop-found.cursor ≡ true = cc in
    rw c.in_ok-push.ensures.ok (sym (loop_turn def _ _ plain each.more_defs max_nesting _ c.loop-found.found _ _ b
    c.in_ok-def.ensures) ∙ c.loop-found.invariant)

pub returns : goal.returns
returns c =
    let b : begins in_decl c.loop-found.cursor ≡ false = cc in
    mapped_ok (λ xs. xs) _ _ _ (sym c.loop-found.invariant
    ∙ loop_stop def _ _ plain each.more_defs max_nesting _ c.loop-found.found b)
