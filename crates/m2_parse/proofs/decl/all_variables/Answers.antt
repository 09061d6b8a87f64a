use Rattle.std.proofs.Common.{◌≡◌, true, false, refl, sym, ◌∙◌, rules, arith, [], ◌∷◌}
use Rattle.std.proofs.lemmas.Grind.{common_steps}
use Rattle.def_grammar.specs.declared.kind.Kind.TheVariants as the
use Rattle.def_grammar.specs.Ebnf.{variables}
use Rattle.def_grammar.specs.Reading.{begins}
use Rattle.def_grammar.proofs.Turns.{many-is}
use Rattle.def_grammar.proofs.Loops.{plain, loop_turn, loop_stop, turn_shorter, mapped_ok}
use Rattle.def_grammar.proofs.Items as each
use Rattle.m2_parse.proofs.decl.all_variables.Goals as goal

pub returns-in_err-variables : goal.returns-in_err-variables
returns-in_err-variables c =
    let u = many-is variables c.args.room each.more_variables c.loop-found.cursor in
    first_of (search rules, grind (arith, common_steps))

pub loop-found-smaller : goal.loop-found-smaller
loop-found-smaller c = turn_shorter variables c.args.room _ _ _ refl c.in_ok-variables.ensures

pub loop-found-preserved : goal.loop-found-preserved
loop-found-preserved c =
    let b : begins (the.Name ∷ []) c.loop-found.cursor ≡ true = cc in
    rw c.in_ok-push.ensures.ok (sym (loop_turn variables _ _ plain each.more_variables c.args.room _ c.loop-found.found
    _ _ b c.in_ok-variables.ensures) ∙ c.loop-found.invariant)

pub returns : goal.returns
returns c =
    let b : begins (the.Name ∷ []) c.loop-found.cursor ≡ false = cc in
    mapped_ok (λ xs. xs) _ _ _ (sym c.loop-found.invariant
    ∙ loop_stop variables _ _ plain each.more_variables c.args.room _ c.loop-found.found b)
