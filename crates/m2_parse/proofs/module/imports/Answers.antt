use Rattle.std.proofs.Common.{◌≡◌, true, false, refl, sym, ◌∙◌, rules, arith, [], ◌∷◌}
use Rattle.std.proofs.lemmas.Grind.{common_steps}
use Rattle.m2_tree.specs.declared.token.Symbol.TheVariants.{From, Import}
use Rattle.def_grammar.specs.Ebnf.{import}
use Rattle.def_grammar.specs.Tables.{symbols}
use Rattle.def_grammar.specs.Refusal.{max_nesting}
use Rattle.def_grammar.specs.Reading.{begins}
use Rattle.def_grammar.proofs.Turns.{many-is}
use Rattle.def_grammar.proofs.Loops.{plain, loop_turn, loop_stop, turn_shorter, mapped_ok}
use Rattle.def_grammar.proofs.Items as each
use Rattle.m2_parse.proofs.module.imports.Goals as goal

pub returns-in_err-import : goal.returns-in_err-import
returns-in_err-import c =
    let u = many-is import max_nesting each.more_imports c.loop-found.cursor in
    first_of (search rules, grind (arith, common_steps))

pub loop-found-smaller : goal.loop-found-smaller
loop-found-smaller c = turn_shorter import max_nesting _ _ _ refl c.in_ok-import.ensures

pub loop-found-preserved : goal.loop-found-preserved
loop-found-preserved c =
    let b : begins (symbols (From ∷ Import ∷ [])) c.loop-found.cursor ≡ true = cc in
    rw c.in_ok-push.ensures.ok (sym (loop_turn import _ _ plain each.more_imports max_nesting _ c.loop-found.found _ _ b
    c.in_ok-import.ensures) ∙ c.loop-found.invariant)

pub returns : goal.returns
returns c =
    let b : begins (symbols (From ∷ Import ∷ [])) c.loop-found.cursor ≡ false = cc in
    mapped_ok (λ xs. xs) _ _ _ (sym c.loop-found.invariant
    ∙ loop_stop import _ _ plain each.more_imports max_nesting _ c.loop-found.found b)
