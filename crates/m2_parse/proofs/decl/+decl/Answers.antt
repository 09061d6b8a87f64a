use Rattle.std.proofs.Common.{◌≡◌, true, false, refl, sym, ◌∙◌, rules, arith}
use Rattle.std.proofs.lemmas.Grind.{common_steps}
use Rattle.def_grammar.specs.Ebnf.{decl}
use Rattle.def_grammar.specs.Tables.{in_decl}
use Rattle.def_grammar.specs.Reading.{begins}
use Rattle.def_grammar.proofs.Rules as rules_of
use Rattle.def_grammar.proofs.Turns.{many-is}
use Rattle.def_grammar.proofs.Loops.{plain, loop_turn, loop_stop, turn_shorter, mapped_ok}
use Rattle.def_grammar.proofs.Items as each
use Rattle.m2_parse.proofs.decl.+decl.Goals as goal

pub decls-returns-in_err-decl : goal.decls-returns-in_err-decl
decls-returns-in_err-decl t c =
    let u = many-is decl c.args.room each.more_decls c.loop-found.cursor in
    first_of (search rules, grind (arith, common_steps))

pub decls-loop-found-smaller : goal.decls-loop-found-smaller
decls-loop-found-smaller t c = turn_shorter decl c.args.room _ _ _ refl c.in_ok-decl.ensures

pub decls-loop-found-preserved : goal.decls-loop-found-preserved
decls-loop-found-preserved t c =
    let b : begins in_decl c.loop-found.cursor ≡ true = cc in
    rw c.in_ok-push.ensures.ok (sym (loop_turn decl _ _ plain each.more_decls c.args.room _ c.loop-found.found _ _ b
    c.in_ok-decl.ensures) ∙ c.loop-found.invariant)

pub decls-returns : goal.decls-returns
decls-returns t c =
    let b : begins in_decl c.loop-found.cursor ≡ false = cc in
    mapped_ok (λ xs. xs) _ _ _ (sym c.loop-found.invariant
    ∙ loop_stop decl _ _ plain each.more_decls c.args.room _ c.loop-found.found b)

pub procedure-returns : goal.procedure-returns
procedure-returns t c =
    let e = rules_of.procedure_is c.args.room c.args.cursor.now in
    let w = c.in_ok-name.ensures in (
      (w.0, ((c.in_ok-formals.formals, c.in_ok-formals.result), c.in_ok-formals.block)),
      first_of
          (search rules, grind (arith, common_steps)),
      first_of (search rules, grind (arith, common_steps)),
    )
