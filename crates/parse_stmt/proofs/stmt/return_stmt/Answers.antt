use Rattle.std.proofs.Common.{refl, rules, arith, None, Some}
use Rattle.std.proofs.lemmas.Grind.{common_steps}
use Rattle.parse_stmt.proofs.stmt.return_stmt.Goals as goal

pub returns-then-not-begins_expr : goal.returns-then-not-begins_expr
returns-then-not-begins_expr c =
    let w = c.in_ok-pos.ensures in
    ((w.0, None), first_of (search rules, grind (arith, common_steps)), rw w.2 refl)

pub returns : goal.returns
returns c =
    let w = c.in_ok-pos.ensures in
    ((w.0, Some c.in_ok-value.value), first_of (search rules, grind (arith, common_steps)), rw w.2 refl)
