use Rattle.std.proofs.Common.{refl, rules, arith, Some}
use Rattle.std.proofs.lemmas.Grind.{common_steps}
use Rattle.parse_expr.proofs.cursor.Cursor.any_parameters.Goals as goal

pub returns : goal.returns
returns c =
    let w = c.in_ok-found.ensures in
    (Some w.0, first_of (search rules, grind (arith, common_steps)), rw w.2 refl)
