use Rattle.std.proofs.Common.{refl, rules, arith, Some}
use Rattle.std.proofs.lemmas.Grind.{common_steps}
use Rattle.parse_expr.proofs.cursor.Cursor.signature.Goals as goal

pub returns : goal.returns
returns c =
    let w = c.in_ok-formals.ensures in
    (Some (w.0, c.in_ok-of.of), first_of (search rules, grind (arith, common_steps)), rw w.2 refl)
