use Rattle.std.proofs.Common.{refl, rules, arith}
use Rattle.std.proofs.lemmas.Grind.{common_steps}
use Rattle.parse_expr.proofs.cursor.Cursor.enumeration.Goals as goal

pub returns : goal.returns
returns c =
    let w = c.in_ok-pos.ensures in
    ((w.0, c.in_ok-names.names), first_of (search rules, grind (arith, common_steps)), rw w.2 refl)
