use Rattle.std.proofs.Common.{rules, arith}
use Rattle.std.proofs.lemmas.Grind.{common_steps}
use Rattle.parse_expr.proofs.cursor.Cursor.procedure_type.Goals as goal

pub returns : goal.returns
returns c =
    let v = c.in_ok-pos.ensures in
    let w = c.in_ok-formals.ensures in (
      (v.0, w.0),
      first_of (search rules, grind (arith, common_steps)),
      first_of
          (search rules, grind (arith, common_steps)),
    )
