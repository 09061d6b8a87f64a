use Rattle.std.proofs.Common.{refl, rules, arith}
use Rattle.std.proofs.lemmas.Grind.{common_steps}
use Rattle.parse_expr.proofs.cursor.Cursor.range.Goals as goal

pub returns : goal.returns
returns c =
    let w = c.in_ok-pos.ensures in (
      (w.0, (c.in_ok-low.low, c.in_ok-high.high)),
      first_of (search rules, grind (arith, common_steps)),
      rw
          (c.in_ok-bounds.ensures, w.2) refl,
    )
