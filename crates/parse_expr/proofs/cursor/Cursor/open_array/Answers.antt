use Rattle.std.proofs.Common.{refl, rules, arith, Some}
use Rattle.std.proofs.lemmas.Grind.{common_steps}
use Rattle.parse_expr.proofs.cursor.Cursor.open_array.Goals as goal

pub returns : goal.returns
returns c = (Some c.if-not-eat.ensures.1, first_of (search rules, grind (arith, common_steps)), refl)
