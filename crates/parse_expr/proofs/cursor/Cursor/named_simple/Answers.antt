use Rattle.std.proofs.Common.{refl, rules, arith, None, Some}
use Rattle.std.proofs.lemmas.Grind.{common_steps}
use Rattle.def_grammar.proofs.Flat.{qual_flat}
use Rattle.parse_expr.proofs.cursor.Cursor.named_simple.Goals as goal

pub returns-then-not-sees : goal.returns-then-not-sees
returns-then-not-sees c =
    let e = qual_flat c.args.room c.args.self.now in
    ((c.in_ok-name.name, None), first_of (search rules, grind (arith, common_steps)), refl)

pub returns : goal.returns
returns c =
    let e = qual_flat c.args.room c.args.self.now in
    let w = c.in_ok-pos.ensures in (
      (c.in_ok-name.name, Some w.0),
      first_of (search rules, grind (arith, common_steps)),
      first_of
          (search rules, grind (arith, common_steps)),
    )
