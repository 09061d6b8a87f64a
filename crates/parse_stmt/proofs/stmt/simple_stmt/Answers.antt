use Rattle.std.proofs.Common.{refl, rules, arith, inl, inr, None, Some}
use Rattle.std.proofs.lemmas.Grind.{common_steps}
use Rattle.parse_stmt.proofs.stmt.simple_stmt.Goals as goal

pub returns-then-eat : goal.returns-then-eat
returns-then-eat c = (
  (c.in_ok-to.to, inl c.in_ok-value.value),
  first_of (search rules, grind (arith, common_steps)),
  refl,
)

pub returns-then-sees : goal.returns-then-sees
returns-then-sees c = (
  (c.in_ok-to.to, inr (Some c.in_ok-args.args)),
  first_of
      (search rules, grind (arith, common_steps)),
  refl,
)

pub returns : goal.returns
returns c = ((c.in_ok-to.to, inr None), first_of (search rules, grind (arith, common_steps)), refl)
