use Rattle.std.proofs.Common.{refl, rules, arith}
use Rattle.std.proofs.lemmas.Grind.{common_steps}
use Rattle.m2_parse.proofs.module.definition_module.Goals as goal

pub returns : goal.returns
returns c =
    let w = c.in_ok-name.ensures in (
      (w.0, (c.in_ok-imports.imports, c.in_ok-imports.defs)),
      first_of (search rules, grind (arith, common_steps)),
      rw
          w.2 refl,
    )
