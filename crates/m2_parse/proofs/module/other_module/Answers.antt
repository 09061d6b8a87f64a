use Rattle.std.proofs.Common.{rules, arith}
use Rattle.std.proofs.lemmas.Grind.{common_steps}
use Rattle.m2_parse.proofs.module.other_module.Goals as goal

pub returns : goal.returns
returns c =
    let v = c.has-is_implementation.ensures in
    let w = c.in_ok-name.ensures in (
      (v.0, (w.0, (c.in_ok-imports.imports, c.in_ok-imports.block))),
      first_of
          (search rules, grind (arith, common_steps)),
      first_of (search rules, grind (arith, common_steps)),
    )
