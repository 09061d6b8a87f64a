use Rattle.std.proofs.Common.{◌≡◌, false, arith}
use Rattle.check_stmt_parts.specs.Ranges.{is_below}
use Rattle.check_stmt_parts.proofs.Points.{not_behind}
use Rattle.check_stmt_parts.proofs.Apart.{stays_apart}
use Rattle.check_stmt_parts.proofs.ranges.Ranges.take.Goals as goal

-- src/ranges.rt:81:9
pub invariant_of-self-inside : goal.invariant_of-self-inside
invariant_of-self-inside c =
    let old = c.self.inside.ends.entries in
    let new = c.insert.new.self.entries in
    let below : is_below c.args.high c.args.low ≡ false = grind (arith, c.if-is_empty.false, c.is_empty.ensures) in (
      stays_apart c.insert.result c.args.low c.args.high old new c.insert.ensures.entries c.insert.ensures.err
          (not_behind c.args.low c.args.high below) c.self.inside.apart
          (grind (arith, c.if-is_met.false, c.is_met.ensures, c.self.view_is)),
      tt,
    )
