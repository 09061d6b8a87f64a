use Rattle.std.proofs.Common.{sym, ◌∙◌, arith}
use Rattle.std.specs.BTreeMap.Range.{range_contains}
use Rattle.std.specs.declared.ops.Bound.TheVariants.{Included, Unbounded}
use Rattle.check_stmt_parts.specs.Ranges.{Range, point_cmp}
use Rattle.check_stmt_parts.proofs.Apart.{none, some, upto}
use Rattle.check_stmt_parts.proofs.ranges.Ranges.is_met.Goals as goal

-- src/ranges.rt:61:5
pub returns-in-None : goal.returns-in-None
returns-in-None c =
    let last = none c.args.low c.args.high
    (λ (e : Range). range_contains point_cmp Unbounded (Included c.args.high) e.0) (λ e. upto e.0 c.args.high)
    c.self.inside.ends.entries (sym (c.range.ensures.between tt) ∙ c.in-None.ensures.steps.0) in
    grind (arith, last, c.self.view_is)

-- src/ranges.rt:61:5
pub returns-in-Some : goal.returns-in-Some
returns-in-Some c =
    let last = some c.args.low c.args.high
    (λ (e : Range). range_contains point_cmp Unbounded (Included c.args.high) e.0) (λ e. upto e.0 c.args.high)
    c.self.inside.ends.entries c.self.inside.apart _ _ (sym (c.range.ensures.between tt) ∙ c.in-Some.ensures.steps)
    in
    grind (arith, last, c.self.view_is, c.is_at_most.ensures)
