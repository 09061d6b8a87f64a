use Rattle.std.proofs.Common.{ℕ, ◌+◌, ap, arith}
use Rattle.wasm_valid.proofs.Located.{ends_more, ends_all}
use Rattle.wasm_valid.proofs.grouped.count_ends.Goals as goal

pub loop-group-preserved : goal.loop-group-preserved
loop-group-preserved c = (
  ends_more c.args.groups.now c.loop-group.group-index c.loop-group.end _ _ c.loop-group.ends.items
      c.push.new.self.items _ c.loop-group-test.true (ap (λ (n : ℕ). c.loop-group.end + n) c.from-end.ensures)
      c.in_ok-push.ensures.items c.loop-group.invariant.0,
  omega (arith, c.loop-group.invariant.1),
)

pub returns : goal.returns
returns c = ends_all c.args.groups.now c.loop-group.group-index c.loop-group.end c.loop-group.ends.items _
    c.loop-group-test.false c.loop-group.invariant.0
