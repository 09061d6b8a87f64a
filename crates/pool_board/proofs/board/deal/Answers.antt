use Rattle.std.proofs.Common.{◌≡◌, ℕ, suc, ◌-◌, sym, ap, ◌∙◌, subst, arith}
use Rattle.atomic_table.specs.Table.{Splits}
use Rattle.pool_board.specs.declared.rule.Record.{Record}
use Rattle.pool_board.specs.Rule.{IsKept, blank}
use Rattle.pool_board.specs.Steps.{less_one}
use Rattle.pool_board.proofs.Keeps.{splits}
use Rattle.pool_board.proofs.board.deal.Goals as goal

pub split_seat-seat-requires : goal.split_seat-seat-requires
split_seat-seat-requires c =
    let left : ℕ = c.args.workers - c.loop.counter - 1 in
    let some_left : c.args.workers - c.loop.counter ≡ suc left = omega arith in
    let is : blank (suc left) ≡ c.loop.root.me.0 = sym (ap (λ m. m.0) c.loop.invariant.rest ∙ ap blank some_left) in
    let words = c.requires.table.1 in (
      c.loop.invariant.table_is,
      omega (arith, words),
      subst (λ (v : Record). Splits (IsKept {S = Unit {0}} c.args.table.now.shared.key.graph.value
          c.args.table.now.shared.key.workers) c.loop.root.id v (less_one v) (blank 1)) is
          (splits (Unit {0}) c.args.table.now.shared.key.graph.value c.args.table.now.shared.key.workers c.loop.root.id
          left),
    )
