use Rattle.std.proofs.Common.{◌≡◌, map, All}
use Rattle.std.specs.Prelude.{MatchResult}
use Rattle.once_cell.specs.Once.{cell_name}
use Rattle.pool_board.specs.Seats.{IsWorked}
use Rattle.pool_board.specs.Results.{IsRan, IsMade}
use Rattle.pool_board.proofs.worker.work_on.Given as goal

abbrev pub invariant-loop : goal.invariant-loop
invariant-loop g l = record {
  seat_is : IsWorked l.pool.board.now.id l.pool.graph.now l.member.seat;
  admitted : All (g.G.Gate.admits l.pool.gate.now) l.member.seat.had;
  ran_is : map (λ r. r.job) l.member.ran.items ≡ l.member.seat.had;
  stands : All (λ r. MatchResult r.kept (λ n. IsRan (map cell_name l.pool.cells.now) l.pool.graph.now
      (g.W.Work.defines l.pool.work.now) r.job n.cell n.known (map (λ u. u.cell) r.used.items)
      (map (λ u. u.known) r.used.items)) (λ b. IsMade (map cell_name l.pool.cells.now) l.pool.graph.now
      (g.W.Work.defines l.pool.work.now) r.job b.value (map (λ u. u.cell) r.used.items)
      (map (λ u. u.known) r.used.items))) l.member.ran.items;
}
