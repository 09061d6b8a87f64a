use Rattle.std.proofs.Common.{◌≡◌, All, List, [], ◌∷◌, ◌++◌, length, map, sym, ap, ◌∙◌, arith, append_assoc, length-append}
use Rattle.std.specs.Prelude.{MatchResult}
use Rattle.std.proofs.lemmas.Grind.{common_steps}
use Rattle.std.proofs.lemmas.List.Elements.{All-push, All-append}
use Rattle.once_cell.specs.Once.{cell_name}
use mathlib.Core.List.{map-append}
use Rattle.pool_board.specs.Seats.{SeatState, IsWorked, all_had}
use Rattle.pool_board.specs.Results.{IsRan, IsMade}
use Rattle.m2_pool.proofs.Items.{next_in, together_push}
use Rattle.m2_pool.proofs.run.return_result.Goals as goal

pub loop-one-preserved : goal.loop-one-preserved
loop-one-preserved g c =
    let before = c.loop-one.invariant in
    let head = c.in-Some.ensures.steps.0 in
    let at = next_in c.loop-one.yielded _ _ c.args.ended.items c.in-Some.one before.rest_is head in
    let asked = rw (at.1 c.in-Some.one) at (c.requires (length c.loop-one.yielded) c.in-Some.one at.0) in
    let facts = rw c.in_ok-seat.was at asked in
    let seats : List SeatState = c.loop-one.seats.items in
    let ran = c.in_ok-seat.field-0.ran.items in
    let seat : SeatState = c.in_ok-seat.field-0.seat in
    let pushed : c.push.new.self.items ≡ seats ++ seat ∷ [] = c.in_ok-push.ensures.items in
    let joined : c.append.new.self.items ≡ c.loop-one.all.items ++ ran = c.in_ok-append.ensures.items in
    let long : length c.push.new.self.items ≡ length (seats ++ seat ∷ []) = ap (λ l. length l) pushed in
    let count : length seats ≡ length c.loop-one.yielded = before.count_is in
    record {
      rest_is = append_assoc c.loop-one.yielded (c.in-Some.one ∷ []) _
          ∙ (ap (λ l. c.loop-one.yielded ++ l) (sym head) ∙ before.rest_is);
      length_is = grind (arith, common_steps);
      count_is = omega (arith, length-append seats (seat ∷ []), length-append c.loop-one.yielded (c.in-Some.one ∷ []));
      seats_are = rw pushed (All-push (λ (s : SeatState). IsWorked c.args.pool.now.board.now.id
          c.args.pool.now.graph.now s) seats seat before.seats_are facts.0);
      admitted = rw pushed (All-push (λ (s : SeatState). All (g.G.Gate.admits c.args.pool.now.gate.now) s.had) seats
          seat before.admitted facts.1);
      ran_is = ap (map (λ r. r.job)) joined
          ∙ (map-append (λ r. r.job) c.loop-one.all.items ran
          ∙ (ap (λ l. l ++ map (λ r. r.job) ran) before.ran_is
          ∙ (ap (λ l. all_had seats ++ l) facts.2
          ∙ (sym (together_push (λ (s : SeatState). s.had) seats seat) ∙ ap all_had (sym pushed)))));
      stands = rw joined (All-append (λ r. MatchResult r.kept
          (λ n. IsRan (map cell_name c.args.pool.now.cells.now) c.args.pool.now.graph.now
          (g.W.Work.defines c.args.pool.now.work.now) r.job n.cell n.known (map (λ u. u.cell) r.used.items)
          (map (λ u. u.known) r.used.items)) (λ b. IsMade (map cell_name c.args.pool.now.cells.now)
          c.args.pool.now.graph.now (g.W.Work.defines c.args.pool.now.work.now) r.job b.value
          (map (λ u. u.cell) r.used.items) (map (λ u. u.known) r.used.items)))
          c.loop-one.all.items ran before.stands facts.3);
    }
