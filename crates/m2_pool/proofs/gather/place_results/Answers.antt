use Rattle.std.proofs.Common.{◌≡◌, [], ◌∷◌, ◌++◌, length, map, Some, refl, sym, ap, ◌∙◌, arith, append_assoc, length-set}
use Rattle.std.proofs.lemmas.Grind.{common_steps}
use Rattle.std.specs.Prelude.{MatchResult}
use Rattle.once_cell.specs.Once.{cell_name}
use Rattle.pool_board.specs.Results.{IsRan, IsMade}
use Rattle.m2_pool.proofs.Items.{next_in}
use Rattle.m2_pool.proofs.Places.{placed_in}
use Rattle.m2_pool.proofs.gather.place_results.Goals as goal

pub loop-ran-preserved : goal.loop-ran-preserved
loop-ran-preserved g c =
    let ran = c.in-Some.ran in
    let at = next_in c.loop-ran.yielded _ _ c.args.all.items ran c.loop-ran.invariant.rest_is c.in-Some.ensures.steps.0
    in
    let right = rw (at.1 ran) at (c.requires.stands (length c.loop-ran.yielded) ran at.0) in
    record {
      rest_is = append_assoc c.loop-ran.yielded (ran ∷ []) _
          ∙ (ap (λ l. c.loop-ran.yielded ++ l) (sym c.in-Some.ensures.steps.0) ∙ c.loop-ran.invariant.rest_is);
      length_is = grind (arith, common_steps);
      count_is = ap (λ l. length l) c.put.ensures
          ∙ (length-set c.loop-ran.places.items ran.job (Some ran) ∙ c.loop-ran.invariant.count_is);
      each = rw c.put.ensures (placed_in (λ r. r.job)
          (λ k r. (r.job ≡ k) × MatchResult r.kept
          (λ n. IsRan (map cell_name c.args.pool.now.cells.now) c.args.pool.now.graph.now
          (g.W.Work.defines c.args.pool.now.work.now) r.job n.cell n.known (map (λ u. u.cell) r.used.items)
          (map (λ u. u.known) r.used.items)) (λ b. IsMade (map cell_name c.args.pool.now.cells.now)
          c.args.pool.now.graph.now (g.W.Work.defines c.args.pool.now.work.now) r.job b.value
          (map (λ u. u.cell) r.used.items) (map (λ u. u.known) r.used.items)))
          c.loop-ran.places.items (length c.args.pool.now.graph.now) c.loop-ran.yielded ran
          c.loop-ran.invariant.count_is (refl, right) c.loop-ran.invariant.each);
    }
