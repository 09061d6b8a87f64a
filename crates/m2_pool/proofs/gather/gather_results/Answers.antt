use Rattle.std.proofs.Common.{◌≡◌, ◌<◌, [], ◌∷◌, ◌++◌, length, map, get_or, None, refl, sym, ap, ◌∙◌, subst, arith, append_assoc, length-append}
use Rattle.std.proofs.lemmas.Grind.{common_steps}
use Rattle.once_cell.specs.Once.{cell_name}
use Rattle.pool_board.specs.Graph.{prerequisites_of}
use Rattle.pool_board.specs.Results.{items_at}
use Rattle.m2_pool.proofs.Items.{next_in}
use Rattle.m2_pool.proofs.Gathering.{Answers, answers_more, next_result, no_places_yet, none_yet, of_answers, settled_too, kept_from}
use Rattle.m2_pool.proofs.gather.gather_results.Goals as goal

pub loop-place-init : goal.loop-place-init
loop-place-init g c =
    let pool = c.args.pool.now in
    let defines = g.W.Work.defines pool.work.now in
    record {
      rest_is = c.into_iter-place-iterator.ensures.into_iter_gives.0;
      length_is = grind (arith, common_steps);
      count_is = ap (λ l. length l) c.in_ok-settled.ensures.items;
      outs_count = ap (λ l. length l) c.in_ok-outs.ensures.items;
      settled_are = no_places_yet (Answers (λ n. n.cell) (λ n. n.known) (map cell_name pool.cells.now) defines
          c.in_ok-outs.outs.items) c.in_ok-settled.settled.items c.in_ok-settled.ensures.items;
      outs_are = none_yet pool.graph.now defines c.in_ok-outs.outs.items c.in_ok-outs.ensures.items;
    }

pub settle-kept-requires-clause-job : goal.settle-kept-requires-clause-job
settle-kept-requires-clause-job g c κs within =
    let at = next_in c.loop-place.yielded _ _ c.args.places.items c.in-Some.place c.loop-place.invariant.rest_is
    c.in-Some.ensures.steps.0 in
    omega (arith, at.0, c.loop-place.invariant.outs_count, c.requires.count, c.loop-place.outs.ok.0)

pub settle-kept-requires-clause-place : goal.settle-kept-requires-clause-place
settle-kept-requires-clause-place g c κs within =
    let at = next_in c.loop-place.yielded _ _ c.args.places.items c.in-Some.place c.loop-place.invariant.rest_is
    c.in-Some.ensures.steps.0 in
    let n : c.len-job.result ≡ length c.loop-place.yielded =
    omega (arith, c.loop-place.invariant.outs_count, c.loop-place.outs.ok.0) in
    rw (n, ← at.1 None) (c.requires.places (length c.loop-place.yielded) (omega (arith, at.0, c.requires.count)))

pub settle-kept-requires-clause-settled : goal.settle-kept-requires-clause-settled
settle-kept-requires-clause-settled g c κs within = λ p.
    let pool = c.args.pool.now in
    settled_too (λ n. n.cell) (λ n. n.known) (map cell_name pool.cells.now) (g.W.Work.defines pool.work.now)
    (get_or c.loop-place.settled.items p None) c.loop-place.outs.items p (c.loop-place.invariant.settled_are p)

pub one-requires-clause-job : goal.one-requires-clause-job
one-requires-clause-job g c κs within =
    let at = next_in c.loop-place.yielded _ _ c.args.places.items c.in-Some.place c.loop-place.invariant.rest_is
    c.in-Some.ensures.steps.0 in
    omega (arith, at.0, c.loop-place.invariant.outs_count, c.requires.count, c.loop-place.outs.ok.0)

pub one-requires-clause-kept : goal.one-requires-clause-kept
one-requires-clause-kept g c κs within =
    let pool = c.args.pool.now in
    rw c.as_slice.ensures.value
    (kept_from (λ n. n.cell) (λ n. n.known) (map cell_name pool.cells.now) (g.W.Work.defines pool.work.now)
    (λ b. b.value) c.loop-place.settled.items c.loop-place.outs.items
    (prerequisites_of pool.graph.now c.len-job.result) c.len-job.result c.settle-kept.result
    c.loop-place.invariant.settled_are c.settle-kept.ensures.kept)

pub loop-place-preserved : goal.loop-place-preserved
loop-place-preserved g c =
    let pool = c.args.pool.now in
    let defines = g.W.Work.defines pool.work.now in
    let before = c.loop-place.invariant in
    let n : c.len-job.result ≡ length c.loop-place.outs.items = omega (arith, c.loop-place.outs.ok.0) in
    let m : c.len-job.result ≡ length c.loop-place.settled.items =
    omega (arith, n, before.count_is, before.outs_count) in
    let at = next_in c.loop-place.yielded _ _ c.args.places.items c.in-Some.place before.rest_is
    c.in-Some.ensures.steps.0 in
    let low : c.len-job.result < length pool.graph.now = omega (arith, at.0, before.outs_count, c.requires.count, n) in
    let one = subst (λ xs. defines c.len-job.result (items_at xs (prerequisites_of pool.graph.now c.len-job.result))
    c.in_ok-out.out) c.as_slice.ensures.value c.in_ok-out.ensures.out in
    record {
      rest_is = append_assoc c.loop-place.yielded (c.in-Some.place ∷ []) _
          ∙ (ap (λ l. c.loop-place.yielded ++ l) (sym c.in-Some.ensures.steps.0) ∙ before.rest_is);
      length_is = grind (arith, common_steps);
      count_is = omega (
        arith,
        ap (λ l. length l) c.in_ok-push-2.ensures.items,
        length-append
            c.settle-kept.new.settled.items (c.in_ok-out.note ∷ []),
        ap (λ l. length l) c.settle-kept.ensures.same,
        before.count_is,
        length-append c.loop-place.yielded (c.in-Some.place ∷ []),
      );
      outs_count = omega (
        arith,
        ap (λ l. length l) c.in_ok-push.ensures.items,
        length-append c.loop-place.outs.items
            (c.in_ok-out.out ∷ []),
        before.outs_count,
        length-append c.loop-place.yielded (c.in-Some.place ∷ []),
      );
      settled_are = answers_more (λ n. n.cell) (λ n. n.known) (map cell_name pool.cells.now) defines
          c.loop-place.settled.items c.settle-kept.new.settled.items _ c.in_ok-out.note c.len-job.result
          c.loop-place.outs.items _ c.in_ok-out.out
          c.settle-kept.ensures.same c.in_ok-push-2.ensures.items c.in_ok-push.ensures.items m n before.settled_are
          c.in_ok-out.ensures.note;
      outs_are = next_result pool.graph.now defines c.jobs.ensures.graph c.len-job.result c.loop-place.outs.items _
          c.in_ok-out.out n low c.in_ok-push.ensures.items before.outs_are one;
    }
