use Rattle.std.proofs.Common.{ℕ, List, length, map, sym, ap, ◌∙◌, subst, arith}
use Rattle.std.proofs.lemmas.List.{length-map}
use Rattle.pool_board.specs.Graph.{prerequisites_of}
use Rattle.pool_board.specs.Results.{items_at}
use Rattle.m2_pool.proofs.Items.{if_ok}
use Rattle.m2_pool.proofs.Gathering.{picks_all}
use Rattle.m2_pool.proofs.gather.run_here.Goals as goal

pub run-requires-clause-prerequisites : goal.run-requires-clause-prerequisites
run-requires-clause-prerequisites g c =
    let graph : List (List ℕ) = c.args.pool.now.graph.now in
    let ps : List ℕ = prerequisites_of graph c.args.job in
    ap (λ l. length l) c.as_slice.ensures.value
    ∙ (sym (length-map c.in_ok-outs.outs.items (λ x. x.now))
    ∙ (ap (λ l. length l) c.in_ok-outs.ensures
    ∙ (ap (λ qs. length (items_at c.args.before.now qs)) c.prerequisites.ensures
    ∙ (picks_all c.args.before.now ps (λ p l. let less = (c.jobs-jobs.ensures.graph c.args.job p c.requires.job).0 l in
    omega (arith, less, c.requires.before))
    ∙ ap (λ (h : List (List ℕ)). length (prerequisites_of h c.args.job)) c.args.pool.now.of_work))))

pub returns : goal.returns
returns g c =
    let defines = g.W.Work.defines c.args.pool.now.work.now in
    let outs_are = ap (map (λ p. p.now)) c.as_slice.ensures.value
    ∙ (c.in_ok-outs.ensures ∙ ap (items_at c.args.before.now) c.prerequisites.ensures) in
    if_ok c.run.result _ _ (λ x defined. subst (λ outs. defines c.args.job outs x) outs_are defined) c.run.ensures
