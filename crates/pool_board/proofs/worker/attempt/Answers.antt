use Rattle.std.proofs.Common.{◌≡◌, ℕ, eqb, eq-eqb, refl, ◌<◌, List, [], ◌∷◌, ◌++◌, map, ap, ◌∙◌, arith, rules}
use Rattle.std.specs.Prelude.{MatchResult}
use Rattle.std.proofs.lemmas.List.Elements.{All-push}
use Rattle.once_cell.specs.Once.{cell_name}
use Rattle.pool_board.specs.Lists.{times}
use Rattle.pool_board.specs.Rule.{count_of_edge}
use Rattle.pool_board.specs.Results.{IsRan, IsMade}
use Rattle.pool_board.proofs.Picks.{more_counted}
use Rattle.pool_board.proofs.Weights.{weigh-push}
use Rattle.pool_board.proofs.Consistent.{bit}
use Rattle.pool_board.proofs.worker.attempt.Goals as goal

-- a job that was put last is there
there : (job : ℕ) (had had' : List ℕ) → had' ≡ had ++ job ∷ [] → 0 < times job had'
there job had had' is = let t = ap (times job) is in let on : bit (eqb job job) ≡ 1 = ap bit (eq-eqb job job refl) in
    omega (arith, weigh-push (λ y. bit (eqb y job)) had job)

pub count_all-requires-clause-job : goal.count_all-requires-clause-job
count_all-requires-clause-job g c = (
  search rules,
  there c.args.job c.args.member.now.seat.had c.claim.new.seat.had
      c.if-not-claim.ensures.had,
)

pub returns-clause-counts : goal.returns-clause-counts
returns-clause-counts g c =
    let seat = c.args.member.now.seat in (
      c.count_all.ensures.board ∙ (c.if-not-claim.ensures.board ∙ c.requires.seat.0),
      more_counted c.args.pool.now.graph.now c.args.job seat.had c.count_all.new.seat.had seat.counts
          c.count_all.new.seat.counts (c.count_all.ensures.had ∙ c.if-not-claim.ensures.had) c.requires.seat.1
          c.count_all.ensures.counted
          (λ from edge ne. c.count_all.ensures.others from edge ne
          ∙ ap (count_of_edge from edge) c.if-not-claim.ensures.counts),
    )

pub returns-clause-admitted : goal.returns-clause-admitted
returns-clause-admitted g c =
    let had = c.args.member.now.seat.had in
    rw (c.count_all.ensures.had ∙ c.if-not-claim.ensures.had)
    (All-push (g.G.Gate.admits c.args.pool.now.gate.now) had c.args.job c.requires.admitted
    (c.if-not-enter.ensures refl))

pub returns-clause-stands : goal.returns-clause-stands
returns-clause-stands g c =
    rw c.in_ok-push.ensures.items
    (All-push (λ r. MatchResult r.kept (λ n. IsRan (map cell_name c.args.pool.now.cells.now) c.args.pool.now.graph.now
    (g.W.Work.defines c.args.pool.now.work.now) r.job n.cell n.known (map (λ u. u.cell) r.used.items)
    (map (λ u. u.known) r.used.items)) (λ b. IsMade (map cell_name c.args.pool.now.cells.now)
    c.args.pool.now.graph.now (g.W.Work.defines c.args.pool.now.work.now) r.job b.value
    (map (λ u. u.cell) r.used.items) (map (λ u. u.known) r.used.items)))
    c.args.member.now.ran.items c.in_ok-ran.ran c.requires.stands c.in_ok-ran.ensures.ran)
