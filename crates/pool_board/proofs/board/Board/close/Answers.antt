use Rattle.std.proofs.Common.{◌≡◌, ℕ, List, length, map, eqb, sym, ap, ◌∙◌, arith}
use Rattle.std.specs.Slots.{slots_items}
use Rattle.pool_board.specs.declared.rule.Record.{Record}
use Rattle.pool_board.specs.Lists.{times, one_list}
use Rattle.pool_board.specs.Rule.{record_of}
use Rattle.pool_board.specs.Seats.{BoardState, SeatState, all_had, all_met, all_counts, unset, without}
use Rattle.pool_board.proofs.Keeps.{IsClosed, closes}
use Rattle.pool_board.proofs.Tallied.{unset_is, each_job, listed-map}
use Rattle.pool_board.proofs.Laws.{no_job_is_twice, taken_is_had, answered_is_once}
use Rattle.pool_board.proofs.Weights.{weigh-append}
use Rattle.pool_board.proofs.Consistent.{bit}
use Rattle.pool_board.proofs.board.Board.close.Goals as goal
use Rattle.pool_board.proofs.board.Board.close.Goals.{After-free}

graph_is : (c : After-free) → c.self.inside.graph ≡ c.args.self.graph
graph_is c = ap (λ (b : BoardState). b.graph) c.self.view_is

-- what the last seat knows
closed : (c : After-free) → IsClosed c.args.self.graph
    (record_of (length c.args.seats.items) (all_had c.args.seats.items) (all_met c.args.seats.items)
    (all_counts c.args.seats.items)) (slots_items c.close_with-closed.result.words)
closed c =
    let seen = c.close_with-closed.ensures.values.2 in
    let me = ap (λ m. m.0) c.join_all-whole.ensures.seat.1 in
    let share = c.requires.count_is ∙ (sym (ap (λ (b : BoardState). b.workers) c.self.view_is)
    ∙ sym c.self.invariant.workers_are) in
    let known = closes {S = Unit {0}} c.self.inside.table.shared.key.graph.value c.self.inside.table.shared.key.workers
    c.join_all-whole.result.id c.join_all-whole.result.me.0
    (ap (λ (v : Record). v.share) me ∙ share) seen.0 seen.1 in
    rw (← graph_is c, ← c.self.invariant.graph_is, ← me, ← seen.2) known

-- the gatherer's list
left : (c : After-free) → c.unclaimed_jobs.new.list.items
    ≡ without (all_had c.args.seats.items) (length c.args.self.graph)
left c =
    let k = closed c in
    let n : c.jobs.result ≡ length c.args.self.graph = c.jobs.ensures.jobs
    ∙ ap (λ (g : List (List ℕ)). length g) (graph_is c) in
    c.unclaimed_jobs.ensures ∙ (ap (unset (slots_items c.close_with-closed.result.words)) n
    ∙ unset_is (slots_items c.close_with-closed.result.words) (all_had c.args.seats.items)
    (length c.args.self.graph) k.claimed)

pub returns-clause-gatherer : goal.returns-clause-gatherer
returns-clause-gatherer c = left ((goal.at.returns-clause-gatherer c).After-free)

pub returns-clause-each : goal.returns-clause-each
returns-clause-each c = λ job low.
    let w : After-free = (goal.at.returns-clause-each c).After-free in
    let had : List ℕ = all_had c.args.seats.items in
    let same : times job c.unclaimed_jobs.new.list.items ≡ times job (without had (length c.args.self.graph)) =
    ap (times job) (left w) in
    let lists : one_list (map (λ l. l.items) c.join_all-whole.new.lists.items) ≡ had =
    ap one_list c.join_all-whole.ensures.lists ∙ listed-map (λ (s : SeatState). s.had) c.args.seats.items in
    let lists_times = ap (times job) lists in
    omega (
      arith,
      weigh-append (λ y. bit (eqb y job)) (one_list (map (λ l. l.items) c.join_all-whole.new.lists.items))
          c.unclaimed_jobs.new.list.items,
      each_job had (length c.args.self.graph) job low
          ((closed w).consistent.once job),
    )

pub returns-clause-consistent : goal.returns-clause-consistent
returns-clause-consistent c = (closed ((goal.at.returns-clause-consistent c).After-free)).consistent

pub returns-clause-apart : goal.returns-clause-apart
returns-clause-apart c = no_job_is_twice c.args.self.graph c.args.seats.items
    (closed ((goal.at.returns-clause-apart c).After-free)).consistent

pub returns-clause-taken : goal.returns-clause-taken
returns-clause-taken c = taken_is_had c.args.self.graph c.args.seats.items
    (closed ((goal.at.returns-clause-taken c).After-free)).consistent

pub returns-clause-answered : goal.returns-clause-answered
returns-clause-answered c = answered_is_once c.args.self.graph c.args.seats.items
    (closed ((goal.at.returns-clause-answered c).After-free)).consistent
