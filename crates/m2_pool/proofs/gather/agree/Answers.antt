use Rattle.std.proofs.Common.{ℕ, ◌<◌, List, [], ◌∷◌, ◌++◌, length, map, refl, sym, ap, ◌∙◌, arith, rules, append_assoc, length-append}
use Rattle.std.proofs.lemmas.Grind.{common_steps}
use Rattle.once_cell.specs.Once.{cell_name}
use Rattle.pool_board.specs.Graph.{prerequisites_of}
use Rattle.m2_pool.proofs.Gathering.{have_cells, next_cell, same_long, next_compared, next_agreed, not_all, none_used, one_more_used, all_used}
use Rattle.m2_pool.proofs.gather.agree.Goals as goal

pub bounds-prerequisites-place : goal.bounds-prerequisites-place
bounds-prerequisites-place g c =
    let pool = c.args.pool.now in
    let jobs : List ℕ = prerequisites_of pool.graph.now c.args.job in
    let low = have_cells cell_name pool.graph.now pool.cells.now c.args.job c.jobs-jobs.ensures.graph c.requires.job
    pool.cell_each in
    let at = next_cell (λ u. u.cell) (map cell_name pool.cells.now) jobs c.args.used.items c.loop-note.yielded _ _
    c.in-Some.note c.loop-note.place c.loop-note.invariant.rest_is c.in-Some.ensures.steps.0
    c.loop-note.invariant.place_is c.requires.used low in
    rw c.prerequisites-prerequisites.ensures at.0

pub offset_bounds-prerequisites-place : goal.offset_bounds-prerequisites-place
offset_bounds-prerequisites-place g c =
    let pool = c.args.pool.now in
    let jobs : List ℕ = prerequisites_of pool.graph.now c.args.job in
    let low = have_cells cell_name pool.graph.now pool.cells.now c.args.job c.jobs-jobs.ensures.graph c.requires.job
    pool.cell_each in
    let at = next_cell (λ u. u.cell) (map cell_name pool.cells.now) jobs c.args.used.items c.loop-note.yielded _ _
    c.in-Some.note c.loop-note.place c.loop-note.invariant.rest_is c.in-Some.ensures.steps.0
    c.loop-note.invariant.place_is c.requires.used low in
    let within : c.loop-note.place < length c.prerequisites-prerequisites.result.now =
    rw c.prerequisites-prerequisites.ensures at.0 in
    search rules

pub agrees-requires : goal.agrees-requires
agrees-requires g c =
    let pool = c.args.pool.now in
    let jobs : List ℕ = prerequisites_of pool.graph.now c.args.job in
    let low = have_cells cell_name pool.graph.now pool.cells.now c.args.job c.jobs-jobs.ensures.graph c.requires.job
    pool.cell_each in
    let at = next_cell (λ u. u.cell) (map cell_name pool.cells.now) jobs c.args.used.items c.loop-note.yielded _ _
    c.in-Some.note c.loop-note.place c.loop-note.invariant.rest_is c.in-Some.ensures.steps.0
    c.loop-note.invariant.place_is c.requires.used low in
    next_compared (λ u. u.cell) (λ u. u.known) (map cell_name pool.cells.now)
    c.loop-note.settled.items c.args.settled.now.items c.prerequisites-prerequisites.result.now jobs c.loop-note.place
    c.in-Some.note.cell c.loop-note.invariant.same c.prerequisites-prerequisites.ensures c.requires.settled at.1

pub loop-note-init : goal.loop-note-init
loop-note-init g c = record {
  rest_is = c.into_iter-note-iterator.ensures.into_iter_gives.0;
  length_is = grind (arith, common_steps);
  place_is = refl;
  same = refl;
  are = none_used (λ u. u.cell) (λ u. u.known) (map cell_name c.args.pool.now.cells.now) c.args.settled.now.items
      (prerequisites_of c.args.pool.now.graph.now c.args.job);
}

pub loop-note-preserved : goal.loop-note-preserved
loop-note-preserved g c =
    let pool = c.args.pool.now in
    let jobs : List ℕ = prerequisites_of pool.graph.now c.args.job in
    let names : List ℕ = map cell_name pool.cells.now in
    let low = have_cells cell_name pool.graph.now pool.cells.now c.args.job c.jobs-jobs.ensures.graph c.requires.job
    pool.cell_each in
    let at = next_cell (λ u. u.cell) names jobs c.args.used.items c.loop-note.yielded _ _ c.in-Some.note
    c.loop-note.place c.loop-note.invariant.rest_is c.in-Some.ensures.steps.0 c.loop-note.invariant.place_is
    c.requires.used low in
    let head = c.in-Some.ensures.steps.0 in
    let within : length c.loop-note.yielded < length jobs = rw c.loop-note.invariant.place_is at at.0 in
    record {
      rest_is = append_assoc c.loop-note.yielded (c.in-Some.note ∷ []) _
          ∙ (ap (λ l. c.loop-note.yielded ++ l) (sym head) ∙ c.loop-note.invariant.rest_is);
      length_is = grind (arith, common_steps);
      place_is = omega (arith, c.loop-note.invariant.place_is, length-append c.loop-note.yielded (c.in-Some.note ∷ []));
      same = c.agrees.ensures.same ∙ c.loop-note.invariant.same;
      are = one_more_used (λ u. u.cell) (λ u. u.known) names c.args.settled.now.items jobs c.loop-note.yielded
          c.in-Some.note within c.loop-note.invariant.are
          (next_agreed (λ u. u.cell) (λ u. u.known) names c.loop-note.settled.items c.args.settled.now.items
          c.prerequisites-prerequisites.result.now jobs c.loop-note.place (length c.loop-note.yielded)
          c.agrees.result c.in-Some.note.known
          c.loop-note.invariant.same c.prerequisites-prerequisites.ensures c.loop-note.invariant.place_is
          c.requires.settled c.agrees.ensures.agree c.if-not-agrees.false);
    }

pub returns-clause-agree : goal.returns-clause-agree
returns-clause-agree g c =
    let pool = c.args.pool.now in
    let jobs : List ℕ = prerequisites_of pool.graph.now c.args.job in
    let names : List ℕ = map cell_name pool.cells.now in
    let low = have_cells cell_name pool.graph.now pool.cells.now c.args.job c.jobs-jobs.ensures.graph c.requires.job
    pool.cell_each in
    let long = same_long (λ u. u.cell) names jobs c.args.used.items c.requires.used low in
    λ yes_it. all_used (λ u. u.cell) (λ u. u.known) names c.args.settled.now.items jobs c.args.used.items
    c.loop-note.yielded _ c.loop-note.invariant.rest_is
    (sym c.loop-note.invariant.length_is ∙ c.in-None.ensures.steps.0) long c.loop-note.invariant.are

pub returns-then-not-agrees-clause-all : goal.returns-then-not-agrees-clause-all
returns-then-not-agrees-clause-all g c =
    let pool = c.args.pool.now in
    let jobs : List ℕ = prerequisites_of pool.graph.now c.args.job in
    let low = have_cells cell_name pool.graph.now pool.cells.now c.args.job c.jobs-jobs.ensures.graph c.requires.job
    pool.cell_each in
    let at = next_cell (λ u. u.cell) (map cell_name pool.cells.now) jobs c.args.used.items c.loop-note.yielded _ _
    c.in-Some.note c.loop-note.place c.loop-note.invariant.rest_is c.in-Some.ensures.steps.0
    c.loop-note.invariant.place_is c.requires.used low in
    not_all c.loop-note.settled.items c.args.settled.now.items c.prerequisites-prerequisites.result.now jobs
    c.loop-note.place c.agrees.result _ c.loop-note.invariant.same c.prerequisites-prerequisites.ensures at.0
    c.agrees.ensures.agree c.if-not-agrees.true
