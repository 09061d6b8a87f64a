use Rattle.std.proofs.Common.{◌<◌, length, map, Some, sym, ap, ◌∙◌, arith}
use Rattle.once_cell.specs.Once.{cell_name}
use Rattle.pool_board.proofs.Picks.{in_some, each_result, ran_is, made_is, seen_at}
use Rattle.pool_board.proofs.worker.run.Goals as goal

pub returns-clause-ran : goal.returns-clause-ran
returns-clause-ran g c =
    let made = c.publish.ensures.job in
    let low : c.args.job < length c.args.pool.now.cells.now =
    omega (arith, c.args.pool.now.cell_each, c.requires.job) in
    let used_are = ap (λ v. map (λ u. u.cell) v.items) made.1 ∙ c.requires.cells in
    let outs_are = ap (λ v. map (λ u. u.known) v.items) made.1
    ∙ (c.requires.known ∙ in_some (λ p. p.now) c.args.prerequisites.now) in
    let names = map cell_name c.args.pool.now.cells.now in
    let graph = c.args.pool.now.graph.now in
    let defines = g.W.Work.defines c.args.pool.now.work.now in
    let outs = map (λ p. p.now) c.args.prerequisites.now in
    each_result c.publish.result.kept _ _ _ _
    (λ n is. ran_is names graph defines c.args.job c.publish.result.job n.cell n.known _ _ outs c.in_ok-out.out made.0
    (seen_at cell_name c.args.pool.now.cells.now c.args.job c.index-pool-job.result low c.index-pool-job.is
    ∙ ap Some (sym (is.0 ∙ ap cell_name (sym c.index-pool-job.is))))
    used_are outs_are (is.1 ∙ ap Some c.in_ok-out-2.ensures.ok) c.in_ok-out.ensures)
    (λ b is. made_is names graph defines c.args.job c.publish.result.job b.value c.in_ok-out.out _ _ outs made.0
    (is ∙ c.in_ok-out-2.ensures.ok) used_are outs_are c.in_ok-out.ensures)
    c.publish.ensures.kept
