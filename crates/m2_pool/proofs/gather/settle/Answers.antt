use Rattle.once_cell.specs.Once.{cell_name}
use Rattle.m2_pool.proofs.Gathering.{ran_founded}
use Rattle.m2_pool.proofs.gather.settle.Goals as goal
use Rattle.std.proofs.Common.{map, refl}

pub returns-then-agree-clause-kept : goal.returns-then-agree-clause-kept
returns-then-agree-clause-kept g c =
    let pool = c.args.pool.now in
    let some = rw c.in_ok-kept.was at c.requires.place in
    let ran = rw c.in-Ok.is at some.1 in
    ran_founded (λ u. u.cell) (λ u. u.known) (map cell_name pool.cells.now) pool.graph.now
    (g.W.Work.defines pool.work.now) c.args.job c.in_ok-kept.field-0.job c.in-Ok.note.cell c.in-Ok.note.known
    c.in_ok-kept.field-0.used.items c.args.settled.now.items
    some.0 ran (c.if-agree.ensures.agree refl)
