use Rattle.m2_pool.proofs.gather.one.Goals as goal
use Rattle.pool_board.specs.Graph.{prerequisites_of}
use Rattle.pool_board.specs.Results.{items_at}

pub returns-in_ok-out-in-Some-Ok-clause-out : goal.returns-in_ok-out-in-Some-Ok-clause-out
returns-in_ok-out-in-Some-Ok-clause-out g c =
    let some = rw c.in-Some-Ok.is at c.requires.kept in
    let asked = rw c.in-Some-Ok.field-0-is at some in
    let copy = c.in_ok-out-in-Some-Ok.ensures.out asked.0.out (rw c.in-Some-Ok.field-0-is asked.0.out_is) in
    copy.comes c.args.job (items_at c.args.before.now (prerequisites_of c.args.pool.now.graph.now c.args.job)) asked.1

pub returns-in_ok-out-in-Some-Ok-clause-note : goal.returns-in_ok-out-in-Some-Ok-clause-note
returns-in_ok-out-in-Some-Ok-clause-note g c =
    let some = rw c.in-Some-Ok.is at c.requires.kept in
    let asked = rw c.in-Some-Ok.field-0-is at some in
    let copy = c.in_ok-out-in-Some-Ok.ensures.out asked.0.out (rw c.in-Some-Ok.field-0-is asked.0.out_is) in
    rw (c.in_ok-out-in-Some-Ok.ensures.same, c.in-Some-Ok.field-0-is) (asked.0, copy)
