use Rattle.plain_store.specs.Seen.{view_of}
use Rattle.plain_run.proofs.Wholes.{no_bodies, body_went, body_left, body_came, body_stopped}
use Rattle.plain_run.proofs.whole.+bodies.Goals as goal

pub returns-in-empty : goal.returns-in-empty
returns-in-empty t c = no_bodies c.args.program.now c.args.homes.now c.args.left c.args.place (view_of c.args.st.now)
    c.in-empty.len_below

pub returns-in-Normal : goal.returns-in-Normal
returns-in-Normal t c = body_went c.args.program.now c.args.homes.now c.home-item.result c.args.place
    c.in_ok-next-in-len1-up.next c.args.left c.in_ok-around-in-len1-up.around c.as_slice.result.now
    c.in_ok-steps-in-len1-up.field-0 (view_of c.args.st.now) c.steps.new.st c.bodies.new.st c.bodies.result
    c.in-len1-up.len_at_least c.home-item.is c.in_ok-around-in-len1-up.ensures c.in_ok-next-in-len1-up.ensures
    c.as_slice.ensures c.in_ok-steps-in-len1-up.ensures c.in-Normal.is c.bodies.ensures

pub returns-in-Exited : goal.returns-in-Exited
returns-in-Exited t c = body_left c.args.program.now c.args.homes.now c.home-item.result c.args.place
    c.in_ok-next-in-len1-up.next c.args.left c.in_ok-around-in-len1-up.around c.as_slice.result.now
    c.in_ok-steps-in-len1-up.field-0 (view_of c.args.st.now) c.steps.new.st c.bodies-in-Exited.new.st
    c.bodies-in-Exited.result c.in-len1-up.len_at_least c.home-item.is c.in_ok-around-in-len1-up.ensures
    c.in_ok-next-in-len1-up.ensures c.as_slice.ensures c.in_ok-steps-in-len1-up.ensures c.in-Exited.is
    c.bodies-in-Exited.ensures

pub returns-in-Returned : goal.returns-in-Returned
returns-in-Returned t c = body_came c.args.program.now c.args.homes.now c.home-item.result c.args.place
    c.in_ok-next-in-len1-up.next c.args.left c.in_ok-around-in-len1-up.around c.as_slice.result.now
    c.in_ok-steps-in-len1-up.field-0 (view_of c.args.st.now) c.steps.new.st c.bodies-in-Returned.new.st
    c.bodies-in-Returned.result c.in-len1-up.len_at_least c.home-item.is c.in_ok-around-in-len1-up.ensures
    c.in_ok-next-in-len1-up.ensures c.as_slice.ensures c.in_ok-steps-in-len1-up.ensures c.in-Returned.field-0
    c.in-Returned.is c.bodies-in-Returned.ensures

pub returns : goal.returns
returns t c = body_stopped c.args.program.now c.args.homes.now c.home-item.result c.args.place
    c.in_ok-next-in-len1-up.next c.args.left c.in_ok-around-in-len1-up.around c.as_slice.result.now
    c.in_ok-steps-in-len1-up.field-0 c.in-Stopped.stop (view_of c.args.st.now) c.steps.new.st c.in-len1-up.len_at_least
    c.home-item.is c.in_ok-around-in-len1-up.ensures c.in_ok-next-in-len1-up.ensures c.as_slice.ensures
    c.in_ok-steps-in-len1-up.ensures c.in-Stopped.is
