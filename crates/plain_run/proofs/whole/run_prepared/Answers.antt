use Rattle.std.proofs.Common.{refl}
use Rattle.plain_run.proofs.Wholes.{run_is}
use Rattle.plain_run.proofs.whole.run_prepared.Goals as goal

pub returns : goal.returns
returns c = run_is c.args.homes.now _ c.args.pages c.in_ok-left.left _ c.bodies.new.st
    (record { end = c.in_ok-end.end; out = c.bodies.new.st.out }) refl c.in_ok-left.ensures c.in_ok-first_held.ensures
    c.new.ensures c.in_ok-end.ensures refl
