use Rattle.std.proofs.Common.{◌≡◌, suc, ◌-◌, arith}
use Rattle.emit_proc.proofs.Entered.{on_ok}
use Rattle.emit_proc.proofs.Framing.{more_routines}
use Rattle.emit_proc.proofs.routine.+push_around.Goals as goal

pub returns-in_ok-push-in-Some-clause-routines : goal.returns-in_ok-push-in-Some-clause-routines
returns-in_ok-push-in-Some-clause-routines t c =
    let e : c.args.level ≡ suc (c.args.level - 1) = omega (arith, c.if-level-eq0.false) in
    on_ok c.push_around.result
    (λ h. more_routines c.args.home.now c.args.level (c.args.level - 1) c.args.around c.in-Some.framed
    c.args.frames.now.items c.push.new.self.items c.push_around.new.frames.items c.in_ok-push-in-Some.ensures.items
    e c.in-Some.ensures.0 h)
    c.push_around.ensures.routines
