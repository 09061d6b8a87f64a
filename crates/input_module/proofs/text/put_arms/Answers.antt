use Rattle.input_module.proofs.Joining.{no_arms, next_arm}
use Rattle.input_module.proofs.text.put_arms.Goals as goal

pub loop-number-init : goal.loop-number-init
loop-number-init c = no_arms c.args.text.now.items c.args.bytes.now

pub loop-number-preserved : goal.loop-number-preserved
loop-number-preserved c = next_arm c.args.text.now.items c.args.bytes.now c.loop-number.text.items
    c.put_arm.new.text.items c.loop-number.number c.loop-number.invariant c.in_ok-put_arm.ensures
