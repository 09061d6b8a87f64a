use Rattle.check_definition.proofs.Stepping.{steps_around}
use Rattle.check_definition.proofs.again.again_value.Goals as goal

pub returns-clause-here : goal.returns-clause-here
returns-clause-here c = steps_around c.args.scope.now c.step_in.new.scope c.step_out.new.scope c.in_ok-outside.outside
    c.args.seen c.in_ok-outside.ensures.within c.in_ok-outside.ensures.around c.step_out.ensures
