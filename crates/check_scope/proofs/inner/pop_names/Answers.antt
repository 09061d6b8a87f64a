use Rattle.check_scope.proofs.Lasts.{pop_none, pop_some}
use Rattle.check_scope.proofs.inner.pop_names.Goals as goal

pub returns-in-None : goal.returns-in-None
returns-in-None c = pop_none c.args.outer.now c.pop.new.self _ (c.in-None.ensures).0 (c.in-None.ensures).1 c.new.ensures

pub returns-in-Some : goal.returns-in-Some
returns-in-Some c = pop_some c.args.outer.now c.pop.new.self c.in-Some.block c.in-Some.ensures
