use Rattle.plain_store.proofs.Stores.{no_part, ok_part}
use Rattle.plain_store.proofs.variables.part_copy.Goals as goal

pub returns-in-None : goal.returns-in-None
returns-in-None c = no_part c.args.store.now c.args.from.now c.in-None.ensures

pub returns-in-Some : goal.returns-in-Some
returns-in-Some c = ok_part c.args.store.now c.in-Some.held.now c.args.from.now c.copy.result c.in-Some.ensures
    c.copy.ensures
