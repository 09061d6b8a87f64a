use Rattle.plain_store.proofs.Stores.{ok_copied}
use Rattle.plain_store.proofs.variables.copy_whole.Goals as goal

pub returns : goal.returns
returns c = ok_copied c.args.to.now c.args.from.now c.in_ok-part.part c.args.store c.put.result c.in_ok-part.ensures
    c.put.ensures
