use Rattle.plain_store.proofs.Stores.{ok_put}
use Rattle.plain_store.proofs.variables.put.Goals as goal

pub returns : goal.returns
returns c = ok_put c.args.to.now c.args.new c.args.store c.replace_component.result c.replace_component.ensures
