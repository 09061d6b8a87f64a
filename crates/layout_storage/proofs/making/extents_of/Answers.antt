use Rattle.layout_storage.proofs.Known.{ok_are}
use Rattle.layout_storage.proofs.making.extents_of.Goals as goal

pub returns : goal.returns
returns c = ok_are c.args.types.now c.known_extents.result c.known_extents.ensures
