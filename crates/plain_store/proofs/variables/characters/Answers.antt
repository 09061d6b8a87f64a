use Rattle.plain_store.proofs.Stores.{ok_text}
use Rattle.plain_store.proofs.variables.characters.Goals as goal

pub returns : goal.returns
returns c = ok_text c.args.text.now c.in_ok-parts.parts c.spread.result c.close_tree.result c.in_ok-parts.ensures
    c.spread.ensures c.close_tree.ensures
