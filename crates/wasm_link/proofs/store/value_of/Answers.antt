use Rattle.std.proofs.Common.{[], ◌∙◌}
use Rattle.wasm_link.specs.Placed.{link_result}
use Rattle.wasm_link.proofs.Constants.{value_at_one, value_short, value_long}
use Rattle.wasm_link.proofs.store.value_of.Goals as goal

pub returns-in-len1 : goal.returns-in-len1
returns-in-len1 c = c.constant.ensures []
    ∙ value_at_one (link_result c.args.store.now c.args.instance.now) c.args.code.now _ c.in-len1.len_at_least
    c.in-len1.len_below

pub returns-in_default : goal.returns-in_default
returns-in_default c = value_short (link_result c.args.store.now c.args.instance.now) c.args.code.now
    c.in_default.len_below

pub returns-in_default-2 : goal.returns-in_default-2
returns-in_default-2 c = value_long (link_result c.args.store.now c.args.instance.now) c.args.code.now
    c.in_default.len_at_least
