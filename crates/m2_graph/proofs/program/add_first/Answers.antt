use Rattle.std.proofs.Common.{sym, ◌∙◌}
use Rattle.m2_graph.proofs.Tables.{stays, put}
use Rattle.m2_graph.proofs.program.add_first.Goals as goal

pub returns-then-contains_key : goal.returns-then-contains_key
returns-then-contains_key c = stays c.args.table.now c.args.name.now c.args.number
    (sym c.contains_key.ensures ∙ c.if-contains_key.true)

pub returns : goal.returns
returns c = put c.args.table.now c.insert.new.self c.args.name.now c.args.number
    (sym c.contains_key.ensures ∙ c.if-contains_key.false) c.in_ok-insert.ensures.updates.0
