use Rattle.tool_modules.proofs.Telling.{one_more}
use Rattle.tool_modules.proofs.parts.interfaces_of.Goals as goal

pub loop-it-preserved : goal.loop-it-preserved
loop-it-preserved c =
    one_more c.args.files.now c.args.needed.now c.loop-it.it-index c.it-item.result c.in_ok-interface_of.field-0
    c.loop-it.interfaces.items c.push.new.self.items
    c.loop-it-test.true c.it-item.is c.loop-it.invariant c.in_ok-interface_of.ensures c.in_ok-push.ensures.items
