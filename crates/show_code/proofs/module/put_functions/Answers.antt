use Rattle.show_code.proofs.Functions.{one_more, no_more}
use Rattle.show_code.proofs.module.put_functions.Goals as goal

pub loop-number-preserved : goal.loop-number-preserved
loop-number-preserved c =
    one_more c.args.titles.now c.args.page.now c.loop-number.page c.put_function.new.page _ c.loop-number.number
    c.args.functions.now c.index-functions-number.result c.loop-number-test.true c.index-functions-number.is
    c.put_function.ensures c.loop-number.invariant

pub returns : goal.returns
returns c = no_more c.args.titles.now c.args.page.now c.loop-number.page _ c.loop-number.number c.args.functions.now
    c.loop-number-test.false c.loop-number.invariant
