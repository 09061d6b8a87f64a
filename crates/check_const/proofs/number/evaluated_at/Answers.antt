use Rattle.std.proofs.Common.{◌∙◌, sym}
use Rattle.check_const.specs.Numbers.{whole_arithmetic}
use Rattle.check_const.proofs.Unfit.{no_fit, reported_of}
use Rattle.check_const.proofs.number.evaluated_at.Goals as goal

pub returns-in-None : goal.returns-in-None
returns-in-None c = c.report.ensures ∙ sym
    (reported_of c.args.at c.args.sort (whole_arithmetic c.args.op c.args.x c.args.y)
    (no_fit (whole_arithmetic c.args.op) c.args.x c.args.y c.ranges.x c.ranges.y (λ f. c.in-None.ensures f)))
