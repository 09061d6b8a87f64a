use Rattle.std.proofs.Common.{arith}
use Rattle.show_refusals.proofs.Cuts.{cut}
use Rattle.show_refusals.proofs.picture.part_around.Goals as goal

pub returns : goal.returns
returns c =
    let first = c.first_shown-first.result in (
      first,
      cut c.args.spot.now.line.now first c.min-last.result c.min-last.ensures,
      omega
          (arith, c.first_shown-first.ensures.before),
    )
