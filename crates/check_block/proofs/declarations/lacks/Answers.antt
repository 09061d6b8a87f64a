use Rattle.std.proofs.Common.{false}
use Rattle.check_block.specs.Declarations.{or_awaited}
use Rattle.check_definition.proofs.Walks.{walked}
use Rattle.check_block.proofs.declarations.lacks.Goals as goal

pub loop-place-preserved : goal.loop-place-preserved
loop-place-preserved c = walked or_awaited false c.args.own.now c.loop-place.place c.loop-place.found _ _
    c.loop-place.invariant c.get.ensures c.or_awaited_if-found.ensures
