use Rattle.std.proofs.Common.{Ok}
use Rattle.check_scope.specs.Elaborated.{least}
use Rattle.check_definition.specs.Importing.{with_entry}
use Rattle.check_definition.proofs.Walks.{walked_from}
use Rattle.check_definition.proofs.importing.bring_all.Goals as goal

pub loop-k-preserved : goal.loop-k-preserved
loop-k-preserved c = walked_from (with_entry least c.args.at c.args.place) (c.args.scope.now, Ok tt) c.args.exported.now
    c.args.first c.loop-k.k (c.loop-k.scope, c.loop-k.elaborated) _ _ c.loop-k.invariant c.get-entry.ensures
    c.in_ok-elaborated.ensures
