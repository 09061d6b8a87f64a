use Rattle.std.proofs.Common.{[]}
use Rattle.check_body.specs.Imports.{with_import_copy}
use Rattle.check_definition.proofs.Walks.{walked}
use Rattle.check_body.proofs.imports.imports_copy.Goals as goal

pub loop-place-preserved : goal.loop-place-preserved
loop-place-preserved c = walked with_import_copy [] c.args.list.now c.loop-place.place c.loop-place.imports _ _
    c.loop-place.invariant c.get.ensures c.in_ok-with_import_copy_if.ensures
