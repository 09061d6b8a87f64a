use Rattle.std.proofs.Common.{[]}
use Rattle.check_body.specs.Imports.{with_module_of}
use Rattle.check_definition.proofs.Walks.{walked}
use Rattle.check_body.proofs.imports.typed_imports.Goals as goal

pub loop-place-preserved : goal.loop-place-preserved
loop-place-preserved c = walked (with_module_of c.args.modules.now c.args.tables.now) [] c.args.names.now
    c.loop-place.place c.loop-place.imports _ _ c.loop-place.invariant c.get.ensures c.in_ok-with_module_if.ensures
