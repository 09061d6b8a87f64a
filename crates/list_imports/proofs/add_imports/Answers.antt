use Rattle.list_imports.specs.Listed.{texts}
use Rattle.list_imports.proofs.Adding.{imports_more}
use Rattle.list_imports.proofs.add_imports.Goals as goal

pub loop-import-preserved : goal.loop-import-preserved
loop-import-preserved c =
    let l = c.loop-import in
    imports_more (texts c.args.names.now.items) (texts l.names.items) (texts c.add_import.new.names.items)
    c.args.tree.now.imports c.as_slice-import-items.result.now l.import-index c.import-item.result
    c.as_slice-import-items.ensures c.loop-import-test.true c.import-item.is l.invariant c.in_ok-add_import.ensures
