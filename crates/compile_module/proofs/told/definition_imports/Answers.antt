use Rattle.list_imports.specs.Listed.{texts}
use Rattle.compile_module.proofs.Telling.{definitions_more}
use Rattle.compile_module.proofs.told.definition_imports.Goals as goal

pub loop-tree-preserved : goal.loop-tree-preserved
loop-tree-preserved c =
    let l = c.loop-tree in
    definitions_more c.args.name.now (texts l.imports.items) (texts c.add_definition.new.imports.items) c.args.trees.now
    l.tree-index c.tree-item.result c.loop-tree-test.true c.tree-item.is l.invariant c.in_ok-add_definition.ensures
