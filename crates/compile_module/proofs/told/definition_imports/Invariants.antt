use Rattle.std.proofs.Common.{◌≡◌, [], take}
use Rattle.std.specs.List.{flat_map}
use Rattle.build_jobs.specs.Borrowed.{modules_borrowed}
use Rattle.list_imports.specs.Listed.{texts, told, with_new}
use Rattle.compile_module.specs.Told.{definition_imports}
use Rattle.compile_module.proofs.told.definition_imports.Given as goal

abbrev pub invariant-loop-tree : goal.invariant-loop-tree
invariant-loop-tree l =
    texts l.imports.items
    ≡ with_new [] (told (flat_map (definition_imports l.name) (modules_borrowed (take l.tree-index l.trees))))
