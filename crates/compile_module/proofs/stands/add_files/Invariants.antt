use Rattle.std.proofs.Common.{◌≡◌, ◌++◌, take}
use Rattle.build_jobs.specs.Borrowed.{borrow_trees}
use Rattle.compile_module.proofs.stands.add_files.Given as goal

abbrev pub invariant-loop-tree : goal.invariant-loop-tree
invariant-loop-tree l = borrow_trees l.all.items ≡ borrow_trees l.fn.all.items
    ++ borrow_trees (take l.tree-index l.trees)
