use Rattle.std.proofs.Common.{◌≡◌, ◌++◌, drop}
use Rattle.build_results.specs.Texts.{trees_of}
use Rattle.build_jobs.specs.Borrowed.{borrow_trees}
use Rattle.build_results.proofs.texts.trees_of.Given as goal

abbrev pub invariant-loop-k : goal.invariant-loop-k
invariant-loop-k l = borrow_trees l.trees.items
    ++ trees_of (drop l.k l.files) (drop l.k l.reads) ≡ trees_of l.files l.reads
