use Rattle.std.proofs.Common.{◌≡◌, ◌++◌, take, map}
use Rattle.build_jobs.specs.Borrowed.{borrow_trees}
use Rattle.compile_module.specs.Stands.{stand_file}
use Rattle.compile_module.proofs.stands.add_stands.Given as goal

abbrev pub invariant-loop-stand : goal.invariant-loop-stand
invariant-loop-stand l =
    borrow_trees l.all.items ≡ borrow_trees l.fn.all.items ++ map (λ m. (stand_file, m)) (take l.stand-index l.stands)
