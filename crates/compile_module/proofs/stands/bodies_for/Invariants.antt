use Rattle.std.proofs.Common.{◌≡◌, take}
use Rattle.std.specs.List.{flat_map}
use Rattle.build_jobs.specs.Borrowed.{modules_borrowed}
use Rattle.compile_module.specs.Stands.{body_for}
use Rattle.compile_module.proofs.stands.bodies_for.Given as goal

abbrev pub invariant-loop-tree : goal.invariant-loop-tree
invariant-loop-tree l = l.stands.items ≡ flat_map (body_for l.first) (modules_borrowed (take l.tree-index l.trees))
