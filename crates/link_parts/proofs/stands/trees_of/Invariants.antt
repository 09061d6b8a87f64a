use Rattle.std.proofs.Common.{◌≡◌, take, map}
use Rattle.build_jobs.specs.Borrowed.{borrow_trees}
use Rattle.link_parts.specs.Stands.{stand_of, trees_of}
use Rattle.link_parts.proofs.stands.trees_of.Given as goal

abbrev pub invariant-loop-stand : goal.invariant-loop-stand
invariant-loop-stand l = borrow_trees l.trees.items ≡ trees_of (map stand_of (take l.stand-index l.stands))
