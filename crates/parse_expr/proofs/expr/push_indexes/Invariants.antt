use Rattle.std.proofs.Common.{◌≡◌, ◌++◌}
use Rattle.std.specs.Prelude.{map}
use Rattle.m2_tree.specs.declared.expr.Selector.TheVariants.{Index}
use Rattle.parse_expr.proofs.expr.push_indexes.Given as goal

abbrev pub invariant-loop-index : goal.invariant-loop-index
invariant-loop-index l = l.found ≡ l.fn.found ++ map (Index l.fn.bracket) l.yielded
