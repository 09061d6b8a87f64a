use Rattle.std.proofs.Common.{◌≡◌, map, take}
use Rattle.std.specs.Borrow.{Bor}
use Rattle.m2_tree.specs.declared.decl.Module.{Module}
use Rattle.m2_graph.specs.Imports.{is_definition}
use Rattle.m2_graph.proofs.order.definition_flags.Given as goal

abbrev pub invariant-loop-module : goal.invariant-loop-module
invariant-loop-module l = l.flags.items ≡ map (λ (b : Bor Module). is_definition b.now) (take l.module-index l.modules)
