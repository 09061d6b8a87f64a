use Rattle.std.proofs.Common.{◌≡◌, ◌++◌, map, take}
use Rattle.std.specs.Borrow.{Bor}
use Rattle.m2_tree.specs.declared.decl.Module.{Module}
use Rattle.m2_graph.specs.Order.{body_numbers}
use Rattle.m2_graph.proofs.order.add_bodies.Given as goal

abbrev pub invariant-loop-number : goal.invariant-loop-number
invariant-loop-number l = l.order ≡ l.initial.order
    ++ body_numbers 0 (take l.number (map (λ (m : Bor Module). m.now) l.modules))
