use Rattle.std.proofs.Common.{◌≡◌, ℕ, List, map, take}
use Rattle.std.specs.Borrow.{Bor}
use Rattle.m2_tree.specs.declared.decl.Module.{Module}
use Rattle.m2_graph.specs.Imports.{first_that}
use Rattle.m2_graph.specs.Parts.{bears, number_at}
use Rattle.m2_graph.proofs.program.table_of.Given as goal

abbrev pub invariant-loop-number : goal.invariant-loop-number
invariant-loop-number l = (name : List ℕ)
    → number_at l.table name ≡ first_that (bears l.part name)
    (take l.number (map (λ (m : Bor Module). m.now) l.modules))
