use Rattle.std.proofs.Common.{◌≡◌, map, take}
use Rattle.std.specs.Borrow.{Bor}
use Rattle.m2_tree.specs.declared.decl.Module.{Module}
use Rattle.m2_graph.specs.Program.{modules_of}
use Rattle.m2_graph.specs.Imports.{links_of}
use Rattle.m2_graph.proofs.imports.links.Given as goal

abbrev pub invariant-loop-module : goal.invariant-loop-module
invariant-loop-module l = l.all.items ≡ map (λ (b : Bor Module). links_of (modules_of l.program) b.now)
    (take l.module-index l.program.modules.now)
