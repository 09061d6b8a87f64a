use Rattle.std.proofs.Common.{◌≡◌, map, take}
use Rattle.std.specs.Borrow.{Bor}
use Rattle.m2_tree.specs.declared.decl.Module.{Module}
use Rattle.m2_graph.specs.declared.sources.Source.{Source}
use Rattle.m2_graph.proofs.sources.trees.Given as goal

abbrev pub invariant-loop-source : goal.invariant-loop-source
invariant-loop-source l = map (λ (m : Bor Module). m.now) l.all.items
    ≡ map (λ (s : Source). s.tree.now) (take l.source-index l.sources)
