use Rattle.find_modules.specs.Found.{Knows}
use Rattle.find_modules.proofs.Steps.{IsSoFar}
use Rattle.find_modules.proofs.search.find.Given as goal

abbrev pub invariant-loop-at : goal.invariant-loop-at
invariant-loop-at g l = IsSoFar (g.F.ModuleFolders.gives l.folders) (g.F.ModuleFolders.count l.folders) l.program l.at
    l.modules.items × Knows l.known l.modules.items
