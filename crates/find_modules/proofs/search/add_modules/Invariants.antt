use Rattle.std.proofs.Common.{take}
use Rattle.find_modules.specs.Found.{AreAdded, Knows}
use Rattle.find_modules.proofs.search.add_modules.Given as goal

abbrev pub invariant-loop-name : goal.invariant-loop-name
invariant-loop-name g l = AreAdded (g.F.ModuleFolders.gives l.folders) (g.F.ModuleFolders.count l.folders)
    (take l.name-index l.names) l.fn.modules.items l.modules.items × Knows l.known l.modules.items
