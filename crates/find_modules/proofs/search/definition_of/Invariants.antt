use Rattle.find_modules.specs.Found.{LackIt}
use Rattle.find_modules.proofs.search.definition_of.Given as goal

abbrev pub invariant-loop-folder : goal.invariant-loop-folder
invariant-loop-folder g l = LackIt (g.F.ModuleFolders.gives l.folders) l.folder l.name
