use Rattle.std.proofs.Common.{◌≡◌, take}
use Rattle.std.specs.List.{flat_map}
use Rattle.find_modules.specs.Imports.{named_by}
use Rattle.find_modules.proofs.imports.names_of_imports.Given as goal

abbrev pub invariant-loop-import : goal.invariant-loop-import
invariant-loop-import l = l.names.items ≡ flat_map named_by (take l.import-index l.imports)
