use Rattle.std.proofs.Common.{◌≡◌, take}
use Rattle.std.specs.Option.{option_copied}
use Rattle.check_body.specs.Imports.{all_imports}
use Rattle.check_body.proofs.imports.all_imports.Given as goal

abbrev pub invariant-loop-one : goal.invariant-loop-one
invariant-loop-one l = l.imports ≡ all_imports l.modules l.tables (option_copied l.own) (take l.one-index l.list)
