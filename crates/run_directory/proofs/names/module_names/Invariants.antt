use Rattle.std.proofs.Common.{◌≡◌, take, map}
use Rattle.std.specs.String.{string_bytes}
use Rattle.run_directory.specs.Directory.{module_names}
use Rattle.run_directory.proofs.names.module_names.Given as goal

abbrev pub invariant-loop-export : goal.invariant-loop-export
invariant-loop-export l = map string_bytes l.names.items ≡ module_names (take l.export-index l.exports)
