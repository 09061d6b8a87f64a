use Rattle.std.proofs.Common.{◌≡◌, take, map}
use Rattle.std.specs.String.{string_bytes}
use Rattle.empty_modules.specs.Empty.{import_of}
use Rattle.link_parts.proofs.stands.imports_of.Given as goal

abbrev pub invariant-loop-name : goal.invariant-loop-name
invariant-loop-name l = l.imports ≡ map (λ n. import_of (string_bytes n)) (take l.name-index l.names)
