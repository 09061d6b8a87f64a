use Rattle.std.proofs.Common.{◌≡◌, ◌++◌, take, map}
use Rattle.def_scheme.specs.Signatures.{type_of}
use Rattle.emit_tables.specs.Seen.{meaning_of}
use Rattle.m2_emit.proofs.types.push_types.Given as goal

abbrev pub invariant-loop-signature : goal.invariant-loop-signature
invariant-loop-signature l = l.types ≡ l.fn.types ++ map type_of (map meaning_of (take l.signature-index l.signatures))
