-- What a signature of the code stands for.
use Rattle.def_scheme.specs.Signatures.{Signature as Meant, signature}
use Rattle.emit_tables.specs.declared.signature.Signature.{Signature}

abbrev pub meaning_of : Signature → Meant
meaning_of s = signature s.arguments s.has_result
