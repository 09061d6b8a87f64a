-- The numbers of the types of functions, by how many arguments these have.
use Rattle.std.specs.Prelude.{◌≡◌, ℕ, Bool, true, false, List, map, Option, Some, None, slice_get, if◌then◌else◌}
use Rattle.def_scheme.specs.Signatures.{signature, is_same, body_signature, number_of}
use Rattle.emit_tables.specs.declared.signature.Signature.{Signature}
use Rattle.emit_tables.specs.declared.signature.Numbers.{Numbers}
use Rattle.emit_tables.specs.Seen.{meaning_of}

abbrev pub number_at : Option Numbers → Bool → ℕ
number_at None r = 6
number_at (Some x) true = x.giving
number_at (Some x) false = x.without

abbrev pub number_in : List Numbers → ℕ → Bool → ℕ
number_in rows n r =
    if is_same (signature n r) body_signature then 5 else number_at (slice_get rows n) r

-- the table has the number of each type in the list
abbrev pub AreNumbers : List Signature → List Numbers → Type 0
AreNumbers list rows = (n : ℕ) (r : Bool) → number_in rows n r ≡ number_of (map meaning_of list) n r
