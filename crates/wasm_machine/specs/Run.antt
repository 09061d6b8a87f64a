-- What was kept of a list.
use Rattle.std.specs.Prelude.{Bool, true, false, List, Option, Some, None}

abbrev pub if_kept : {A : Type 0} → List A → Bool → Option (List A)
if_kept left false = None
if_kept left true = Some left
