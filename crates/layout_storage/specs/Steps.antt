-- A walk over entries that may not be there.
use Rattle.std.specs.Prelude.{Option, Some, None}

abbrev pub if_some : {A X : Type 0} → (A → X → A) → A → Option X → A
if_some f a None = a
if_some f a (Some x) = f a x
