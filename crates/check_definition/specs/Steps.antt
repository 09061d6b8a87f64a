-- Walks over the entries of a list.
use Rattle.std.specs.Prelude.{Option, Some, None}

-- one step, if there is an entry
abbrev pub if_some : {A X : Type 0} → (A → X → A) → A → Option X → A
if_some f a None = a
if_some f a (Some x) = f a x
