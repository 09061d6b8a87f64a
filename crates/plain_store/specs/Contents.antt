-- What a tree says of a variable and of each of its components.
use Rattle.std.specs.Prelude.{◌≡◌, ℕ, zero, suc, ℤ, pos, ◌<◌, nat_lt, length, List, [], ◌∷◌, ◌++◌, map, Option, Some, None, slice_get, slice_set, if◌then◌else◌}
use Rattle.def_meaning.specs.Store.{Location, overlay}
use Rattle.plain_store.specs.declared.held.Held.{Held, Held-F, fold-Held}
use Rattle.plain_store.specs.declared.held.Held.TheOpen as layer
use Rattle.plain_store.specs.declared.opened_tree.Components.{Components}

abbrev pub Contents : Type 0
Contents = Location → ℤ

abbrev pub or_rest : Option Contents → Contents → Contents
or_rest None rest = rest
or_rest (Some f) rest = f

-- the number of the whole, the numbers of its first components, and the numbers of all others
abbrev pub in_parts : ℤ → List Contents → Contents → Contents
in_parts own parts rest [] = own
in_parts own parts rest (k ∷ r) = or_rest (slice_get parts k) rest r

-- this many components of one kind
abbrev pub in_array : ℕ → Contents → Contents
in_array n one [] = pos 0
in_array n one (k ∷ r) = if nat_lt k n then one r else pos 0

abbrev pub layer_contents : Held-F Contents → Contents
layer_contents (layer.Same v) = λ r. v
layer_contents (layer.Parts own parts rest) = in_parts own parts rest
layer_contents (layer.Array n one) = in_array n one

unfoldable pub contents : Held → Contents
contents = fold-Held Contents layer_contents

-- what a tree holds that may not be there: else all is 0
abbrev pub or_nought : Option Held → Contents
or_nought None r = pos 0
or_nought (Some h) r = contents h r

-- one after another, this many times
abbrev pub repeat_item : {A : Type 0} → ℕ → A → List A
repeat_item zero x = []
repeat_item (suc n) x = repeat_item n x ++ x ∷ []

-- ---- a tree whose first components are at hand

abbrev pub opened_contents : Components → Contents
opened_contents o = in_parts o.own (map contents o.parts) (contents o.rest)

abbrev pub spread : ℤ → List Held → Held → Components
spread own parts rest = record { own = own; parts = parts; rest = rest }

abbrev pub with_component : Components → ℕ → Held → Components
with_component tree k part = record tree { parts = slice_set tree.parts k part }

-- two trees say the same
abbrev pub SaysAs : Contents → Contents → Type 0
SaysAs f g = (l : Location) → f l ≡ g l

-- the same, and the component with this number is at hand
pub record Longer (tree : Components) (number : ℕ) (o : Components) : Type 0 where
  pub says : SaysAs (opened_contents o) (opened_contents tree)
  pub there : number < length o.parts

-- the same as a tree, and the component with this number is at hand
pub record IsOpened (held : Held) (number : ℕ) (o : Components) : Type 0 where
  pub says : SaysAs (opened_contents o) (contents held)
  pub there : number < length o.parts

-- a location and its components hold this, all others what they held
abbrev pub IsReplaced : Location → (new old now : Contents) → Type 0
IsReplaced to new old now = (l : Location) → now l ≡ overlay to new old l

-- what stands behind a location
abbrev pub behind_it : Contents → Location → Contents
behind_it f from r = f (from ++ r)
