-- What the code keeps of the storage of types: sizes and offsets in 32 bits.
use Rattle.std.specs.Prelude.{ℕ, Bool, true, false, ◌+◌, ◌*◌, ◌≡◌, nat_eq, List, [], ◌∷◌, ◌++◌, Option, Some, None, slice_get}
use Rattle.std.specs.Map.{lookup}
use Rattle.typed_tree.specs.declared.types.Home.{Home}
use Rattle.typed_tree.specs.declared.types.Home.TheVariants.{Predeclared, Module}
use Rattle.typed_tree.specs.declared.types.TypeNo.{TypeNo}
use Rattle.typed_tree.specs.declared.shape.Scalar.{Scalar as Range}
use Rattle.typed_tree.specs.declared.known_types.Types.{Types}
use Rattle.typed_tree.specs.Known.{predeclared_scalar}
use Rattle.layout_storage.specs.declared.kind.Kind.{Kind}
use Rattle.layout_storage.specs.declared.kind.Kind.TheVariants as kind
use Rattle.layout_storage.specs.declared.kind.Width.{Width}
use Rattle.layout_storage.specs.declared.kind.Width.TheVariants as wide
use Rattle.layout_storage.specs.declared.row.Row.{Row}
use Rattle.layout_storage.specs.declared.extent.Extent.{Extent}
use Rattle.layout_storage.specs.declared.extent.Extent.TheVariants as extent
use Rattle.layout_storage.specs.Capped.{cap_size}
use Rattle.layout_storage.specs.Types.{Ty, Scalar, Natural, Integer, Between, Callable, Cell, Hidden, Array, Nothing, Field}
use Rattle.layout_storage.specs.Sizes.{Room, One, Two, Four, width, size}
use Rattle.layout_storage.specs.Shapes.{scalar_kind, tree}

-- ---- scalars

abbrev pub kind_of : Scalar → Kind
kind_of (Natural g) = kind.Natural g
kind_of Integer = kind.Integer
kind_of (Between l g) = kind.Between l g
kind_of (Callable h) = kind.Natural 4294967295

abbrev pub scalar_of : Kind → Scalar
scalar_of (kind.Natural g) = Natural g
scalar_of kind.Integer = Integer
scalar_of (kind.Between l g) = Between l g

abbrev pub width_of : Room → Width
width_of One = wide.One
width_of Two = wide.Two
width_of Four = wide.Four

-- ---- rows: parts that stand one after another

-- the offsets of parts of these sizes, the first of which begins here
abbrev pub starts : ℕ → List ℕ → List ℕ
starts at [] = []
starts at (n ∷ ns) = cap_size at ∷ starts (at + n) ns

abbrev pub total : List ℕ → ℕ
total [] = 0
total (n ∷ ns) = n + total ns

-- and where the last of them ends
abbrev pub row_of : ℕ → List ℕ → Row
row_of at ns = record { starts = starts at ns; size = cap_size (at + total ns) }

-- a row begins, and gets one more part
abbrev pub begin_row : ℕ → Row
begin_row at = record { starts = []; size = at }

abbrev pub with_part : Row → ℕ → Row
with_part r n = record { starts = r.starts ++ r.size ∷ []; size = cap_size (r.size + n) }

-- the offset of a part, or else where the last ends
abbrev pub or_end : ℕ → Option ℕ → ℕ
or_end end None = end
or_end end (Some at) = at

abbrev pub start_in : Row → ℕ → ℕ
start_in r k = or_end r.size (slice_get r.starts k)

-- ---- extents of types

abbrev pub fields : Ty → List ℕ
fields (Field t others) = size t ∷ fields others
fields (Cell c) = []
fields (Hidden n) = []
fields (Array n t) = []
fields Nothing = []

-- what is kept of a type
abbrev pub extent_of : Ty → Extent
extent_of (Cell c) = extent.Cell (kind_of c)
extent_of (Hidden n) = extent.Array 0 (cap_size n)
extent_of (Array n t) = extent.Array (cap_size (size t)) (cap_size (n * size t))
extent_of Nothing = extent.Row (row_of 0 [])
extent_of (Field t others) = extent.Row (row_of 0 (fields (Field t others)))

abbrev pub size_in : Extent → ℕ
size_in (extent.Cell k) = width (scalar_of k)
size_in (extent.Array one all) = all
size_in (extent.Row r) = r.size

-- the size of an element
abbrev pub element_in : Extent → ℕ
element_in (extent.Cell k) = 0
element_in (extent.Array one all) = one
element_in (extent.Row r) = 0

-- the offset of a component
abbrev pub field_in : Extent → ℕ → ℕ
field_in (extent.Cell k) n = 0
field_in (extent.Array one all) n = cap_size (cap_size n * one)
field_in (extent.Row r) n = start_in r n

abbrev pub kind_in : Extent → Option Kind
kind_in (extent.Cell k) = Some k
kind_in (extent.Array one all) = None
kind_in (extent.Row r) = None

-- what these are of a type
abbrev pub element_tree : Ty → Ty
element_tree (Array n t) = t
element_tree (Cell c) = Nothing
element_tree (Hidden n) = Nothing
element_tree Nothing = Nothing
element_tree (Field t others) = Nothing

abbrev pub kind_of_tree : Ty → Option Kind
kind_of_tree (Cell c) = Some (kind_of c)
kind_of_tree (Hidden n) = None
kind_of_tree (Array n t) = None
kind_of_tree Nothing = None
kind_of_tree (Field t others) = None

abbrev pub is_there : {A : Type 0} → Option A → Bool
is_there None = false
is_there (Some x) = true

-- ---- the extents of the types that a module knows, each module's under its number

abbrev pub Known : Type 0
Known = List (ℕ × List Extent)

abbrev pub word : Extent
word = extent.Cell (kind.Natural 4294967295)

abbrev pub nothing : Extent
nothing = extent.Row (begin_row 0)

abbrev pub or_nothing : Option Extent → Extent
or_nothing None = nothing
or_nothing (Some x) = x

abbrev pub in_module : Option (List Extent) → ℕ → Option Extent
in_module None n = None
in_module (Some xs) n = slice_get xs n

abbrev pub scalar_extent : TypeNo → Option Range → Extent
scalar_extent t None = word
scalar_extent t (Some s) = extent.Cell (kind_of (scalar_kind t s))

abbrev pub extent_from : Known → TypeNo → Home → Extent
extent_from known t Predeclared = scalar_extent t (predeclared_scalar t.number)
extent_from known t (Module home) = or_nothing (in_module (lookup (nat_eq home) known) t.number)

abbrev pub extent_in : Known → TypeNo → Extent
extent_in known t = extent_from known t t.home

-- a field and then the others, to the end of the record
abbrev pub IsRecord : Ty → Type 0
IsRecord (Cell c) = ⊥
IsRecord (Hidden n) = ⊥
IsRecord (Array n t) = ⊥
IsRecord Nothing = Unit {0}
IsRecord (Field t others) = IsRecord others

abbrev pub IsMade : Ty → Type 0
IsMade (Cell c) = Unit {0}
IsMade (Hidden n) = Unit {0}
IsMade (Array n t) = Unit {0}
IsMade Nothing = Unit {0}
IsMade (Field t others) = IsRecord others

-- what was found of each type
pub record AreExtents (types : Types) (known : Known) : Type 0 where
  pub of : (t : TypeNo) → extent_in known t ≡ extent_of (tree types t)
  pub are_made : (t : TypeNo) → IsMade (tree types t)
