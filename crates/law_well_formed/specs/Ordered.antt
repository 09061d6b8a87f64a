-- Types stand in order: a type names only types that stand before it, and its cells are counted
-- from theirs.
use Rattle.std.specs.Prelude.{◌≡◌, ℕ, ◌+◌, ◌*◌, ◌≤◌, Bool, true, List, [], ◌∷◌, ◌++◌, map, Option, Some, None, nat_eq}
use Rattle.std.specs.List.{AllByRecursion}
use Rattle.std.specs.Map.{lookup}
use Rattle.typed_tree.specs.declared.types.Home.{Home}
use Rattle.typed_tree.specs.declared.types.Home.TheVariants.{Predeclared, Module}
use Rattle.typed_tree.specs.declared.types.TypeNo.{TypeNo}
use Rattle.typed_tree.specs.declared.shape.Shape.{Shape}
use Rattle.typed_tree.specs.declared.shape.Shape.TheVariants as shape
use Rattle.typed_tree.specs.declared.shape.Made.{Made}
use Rattle.typed_tree.specs.declared.known_types.Types.{Types}
use Rattle.typed_tree.specs.Known.{made_at, cells_at}
use Rattle.check_type_expr.specs.Cells.{count_at}
use Rattle.layout_storage.specs.Shapes.{shape_tree, known_trees, tree}
use Rattle.law_modules.specs.There.{is_type_from, is_type, are_whole}
pub use Rattle.law_modules.specs.There.{result_named, named_by}
pub use Rattle.m2_tree.specs.Limits.{max_cells}

-- ---- types that are known

abbrev pub is_known_from : Types → Home → ℕ → Bool
is_known_from types home n = is_type_from types home n

-- a type is predeclared, or it stands among these types
abbrev pub is_known : Types → TypeNo → Bool
is_known types t = is_type types t

abbrev pub AreKnown : Types → List TypeNo → Type 0
AreKnown types ts = AllByRecursion (λ t. is_known types t ≡ true) ts

-- ---- cells

abbrev pub cells_of_fields : Types → List (List ℕ × TypeNo) → ℕ
cells_of_fields types [] = 0
cells_of_fields types (f ∷ fs) = cells_at types f.1 + cells_of_fields types fs

-- of an array the cells of its elements, of a record the cells of its fields in all, and else one
abbrev pub cells_of : Types → Shape → ℕ
cells_of types (shape.Scalar s) = 1
cells_of types shape.Set = 1
cells_of types (shape.Array i e) = count_at types i * cells_at types e
cells_of types (shape.Record fs) = cells_of_fields types fs
cells_of types (shape.Procedure p) = 1
cells_of types (shape.Open e) = 1

-- ---- types in order

-- A type that is made names only these types, and its cells are counted from theirs.
pub record Follows (types : Types) (m : Made) : Type 0 where
  pub known : AreKnown types (named_by m.shape)
  pub counted : m.cells ≡ cells_of types m.shape
  pub few : m.cells ≤ max_cells

-- Behind these types of a module, each further one follows those that stand before it: in the
-- module, or in the others.
abbrev pub AreOrderedFrom : (others : List (ℕ × List Made)) → (home : ℕ) → (before : List Made)
    → List Made → Type 0
AreOrderedFrom others home before [] = Unit {0}
AreOrderedFrom others home before (m ∷ ms) =
    Follows (record { home = home; own = before; others = others }) m
    × AreOrderedFrom others home (before ++ m ∷ []) ms

-- Behind these modules each further one has a number of its own, and its types name those that
-- stand before.
abbrev pub OthersOrdered : (before : List (ℕ × List Made)) → List (ℕ × List Made) → Type 0
OthersOrdered before [] = Unit {0}
OthersOrdered before (e ∷ es) =
    (lookup (nat_eq e.0) before ≡ None)
    × (AreOrderedFrom before e.0 [] e.1 × OthersOrdered (before ++ e ∷ []) es)

-- the types of an implementation begin with those that others know of its definition
abbrev pub BeginsWith : (own : List Made) → Option (List Made) → Type 0
BeginsWith own None = Unit {0}
BeginsWith own (Some known) = (more : List Made) × (own ≡ known ++ more)

-- All types that a module knows stand in order. Its own stand behind the types of all others.
pub record AreOrdered (types : Types) : Type 0 where
  pub own : AreOrderedFrom types.others types.home [] types.own
  pub others : OthersOrdered [] types.others
  pub alike : BeginsWith types.own (lookup (nat_eq types.home) types.others)

-- ---- what is proved of them

-- The tree of a type that is made is by its shape, from the trees of all types that are known.
abbrev pub TreesAreByShape : Type 0
TreesAreByShape =
    (types : Types) → AreOrdered types → (t : TypeNo) (m : Made) → made_at types t ≡ Some m
    → tree types t ≡ shape_tree types (known_trees types) t m.shape

-- The types that a type names are known.
abbrev pub NamedAreKnown : Type 0
NamedAreKnown =
    (types : Types) → AreOrdered types → (t : TypeNo) (m : Made) → made_at types t ≡ Some m
    → AreKnown types (named_by m.shape)

-- Each type that is known names types that are there.
abbrev pub TypesAreWhole : Type 0
TypesAreWhole = (types : Types) → AreOrdered types → are_whole types ≡ true
