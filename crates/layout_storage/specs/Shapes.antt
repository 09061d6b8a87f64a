-- The tree of each type that a module knows. A type names only types that stand before it, so the
-- trees are made in order.
use Rattle.std.specs.Prelude.{ℕ, ◌+◌, ◌-ℤ◌, nat_eq, unsigned_abs, length, List, [], ◌∷◌, ◌++◌, map, Option, Some, None, slice_get, if◌then◌else◌}
use Rattle.std.specs.List.{fold}
use Rattle.std.specs.Map.{lookup}
use Rattle.typed_tree.specs.declared.types.Home.{Home}
use Rattle.typed_tree.specs.declared.types.Home.TheVariants.{Predeclared, Module}
use Rattle.typed_tree.specs.declared.types.TypeNo.{TypeNo}
use Rattle.typed_tree.specs.declared.shape.Scalar.{Scalar as Range}
use Rattle.typed_tree.specs.declared.shape.Formal.{Formal}
use Rattle.typed_tree.specs.declared.shape.Shape.{Shape}
use Rattle.typed_tree.specs.declared.shape.Shape.TheVariants as shape
use Rattle.typed_tree.specs.declared.shape.Made.{Made}
use Rattle.typed_tree.specs.declared.known_types.Types.{Types}
use Rattle.typed_tree.specs.Types.{are_same, is_integer}
use Rattle.typed_tree.specs.Known.{predeclared_scalar, scalar_at}
use Rattle.layout_storage.specs.Types.{Passing, ByValue, ByName, AsOpen, Ty, Scalar, Natural, Integer, Between, Callable, Cell, Array, Nothing, Heading, Proper, Function, Takes, row}

-- BITSET: numbers of 32 bits
abbrev pub word : Ty
word = Cell (Natural 4294967295)

-- a scalar type is INTEGER, another base, whose numbers begin with 0, or a subrange
abbrev pub scalar_kind : TypeNo → Range → Scalar
scalar_kind t s =
    if are_same t s.base
    then (if is_integer t then Integer else Natural (unsigned_abs s.high))
    else Between s.low s.high

-- how many elements an array with this index has
abbrev pub elements_of : Option Range → ℕ
elements_of None = 0
elements_of (Some s) = unsigned_abs (s.high -ℤ s.low) + 1

-- the trees of the types that stand before, each module's under its number
abbrev pub Trees : Type 0
Trees = List (ℕ × List Ty)

abbrev pub or_nothing : Option Ty → Ty
or_nothing None = Nothing
or_nothing (Some t) = t

abbrev pub in_module : Option (List Ty) → ℕ → Ty
in_module None n = Nothing
in_module (Some ts) n = or_nothing (slice_get ts n)

abbrev pub scalar_tree : TypeNo → Option Range → Ty
scalar_tree t None = word
scalar_tree t (Some s) = Cell (scalar_kind t s)

abbrev pub tree_from : Trees → TypeNo → Home → Ty
tree_from before t Predeclared = scalar_tree t (predeclared_scalar t.number)
tree_from before t (Module home) = in_module (lookup (nat_eq home) before) t.number

abbrev pub tree_in : Trees → TypeNo → Ty
tree_in before t = tree_from before t t.home

-- how a formal is passed
abbrev pub passing_of : Formal → Passing
passing_of f = if f.is_open then AsOpen f.is_var else (if f.is_var then ByName else ByValue)

abbrev pub result_tree : Trees → Option TypeNo → Heading
result_tree before None = Proper
result_tree before (Some t) = Function (tree_in before t)

-- the heading of these formals and this result
abbrev pub heading_tree : Trees → List Formal → Option TypeNo → Heading
heading_tree before [] result = result_tree before result
heading_tree before (f ∷ fs) result =
    Takes (passing_of f) (tree_in before f.of) (heading_tree before fs result)

abbrev pub shape_tree : Types → Trees → TypeNo → Shape → Ty
shape_tree types before t (shape.Scalar s) = Cell (scalar_kind t s)
shape_tree types before t shape.Set = word
shape_tree types before t (shape.Array i e) =
    Array (elements_of (scalar_at types i)) (tree_in before e)
shape_tree types before t (shape.Record fs) = row (map (λ f. tree_in before f.1) fs)
shape_tree types before t (shape.Procedure p) =
    Cell (Callable (heading_tree before p.formals p.result))
shape_tree types before t (shape.Open e) = Nothing

-- the types of a module, each from those before it
abbrev pub with_made : Types → Trees → (home : ℕ) → List Ty → Made → List Ty
with_made types before home ts m =
    ts
    ++ shape_tree types ((home, ts) ∷ before) (record { home = Module home; number = length ts })
    m.shape
    ∷ []

abbrev pub module_trees : Types → Trees → (home : ℕ) → List Made → List Ty
module_trees types before home ms = fold (with_made types before home) [] ms

abbrev pub with_module : Types → Trees → ℕ × List Made → Trees
with_module types before e = before ++ (e.0, module_trees types before e.0 e.1) ∷ []

abbrev pub other_trees : Types → Trees
other_trees types = fold (with_module types) [] types.others

-- The trees of all types that a module knows. The trees of an implementation stand before the trees
-- of its definition, which others may know under the same number: the module has these and more.
unfoldable pub known_trees : Types → Trees
known_trees types =
    (types.home, module_trees types (other_trees types) types.home types.own) ∷ other_trees types

abbrev pub tree : Types → TypeNo → Ty
tree types t = tree_in (known_trees types) t
