-- The types that are known in a module.
use Rattle.std.specs.Prelude.{ℕ, ℤ, pos, negsuc, Bool, true, false, cond, nat_eq, ◌==◌, List, Option, Some, None, slice_get}
use Rattle.std.specs.Map.{lookup}
use Rattle.typed_tree.specs.declared.types.Home.{Home}
use Rattle.typed_tree.specs.declared.types.Home.TheVariants.{Predeclared, Module}
use Rattle.typed_tree.specs.declared.types.TypeNo.{TypeNo}
use Rattle.typed_tree.specs.declared.shape.Scalar.{Scalar}
use Rattle.typed_tree.specs.declared.shape.Shape.{Shape}
use Rattle.typed_tree.specs.declared.shape.Shape.TheVariants as shape
use Rattle.typed_tree.specs.declared.shape.Made.{Made}
use Rattle.typed_tree.specs.Types.{integer, cardinal, boolean, char}
use Rattle.typed_tree.specs.declared.known_types.Types.{Types}

-- ---- how a type is made

abbrev pub in_list : ℕ → Option (List Made) → Option Made
in_list n None = None
in_list n (Some ms) = slice_get ms n

abbrev pub made_in : Types → (home number : ℕ) → Option Made
made_in types home n =
    cond (home == types.home) (slice_get types.own n)
    (in_list n (lookup (nat_eq home) types.others))

abbrev pub made_from : Types → Home → ℕ → Option Made
made_from types Predeclared n = None
made_from types (Module home) n = made_in types home n

abbrev pub made_at : Types → TypeNo → Option Made
made_at types t = made_from types t.home t.number

-- ---- scalars

abbrev pub range : TypeNo → ℤ → ℤ → Scalar
range base low high = record { base = base; low = low; high = high }

abbrev pub predeclared_scalar : ℕ → Option Scalar
predeclared_scalar n =
    cond (n == 0) (Some (range integer (negsuc 2147483647) (pos 2147483647)))
    (cond (n == 1) (Some (range cardinal (pos 0) (pos 4294967295)))
    (cond (n == 2) (Some (range boolean (pos 0) (pos 1)))
    (cond (n == 3) (Some (range char (pos 0) (pos 255))) None)))

abbrev pub scalar_shape : Shape → Option Scalar
scalar_shape (shape.Scalar s) = Some s
scalar_shape shape.Set = None
scalar_shape (shape.Array i e) = None
scalar_shape (shape.Record fs) = None
scalar_shape (shape.Procedure p) = None
scalar_shape (shape.Open e) = None

abbrev pub scalar_made : Option Made → Option Scalar
scalar_made None = None
scalar_made (Some m) = scalar_shape m.shape

abbrev pub scalar_from : Types → Home → ℕ → Option Scalar
scalar_from types Predeclared n = predeclared_scalar n
scalar_from types (Module home) n = scalar_made (made_in types home n)

abbrev pub scalar_at : Types → TypeNo → Option Scalar
scalar_at types t = scalar_from types t.home t.number

-- ---- cells

abbrev pub cells_made : Option Made → ℕ
cells_made None = 1
cells_made (Some m) = m.cells

abbrev pub cells_at : Types → TypeNo → ℕ
cells_at types t = cells_made (made_at types t)

-- ---- results of functions: no arrays and no records

abbrev pub is_result_shape : Shape → Bool
is_result_shape (shape.Scalar s) = true
is_result_shape shape.Set = true
is_result_shape (shape.Array i e) = false
is_result_shape (shape.Record fs) = false
is_result_shape (shape.Procedure p) = true
is_result_shape (shape.Open e) = false

abbrev pub is_result_made : Option Made → Bool
is_result_made None = false
is_result_made (Some m) = is_result_shape m.shape

abbrev pub is_result_from : Types → Home → ℕ → Bool
is_result_from types Predeclared n = true
is_result_from types (Module home) n = is_result_made (made_in types home n)

abbrev pub is_result : Types → TypeNo → Bool
is_result types t = is_result_from types t.home t.number
