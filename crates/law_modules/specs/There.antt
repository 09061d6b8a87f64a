-- The types that are there: predeclared ones, and those that stand among the types of a module.
use Rattle.std.specs.Prelude.{ℕ, Bool, true, ◌&&◌, nat_lt, List, [], ◌∷◌, ◌++◌, map, Option, Some, None}
use Rattle.std.specs.Option.{is_some}
use Rattle.typed_tree.specs.declared.types.Home.{Home}
use Rattle.typed_tree.specs.declared.types.Home.TheVariants.{Predeclared, Module}
use Rattle.typed_tree.specs.declared.types.TypeNo.{TypeNo}
use Rattle.typed_tree.specs.declared.shape.Shape.{Shape}
use Rattle.typed_tree.specs.declared.shape.Shape.TheVariants as shape
use Rattle.typed_tree.specs.declared.shape.Made.{Made}
use Rattle.typed_tree.specs.declared.known_types.Types.{Types}
use Rattle.typed_tree.specs.Known.{made_in}

-- ---- the types that a type names

abbrev pub result_named : Option TypeNo → List TypeNo
result_named None = []
result_named (Some t) = t ∷ []

-- a shape names these types; what a scalar type computes in is no part of it
abbrev pub named_by : Shape → List TypeNo
named_by (shape.Scalar s) = []
named_by shape.Set = []
named_by (shape.Array i e) = i ∷ e ∷ []
named_by (shape.Record fs) = map (λ f. f.1) fs
named_by (shape.Procedure p) = map (λ f. f.of) p.formals ++ result_named p.result
named_by (shape.Open e) = e ∷ []

-- ---- one type

-- INTEGER, CARDINAL, BOOLEAN, CHAR and BITSET have the numbers below
abbrev pub predeclared_types : ℕ
predeclared_types = 5

abbrev pub is_type_from : Types → Home → ℕ → Bool
is_type_from types Predeclared n = nat_lt n predeclared_types
is_type_from types (Module home) n = is_some (made_in types home n)

-- a type is predeclared, or it stands among these types
abbrev pub is_type : Types → TypeNo → Bool
is_type types t = is_type_from types t.home t.number

-- ---- all types

abbrev pub are_types : Types → List TypeNo → Bool
are_types types [] = true
are_types types (t ∷ ts) = is_type types t && are_types types ts

abbrev pub name_types : Types → List Made → Bool
name_types types [] = true
name_types types (m ∷ ms) = are_types types (named_by m.shape) && name_types types ms

abbrev pub others_name_types : Types → List (ℕ × List Made) → Bool
others_name_types types [] = true
others_name_types types (e ∷ es) = name_types types e.1 && others_name_types types es

-- each type that stands among them names types that are there
abbrev pub are_whole : Types → Bool
are_whole types = name_types types types.own && others_name_types types types.others
