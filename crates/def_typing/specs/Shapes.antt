-- How types are made, and which are alike.
use Rattle.std.specs.Prelude.{◌≡◌, ℕ, Option, Some, None}
use Rattle.std.specs.Option.{option_map}
use Rattle.typed_tree.specs.declared.types.Home.{Home}
use Rattle.typed_tree.specs.declared.types.Home.TheVariants.{Predeclared, Module}
use Rattle.typed_tree.specs.declared.types.TypeNo.{TypeNo}
use Rattle.typed_tree.specs.declared.shape.Scalar.{Scalar as Range}
use Rattle.typed_tree.specs.declared.shape.Shape.{Shape}
use Rattle.typed_tree.specs.declared.shape.Shape.TheVariants as shape
use Rattle.typed_tree.specs.declared.shape.Signature.{Signature}
use Rattle.typed_tree.specs.declared.known_types.Types.{Types}
use Rattle.typed_tree.specs.Known.{made_in, predeclared_scalar}

-- INTEGER, CARDINAL, BOOLEAN and CHAR are scalars, and BITSET is the type of sets.
abbrev pub predeclared_shape : Option Range → Shape
predeclared_shape (Some r) = shape.Scalar r
predeclared_shape None = shape.Set

abbrev pub shape_from : Types → ℕ → Home → Option Shape
shape_from types n Predeclared = Some (predeclared_shape (predeclared_scalar n))
shape_from types n (Module home) = option_map (λ m. m.shape) (made_in types home n)

abbrev pub shape_at : Types → TypeNo → Option Shape
shape_at types t = shape_from types t.number t.home

-- the type is made so
abbrev pub IsMade : Types → TypeNo → Shape → Type 0
IsMade types t s = shape_at types t ≡ Some s

-- Headings agree if they have the same kinds and types of formals and the same result.
pub data Agree (types : Types) (t u : TypeNo) : Type 0 where
  agree : {s : Signature} → IsMade types t (shape.Procedure s) → IsMade types u (shape.Procedure s)
      → Agree types t u
