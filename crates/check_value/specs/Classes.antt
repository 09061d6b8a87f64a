-- What types are, as the checker of bodies sees them.
use Rattle.std.specs.Prelude.{Option, Some, None}
use Rattle.typed_tree.specs.declared.types.Home.{Home}
use Rattle.typed_tree.specs.declared.types.Home.TheVariants.{Predeclared, Module}
use Rattle.typed_tree.specs.declared.types.TypeNo.{TypeNo}
use Rattle.typed_tree.specs.declared.shape.Scalar.{Scalar as Range}
use Rattle.typed_tree.specs.declared.shape.Signature.{Signature}
use Rattle.typed_tree.specs.declared.shape.Shape.{Shape}
use Rattle.typed_tree.specs.declared.shape.Shape.TheVariants as shape
use Rattle.typed_tree.specs.declared.shape.Made.{Made}
use Rattle.typed_tree.specs.declared.known_types.Types.{Types}
use Rattle.typed_tree.specs.Known.{made_at, scalar_at}
use Rattle.check_value.specs.declared.class.Class.{Class}
use Rattle.check_value.specs.declared.class.Class.TheVariants.{Scalar, Set, Procedure, Whole}

abbrev pub class_shape : Shape → Class
class_shape (shape.Scalar s) = Scalar s
class_shape shape.Set = Set
class_shape (shape.Array i e) = Whole
class_shape (shape.Record fs) = Whole
class_shape (shape.Procedure p) = Procedure
class_shape (shape.Open e) = Whole

abbrev pub class_made : Option Made → Class
class_made None = Whole
class_made (Some m) = class_shape m.shape

-- of the predeclared types BITSET alone is no scalar
abbrev pub class_range : Option Range → Class
class_range None = Set
class_range (Some s) = Scalar s

abbrev pub class_from : Types → TypeNo → Home → Class
class_from types t Predeclared = class_range (scalar_at types t)
class_from types t (Module home) = class_made (made_at types t)

abbrev pub class_at : Types → TypeNo → Class
class_at types t = class_from types t t.home

-- ---- procedure types

abbrev pub signature_shape : Shape → Option Signature
signature_shape (shape.Procedure p) = Some p
signature_shape (shape.Scalar s) = None
signature_shape shape.Set = None
signature_shape (shape.Array i e) = None
signature_shape (shape.Record fs) = None
signature_shape (shape.Open e) = None

abbrev pub signature_made : Option Made → Option Signature
signature_made None = None
signature_made (Some m) = signature_shape m.shape

abbrev pub signature_at : Types → TypeNo → Option Signature
signature_at types t = signature_made (made_at types t)

-- ---- arrays: the index and the elements

abbrev pub array_shape : Shape → Option (TypeNo × TypeNo)
array_shape (shape.Array i e) = Some (i, e)
array_shape (shape.Scalar s) = None
array_shape shape.Set = None
array_shape (shape.Record fs) = None
array_shape (shape.Procedure p) = None
array_shape (shape.Open e) = None

abbrev pub array_made : Option Made → Option (TypeNo × TypeNo)
array_made None = None
array_made (Some m) = array_shape m.shape

abbrev pub array_at : Types → TypeNo → Option (TypeNo × TypeNo)
array_at types t = array_made (made_at types t)
