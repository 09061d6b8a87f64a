-- Classes of check_value, with other numbers of modules.
use Rattle.check_value.specs.Classes.{class_shape, array_shape, array_made, class_made, signature_shape, signature_at, array_at, signature_made, class_from, class_range, class_at}
use Rattle.def_exchange.specs.Moved.{moved_home, moved_made, moved_scalar, moved_shape, moved_signature, moved_type, moved_types, Exchange}
use Rattle.law_exchange_types.proofs.Known.{scalar_at_moves, made_at_moves}
use Rattle.law_exchange_types.specs.Pieces.{moved_pair}
use Rattle.law_exchange_types.specs.Values.{moved_class}
use Rattle.std.proofs.Common.{◌≡◌, refl, None, Option, Some, option_map}
use Rattle.typed_tree.specs.declared.known_types.Types.{Types}
use Rattle.typed_tree.specs.declared.shape.Made.{Made}
use Rattle.typed_tree.specs.declared.shape.Scalar.{Scalar as Range}
use Rattle.typed_tree.specs.declared.shape.Shape.{Shape}
use Rattle.typed_tree.specs.declared.types.Home.{Home}
use Rattle.typed_tree.specs.declared.types.Home.TheVariants.{Predeclared, Module}
use Rattle.typed_tree.specs.declared.types.TypeNo.{TypeNo}
use Rattle.typed_tree.specs.declared.shape.Shape.TheVariants as shape

pub class_shape_moves : (z : Exchange) (a0 : Shape)
    → class_shape (moved_shape z a0) ≡ moved_class z (class_shape a0)
class_shape_moves z (shape.Scalar s) = refl
class_shape_moves z shape.Set = refl
class_shape_moves z (shape.Array i e) = refl
class_shape_moves z (shape.Record fs) = refl
class_shape_moves z (shape.Procedure p) = refl
class_shape_moves z (shape.Open e) = refl

pub class_made_moves : (z : Exchange) (a0 : Option Made)
    → class_made (option_map (moved_made z) a0) ≡ moved_class z (class_made a0)
class_made_moves z None = refl
class_made_moves z (Some m) = class_shape_moves z m.shape

pub class_range_moves : (z : Exchange) (a0 : Option Range)
    → class_range (option_map (moved_scalar z) a0) ≡ moved_class z (class_range a0)
class_range_moves z None = refl
class_range_moves z (Some s) = refl

pub class_from_moves : (z : Exchange) (types : Types) (t : TypeNo) (a2 : Home)
    → class_from (moved_types z types) (moved_type z t) (moved_home z a2) ≡ moved_class z (class_from types t a2)
class_from_moves z types t Predeclared = simp (class_range_moves, scalar_at_moves)
class_from_moves z types t (Module home) = simp (class_made_moves, made_at_moves)

pub class_at_moves : (z : Exchange) (types : Types) (t : TypeNo)
    → class_at (moved_types z types) (moved_type z t) ≡ moved_class z (class_at types t)
class_at_moves z types t = class_from_moves z types t t.home

pub signature_shape_moves : (z : Exchange) (a0 : Shape)
    → signature_shape (moved_shape z a0) ≡ option_map (moved_signature z) (signature_shape a0)
signature_shape_moves z (shape.Procedure p) = refl
signature_shape_moves z (shape.Scalar s) = refl
signature_shape_moves z shape.Set = refl
signature_shape_moves z (shape.Array i e) = refl
signature_shape_moves z (shape.Record fs) = refl
signature_shape_moves z (shape.Open e) = refl

pub signature_made_moves : (z : Exchange) (a0 : Option Made)
    → signature_made (option_map (moved_made z) a0) ≡ option_map (moved_signature z) (signature_made a0)
signature_made_moves z None = refl
signature_made_moves z (Some m) = signature_shape_moves z m.shape

pub signature_at_moves : (z : Exchange) (types : Types) (t : TypeNo)
    → signature_at (moved_types z types) (moved_type z t) ≡ option_map (moved_signature z) (signature_at types t)
signature_at_moves z types t = simp (signature_made_moves, made_at_moves)

pub array_shape_moves : (z : Exchange) (a0 : Shape)
    → array_shape (moved_shape z a0) ≡ option_map (moved_pair (moved_type z) (moved_type z)) (array_shape a0)
array_shape_moves z (shape.Array i e) = refl
array_shape_moves z (shape.Scalar s) = refl
array_shape_moves z shape.Set = refl
array_shape_moves z (shape.Record fs) = refl
array_shape_moves z (shape.Procedure p) = refl
array_shape_moves z (shape.Open e) = refl

pub array_made_moves : (z : Exchange) (a0 : Option Made)
    → array_made (option_map (moved_made z) a0) ≡ option_map (moved_pair (moved_type z) (moved_type z)) (array_made a0)
array_made_moves z None = refl
array_made_moves z (Some m) = array_shape_moves z m.shape

pub array_at_moves : (z : Exchange) (types : Types) (t : TypeNo)
    → array_at (moved_types z types) (moved_type z t)
    ≡ option_map (moved_pair (moved_type z) (moved_type z)) (array_at types t)
array_at_moves z types t = simp (array_made_moves, made_at_moves)
