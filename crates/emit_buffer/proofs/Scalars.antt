-- Loads and stores of what is kept of a scalar type.
use Rattle.std.proofs.Common.{◌≡◌, refl}
use Rattle.typed_tree.specs.declared.types.TypeNo.{TypeNo}
use Rattle.typed_tree.specs.declared.known_types.Types.{Types}
use Rattle.layout_storage.specs.declared.kind.Kind.{Kind}
use Rattle.layout_storage.specs.declared.kind.Kind.TheVariants as kind
use Rattle.layout_storage.specs.Types.{Ty, Scalar, Natural, Integer, Between, Callable, Cell, Hidden, Array, Nothing, Field}
use Rattle.layout_storage.specs.Sizes.{Room, One, Two, Four, room_of}
use Rattle.layout_storage.specs.Shapes.{tree}
use Rattle.layout_storage.specs.Extents.{scalar_of, kind_of, width_of, kind_of_tree}
use Rattle.def_scheme.specs.Cells.{load_room, load_of, width_room, load_tree, store_tree, load_code, store_code, load_scalar, store_scalar}
use Rattle.emit_buffer.specs.Kinds.{load_width, load_by, store_width, load_kind, store_kind}

width_is : (r : Room) → load_width (width_of r) ≡ load_room r
width_is One = refl
width_is Two = refl
width_is Four = refl

pub load_is : (k : Kind) → load_by k ≡ load_of (scalar_of k)
load_is (kind.Natural g) = width_is (room_of (scalar_of (kind.Natural g)))
load_is kind.Integer = refl
load_is (kind.Between l g) = width_is (room_of (scalar_of (kind.Between l g)))

pub store_is : (r : Room) → store_width (width_of r) ≡ width_room r
store_is One = refl
store_is Two = refl
store_is Four = refl

load_back : (c : Scalar) → load_scalar (scalar_of (kind_of c)) ≡ load_scalar c
load_back (Natural g) = refl
load_back Integer = refl
load_back (Between l g) = refl
load_back (Callable h) = refl

store_back : (c : Scalar) → store_scalar (scalar_of (kind_of c)) ≡ store_scalar c
store_back (Natural g) = refl
store_back Integer = refl
store_back (Between l g) = refl
store_back (Callable h) = refl

load_tree_is : (t : Ty) → load_kind (kind_of_tree t) ≡ load_tree t
load_tree_is (Cell c) = load_back c
load_tree_is (Hidden n) = refl
load_tree_is (Array n t) = refl
load_tree_is Nothing = refl
load_tree_is (Field t others) = refl

store_tree_is : (t : Ty) → store_kind (kind_of_tree t) ≡ store_tree t
store_tree_is (Cell c) = store_back c
store_tree_is (Hidden n) = refl
store_tree_is (Array n t) = refl
store_tree_is Nothing = refl
store_tree_is (Field t others) = refl

pub loaded_is : (types : Types) (t : TypeNo) → load_kind (kind_of_tree (tree types t)) ≡ load_code types t
loaded_is types t = load_tree_is (tree types t)

pub stored_is : (types : Types) (t : TypeNo) → store_kind (kind_of_tree (tree types t)) ≡ store_code types t
stored_is types t = store_tree_is (tree types t)
