-- Reading, writing and checking values of types.
use Rattle.std.specs.Prelude.{ℕ, ℤ, pos, ◌==◌, ◌+ℤ◌, Bool, true, false, not, ◌&&◌, ◌||◌, int_le, List, [], ◌∷◌, ◌++◌, Option, Some, None, if◌then◌else◌}
use Rattle.wasm_tree.specs.declared.instr.Instr.{Instr}
use Rattle.wasm_tree.specs.declared.instr.Instr.TheVariants.{Call, Load, Store, I64Const}
use Rattle.wasm_tree.specs.declared.instr.Load.{Load as Loads}
use Rattle.wasm_tree.specs.declared.instr.Load.TheVariants.{I64From8U, I64From16U, I64From32S, I64From32U}
use Rattle.wasm_tree.specs.declared.instr.StoreWidth.{StoreWidth}
use Rattle.wasm_tree.specs.declared.instr.StoreWidth.TheVariants as width
use Rattle.wasm_tree.specs.declared.instr.Operation.TheVariants.{Add, Sub}
use Rattle.typed_tree.specs.declared.types.TypeNo.{TypeNo}
use Rattle.typed_tree.specs.declared.shape.Scalar.{Scalar as Range}
use Rattle.typed_tree.specs.declared.known_types.Types.{Types}
use Rattle.typed_tree.specs.Types.{are_same, integer}
use Rattle.typed_tree.specs.Known.{scalar_at}
use Rattle.layout_storage.specs.Types.{Ty, Scalar, Natural, Integer, Between, Callable, Cell, Hidden, Array, Nothing, Field}
use Rattle.layout_storage.specs.Sizes.{Room, One, Two, Four, room_of}
use Rattle.layout_storage.specs.Shapes.{tree}
use Rattle.def_meaning.specs.Answer.{overflow, range_fault}
use Rattle.def_scheme.specs.Coded.{number, operation, check_code}

-- ---- cells

abbrev pub load_room : Room → Loads
load_room One = I64From8U
load_room Two = I64From16U
load_room Four = I64From32U

-- INTEGER alone is extended by its sign
abbrev pub load_of : Scalar → Loads
load_of (Natural g) = load_room (room_of (Natural g))
load_of Integer = I64From32S
load_of (Between l g) = load_room (room_of (Between l g))
load_of (Callable h) = load_room (room_of (Callable h))

abbrev pub width_room : Room → StoreWidth
width_room One = width.One
width_room Two = width.Two
width_room Four = width.Four

-- a subrange is kept less its lower bound
abbrev pub lower : Scalar → ℤ
lower (Natural g) = pos 0
lower Integer = pos 0
lower (Between l g) = l
lower (Callable h) = pos 0

abbrev pub is_nought : ℤ → Bool
is_nought n = int_le n (pos 0) && int_le (pos 0) n

abbrev pub unless_nought : ℤ → List Instr → List Instr
unless_nought n code = if is_nought n then [] else code

abbrev pub load_scalar : Scalar → List Instr
load_scalar c = Load (load_of c) ∷ unless_nought (lower c) (number (lower c) ∷ operation Add ∷ [])

abbrev pub store_scalar : Scalar → List Instr
store_scalar c =
    unless_nought (lower c) (number (lower c) ∷ operation Sub ∷ [])
    ++ Store (width_room (room_of c)) ∷ []

abbrev pub load_tree : Ty → List Instr
load_tree (Cell c) = load_scalar c
load_tree (Hidden n) = []
load_tree (Array n t) = []
load_tree Nothing = []
load_tree (Field t others) = []

abbrev pub store_tree : Ty → List Instr
store_tree (Cell c) = store_scalar c
store_tree (Hidden n) = []
store_tree (Array n t) = []
store_tree Nothing = []
store_tree (Field t others) = []

abbrev pub load_code : Types → TypeNo → List Instr
load_code types t = load_tree (tree types t)

abbrev pub store_code : Types → TypeNo → List Instr
store_code types t = store_tree (tree types t)

-- addresses, HIGH and links are numbers of 32 bits
abbrev pub word : Scalar
word = Natural 4294967295

-- ---- checks

abbrev pub in_range : Option Range → (fault : ℕ) → List Instr
in_range None k = []
in_range (Some s) k = check_code s.low s.high k

-- within the bounds of a type
abbrev pub in_type : Types → TypeNo → (fault : ℕ) → List Instr
in_type types t k = in_range (scalar_at types t) k

abbrev pub base_in : TypeNo → Option Range → TypeNo
base_in t None = t
base_in t (Some s) = s.base

abbrev pub base_of : Types → TypeNo → TypeNo
base_of types t = base_in t (scalar_at types t)

abbrev pub is_subrange : Types → TypeNo → Bool
is_subrange types t = not (are_same (base_of types t) t)

-- a value of a type that is taken as one of another needs no check if the types agree, or if the
-- other is the first one's base
abbrev pub is_free : Types → TypeNo → (constant : Bool) → (of : TypeNo) → Bool
is_free types t constant of =
    constant || (are_same t of || (not (is_subrange types t) && are_same t (base_of types of)))

abbrev pub check_taken : Types → TypeNo → (constant : Bool) → (of : TypeNo) → List Instr
check_taken types t constant of =
    if is_free types t constant of then [] else in_type types t range_fault

-- INC and DEC check their result in the base, and in a subrange
abbrev pub check_changed : Types → TypeNo → List Instr
check_changed types t =
    in_type types (base_of types t) overflow
    ++ (if is_subrange types t then in_type types t range_fault else [])
