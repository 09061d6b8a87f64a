-- Loads and stores of what is kept of a scalar type.
use Rattle.std.specs.Prelude.{List, [], Option, Some, None, if◌then◌else◌}
use Rattle.wasm_tree.specs.declared.instr.Instr.{Instr}
use Rattle.wasm_tree.specs.declared.instr.Load.{Load}
use Rattle.wasm_tree.specs.declared.instr.Load.TheVariants.{I64From8U, I64From16U, I64From32S, I64From32U}
use Rattle.wasm_tree.specs.declared.instr.StoreWidth.{StoreWidth}
use Rattle.wasm_tree.specs.declared.instr.StoreWidth.TheVariants as stores
use Rattle.typed_tree.specs.declared.types.TypeNo.{TypeNo}
use Rattle.typed_tree.specs.declared.known_types.Types.{Types}
use Rattle.layout_storage.specs.declared.kind.Kind.{Kind}
use Rattle.layout_storage.specs.declared.kind.Kind.TheVariants as kind
use Rattle.layout_storage.specs.declared.kind.Width.{Width}
use Rattle.layout_storage.specs.declared.kind.Width.TheVariants as wide
use Rattle.layout_storage.specs.Sizes.{room_of}
use Rattle.layout_storage.specs.Extents.{scalar_of, width_of}
use Rattle.def_meaning.specs.Answer.{range_fault}
use Rattle.def_scheme.specs.Cells.{load_scalar, store_scalar, in_type, is_subrange}

abbrev pub load_width : Width → Load
load_width wide.One = I64From8U
load_width wide.Two = I64From16U
load_width wide.Four = I64From32U

abbrev pub load_by : Kind → Load
load_by kind.Integer = I64From32S
load_by (kind.Natural g) = load_width (width_of (room_of (scalar_of (kind.Natural g))))
load_by (kind.Between l g) = load_width (width_of (room_of (scalar_of (kind.Between l g))))

abbrev pub store_width : Width → StoreWidth
store_width wide.One = stores.One
store_width wide.Two = stores.Two
store_width wide.Four = stores.Four

abbrev pub load_kind : Option Kind → List Instr
load_kind None = []
load_kind (Some k) = load_scalar (scalar_of k)

abbrev pub store_kind : Option Kind → List Instr
store_kind None = []
store_kind (Some k) = store_scalar (scalar_of k)

abbrev pub subrange_check : Types → TypeNo → List Instr
subrange_check types t = if is_subrange types t then in_type types t range_fault else []
