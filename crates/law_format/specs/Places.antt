-- The places in which the bytes of an encoding stand: an opcode, a section number, a value type, or
-- another byte. The definitions follow the format: the bytes are the bytes of the encoding.
use Rattle.std.specs.Prelude.{ℕ, List, [], ◌∷◌, ◌++◌, length, map, Option, Some, None}
use Rattle.std.specs.List.{flat_map}
use Rattle.wasm_tree.specs.declared.fault.WFault.{WFault}
use Rattle.wasm_tree.specs.declared.fault.WFault.TheVariants.{Malformed, OutsideProfile}
use Rattle.wasm_tree.specs.declared.kinds.ValueType.{ValueType}
use Rattle.wasm_tree.specs.declared.kinds.FuncType.{FuncType}
use Rattle.wasm_tree.specs.declared.instr.Instr.{Instr, Instr-F, fold-Instr}
use Rattle.wasm_tree.specs.declared.instr.Instr.TheOpen as layer
use Rattle.wasm_tree.specs.declared.module.ImportKind.{ImportKind}
use Rattle.wasm_tree.specs.declared.module.ImportKind.TheVariants as imported
use Rattle.wasm_tree.specs.declared.module.Import.{Import}
use Rattle.wasm_tree.specs.declared.module.Global.{Global}
use Rattle.wasm_tree.specs.declared.module.Element.{Element}
use Rattle.wasm_tree.specs.declared.module.Locals.{Locals}
use Rattle.wasm_tree.specs.declared.module.Data.{Data}
use Rattle.wasm_tree.specs.Format.{Format}
use Rattle.wasm_code.specs.Bytes as byte
use Rattle.wasm_code.specs.Number.{unsigned, signed32, signed64}
use Rattle.wasm_code.specs.Opcode.{numeric_opcode, load_opcode, store_opcode}
use Rattle.wasm_code.specs.Parts.{vector, with_size, bytes_left, name}
use Rattle.wasm_code.specs.Instructions.{value_type, block_type}
use Rattle.wasm_binary.specs.Binary.{import_kind}

pub data Place : Type 0 where
  Opcode : Place
  SectionNumber : Place
  TypeOfValue : Place
  OtherByte : Place

-- the fault of a byte that cannot stand in this place
abbrev pub fault_at : Place → WFault
fault_at Opcode = OutsideProfile
fault_at SectionNumber = OutsideProfile
fault_at TypeOfValue = OutsideProfile
fault_at OtherByte = Malformed

-- a byte with its place
abbrev pub Cell : Type 0
Cell = Place × ℕ

abbrev pub bytes_of : List Cell → List ℕ
bytes_of cells = map (λ c. c.1) cells

-- each of these bytes stands in this place
abbrev pub all_at : Place → List ℕ → List Cell
all_at place bytes = map (λ b. (place, b)) bytes

abbrev pub others : List ℕ → List Cell
others = all_at OtherByte

-- a value in whose encoding no opcode, section number or value type stands
abbrev pub plain : {A : Type 0} → Format A → A → List Cell
plain p x = others (p.encoding x)

-- ---- types

abbrev pub value_type_cells : ValueType → List Cell
value_type_cells t = all_at TypeOfValue (value_type.encoding t)

abbrev pub block_type_cells : Option ValueType → List Cell
block_type_cells t = all_at TypeOfValue (block_type.encoding t)

abbrev pub vector_cells : {A : Type 0} → (A → List Cell) → List A → List Cell
vector_cells cells xs = others (unsigned.encoding (length xs)) ++ flat_map cells xs

abbrev pub func_type_cells : FuncType → List Cell
func_type_cells t =
    (OtherByte, byte.func_type) ∷ (vector_cells value_type_cells t.params
    ++ vector_cells value_type_cells t.results)

-- ---- code

-- an opcode, and the bytes behind it, which stand for no others
abbrev pub opcode : ℕ → List ℕ → List Cell
opcode b bytes = (Opcode, b) ∷ others bytes

abbrev pub else_cells : Option (List (List Cell)) → List Cell
else_cells None = []
else_cells (Some is) = (Opcode, byte.else) ∷ flat_map (λ i. i) is

-- an instruction, from the cells of each one inside it
abbrev pub cells_step : Instr-F (List Cell) → List Cell
cells_step layer.Unreachable = opcode byte.unreachable []
cells_step (layer.Block t is) =
    (Opcode, byte.block) ∷ (block_type_cells t ++ (flat_map (λ i. i) is ++ opcode byte.end []))
cells_step (layer.Loop t is) =
    (Opcode, byte.loop) ∷ (block_type_cells t ++ (flat_map (λ i. i) is ++ opcode byte.end []))
cells_step (layer.If t is third) =
    (Opcode, byte.if) ∷ (block_type_cells t ++ (flat_map (λ i. i) is ++ (else_cells third
    ++ opcode byte.end [])))
cells_step (layer.Br l) = opcode byte.br (unsigned.encoding l)
cells_step (layer.BrIf l) = opcode byte.br_if (unsigned.encoding l)
cells_step (layer.BrTable ls l) =
    opcode byte.br_table ((vector unsigned).encoding ls ++ unsigned.encoding l)
cells_step layer.Return = opcode byte.return []
cells_step (layer.Call f) = opcode byte.call (unsigned.encoding f)
cells_step (layer.CallIndirect t) = opcode byte.call_indirect (unsigned.encoding t ++ 0x00 ∷ [])
cells_step layer.Drop = opcode byte.drop []
cells_step (layer.LocalGet x) = opcode byte.local_get (unsigned.encoding x)
cells_step (layer.LocalSet x) = opcode byte.local_set (unsigned.encoding x)
cells_step (layer.LocalTee x) = opcode byte.local_tee (unsigned.encoding x)
cells_step (layer.GlobalGet x) = opcode byte.global_get (unsigned.encoding x)
cells_step (layer.Load l) = opcode (load_opcode l) (0x00 ∷ 0x00 ∷ [])
cells_step (layer.Store w) = opcode (store_opcode w) (0x00 ∷ 0x00 ∷ [])
cells_step (layer.I32Const n) = opcode byte.i32_const (signed32.encoding n)
cells_step (layer.I64Const n) = opcode byte.i64_const (signed64.encoding n)
cells_step (layer.Numeric n) = opcode (numeric_opcode n) []

unfoldable pub instr_cells : Instr → List Cell
instr_cells = fold-Instr (List Cell) cells_step

abbrev pub code_cells : List Instr → List Cell
code_cells is = flat_map instr_cells is ++ opcode byte.end []

-- ---- the entries of sections

abbrev pub import_kind_cells : ImportKind → List Cell
import_kind_cells (imported.Function t) = others (import_kind.encoding (imported.Function t))
import_kind_cells (imported.Table t) = others (import_kind.encoding (imported.Table t))
import_kind_cells (imported.Memory t) = others (import_kind.encoding (imported.Memory t))
import_kind_cells (imported.Global t) =
    (OtherByte, byte.of_global) ∷ (value_type_cells t ++ (OtherByte, byte.immutable) ∷ [])

abbrev pub import_cells : Import → List Cell
import_cells i = plain name i.module_name ++ (plain name i.name ++ import_kind_cells i.kind)

abbrev pub global_cells : Global → List Cell
global_cells g =
    (value_type_cells g.value_type ++ (OtherByte, byte.immutable) ∷ []) ++ code_cells g.value

abbrev pub element_cells : Element → List Cell
element_cells e =
    plain unsigned e.table ++ (code_cells e.offset ++ plain (vector unsigned) e.functions)

abbrev pub data_cells : Data → List Cell
data_cells d =
    plain unsigned d.memory ++ (code_cells d.offset ++ plain (with_size bytes_left) d.bytes)

-- ---- bodies of functions

abbrev pub group_cells : Locals → List Cell
group_cells l = plain unsigned l.count ++ value_type_cells l.value_type

abbrev pub locals_cells : List Locals → List Cell
locals_cells ls = vector_cells group_cells ls
