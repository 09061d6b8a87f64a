-- Instructions in the text format of WebAssembly, a row for each, the code inside of one behind
-- more blanks than the instruction.
use Rattle.std.specs.Prelude.{ℕ, List, [], ◌++◌, Option, Some, None, codes, decimal}
use Rattle.std.specs.List.{flat_map}
use Rattle.wasm_tree.specs.declared.kinds.ValueType.{ValueType}
use Rattle.wasm_tree.specs.declared.kinds.ValueType.TheVariants.{I32, I64}
use Rattle.wasm_tree.specs.declared.instr.Relation as relation
use Rattle.wasm_tree.specs.declared.instr.Relation.TheVariants.{Eq, Ne, LtS, LtU, GtS, GtU, LeS, LeU, GeS, GeU}
use Rattle.wasm_tree.specs.declared.instr.Operation as operation
use Rattle.wasm_tree.specs.declared.instr.Operation.TheVariants.{Add, Sub, Mul, DivS, DivU, RemS, RemU, And, Or, Xor, Shl, ShrU}
use Rattle.wasm_tree.specs.declared.instr.Numeric as numeric
use Rattle.wasm_tree.specs.declared.instr.Numeric.TheVariants as numerics
use Rattle.wasm_tree.specs.declared.instr.Load as load
use Rattle.wasm_tree.specs.declared.instr.Load.TheVariants as loads
use Rattle.wasm_tree.specs.declared.instr.StoreWidth.{StoreWidth}
use Rattle.wasm_tree.specs.declared.instr.StoreWidth.TheVariants.{Eight, One, Two, Four}
use Rattle.wasm_tree.specs.declared.instr.Instr.{Instr, Instr-F, fold-Instr}
use Rattle.wasm_tree.specs.declared.instr.Instr.TheOpen as layer
use Rattle.show_code.specs.Pages.{deeper, row}

abbrev pub value_type_word : ValueType → List ℕ
value_type_word I32 = codes "i32"
value_type_word I64 = codes "i64"

abbrev pub relation_word : relation.Relation → List ℕ
relation_word Eq = codes "eq"
relation_word Ne = codes "ne"
relation_word LtS = codes "lt_s"
relation_word LtU = codes "lt_u"
relation_word GtS = codes "gt_s"
relation_word GtU = codes "gt_u"
relation_word LeS = codes "le_s"
relation_word LeU = codes "le_u"
relation_word GeS = codes "ge_s"
relation_word GeU = codes "ge_u"

abbrev pub operation_word : operation.Operation → List ℕ
operation_word Add = codes "add"
operation_word Sub = codes "sub"
operation_word Mul = codes "mul"
operation_word DivS = codes "div_s"
operation_word DivU = codes "div_u"
operation_word RemS = codes "rem_s"
operation_word RemU = codes "rem_u"
operation_word And = codes "and"
operation_word Or = codes "or"
operation_word Xor = codes "xor"
operation_word Shl = codes "shl"
operation_word ShrU = codes "shr_u"

abbrev pub numeric_text : (level : ℕ) → numeric.Numeric → List ℕ
numeric_text level numerics.I32Eqz = row level (codes "i32." ++ codes "eqz")
numeric_text level (numerics.I32Relation r) = row level (codes "i32." ++ relation_word r)
numeric_text level numerics.I64Eqz = row level (codes "i64." ++ codes "eqz")
numeric_text level (numerics.I64Relation r) = row level (codes "i64." ++ relation_word r)
numeric_text level numerics.I32Add = row level (codes "i32." ++ codes "add")
numeric_text level (numerics.I64Operation o) = row level (codes "i64." ++ operation_word o)
numeric_text level numerics.I32WrapI64 = row level (codes "i32." ++ codes "wrap_i64")
numeric_text level numerics.I64ExtendI32S = row level (codes "i64." ++ codes "extend_i32_s")
numeric_text level numerics.I64ExtendI32U = row level (codes "i64." ++ codes "extend_i32_u")

-- addresses are not aligned
abbrev pub load_word : load.Load → List ℕ
load_word loads.I64 = codes "i64.load align=1"
load_word loads.I64From8U = codes "i64.load8_u align=1"
load_word loads.I64From16U = codes "i64.load16_u align=1"
load_word loads.I64From32S = codes "i64.load32_s align=1"
load_word loads.I64From32U = codes "i64.load32_u align=1"

abbrev pub store_word : StoreWidth → List ℕ
store_word Eight = codes "i64.store align=1"
store_word One = codes "i64.store8 align=1"
store_word Two = codes "i64.store16 align=1"
store_word Four = codes "i64.store32 align=1"

-- what a block leaves on the stack
abbrev pub result_text : Option ValueType → List ℕ
result_text None = []
result_text (Some t) = codes " (result " ++ (value_type_word t ++ codes ")")

-- a row with a number
abbrev pub numbered_row : (level : ℕ) → (word : List ℕ) → (number : ℕ) → List ℕ
numbered_row level word number = row level (word ++ decimal number)

-- the row that opens a block, and the code inside
abbrev pub opened_text : (level : ℕ) → (word : List ℕ) → Option ValueType → (inside : List ℕ)
    → List ℕ
opened_text level word t inside = row level (word ++ result_text t) ++ inside

abbrev pub label_text : ℕ → List ℕ
label_text l = codes " " ++ decimal l

-- a branch to one of several labels
unfoldable pub targets_text : (labels : List ℕ) → (last : ℕ) → List ℕ
targets_text labels last = codes "br_table" ++ (flat_map label_text labels ++ label_text last)

-- a call through the table, of a function of this type
unfoldable pub callee_text : (type_index : ℕ) → List ℕ
callee_text type_index = codes "call_indirect (type " ++ (decimal type_index ++ codes ")")

-- the texts of instructions at this level
abbrev pub texts_at : (level : ℕ) → List (ℕ → List ℕ) → List ℕ
texts_at level texts = flat_map (λ (text : ℕ → List ℕ). text level) texts

-- an instruction at this level, if each one inside it is given by its text
abbrev pub text_step : Instr-F (ℕ → List ℕ) → (level : ℕ) → List ℕ
text_step layer.Unreachable level = row level (codes "unreachable")
text_step (layer.Block t is) level =
    opened_text level (codes "block") t (texts_at (deeper level) is) ++ row level (codes "end")
text_step (layer.Loop t is) level =
    opened_text level (codes "loop") t (texts_at (deeper level) is) ++ row level (codes "end")
text_step (layer.If t is None) level =
    opened_text level (codes "if") t (texts_at (deeper level) is) ++ row level (codes "end")
text_step (layer.If t is (Some others)) level =
    opened_text level (codes "if") t (texts_at (deeper level) is)
    ++ (row level (codes "else")
    ++ (texts_at (deeper level) others ++ row level (codes "end")))
text_step (layer.Br l) level = numbered_row level (codes "br ") l
text_step (layer.BrIf l) level = numbered_row level (codes "br_if ") l
text_step (layer.BrTable ls l) level = row level (targets_text ls l)
text_step layer.Return level = row level (codes "return")
text_step (layer.Call f) level = numbered_row level (codes "call ") f
text_step (layer.CallIndirect t) level = row level (callee_text t)
text_step layer.Drop level = row level (codes "drop")
text_step (layer.LocalGet x) level = numbered_row level (codes "local.get ") x
text_step (layer.LocalSet x) level = numbered_row level (codes "local.set ") x
text_step (layer.LocalTee x) level = numbered_row level (codes "local.tee ") x
text_step (layer.GlobalGet x) level = numbered_row level (codes "global.get ") x
text_step (layer.Load l) level = row level (load_word l)
text_step (layer.Store w) level = row level (store_word w)
text_step (layer.I32Const n) level = numbered_row level (codes "i32.const ") n
text_step (layer.I64Const n) level = numbered_row level (codes "i64.const ") n
text_step (layer.Numeric n) level = numeric_text level n

unfoldable pub instr_text : Instr → (level : ℕ) → List ℕ
instr_text = fold-Instr (ℕ → List ℕ) text_step

-- instructions, one behind another
abbrev pub code_text : (level : ℕ) → List Instr → List ℕ
code_text level is = flat_map (λ i. instr_text i level) is
