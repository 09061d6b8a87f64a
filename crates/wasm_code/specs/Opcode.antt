-- The opcodes of loads and stores (Core 1.0, section 5.4.4) and of numeric instructions (5.4.5).
use Rattle.std.specs.Prelude.{ℕ, ◌+◌, List, [], ◌∷◌, ◌++◌, map, Option, Some, None, ◌==◌, if◌then◌else◌}
use Rattle.wasm_tree.specs.declared.instr.Relation.{Relation}
use Rattle.wasm_tree.specs.declared.instr.Relation.TheVariants.{Eq, Ne, LtS, LtU, GtS, GtU, LeS, LeU, GeS, GeU}
use Rattle.wasm_tree.specs.declared.instr.Operation.{Operation}
use Rattle.wasm_tree.specs.declared.instr.Operation.TheVariants.{Add, Sub, Mul, DivS, DivU, RemS, RemU, And, Or, Xor, Shl, ShrU}
use Rattle.wasm_tree.specs.declared.instr.Numeric.{Numeric}
use Rattle.wasm_tree.specs.declared.instr.Numeric.TheVariants.{I32Eqz, I32Relation, I64Eqz, I64Relation, I32Add, I64Operation, I32WrapI64, I64ExtendI32S, I64ExtendI32U}
use Rattle.wasm_tree.specs.declared.instr.Load.{Load}
use Rattle.wasm_tree.specs.declared.instr.Load.TheVariants as load
use Rattle.wasm_tree.specs.declared.instr.StoreWidth.{StoreWidth}
use Rattle.wasm_tree.specs.declared.instr.StoreWidth.TheVariants.{Eight, One, Two, Four}

-- the place of a comparison among the comparisons of one width
abbrev pub relation_number : Relation → ℕ
relation_number Eq = 0
relation_number Ne = 1
relation_number LtS = 2
relation_number LtU = 3
relation_number GtS = 4
relation_number GtU = 5
relation_number LeS = 6
relation_number LeU = 7
relation_number GeS = 8
relation_number GeU = 9

abbrev pub operation_opcode : Operation → ℕ
operation_opcode Add = 0x7C
operation_opcode Sub = 0x7D
operation_opcode Mul = 0x7E
operation_opcode DivS = 0x7F
operation_opcode DivU = 0x80
operation_opcode RemS = 0x81
operation_opcode RemU = 0x82
operation_opcode And = 0x83
operation_opcode Or = 0x84
operation_opcode Xor = 0x85
operation_opcode Shl = 0x86
operation_opcode ShrU = 0x88

abbrev pub numeric_opcode : Numeric → ℕ
numeric_opcode I32Eqz = 0x45
numeric_opcode (I32Relation r) = 0x46 + relation_number r
numeric_opcode I64Eqz = 0x50
numeric_opcode (I64Relation r) = 0x51 + relation_number r
numeric_opcode I32Add = 0x6A
numeric_opcode (I64Operation o) = operation_opcode o
numeric_opcode I32WrapI64 = 0xA7
numeric_opcode I64ExtendI32S = 0xAC
numeric_opcode I64ExtendI32U = 0xAD

abbrev pub load_opcode : Load → ℕ
load_opcode load.I64 = 0x29
load_opcode load.I64From8U = 0x31
load_opcode load.I64From16U = 0x33
load_opcode load.I64From32S = 0x34
load_opcode load.I64From32U = 0x35

abbrev pub store_opcode : StoreWidth → ℕ
store_opcode Eight = 0x37
store_opcode One = 0x3C
store_opcode Two = 0x3D
store_opcode Four = 0x3E

-- ---- what an opcode stands for

-- the first of these that has this opcode
abbrev pub find_opcode : {A : Type 0} → (A → ℕ) → ℕ → List A → Option A
find_opcode opcode b [] = None
find_opcode opcode b (x ∷ xs) = if b == opcode x then Some x else find_opcode opcode b xs

abbrev pub relations : List Relation
relations = Eq ∷ Ne ∷ LtS ∷ LtU ∷ GtS ∷ GtU ∷ LeS ∷ LeU ∷ GeS ∷ GeU ∷ []

abbrev pub operations : List Operation
operations = Add ∷ Sub ∷ Mul ∷ DivS ∷ DivU ∷ RemS ∷ RemU ∷ And ∷ Or ∷ Xor ∷ Shl ∷ ShrU ∷ []

abbrev pub tests : List Numeric
tests = I32Eqz ∷ map I32Relation relations ++ I64Eqz ∷ map I64Relation relations

abbrev pub calculations : List Numeric
calculations =
    I32Add ∷ map I64Operation operations ++ I32WrapI64 ∷ I64ExtendI32S ∷ I64ExtendI32U ∷ []

abbrev pub loads : List Load
loads = load.I64 ∷ load.I64From8U ∷ load.I64From16U ∷ load.I64From32S ∷ load.I64From32U ∷ []

abbrev pub widths : List StoreWidth
widths = Eight ∷ One ∷ Two ∷ Four ∷ []

unfoldable pub numeric_of : ℕ → Option Numeric
numeric_of b = find_opcode numeric_opcode b (tests ++ calculations)

unfoldable pub load_of : ℕ → Option Load
load_of b = find_opcode load_opcode b loads

unfoldable pub store_of : ℕ → Option StoreWidth
store_of b = find_opcode store_opcode b widths
