-- Valid modules (Core 1.0, section 3).
use Rattle.std.specs.Prelude.{◌≡◌, ◌≢◌, ℕ, ◌^◌, ◌<◌, ◌≤◌, Bool, true, false, replicate, List, [], ◌∷◌, ◌++◌, length, map, slice_get, All, Option, Some, None}
use Rattle.std.specs.Option.{ForSome}
use Rattle.std.specs.List.{filter_map, flat_map}
use Rattle.wasm_tree.specs.declared.kinds.ValueType.{ValueType}
use Rattle.wasm_tree.specs.declared.kinds.ValueType.TheVariants.{I32, I64}
use Rattle.wasm_tree.specs.declared.kinds.FuncType.{FuncType}
use Rattle.wasm_tree.specs.declared.kinds.Limits.{Limits}
use Rattle.wasm_tree.specs.declared.instr.Instr.{Instr, out-Instr}
use Rattle.wasm_tree.specs.declared.instr.Instr.TheOpen as layer
use Rattle.wasm_tree.specs.declared.instr.Numeric.{Numeric}
use Rattle.wasm_tree.specs.declared.instr.Numeric.TheVariants as numeric
use Rattle.wasm_tree.specs.declared.module.ImportKind.TheVariants as imported
use Rattle.wasm_tree.specs.declared.module.Import.{Import}
use Rattle.wasm_tree.specs.declared.module.Global.{Global}
use Rattle.wasm_tree.specs.declared.module.ExportKind.TheVariants as exported
use Rattle.wasm_tree.specs.declared.module.Export.{Export}
use Rattle.wasm_tree.specs.declared.module.Locals.{Locals}
use Rattle.wasm_tree.specs.declared.module.Element.{Element}
use Rattle.wasm_tree.specs.declared.module.Function.{Function}
use Rattle.wasm_tree.specs.declared.module.Data.{Data}
use Rattle.wasm_tree.specs.declared.module.WModule.{WModule}
use Rattle.wasm_tree.specs.Limits.{max_memory}

-- ---- what a module's indices stand for, imported things first (3.1)

abbrev pub function_import : Import → Option ℕ
function_import i = elim i.kind [
  | imported.Function t ↦ Some t
  | imported.Table t ↦ None
  | imported.Memory t ↦ None
  | imported.Global t ↦ None
]

abbrev pub table_import : Import → Option Limits
table_import i = elim i.kind [
  | imported.Function t ↦ None
  | imported.Table t ↦ Some t.limits
  | imported.Memory t ↦ None
  | imported.Global t ↦ None
]

abbrev pub memory_import : Import → Option Limits
memory_import i = elim i.kind [
  | imported.Function t ↦ None
  | imported.Table t ↦ None
  | imported.Memory t ↦ Some t.limits
  | imported.Global t ↦ None
]

abbrev pub global_import : Import → Option ValueType
global_import i = elim i.kind [
  | imported.Function t ↦ None
  | imported.Table t ↦ None
  | imported.Memory t ↦ None
  | imported.Global t ↦ Some t
]

pub record Context : Type 0 where
  pub types : List FuncType
  -- the index of each function's type
  pub functions : List ℕ
  pub tables : List Limits
  pub memories : List Limits
  pub globals : List ValueType
  pub locals : List ValueType
  -- what a branch to each label takes, the innermost first
  pub labels : List (List ValueType)
  -- what the function gives
  pub returns : List ValueType

-- what the module may name
abbrev pub context : WModule → Context
context m = record {
  types = m.types;
  functions = filter_map function_import m.imports ++ map (λ f. f.type_index) m.functions;
  tables = filter_map table_import m.imports ++ map (λ t. t.limits) m.tables;
  memories = filter_map memory_import m.imports ++ map (λ t. t.limits) m.memories;
  globals = filter_map global_import m.imports ++ map (λ g. g.value_type) m.globals;
  locals = [];
  labels = [];
  returns = [];
}

-- what the value of a global may name: imported globals alone
abbrev pub initial_context : WModule → Context
initial_context m = record (context m) { globals = filter_map global_import m.imports }

-- the types of the locals that a function declares
abbrev pub local_types : List Locals → List ValueType
local_types groups = flat_map (λ g. replicate g.count g.value_type) groups

-- what the code of a function may name
abbrev pub function_context : Context → FuncType → List Locals → Context
function_context c t groups = record c {
  locals = t.params ++ local_types groups;
  labels = t.results ∷ [];
  returns = t.results;
}

-- within a block, to which a branch takes these
abbrev pub within : List ValueType → Context → Context
within taken c = record c { labels = taken ∷ c.labels }

-- ---- instructions (3.3): the operands that one takes, the last on top, and those that it gives

abbrev pub result_types : Option ValueType → List ValueType
result_types None = []
result_types (Some t) = t ∷ []

abbrev pub side_of : Option (List Instr) → List Instr
side_of None = []
side_of (Some is) = is

-- what an instruction on numbers takes and gives (3.3.1)
abbrev pub numeric_params : Numeric → List ValueType
numeric_params numeric.I32Eqz = I32 ∷ []
numeric_params (numeric.I32Relation r) = I32 ∷ I32 ∷ []
numeric_params numeric.I64Eqz = I64 ∷ []
numeric_params (numeric.I64Relation r) = I64 ∷ I64 ∷ []
numeric_params numeric.I32Add = I32 ∷ I32 ∷ []
numeric_params (numeric.I64Operation o) = I64 ∷ I64 ∷ []
numeric_params numeric.I32WrapI64 = I64 ∷ []
numeric_params numeric.I64ExtendI32S = I32 ∷ []
numeric_params numeric.I64ExtendI32U = I32 ∷ []

abbrev pub numeric_result : Numeric → ValueType
numeric_result numeric.I32Eqz = I32
numeric_result (numeric.I32Relation r) = I32
numeric_result numeric.I64Eqz = I32
numeric_result (numeric.I64Relation r) = I32
numeric_result numeric.I32Add = I32
numeric_result (numeric.I64Operation o) = I64
numeric_result numeric.I32WrapI64 = I32
numeric_result numeric.I64ExtendI32S = I64
numeric_result numeric.I64ExtendI32U = I64

abbrev pub Are : (params results : List ValueType) → (p r : List ValueType) → Type 0
Are params results p r = (p ≡ params) × (r ≡ results)

-- Instructions without code inside them. Behind a branch, a return and what traps, any operands may
-- follow.
abbrev pub IsPlain : Context → layer.Instr-F Instr → (params results : List ValueType) → Type 0
IsPlain c layer.Unreachable p r = Unit {0}
IsPlain c (layer.Block t body) p r = ⊥
IsPlain c (layer.Loop t body) p r = ⊥
IsPlain c (layer.If t body otherwise) p r = ⊥
IsPlain c (layer.Br l) p r =
    (taken lower : List ValueType) × (slice_get c.labels l ≡ Some taken) × (p ≡ lower ++ taken)
IsPlain c (layer.BrIf l) p r =
    (taken : List ValueType) × (slice_get c.labels l ≡ Some taken)
    × Are (taken ++ I32 ∷ []) taken p r
IsPlain c (layer.BrTable ls default) p r =
    (taken lower : List ValueType) × (slice_get c.labels default ≡ Some taken)
    × All (λ l. slice_get c.labels l ≡ Some taken) ls × (p ≡ lower ++ taken ++ I32 ∷ [])
IsPlain c layer.Return p r = (lower : List ValueType) × (p ≡ lower ++ c.returns)
IsPlain c (layer.Call f) p r =
    (i : ℕ) × (t : FuncType) × (slice_get c.functions f ≡ Some i) × (slice_get c.types i ≡ Some t)
    × Are t.params t.results p r
IsPlain c (layer.CallIndirect i) p r =
    (t : FuncType) × (0 < length c.tables) × (slice_get c.types i ≡ Some t)
    × Are (t.params ++ I32 ∷ []) t.results p r
IsPlain c layer.Drop p r = (t : ValueType) × Are (t ∷ []) [] p r
IsPlain c (layer.LocalGet x) p r =
    (t : ValueType) × (slice_get c.locals x ≡ Some t) × Are [] (t ∷ []) p r
IsPlain c (layer.LocalSet x) p r =
    (t : ValueType) × (slice_get c.locals x ≡ Some t) × Are (t ∷ []) [] p r
IsPlain c (layer.LocalTee x) p r =
    (t : ValueType) × (slice_get c.locals x ≡ Some t) × Are (t ∷ []) (t ∷ []) p r
IsPlain c (layer.GlobalGet g) p r =
    (t : ValueType) × (slice_get c.globals g ≡ Some t) × Are [] (t ∷ []) p r
IsPlain c (layer.Load kind) p r = (0 < length c.memories) × Are (I32 ∷ []) (I64 ∷ []) p r
IsPlain c (layer.Store width) p r = (0 < length c.memories) × Are (I32 ∷ I64 ∷ []) [] p r
IsPlain c (layer.I32Const n) p r = Are [] (I32 ∷ []) p r
IsPlain c (layer.I64Const n) p r = Are [] (I64 ∷ []) p r
IsPlain c (layer.Numeric o) p r = Are (numeric_params o) (numeric_result o ∷ []) p r

mutual
  -- an instruction takes these operands and gives those
  pub data Types : Context → Instr → (params results : List ValueType) → Type 0 where
    Plain : (c : Context) (i : Instr) (params results : List ValueType)
        → IsPlain c (out-Instr i) params results → Types c i params results
    Block : (c : Context) (i : Instr) (t : Option ValueType) (body : List Instr)
        → out-Instr i ≡ layer.Block t body
        → Leads (within (result_types t) c) body [] (result_types t)
        → Types c i [] (result_types t)
    Loop : (c : Context) (i : Instr) (t : Option ValueType) (body : List Instr)
        → out-Instr i ≡ layer.Loop t body
        → Leads (within [] c) body [] (result_types t)
        → Types c i [] (result_types t)
    If : (c : Context) (i : Instr) (t : Option ValueType) (body : List Instr)
        (otherwise : Option (List Instr))
        → out-Instr i ≡ layer.If t body otherwise
        → Leads (within (result_types t) c) body [] (result_types t)
        → Leads (within (result_types t) c) (side_of otherwise) [] (result_types t)
        → Types c i (I32 ∷ []) (result_types t)

  -- instructions in a row, from the operands of these types to those
  pub data Leads : Context → List Instr → (before after : List ValueType) → Type 0 where
    Empty : (c : Context) (stack : List ValueType) → Leads c [] stack stack
    More : (c : Context) (i : Instr) (is : List Instr) (below params results after : List ValueType)
        → Types c i params results
        → Leads c is (below ++ results) after
        → Leads c (i ∷ is) (below ++ params) after

-- an instruction that a constant expression may hold (3.3.7)
abbrev pub is_constant : layer.Instr-F Instr → Bool
is_constant (layer.GlobalGet g) = true
is_constant (layer.I32Const n) = true
is_constant (layer.I64Const n) = true
is_constant _ = false

abbrev pub IsConstant : Instr → Type 0
IsConstant i = is_constant (out-Instr i) ≡ true

pub record IsConstantOf (c : Context) (t : ValueType) (is : List Instr) : Type 0 where
  pub constant : All IsConstant is
  pub typed : Leads c is [] (t ∷ [])

-- ---- the parts of a module (3.2, 3.4)

-- the greatest is not below the least, and neither is above a bound (3.2.1)
abbrev pub AreLimits : (most : ℕ) → Limits → Type 0
AreLimits most l = (l.min ≤ most) × ForSome l.max (λ m. (m ≤ most) × (l.min ≤ m))

-- at most one result (3.2.2)
abbrev pub IsFuncType : FuncType → Type 0
IsFuncType t = length t.results ≤ 1

abbrev pub IsImport : Context → Import → Type 0
IsImport c i = elim i.kind [
  | imported.Function t ↦ t < length c.types
  | imported.Table t ↦ AreLimits (2 ^ 32) t.limits
  | imported.Memory t ↦ AreLimits max_memory t.limits
  | imported.Global t ↦ Unit {0}
]

-- 3.4.1
abbrev pub IsFunction : Context → Function → Type 0
IsFunction c f =
    (t : FuncType) × (slice_get c.types f.type_index ≡ Some t)
    × Leads (function_context c t f.body.locals) f.body.code [] t.results

abbrev pub IsGlobal : Context → Global → Type 0
IsGlobal c g = IsConstantOf c g.value_type g.value

abbrev pub IsExport : Context → Export → Type 0
IsExport c e = elim e.kind [
  | exported.Function i ↦ i < length c.functions
  | exported.Table i ↦ i < length c.tables
  | exported.Memory i ↦ i < length c.memories
  | exported.Global i ↦ i < length c.globals
]

abbrev pub IsElement : Context → Element → Type 0
IsElement c e =
    (e.table < length c.tables) × IsConstantOf c I32 e.offset
    × All (λ f. f < length c.functions) e.functions

abbrev pub IsData : Context → Data → Type 0
IsData c d = (d.memory < length c.memories) × IsConstantOf c I32 d.offset

-- no name stands twice
abbrev pub AreDistinct : List (List ℕ) → Type 0
AreDistinct [] = Unit {0}
AreDistinct (x ∷ xs) = All (λ y. x ≢ y) xs × AreDistinct xs

-- the parts without code, under what the module may name
pub record AreKinds (c : Context) (m : WModule) : Type 0 where
  pub types : All IsFuncType m.types
  pub imports : All (IsImport c) m.imports
  pub tables : All (λ t. AreLimits (2 ^ 32) t.limits) m.tables
  pub memories : All (λ t. AreLimits max_memory t.limits) m.memories
  pub exports : All (IsExport c) m.exports

-- the parts with code, but for the globals
pub record AreBodies (c : Context) (m : WModule) : Type 0 where
  pub functions : All (IsFunction c) m.functions
  pub elements : All (IsElement c) m.elements
  pub segments : All (IsData c) m.data

-- 3.4.10
pub record IsValid (m : WModule) : Type 0 where
  pub kinds : AreKinds (context m) m
  pub bodies : AreBodies (context m) m
  pub globals : All (IsGlobal (initial_context m)) m.globals
  pub one_table : length (context m).tables ≤ 1
  pub one_memory : length (context m).memories ≤ 1
  pub names : AreDistinct (map (λ e. e.name) m.exports)
