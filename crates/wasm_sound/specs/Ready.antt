-- What is there when an instruction begins, so that code need not test it.
use Rattle.std.specs.Prelude.{◌≡◌, ℕ, ◌+◌, ◌-◌, ◌<◌, ◌≤◌, true, List, [], ◌∷◌, ◌++◌, length, take, slice_get, slice_index_or, Option, Some, None}
use Rattle.wasm_tree.specs.declared.kinds.FuncType.{FuncType}
use Rattle.wasm_tree.specs.declared.instr.Instr.{Instr}
use Rattle.wasm_tree.specs.declared.instr.Instr.TheOpen as layer
use Rattle.wasm_tree.specs.declared.instr.Numeric.{Numeric}
use Rattle.wasm_tree.specs.declared.instr.Numeric.TheVariants as numeric
use Rattle.wasm_tree.specs.declared.module.WModule.{WModule}
use Rattle.wasm_tree.specs.declared.store.Value.{Value}
use Rattle.wasm_tree.specs.declared.store.Value.TheVariants.{I32, I64}
use Rattle.wasm_tree.specs.declared.store.Callee.{Callee}
use Rattle.wasm_tree.specs.declared.store.Callee.TheVariants.{Put, Stop, Own}
use Rattle.wasm_tree.specs.declared.store.Table.{Table}
use Rattle.wasm_tree.specs.declared.store.Memory.{Memory}
use Rattle.wasm_tree.specs.declared.store.Instance.{Instance}
use Rattle.wasm_tree.specs.declared.store.Store.{Store}
use Rattle.wasm_tree.specs.Machine.{Label, Activation, Typed, split_last, instance_of, callee_at, global_at, memory_of, own_function, type_at, callee_type, is_same_type}
use Rattle.wasm_tree.specs.Linking.{type_of}

-- ---- operands

abbrev pub IsOne : List Value → Type 0
IsOne stack = (below : List Value) × (v : Value) × (stack ≡ below ++ v ∷ [])

abbrev pub IsI32 : List Value → Type 0
IsI32 stack = (below : List Value) × (n : ℕ) × (stack ≡ below ++ I32 n ∷ [])

abbrev pub IsI64 : List Value → Type 0
IsI64 stack = (below : List Value) × (n : ℕ) × (stack ≡ below ++ I64 n ∷ [])

abbrev pub AreI32 : List Value → Type 0
AreI32 stack = (below : List Value) × (n m : ℕ) × (stack ≡ below ++ I32 n ∷ I32 m ∷ [])

abbrev pub AreI64 : List Value → Type 0
AreI64 stack = (below : List Value) × (n m : ℕ) × (stack ≡ below ++ I64 n ∷ I64 m ∷ [])

abbrev pub AreNumbers : Numeric → List Value → Type 0
AreNumbers numeric.I32Eqz stack = IsI32 stack
AreNumbers (numeric.I32Relation r) stack = AreI32 stack
AreNumbers numeric.I64Eqz stack = IsI64 stack
AreNumbers (numeric.I64Relation r) stack = AreI64 stack
AreNumbers numeric.I32Add stack = AreI32 stack
AreNumbers (numeric.I64Operation o) stack = AreI64 stack
AreNumbers numeric.I32WrapI64 stack = IsI64 stack
AreNumbers numeric.I64ExtendI32S stack = IsI32 stack
AreNumbers numeric.I64ExtendI32U stack = IsI32 stack

-- ---- branches

-- the operands that are kept stand above those that stood below the block, or are what the function
-- returns
abbrev pub AreKept : (arity : ℕ) → List Value → Option (List Label × Label) → Type 0
AreKept arity stack None = arity ≤ length stack
AreKept arity stack (Some p) = p.1.height + p.1.arity ≤ length stack

-- the label is there, or the function's own
abbrev pub CanBranch : List Label → (arity : ℕ) → List Value → (label : ℕ) → Type 0
CanBranch labels arity stack l =
    (l ≤ length labels) × AreKept arity stack (split_last (take (length labels - l) labels))

-- the topmost operand is a condition, and below it the operands are there
abbrev pub CanBranchIf : List Label → (arity : ℕ) → List Value → (label : ℕ) → Type 0
CanBranchIf labels arity stack l =
    (below : List Value) × (n : ℕ) × (stack ≡ below ++ I32 n ∷ []) × CanBranch labels arity below l

-- the topmost operand numbers a label, and below it the operands are there
abbrev pub CanBranchTable : List Label → (arity : ℕ) → List Value → (labels : List ℕ)
    → (default : ℕ) → Type 0
CanBranchTable labels arity stack ls default =
    (below : List Value) × (n : ℕ) × (stack ≡ below ++ I32 n ∷ [])
    × CanBranch labels arity below (slice_index_or ls n default)

-- ---- calls

-- the arguments are there, and a module's function is there with its type
abbrev pub CanCall : List WModule → List Value → Callee → Type 0
CanCall modules stack Put = IsI64 stack
CanCall modules stack Stop = IsI64 stack
CanCall modules stack (Own m f) =
    (t : Typed) × (own_function modules m f ≡ Some t) × (length t.type.params ≤ length stack)

-- the function of this index is there
abbrev pub CanCallIndex : List WModule → Store → (m : ℕ) → List Value → (index : ℕ) → Type 0
CanCallIndex modules st m stack f =
    (c : Callee) × (callee_at st m f ≡ Some c) × CanCall modules stack c

-- the function in a slot that is filled has a type, and if it is the one that is asked for the
-- arguments are there
abbrev pub CanCallSlot : List WModule → Store → List Value → (asked : FuncType) → (address : ℕ)
    → Type 0
CanCallSlot modules st stack asked a =
    (c : Callee) × (t : FuncType) × (slice_get st.functions a ≡ Some c)
    × (callee_type modules c ≡ Some t) × (is_same_type asked t ≡ true → CanCall modules stack c)

abbrev pub CanCallIndirect : List WModule → Store → (m : ℕ) → List Value → (type_index slot : ℕ)
    → Type 0
CanCallIndirect modules st m stack index slot =
    (asked : FuncType) × (i : Instance) × (place : ℕ) × (table : Table)
    × (type_at modules m index ≡ Some asked)
    × (instance_of st m ≡ Some i)
    × (slice_get i.tables 0 ≡ Some place)
    × (slice_get st.tables place ≡ Some table)
    × ((a : ℕ) → slice_get table.slots slot ≡ Some (Some a) → CanCallSlot modules st stack asked a)

-- the topmost operand is a slot
abbrev pub CanCallTop : List WModule → Store → (m : ℕ) → List Value → (type_index : ℕ) → Type 0
CanCallTop modules st m stack t =
    (below : List Value) × (n : ℕ) × (stack ≡ below ++ I32 n ∷ [])
    × CanCallIndirect modules st m below t n

-- ---- variables and memory

abbrev pub IsGlobal : Store → (m g : ℕ) → Type 0
IsGlobal st m g = (v : Value) × (global_at st m g ≡ Some v)

-- the local is there, and a value of its type is on top
abbrev pub CanSet : List Value → List Value → (x : ℕ) → Type 0
CanSet locals stack x =
    (below : List Value) × (v old : Value) × (stack ≡ below ++ v ∷ [])
    × (slice_get locals x ≡ Some old) × (type_of v ≡ type_of old)

abbrev pub IsMemory : Store → (m : ℕ) → Type 0
IsMemory st m = (memory : ℕ × Memory) × (memory_of st m ≡ Some memory)

-- an address and a number above it
abbrev pub CanStore : Store → (m : ℕ) → List Value → Type 0
CanStore st m stack =
    (below : List Value) × (place n : ℕ) × (stack ≡ below ++ I32 place ∷ I64 n ∷ []) × IsMemory st m

-- ---- instructions

abbrev pub IsReady : List WModule → Store → Activation → layer.Instr-F Instr → Type 0
IsReady modules st now layer.Unreachable = Unit {0}
IsReady modules st now (layer.Block t body) = Unit {0}
IsReady modules st now (layer.Loop t body) = Unit {0}
IsReady modules st now (layer.If t body otherwise) = IsI32 now.stack
IsReady modules st now (layer.Br l) = CanBranch now.labels now.arity now.stack l
IsReady modules st now (layer.BrIf l) = CanBranchIf now.labels now.arity now.stack l
IsReady modules st now (layer.BrTable ls default) =
    CanBranchTable now.labels now.arity now.stack ls default
IsReady modules st now layer.Return = now.arity ≤ length now.stack
IsReady modules st now (layer.Call f) = CanCallIndex modules st now.instance now.stack f
IsReady modules st now (layer.CallIndirect t) = CanCallTop modules st now.instance now.stack t
IsReady modules st now layer.Drop = IsOne now.stack
IsReady modules st now (layer.LocalGet x) = x < length now.locals
IsReady modules st now (layer.LocalSet x) = CanSet now.locals now.stack x
IsReady modules st now (layer.LocalTee x) = CanSet now.locals now.stack x
IsReady modules st now (layer.GlobalGet g) = IsGlobal st now.instance g
IsReady modules st now (layer.Load kind) = IsI32 now.stack × IsMemory st now.instance
IsReady modules st now (layer.Store width) = CanStore st now.instance now.stack
IsReady modules st now (layer.I32Const n) = Unit {0}
IsReady modules st now (layer.I64Const n) = Unit {0}
IsReady modules st now (layer.Numeric o) = AreNumbers o now.stack

-- at the end of a block the operands that stood below it are there; at the end of a function its
-- results are, and nothing else
abbrev pub IsReadyToEnd : Activation → Option (List Label × Label) → Type 0
IsReadyToEnd now None = length now.stack ≡ now.arity
IsReadyToEnd now (Some p) = p.1.height ≤ length now.stack
