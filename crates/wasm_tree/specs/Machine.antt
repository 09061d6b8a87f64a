-- The machine (Core 1.0, section 4): one reduction begins an instruction, or reaches the end of a
-- block or a function. If no rule of the standard applies, it traps.
use Rattle.std.specs.Prelude.{ℕ, zero, suc, ◌+◌, ◌-◌, ◌%◌, ◌^◌, ◌==◌, Bool, true, false, ◌&&◌, List, [], ◌∷◌, ◌++◌, length, take, drop, replicate, slice_get, slice_set, slice_index_or, Option, Some, None, nat_le, nat_lt, if◌then◌else◌}
use Rattle.std.specs.Int.{w32, w64}
use Rattle.std.specs.Option.{option_and_then, option_map}
use Rattle.std.specs.List.{flat_map}
use Rattle.wasm_tree.specs.declared.kinds.ValueType.{ValueType}
use Rattle.wasm_tree.specs.declared.kinds.ValueType.TheVariants as types
use Rattle.wasm_tree.specs.declared.kinds.FuncType.{FuncType}
use Rattle.wasm_tree.specs.declared.instr.Instr.{Instr, out-Instr}
use Rattle.wasm_tree.specs.declared.instr.Instr.TheOpen as layer
use Rattle.wasm_tree.specs.declared.instr.Numeric.{Numeric}
use Rattle.wasm_tree.specs.declared.instr.Numeric.TheVariants as numeric
use Rattle.wasm_tree.specs.declared.instr.Load.{Load}
use Rattle.wasm_tree.specs.Numbers.{truth, compares, operation_result, extend_number, load_size, load_number, store_bytes}
use Rattle.wasm_tree.specs.declared.module.Locals.{Locals}
use Rattle.wasm_tree.specs.declared.module.Function.{Function}
use Rattle.wasm_tree.specs.declared.module.WModule.{WModule}
use Rattle.wasm_tree.specs.declared.store.Value.{Value}
use Rattle.wasm_tree.specs.declared.store.Value.TheVariants.{I32, I64}
use Rattle.wasm_tree.specs.declared.store.Callee.{Callee}
use Rattle.wasm_tree.specs.declared.store.Callee.TheVariants.{Put, Stop, Own}
use Rattle.wasm_tree.specs.declared.store.Table.{Table}
use Rattle.wasm_tree.specs.declared.store.Memory.{Memory}
use Rattle.wasm_tree.specs.declared.store.Instance.{Instance}
use Rattle.wasm_tree.specs.declared.store.Store.{Store}

-- ---- configurations

-- a block that was begun and did not end. A branch to it keeps this many operands above those that
-- stood below the block, and goes on with its code, behind a block or at the loop again; behind the
-- end stands the rest (4.2.10)
pub record Label : Type 0 where
  pub arity : ℕ
  pub height : ℕ
  pub again : List Instr
  pub rest : List Instr

-- a function that runs, or waits for one that it called (4.2.11). The last label is the innermost
-- one, the last operand is on top
pub record Activation : Type 0 where
  pub instance : ℕ
  pub arity : ℕ
  pub locals : List Value
  pub labels : List Label
  pub rest : List Instr
  pub stack : List Value

-- the callers wait, the last of them for the function that runs
pub data Config : Type 0 where
  Going : (store : Store) (now : Activation) (callers : List Activation) → Config
  Over : (number : ℕ) → Config
  Trapped : Config

-- a configuration, and what was printed on the way to it
abbrev pub Progress : Type 0
Progress = Config × List ℕ

abbrev pub trap_now : Progress
trap_now = (Trapped, [])

-- ---- the end of a list

-- the last element and those before it
abbrev pub split_last : {A : Type 0} → List A → Option (List A × A)
split_last [] = None
split_last (x ∷ xs) = elim (split_last xs) [ None ↦ Some ([], x) | Some p ↦ Some (x ∷ p.0, p.1) ]

-- the last n elements and those before them
abbrev pub split_end : {A : Type 0} → ℕ → List A → Option (List A × List A)
split_end n xs =
    if nat_le n (length xs) then Some (take (length xs - n) xs, drop (length xs - n) xs) else None

abbrev pub topmost : List Value → Option Value
topmost stack = slice_get stack (length stack - 1)

-- the topmost operand, if it is of 32 or of 64 bits, above the others
abbrev pub top_i32 : List Value → Option (List Value × ℕ)
top_i32 stack =
    option_and_then (λ p. elim p.1 [ I32 n ↦ Some (p.0, n) | I64 n ↦ None ]) (split_last stack)

abbrev pub top_i64 : List Value → Option (List Value × ℕ)
top_i64 stack =
    option_and_then (λ p. elim p.1 [ I32 n ↦ None | I64 n ↦ Some (p.0, n) ]) (split_last stack)

-- goes on with what was found, if it was
abbrev pub or_trap : {A : Type 0} → Option A → (A → Progress) → Progress
or_trap None go = trap_now
or_trap (Some x) go = go x

-- ---- what indices stand for

abbrev pub instance_of : Store → ℕ → Option Instance
instance_of st m = slice_get st.instances m

abbrev pub callee_at : Store → (m index : ℕ) → Option Callee
callee_at st m index =
    option_and_then
    (λ (i : Instance).
    option_and_then (λ a. slice_get st.functions a) (slice_get i.functions index))
    (instance_of st m)

abbrev pub global_at : Store → (m index : ℕ) → Option Value
global_at st m index =
    option_and_then
    (λ (i : Instance). option_and_then (λ a. slice_get st.globals a) (slice_get i.globals index))
    (instance_of st m)

-- the function in a slot of the module's table
abbrev pub function_in_slot : Option (Option ℕ) → Option ℕ
function_in_slot None = None
function_in_slot (Some a) = a

abbrev pub callee_in : Store → (m slot : ℕ) → Option Callee
callee_in st m slot =
    option_and_then
    (λ (i : Instance).
    option_and_then
    (λ t.
    option_and_then
    (λ (table : Table).
    option_and_then (λ a. slice_get st.functions a) (function_in_slot (slice_get table.slots slot)))
    (slice_get st.tables t))
    (slice_get i.tables 0))
    (instance_of st m)

-- a function of a module and its type
pub record Typed : Type 0 where
  pub type : FuncType
  pub function : Function

abbrev pub own_function : List WModule → (m f : ℕ) → Option Typed
own_function modules m f =
    option_and_then
    (λ (tree : WModule).
    option_and_then
    (λ (function : Function).
    option_and_then (λ t. Some (record { type = t; function = function }))
    (slice_get tree.types function.type_index))
    (slice_get tree.functions f))
    (slice_get modules m)

abbrev pub type_at : List WModule → (m index : ℕ) → Option FuncType
type_at modules m index =
    option_and_then (λ (tree : WModule). slice_get tree.types index) (slice_get modules m)

-- what the host's two functions take and give
abbrev pub host_type : FuncType
host_type = record { params = types.I64 ∷ []; results = [] }

abbrev pub callee_type : List WModule → Callee → Option FuncType
callee_type modules Put = Some host_type
callee_type modules Stop = Some host_type
callee_type modules (Own m f) =
    option_and_then (λ (t : Typed). Some t.type) (own_function modules m f)

abbrev pub is_same_value_type : ValueType → ValueType → Bool
is_same_value_type types.I32 types.I32 = true
is_same_value_type types.I64 types.I64 = true
is_same_value_type types.I32 types.I64 = false
is_same_value_type types.I64 types.I32 = false

abbrev pub are_same : List ValueType → List ValueType → Bool
are_same [] [] = true
are_same (x ∷ xs) (y ∷ ys) = is_same_value_type x y && are_same xs ys
are_same [] (y ∷ ys) = false
are_same (x ∷ xs) [] = false

abbrev pub is_same_type : FuncType → FuncType → Bool
is_same_type t u = are_same t.params u.params && are_same t.results u.results

-- the two types are known and the same
abbrev pub agree : Option FuncType → Option FuncType → Bool
agree None u = false
agree (Some t) None = false
agree (Some t) (Some u) = is_same_type t u

-- ---- calls (4.4.7)

abbrev pub zero_of : ValueType → Value
zero_of types.I32 = I32 0
zero_of types.I64 = I64 0

abbrev pub zeros : Locals → List Value
zeros l = replicate l.count (zero_of l.value_type)

-- a function begins, with these arguments
abbrev pub enter_function : (m : ℕ) → Typed → List Value → Activation
enter_function m t args = record {
  instance = m;
  arity = length t.type.results;
  locals = args ++ flat_map zeros t.function.body.locals;
  labels = [];
  rest = t.function.body.code;
  stack = [];
}

-- stop ends with the numbers from 1 to 255, and traps at others
abbrev pub stop_with : ℕ → Config
stop_with k = if nat_le 1 k && nat_le k 255 then Over k else Trapped

-- a call of this function. The host's put prints the low byte
abbrev pub call_function : List WModule → Store → Activation → List Activation → Callee → Progress
call_function modules st now callers Put =
    or_trap (top_i64 now.stack) (λ p.
    (Going st (record now { stack = p.0 }) callers, p.1 % 256 ∷ []))
call_function modules st now callers Stop = or_trap (top_i64 now.stack) (λ p. (stop_with p.1, []))
call_function modules st now callers (Own m f) =
    or_trap (own_function modules m f) (λ t.
    or_trap (split_end (length t.type.params) now.stack) (λ p.
    (Going st (enter_function m t p.1) (callers ++ record now { stack = p.0 } ∷ []), [])))

abbrev pub call_typed : List WModule → Store → Activation → List Activation
    → (asked : Option FuncType) → Callee → Progress
call_typed modules st now callers asked c =
    if agree asked (callee_type modules c) then call_function modules st now callers c else trap_now

abbrev pub push_value : Store → Activation → List Activation → Value → Progress
push_value st now callers v = (Going st (record now { stack = now.stack ++ v ∷ [] }) callers, [])

-- back to the last caller, with these results; with no caller the run is over
abbrev pub return_to : Store → List Activation → List Value → Progress
return_to st callers results = elim (split_last callers) [
  | None ↦ (Over 0, [])
  | Some p ↦ (Going st (record p.1 { stack = p.1.stack ++ results }) p.0, [])
]

-- ---- labels (4.4.5)

-- the code of a block begins: a branch to it keeps this many operands and goes on there
abbrev pub inside : Store → Activation → List Activation → (arity : ℕ) → (again body : List Instr)
    → Progress
inside st now callers arity again body = (
  Going st
      (record now {
        labels = now.labels
            ++ record { arity = arity; height = length now.stack; again = again; rest = now.rest }
            ∷ [];
        rest = body;
      }) callers,
  [],
)

-- the lowest operands, this many, and those that are kept
abbrev pub keep_operands : (height : ℕ) → (List Value × List Value) → List Value
keep_operands height split = take height split.0 ++ split.1

-- a branch that finds a label, the last of those before and itself, or goes out of the function if
-- there is none
abbrev pub branch_to : Store → Activation → List Activation → Option (List Label × Label) → Progress
branch_to st now callers None =
    or_trap (split_end now.arity now.stack) (λ p. return_to st callers p.1)
branch_to st now callers (Some l) =
    or_trap (split_end l.1.arity now.stack) (λ p. (
      Going st (record now { labels = l.0; rest = l.1.again; stack = keep_operands l.1.height p })
          callers,
      [],
    ))

-- a branch to the label of this number, counted from the innermost one
abbrev pub branch_by : Store → Activation → List Activation → (label : ℕ) → Progress
branch_by st now callers label =
    if nat_le label (length now.labels)
    then branch_to st now callers (split_last (take (length now.labels - label) now.labels))
    else trap_now

abbrev pub branched_if : Store → Activation → List Activation → (label condition : ℕ) → Progress
branched_if st now callers label condition =
    if condition == 0 then (Going st now callers, []) else branch_by st now callers label

-- ---- locals and memory (4.4.3, 4.4.4)

abbrev pub with_local : Store → Activation → List Activation → (x : ℕ) → Value → Progress
with_local st now callers x v =
    if nat_lt x (length now.locals)
    then (Going st (record now { locals = slice_set now.locals x v }) callers, [])
    else trap_now

-- the memory of a module, behind its place in the store
abbrev pub memory_of : Store → (m : ℕ) → Option (ℕ × Memory)
memory_of st m =
    option_and_then
    (λ (i : Instance).
    option_and_then (λ a. option_map (λ memory. (a, memory)) (slice_get st.memories a))
    (slice_get i.memories 0))
    (instance_of st m)

-- this many bytes from a place on, if they are there
abbrev pub bytes_at : (size place : ℕ) → List ℕ → Option (List ℕ)
bytes_at size place bytes =
    if nat_le (place + size) (length bytes) then Some (take size (drop place bytes)) else None

-- the list with others from a place on
abbrev pub paste_items : {A : Type 0} → List A → (place : ℕ) → List A → List A
paste_items xs place ys = take place xs ++ ys ++ drop (place + length ys) xs

abbrev pub with_memory_bytes : Store → (place : ℕ) → Memory → List ℕ → Store
with_memory_bytes st place memory bytes =
    record st { memories = slice_set st.memories place (record memory { bytes = bytes }) }

abbrev pub loads : Store → Activation → List Activation → Load → (place : ℕ) → (ℕ × Memory)
    → Progress
loads st now callers kind place memory =
    or_trap (bytes_at (load_size kind) place memory.1.bytes) (λ bytes.
    push_value st now callers (I64 (load_number kind bytes)))

abbrev pub stores : Store → Activation → List Activation → (place : ℕ) → List ℕ → (ℕ × Memory)
    → Progress
stores st now callers place bytes memory =
    if nat_le (place + length bytes) (length memory.1.bytes)
    then (
      Going (with_memory_bytes st memory.0 memory.1 (paste_items memory.1.bytes place bytes)) now
          callers,
      [],
    )
    else trap_now

-- ---- numbers (4.4.1)

-- the operands below and the result, if the topmost ones suit
abbrev pub one_i32 : List Value → (ℕ → Value) → Option (List Value × Value)
one_i32 stack f = option_map (λ p. (p.0, f p.1)) (top_i32 stack)

abbrev pub one_i64 : List Value → (ℕ → Value) → Option (List Value × Value)
one_i64 stack f = option_map (λ p. (p.0, f p.1)) (top_i64 stack)

abbrev pub two_i32 : List Value → (ℕ → ℕ → Value) → Option (List Value × Value)
two_i32 stack f =
    option_and_then (λ m. option_map (λ n. (n.0, f n.1 m.1)) (top_i32 m.0)) (top_i32 stack)

abbrev pub two_i64 : List Value → (ℕ → ℕ → Option Value) → Option (List Value × Value)
two_i64 stack f =
    option_and_then
    (λ m. option_and_then (λ n. option_map (λ v. (n.0, v)) (f n.1 m.1)) (top_i64 m.0))
    (top_i64 stack)

abbrev pub calculation : Numeric → List Value → Option (List Value × Value)
calculation numeric.I32Eqz stack = one_i32 stack (λ n. I32 (truth (n == 0)))
calculation (numeric.I32Relation r) stack = two_i32 stack (λ n m. I32 (truth (compares w32 r n m)))
calculation numeric.I64Eqz stack = one_i64 stack (λ n. I32 (truth (n == 0)))
calculation (numeric.I64Relation r) stack =
    two_i64 stack (λ n m. Some (I32 (truth (compares w64 r n m))))
calculation numeric.I32Add stack = two_i32 stack (λ n m. I32 ((n + m) % 2 ^ 32))
calculation (numeric.I64Operation o) stack =
    two_i64 stack (λ n m. option_map I64 (operation_result o n m))
calculation numeric.I32WrapI64 stack = one_i64 stack (λ n. I32 (n % 2 ^ 32))
calculation numeric.I64ExtendI32S stack = one_i32 stack (λ n. I64 (extend_number n))
calculation numeric.I64ExtendI32U stack = one_i32 stack (λ n. I64 n)

-- ---- an instruction begins (4.4). The rest of the code is what stands behind it

abbrev pub results_of : Option ValueType → ℕ
results_of None = 0
results_of (Some t) = 1

abbrev pub side : (condition : ℕ) → List Instr → Option (List Instr) → List Instr
side condition body None = if condition == 0 then [] else body
side condition body (Some otherwise) = if condition == 0 then otherwise else body

abbrev pub begun_layer : List WModule → Store → Activation → List Activation → Instr
    → layer.Instr-F Instr → Progress
begun_layer modules st now callers i layer.Unreachable = trap_now
begun_layer modules st now callers i (layer.Block t body) =
    inside st now callers (results_of t) now.rest body
begun_layer modules st now callers i (layer.Loop t body) =
    inside st now callers 0 (i ∷ now.rest) body
begun_layer modules st now callers i (layer.If t body otherwise) =
    or_trap (top_i32 now.stack) (λ p.
    inside st (record now { stack = p.0 }) callers (results_of t) now.rest
    (side p.1 body otherwise))
begun_layer modules st now callers i (layer.Br label) = branch_by st now callers label
begun_layer modules st now callers i (layer.BrIf label) =
    or_trap (top_i32 now.stack) (λ p. branched_if st (record now { stack = p.0 }) callers label p.1)
begun_layer modules st now callers i (layer.BrTable labels default) =
    or_trap (top_i32 now.stack) (λ p.
    branch_by st (record now { stack = p.0 }) callers (slice_index_or labels p.1 default))
begun_layer modules st now callers i layer.Return = branch_to st now callers None
begun_layer modules st now callers i (layer.Call f) =
    or_trap (callee_at st now.instance f) (call_function modules st now callers)
begun_layer modules st now callers i (layer.CallIndirect t) =
    or_trap (top_i32 now.stack) (λ p.
    or_trap (callee_in st now.instance p.1)
    (call_typed modules st (record now { stack = p.0 }) callers (type_at modules now.instance t)))
begun_layer modules st now callers i layer.Drop =
    or_trap (split_last now.stack) (λ p. (Going st (record now { stack = p.0 }) callers, []))
begun_layer modules st now callers i (layer.LocalGet x) =
    or_trap (slice_get now.locals x) (push_value st now callers)
begun_layer modules st now callers i (layer.LocalSet x) =
    or_trap (split_last now.stack) (λ p. with_local st (record now { stack = p.0 }) callers x p.1)
begun_layer modules st now callers i (layer.LocalTee x) =
    or_trap (topmost now.stack) (with_local st now callers x)
begun_layer modules st now callers i (layer.GlobalGet g) =
    or_trap (global_at st now.instance g) (push_value st now callers)
begun_layer modules st now callers i (layer.Load kind) =
    or_trap (top_i32 now.stack) (λ p.
    or_trap (memory_of st now.instance) (loads st (record now { stack = p.0 }) callers kind p.1))
begun_layer modules st now callers i (layer.Store width) =
    or_trap (top_i64 now.stack) (λ v.
    or_trap (top_i32 v.0) (λ p.
    or_trap (memory_of st now.instance)
    (stores st (record now { stack = p.0 }) callers p.1 (store_bytes width v.1))))
begun_layer modules st now callers i (layer.I32Const n) = push_value st now callers (I32 n)
begun_layer modules st now callers i (layer.I64Const n) = push_value st now callers (I64 n)
begun_layer modules st now callers i (layer.Numeric o) =
    or_trap (calculation o now.stack) (λ p. push_value st (record now { stack = p.0 }) callers p.1)

abbrev pub begin_instruction : List WModule → Store → Activation → List Activation → Instr
    → Progress
begin_instruction modules st now callers i = begun_layer modules st now callers i (out-Instr i)

-- ---- reductions

-- the end of a block or of the function (4.4.5, 4.4.7)
abbrev pub end_block : Store → Activation → List Activation → Option (List Label × Label) → Progress
end_block st now callers None = branch_to st now callers None
end_block st now callers (Some l) =
    (Going st (record now { labels = l.0; rest = l.1.rest }) callers, [])

abbrev pub next : List WModule → Store → Activation → List Activation → List Instr → Progress
next modules st now callers [] = end_block st now callers (split_last now.labels)
next modules st now callers (i ∷ rest) =
    begin_instruction modules st (record now { rest = rest }) callers i

-- one reduction
unfoldable pub reduce : List WModule → Config → Progress
reduce modules (Going st now callers) = next modules st now callers now.rest
reduce modules (Over k) = (Over k, [])
reduce modules Trapped = (Trapped, [])

-- this many reductions
unfoldable pub run : List WModule → ℕ → Config → Progress
run modules zero c = (c, [])
run modules (suc n) c =
    let first = reduce modules c in
    let others = run modules n first.0 in (others.0, first.1 ++ others.1)
