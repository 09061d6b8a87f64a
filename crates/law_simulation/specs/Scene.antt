-- Where the code of a body runs, what stands there on both sides, and when code does what the
-- definition of a run says.
use Rattle.std.specs.Prelude.{◌≡◌, ℕ, suc, ◌+◌, ◌≤◌, ◌<◌, ◌^◌, Bool, true, false, ℤ, pos, negsuc, ◌≤ℤ◌, List, [], ◌∷◌, ◌++◌, length, Option, Some, None, slice_get, nat_eq, if◌then◌else◌}
use Rattle.std.specs.Int.{w64, cast_unsigned}
use Rattle.wasm_tree.specs.declared.kinds.ValueType.TheVariants as kind
use Rattle.wasm_tree.specs.declared.instr.Instr.{Instr}
use Rattle.wasm_tree.specs.declared.module.WModule.{WModule}
use Rattle.wasm_tree.specs.declared.store.Value.{Value}
use Rattle.wasm_tree.specs.declared.store.Value.TheVariants.{I32, I64}
use Rattle.wasm_tree.specs.declared.store.Callee.TheVariants.{Put, Stop, Own}
use Rattle.wasm_tree.specs.Machine.{Typed, callee_at, global_at, own_function}
use Rattle.law_effect.specs.Effect.{Fixed, State as Target, store_of, Effect, StillRunning, Does as Effects, Calling, effect, calling}
use Rattle.law_effect.specs.Effect as does
use Rattle.typed_tree.specs.declared.statement.Label.{Label}
use Rattle.typed_tree.specs.declared.types.TypeNo.{TypeNo}
use Rattle.typed_tree.specs.declared.shape.Scalar.{Scalar as Range}
use Rattle.typed_tree.specs.declared.meaning.Variable.{Variable}
use Rattle.typed_tree.specs.declared.known_types.Types.{Types}
use Rattle.typed_tree.specs.Known.{scalar_at}
use Rattle.layout_storage.specs.Types.{Ty, Scalar, Cell, row, component, IsScalar, IsOf}
use Rattle.layout_storage.specs.Sizes.{offset}
use Rattle.layout_storage.specs.Shapes.{tree}
use Rattle.def_meaning.specs.Store.{Location}
use Rattle.def_meaning.specs.Answer.{State as Source, Answer, Ended}
use Rattle.def_meaning.specs.Outcome.{Outcome, Normal, Exited, Returned}
use Rattle.def_meaning.specs.Answer as answer
use Rattle.def_meaning.specs.Environment.{Modules, Environment, slot_named, location_of}
use Rattle.def_meaning.specs.Expressions.{Gives}
use Rattle.def_meaning.specs.Statements.{Does}
use Rattle.law_memory.specs.Relation.{Means, IsNumber, Holds}
use Rattle.def_scheme.specs.Coded.{Coded, Counts, Setting, address_local, number_local}
use Rattle.def_scheme.specs.Exprs.{base_global, variables_row, slot_path}
use Rattle.def_scheme.specs.Helpers.{copy_code, fill_code, check_typed, divisor_checked, div_rest, mod_typed, helper}
use Rattle.law_memory.specs.Called.{HasMemory}

-- ---- where code runs

pub record Scene : Type 0 where
  pub modules : List WModule
  pub fixed : Fixed
  pub own : ℕ  -- the module whose code runs
  pub extra : (k f : ℕ) → ℕ
  pub turns : ℕ
  pub functions : Calling  -- what calls of functions do
  pub program : Modules
  pub result : Option Ty  -- the type of the function's values
  pub around : Environment
  pub setting : Setting
  pub world : List Ty  -- the types of the instances that live
  pub hidden : Location → ℕ → ℕ
  pub limit : ℕ  -- the bytes of the memory
  pub locals : ℕ
  pub kept : ℕ → Option Value  -- what is kept in locals

abbrev pub calls : Scene → Calling
calls k = k.functions

abbrev pub runs : Scene → List Instr → Effects
runs k code = effect k.modules k.fixed k.turns (calls k) k.own code

-- the address of a location
abbrev pub place : Scene → Location → ℕ
place k l = offset (row k.world) l

-- the helpers stand where the scheme puts them
pub record HasHelpers (k : Scene) : Type 0 where
  pub memory : HasMemory k.fixed k.own
  pub put : (bytes : List ℕ) → callee_at (store_of k.fixed bytes) k.own 0 ≡ Some Put
  pub stop : (bytes : List ℕ) → callee_at (store_of k.fixed bytes) k.own 1 ≡ Some Stop
  pub check : (bytes : List ℕ) → callee_at (store_of k.fixed bytes) k.own 4 ≡ Some (Own k.own 2)
  pub check_index : ℕ
  pub check_there : own_function k.modules k.own 2 ≡ Some (check_typed check_index)
  pub quotient : (bytes : List ℕ) → callee_at (store_of k.fixed bytes) k.own 5 ≡ Some (Own k.own 3)
  pub quotient_index : ℕ
  pub quotient_there : own_function k.modules k.own 3
      ≡ Some
      (helper (kind.I64 ∷ kind.I64 ∷ []) (kind.I64 ∷ []) quotient_index (divisor_checked div_rest))
  pub remainder : (bytes : List ℕ) → callee_at (store_of k.fixed bytes) k.own 6 ≡ Some (Own k.own 4)
  pub remainder_index : ℕ
  pub remainder_there : own_function k.modules k.own 4 ≡ Some (mod_typed remainder_index)
  pub copy : (bytes : List ℕ) → callee_at (store_of k.fixed bytes) k.own 2 ≡ Some (Own k.own 0)
  pub copy_index : ℕ
  pub copy_there : own_function k.modules k.own 0
      ≡ Some (helper (kind.I32 ∷ kind.I32 ∷ kind.I32 ∷ []) [] copy_index copy_code)
  pub fill : (bytes : List ℕ) → callee_at (store_of k.fixed bytes) k.own 3 ≡ Some (Own k.own 1)
  pub fill_index : ℕ
  pub fill_there : own_function k.modules k.own 1
      ≡ Some (helper (kind.I32 ∷ kind.I32 ∷ []) [] fill_index fill_code)
  -- they serve the module: calls of them do not count, and their loops may go over all bytes
  pub levels : ℕ
  pub serves : (f : ℕ)
      → f < 5
      → (t : Typed) (args : List Value) (bytes out : List ℕ)
      → calls k k.own f t args bytes out
      ≡ calling k.modules k.fixed k.extra k.turns (suc (suc levels)) k.own f t args bytes out
  pub many : (f : ℕ) → f < 2 → 2 ^ 32 ≤ k.turns + k.extra k.own f

-- ---- values

-- a number of a type: BITSET and procedure types have all numbers of 32 bits
abbrev pub IsIn : Option Range → ℤ → Type 0
IsIn None v = (pos 0 ≤ℤ v) × (v ≤ℤ pos 4294967295)
IsIn (Some r) v = (r.low ≤ℤ v) × (v ≤ℤ r.high)

abbrev pub IsValue : Types → TypeNo → ℤ → Type 0
IsValue types t v = IsIn (scalar_at types t) v

-- the bounds of a scalar type are numbers of INTEGER or of CARDINAL
pub record IsSmall (r : Range) : Type 0 where
  pub low : negsuc 2147483647 ≤ℤ r.low
  pub high : r.high ≤ℤ pos 4294967295
  pub some : r.low ≤ℤ r.high

abbrev pub AreSmall : Types → Type 0
AreSmall types = (t : TypeNo) (r : Range) → scalar_at types t ≡ Some r → IsSmall r

-- each value of one type is one of the other: a value of a subrange is one of its base
abbrev pub AreAmong : Types → (t u : TypeNo) → Type 0
AreAmong types t u = (v : ℤ) → IsValue types t v → IsValue types u v

-- no value of the type is negative
abbrev pub AreNatural : Types → TypeNo → Type 0
AreNatural types t = (v : ℤ) → IsValue types t v → pos 0 ≤ℤ v

-- what is known where the code of a body runs
pub record IsSet (k : Scene) : Type 0 where
  pub helpers : HasHelpers k
  pub types : k.around.types ≡ k.setting.home.types
  pub small : AreSmall k.setting.home.types
  pub room : k.limit < 2 ^ 32

-- the operand that stands for a number
abbrev pub word : ℤ → ℕ
word v = cast_unsigned w64 v

-- variables of the type have one cell, whose numbers are values of the type and stand for
-- themselves
pub record IsCell (types : Types) (t : TypeNo) (c : Scalar) : Type 0 where
  pub is : tree types t ≡ Cell c
  pub number : IsNumber c
  pub scalar : IsScalar c
  pub values : (v : ℤ) → IsOf c v → IsValue types t v
  pub bounds : (v : ℤ) → IsValue types t v → IsOf c v

-- a value of a function: a number of its type, and what it stands for is there
abbrev pub IsResult : Modules → Option Ty → ℤ → Type 0
IsResult p None v = Unit {0}
IsResult p (Some t) v = (c : Scalar) → t ≡ Cell c → IsOf c v × Means p c v

-- ---- variables of modules

-- where a variable is in the store, and a global that has the place of its module's variables
pub record IsGlobal (k : Scene) (v : Variable) (l : Location) (t : Ty) : Type 0 where
  pub base : ℕ
  pub there : (bytes : List ℕ)
      → global_at (store_of k.fixed bytes) k.own (base_global k.setting.home v.home)
      ≡ Some (I32 base)
  pub type : component (row k.world) l ≡ Some t
  pub at : base + offset (variables_row k.setting.home v.home) (v.number ∷ []) ≡ place k l
  pub some : 0 < length l

-- where a formal or a variable of the procedure is: local 0 has the address of its frame
pub record IsOwn (k : Scene) (i : ℕ) (l : Location) (t : Ty) : Type 0 where
  pub frame : ℕ
  pub kept : k.kept 0 ≡ Some (I32 frame)
  pub is : location_of (slot_named k.around (record { up = 0; number = i })) ≡ l
  pub at : frame + slot_path k.setting (record { up = 0; number = i }) [] ≡ place k l
  pub type : component (row k.world) l ≡ Some t
  pub some : 0 < length l

-- where the record of a WITH is: a local has its address
pub record IsWith (k : Scene) (j : ℕ) (l : Location) (t : Ty) : Type 0 where
  pub local : ℕ
  pub there : slice_get k.setting.withs j ≡ Some local
  pub kept : k.kept local ≡ Some (I32 (place k l))
  pub is : slice_get k.around.withs j ≡ Some l
  pub type : component (row k.world) l ≡ Some t
  pub some : 0 < length l

-- ---- what stands on both sides

pub record Stands (k : Scene) (s : Source) (st : Target) : Type 0 where
  pub holds : Holds k.program k.world k.hidden s.store st.bytes
  pub long : length st.bytes ≡ k.limit
  pub count : length st.locals ≡ k.locals
  pub kept : (w : ℕ) (v : Value) → k.kept w ≡ Some v → slice_get st.locals w ≡ Some v
  pub out : st.out ≡ s.out

-- a scene in which one more local is kept
abbrev pub keeping : Scene → ℕ → Value → Scene
keeping k n v = record k { kept = λ w. if nat_eq w n then Some v else k.kept w }

-- the scene inside a WITH: the address of its record is kept
abbrev pub opening : Scene → (w : ℕ) → Location → Scene
opening k w l = record k {
  kept = λ n. if nat_eq n w then Some (I32 (place k l)) else k.kept n;
  setting = record k.setting { withs = k.setting.withs ++ w ∷ [] };
  around = record k.around { withs = k.around.withs ++ l ∷ [] };
}

-- the effect is what the answer says: P of what it gives, or the same end
abbrev pub Into : {A : Type 0} → (A → Source → Effect → Type 0) → Effect → Answer A → Type 0
Into P r (answer.Value a s) = P a s r
Into P r (Ended j out) = r ≡ does.Ended j out
Into P r (answer.StillRunning out) = r ≡ StillRunning out

-- code goes on with a number of a type on top of the operands
pub record GivesNumber (k : Scene) (t : TypeNo) (go : Effects) (stack : List Value) (v : ℤ)
    (s : Source) (r : Effect) : Type 0 where
  pub st : Target
  pub stands : Stands k s st
  pub is : IsValue k.setting.home.types t v
  pub run : r ≡ go st (stack ++ I64 (word v) ∷ [])

-- with an address
pub record GivesPlace (k : Scene) (t : Ty) (go : Effects) (stack : List Value) (l : Location)
    (s : Source) (r : Effect) : Type 0 where
  pub st : Target
  pub stands : Stands k s st
  pub type : component (row k.world) l ≡ Some t
  pub some : 0 < length l
  pub run : r ≡ go st (stack ++ I32 (place k l) ∷ [])

-- ---- counts of locals

-- code asks for locals beyond those that were asked for
pub record Grows (c d : Counts) : Type 0 where
  pub numbers : c.numbers ≤ d.numbers
  pub addresses : c.addresses ≤ d.addresses

-- the counts never fall
abbrev pub IsGrowing : Scene → Coded → Type 0
IsGrowing k code = (exit : ℕ) (c : Counts) → Grows c (code (record k.setting { exit = exit }) c).1

-- nothing is kept in the locals that code may ask for
pub record IsFree (k : Scene) (c : Counts) : Type 0 where
  pub numbers : (w : ℕ) → number_local k.setting c.numbers ≤ w → k.kept w ≡ None
  pub addresses : (w : ℕ) → address_local k.setting c.addresses ≤ w → w < number_local k.setting 0
      → k.kept w ≡ None

-- the function has the locals that its code asks for
pub record HasLocals (k : Scene) (c : Counts) : Type 0 where
  pub numbers : number_local k.setting c.numbers ≤ k.locals
  pub addresses : c.addresses ≤ k.setting.addresses

-- inside blocks EXIT leads elsewhere; else all is the same
abbrev pub inside : Scene → (exit : ℕ) → Setting
inside k exit = record k.setting { exit = exit }

-- code that leaves the address of an entire variable at once, in whatever blocks it stands
abbrev pub IsThere : Scene → (Setting → List Instr) → Location → Type 0
IsThere k at l =
    (exit : ℕ) (s : Source) (st : Target) → Stands k s st → (rest : List Instr) (stack : List Value)
    → runs k (at (inside k exit) ++ rest) st stack ≡ runs k rest st (stack ++ I32 (place k l) ∷ [])

-- ---- code that does what the definition says

-- the code of an expression gives its value, which is one of the type
pub record Agrees (k : Scene) (t : TypeNo) (code : Coded) (value : Gives ℤ) : Type 0 where
  pub grows : (exit : ℕ) (c : Counts) → Grows c (code (inside k exit) c).1
  pub gives : (exit : ℕ) (c : Counts)
      → IsFree k c
      → HasLocals k (code (inside k exit) c).1
      → (s : Source) (st : Target)
      → Stands k s st
      → (rest : List Instr) (stack : List Value)
      → Into (GivesNumber k t (runs k rest) stack)
      (runs k ((code (inside k exit) c).0 ++ rest) st stack) (value k.around s)

-- it does so also if something more is kept
abbrev pub AgreesBeside : Scene → TypeNo → Coded → Gives ℤ → Type 0
AgreesBeside k t code value =
    (n : ℕ) (v : Value) → k.kept n ≡ None → Agrees (keeping k n v) t code value

-- the code of a designator gives its address
pub record Locates (k : Scene) (t : Ty) (code : Coded) (found : Gives Location) : Type 0 where
  pub grows : (exit : ℕ) (c : Counts) → Grows c (code (inside k exit) c).1
  pub gives : (exit : ℕ) (c : Counts)
      → IsFree k c
      → HasLocals k (code (inside k exit) c).1
      → (s : Source) (st : Target)
      → Stands k s st
      → (rest : List Instr) (stack : List Value)
      → Into (GivesPlace k t (runs k rest) stack)
      (runs k ((code (inside k exit) c).0 ++ rest) st stack) (found k.around s)

-- the code of a component goes on from the address of what has type t to the address of a component
-- with type u
pub record Reaches (k : Scene) (t u : Ty) (code : Coded) (reach : Location → Gives Location)
    : Type 0 where
  pub grows : (exit : ℕ) (c : Counts) → Grows c (code (inside k exit) c).1
  pub gives : (exit : ℕ) (c : Counts)
      → IsFree k c
      → HasLocals k (code (inside k exit) c).1
      → (l : Location)
      → component (row k.world) l ≡ Some t
      → 0 < length l
      → (s : Source) (st : Target)
      → Stands k s st
      → (rest : List Instr) (stack : List Value)
      → Into (GivesPlace k u (runs k rest) stack)
      (runs k ((code (inside k exit) c).0 ++ rest) st (stack ++ I32 (place k l) ∷ []))
      (reach l k.around s)

-- and the code of what is behind a value of one type gives one of another
pub record GoesOn (k : Scene) (t u : TypeNo) (code : Coded) (value : ℤ → Gives ℤ) : Type 0 where
  pub grows : (exit : ℕ) (c : Counts) → Grows c (code (inside k exit) c).1
  pub gives : (exit : ℕ) (c : Counts)
      → IsFree k c
      → HasLocals k (code (inside k exit) c).1
      → (v : ℤ)
      → IsValue k.setting.home.types t v
      → (s : Source) (st : Target)
      → Stands k s st
      → (rest : List Instr) (stack : List Value)
      → Into (GivesNumber k u (runs k rest) stack)
      (runs k ((code (inside k exit) c).0 ++ rest) st (stack ++ I64 (word v) ∷ []))
      (value v k.around s)

-- ---- statements

-- a label of a CASE, whose bounds are numbers of 32 bits in order
pub record IsLabel (x : Label) : Type 0 where
  pub low : negsuc 2147483647 ≤ℤ x.low
  pub order : x.low ≤ℤ x.high
  pub high : x.high ≤ℤ pos 4294967295

abbrev pub AreLabels : List Label → Type 0
AreLabels [] = Unit {0}
AreLabels (x ∷ xs) = IsLabel x × AreLabels xs

-- the run goes on from a state that stands
pub record GoesTo (k : Scene) (on : Target → Effect) (s : Source) (r : Effect) : Type 0 where
  pub st : Target
  pub stands : Stands k s st
  pub run : r ≡ on st

-- the function returns: the result of a function is the last operand
abbrev pub stack_after_return : (function : Bool) (below : List Value) → ℤ → List Value
stack_after_return true below v = below ++ I64 (word v) ∷ []
stack_after_return false below v = below

pub record Returns (k : Scene) (function : Bool) (v : ℤ) (s : Source) (r : Effect) : Type 0 where
  pub below : List Value
  pub st : Target
  pub stands : Stands k s st × (function ≡ true → IsResult k.program k.result v)
  pub run : r ≡ does.Returned st (stack_after_return function below v)

-- What is on goes on, EXIT branches to its label, RETURN returns, and all else ends alike.
abbrev pub Ends : (k : Scene) (function : Bool) (exit : ℕ) (stack : List Value)
    (on : Target → Effect) → Effect → Outcome → Type 0
Ends k function exit stack on r (answer.Value Normal s) = GoesTo k on s r
Ends k function exit stack on r (answer.Value Exited s) =
    GoesTo k (λ st. does.Branched exit st stack) s r
Ends k function exit stack on r (answer.Value (Returned v) s) = Returns k function v s r
Ends k function exit stack on r (Ended j out) = r ≡ does.Ended j out
Ends k function exit stack on r (answer.StillRunning out) = r ≡ StillRunning out

-- the code of a statement does what the statement does
pub record Executes (k : Scene) (function : Bool) (code : Coded) (step : Does) : Type 0 where
  pub grows : (exit : ℕ) (c : Counts) → Grows c (code (inside k exit) c).1
  pub goes : (exit : ℕ) (c : Counts)
      → IsFree k c
      → HasLocals k (code (inside k exit) c).1
      → (s : Source) (st : Target)
      → Stands k s st
      → (rest : List Instr) (stack : List Value)
      → Ends k function exit stack (λ st. runs k rest st stack)
      (runs k ((code (inside k exit) c).0 ++ rest) st stack) (step k.around s)
