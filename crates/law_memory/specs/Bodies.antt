-- The run of a whole program: its bodies are called one after another through the table.
use Rattle.std.specs.Prelude.{◌≡◌, true, ℕ, suc, List, [], ◌∷◌, Some}
use Rattle.wasm_tree.specs.declared.kinds.FuncType.{FuncType}
use Rattle.wasm_tree.specs.declared.kinds.ValueType.TheVariants as types
use Rattle.wasm_tree.specs.declared.instr.Instr.{Instr}
use Rattle.wasm_tree.specs.declared.instr.Instr.TheVariants as instr
use Rattle.wasm_tree.specs.declared.module.WModule.{WModule}
use Rattle.wasm_tree.specs.declared.store.Value.{Value}
use Rattle.wasm_tree.specs.declared.store.Value.TheVariants.{I32}
use Rattle.wasm_tree.specs.declared.store.Callee.TheVariants.{Own}
use Rattle.wasm_tree.specs.Machine.{Going, Typed, callee_in, global_at, own_function, type_at, agree, enter_function}
use Rattle.law_effect.specs.Effect.{Fixed, State, store_of, Effect, FellThrough, Calling, effect, calling, then_run, back}
use Rattle.law_effect.specs.Laws.{RunLeads}

-- a body: the global that has its slot in the table, and the function of a module that stands there
pub record BodyAt : Type 0 where
  pub global : ℕ
  pub slot : ℕ
  pub own : ℕ
  pub function : ℕ
  pub typed : Typed

-- a body takes the address of its frame
abbrev pub body_type : FuncType
body_type = record { params = types.I32 ∷ []; results = [] }

-- the body stands where the module m looks for it
pub record IsThere (modules : List WModule) (fx : Fixed) (m type : ℕ) (b : BodyAt) : Type 0 where
  pub slot : (bytes : List ℕ) → global_at (store_of fx bytes) m b.global ≡ Some (I32 b.slot)
  pub callee : (bytes : List ℕ)
      → callee_in (store_of fx bytes) m b.slot ≡ Some (Own b.own b.function)
  pub typed : own_function modules b.own b.function ≡ Some b.typed
  pub agrees : agree (type_at modules m type) (Some b.typed.type) ≡ true
  pub is_body : b.typed.type ≡ body_type

abbrev pub AreThere : List WModule → Fixed → (m type : ℕ) → List BodyAt → Type 0
AreThere modules fx m type [] = Unit {0}
AreThere modules fx m type (b ∷ bs) = IsThere modules fx m type b × AreThere modules fx m type bs

-- calls of bodies, each with a frame that begins at the same address
abbrev pub bodies_code : (top type : ℕ) → List BodyAt → List Instr
bodies_code top type [] = []
bodies_code top type (b ∷ bs) =
    instr.I32Const top ∷ instr.GlobalGet b.global ∷ instr.CallIndirect type
    ∷ bodies_code top type bs

-- what the bodies do, one after another
abbrev pub bodies_do : Calling → (top : ℕ) → List BodyAt → State → List Value → Effect
bodies_do calls top [] st s = FellThrough st s
bodies_do calls top (b ∷ bs) st s =
    then_run (back 0 st.locals s (calls b.own b.function b.typed (I32 top ∷ []) st.bytes st.out))
    (bodies_do calls top bs)

abbrev pub BodiesCalled : Type 0
BodiesCalled =
    (modules : List WModule) (fx : Fixed) (n : ℕ) (calls : Calling) (m top type : ℕ)
    (bs : List BodyAt)
    → AreThere modules fx m type bs
    → (st : State) (s : List Value)
    → effect modules fx n calls m (bodies_code top type bs) st s ≡ bodies_do calls top bs st s

-- the function that link exports as `run`
abbrev pub run_typed : (index top type : ℕ) → List BodyAt → Typed
run_typed index top type bs = record {
  type = record { params = []; results = [] };
  function =
      record { type_index = index; body = record { locals = []; code = bodies_code top type bs } };
}

-- a run that begins there leads where the bodies lead
abbrev pub ProgramRuns : Type 0
ProgramRuns =
    (modules : List WModule) (fx : Fixed) (extra : (k f : ℕ) → ℕ) (n m f index top type : ℕ)
    (bs : List BodyAt)
    → AreThere modules fx m type bs
    → (bytes : List ℕ)
    → RunLeads modules n 0
    (Going (store_of fx bytes) (enter_function m (run_typed index top type bs) []) [])
    (bodies_do (calling modules fx extra n n) top bs
    (record { locals = []; bytes = bytes; out = [] }) [])
