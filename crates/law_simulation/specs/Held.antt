-- Values of procedure types: where they come from, where they go, and calls of them.
use Rattle.std.specs.Prelude.{◌≡◌, ℕ, ◌<◌, ◌^◌, ℤ, pos, Bool, true, List, [], ◌∷◌, ◌++◌, Some, None}
use Rattle.wasm_tree.specs.declared.instr.Instr.{Instr}
use Rattle.wasm_tree.specs.declared.instr.Instr.TheVariants as instr
use Rattle.wasm_tree.specs.declared.store.Callee.TheVariants.{Own}
use Rattle.wasm_tree.specs.declared.store.Value.{Value}
use Rattle.wasm_tree.specs.declared.store.Value.TheVariants.{I64}
use Rattle.wasm_tree.specs.Machine.{Typed, callee_in, own_function, type_at}
use Rattle.law_effect.specs.Effect.{State as Target, Effect, Does as Effects, store_of}
use Rattle.typed_tree.specs.declared.computed.Argument.TheOpen as layer
use Rattle.typed_tree.specs.declared.meaning.Procedure.{Procedure}
use Rattle.typed_tree.specs.declared.types.TypeNo.{TypeNo}
use Rattle.typed_tree.specs.Known.{scalar_at}
use Rattle.layout_storage.specs.Types.{Ty, Scalar, Callable, Cell, Heading, IsOf}
use Rattle.layout_storage.specs.Shapes.{tree}
use Rattle.layout_storage.specs.Frames.{formals_of}
use Rattle.def_meaning.specs.Store.{Location}
use Rattle.def_meaning.specs.Answer.{State as Source, ◌▷◌}
use Rattle.def_meaning.specs.Outcome.{Normal, Returned}
use Rattle.def_meaning.specs.Answer as answer
use Rattle.def_meaning.specs.Environment.{Modules, Callee, Passed, Number, module_place, entry_of, entry_callee}
use Rattle.def_meaning.specs.Calls.{is_there}
use Rattle.def_meaning.specs.Expressions as meaning
use Rattle.def_meaning.specs.Expressions.{Asks, Gives, as_type, asked_if}
use Rattle.def_meaning.specs.Statements.{store_number}
use Rattle.law_memory.specs.Relation.{NamesProcedure, IsProcedureValue, heading_at, value_number}
use Rattle.def_scheme.specs.Coded.{Coded, Counts, plain, ◌⨾◌, all_coded, with_number, with_setting, check_code}
use Rattle.def_scheme.specs.Cells as cells
use Rattle.def_scheme.specs.Cells.{check_taken}
use Rattle.def_scheme.specs.Exprs as code
use Rattle.def_scheme.specs.Exprs.{Part, Numbered, behind, all_arguments, has_result, loaded_from, top_code, value_call}
use Rattle.def_scheme.specs.Signatures.{signature, of_heading, type_of}
use Rattle.law_simulation.specs.Scene.{Scene, IsSet, IsCell, calls, runs, word, Stands, keeping, Into, Grows, IsGrowing, IsFree, HasLocals, inside, Agrees, Locates, Executes}
use Rattle.law_simulation.specs.CallsLaws.{HasSlot}
use Rattle.law_simulation.specs.Passing.{ByNumber, all_operands, forms_in, heading_result, Passes, PassAll, DoesAsked, HasTop, Calls}

-- ---- values of a procedure type

-- code goes on with the number of a procedure with this heading, or of none
pub record GivesHeld (k : Scene) (h : Heading) (go : Effects) (stack : List Value) (v : ℤ)
    (s : Source) (r : Effect) : Type 0 where
  pub st : Target
  pub stands : Stands k s st
  pub within : IsOf (Callable h) v
  pub held : IsProcedureValue k.program h v
  pub run : r ≡ go st (stack ++ I64 (word v) ∷ [])

pub record AgreesHeld (k : Scene) (h : Heading) (code : Coded) (value : Gives ℤ) : Type 0 where
  pub grows : (exit : ℕ) (c : Counts) → Grows c (code (inside k exit) c).1
  pub gives : (exit : ℕ) (c : Counts)
      → IsFree k c
      → HasLocals k (code (inside k exit) c).1
      → (s : Source) (st : Target)
      → Stands k s st
      → (rest : List Instr) (stack : List Value)
      → Into (GivesHeld k h (runs k rest) stack)
      (runs k ((code (inside k exit) c).0 ++ rest) st stack) (value k.around s)

-- ---- where they come from

-- a procedure variable
abbrev pub HeldLoads : Type 0
HeldLoads =
    (k : Scene)
    → IsSet k
    → (p : Modules) (ask : Asks) (t : TypeNo) (h : Heading) (d : Coded) (found : Gives Location)
    → tree k.setting.home.types t ≡ Cell (Callable h)
    → Locates k (Cell (Callable h)) d found
    → AgreesHeld k h (code.expr_layer (layer.Load t d)).code
    (meaning.expr_layer p ask (layer.Load t found))

-- a procedure of a module
abbrev pub HeldProcedures : Type 0
HeldProcedures =
    (k : Scene)
    → IsSet k
    → (ask : Asks) (f : Procedure) (h : Heading)
    → HasSlot k k.program f
    → NamesProcedure k.program h (value_number k.program (module_place k.program f.home) f.number)
    → AgreesHeld k h (code.expr_layer (layer.Procedure f)).code
    (meaning.expr_layer k.program ask (layer.Procedure f))

-- the result of a function
abbrev pub HeldResults : Type 0
HeldResults =
    (k : Scene) (h : Heading) (c : Coded) (value : Gives ℤ)
    → Calls k (Some (Cell (Callable h))) c value → AgreesHeld k h c value

-- and of one that gives numbers
abbrev pub NumberResults : Type 0
NumberResults =
    (k : Scene) (t : TypeNo) (r : Scalar) (c : Coded) (value : Gives ℤ)
    → IsCell k.setting.home.types t r
    → Calls k (Some (tree k.setting.home.types t)) c value
    → Agrees k t c value

-- ---- where they go

-- they are compared as numbers
abbrev pub HeldNumbers : Type 0
HeldNumbers =
    (k : Scene) (t : TypeNo) (h : Heading) (c : Coded) (value : Gives ℤ)
    → scalar_at k.setting.home.types t ≡ None → AgreesHeld k h c value → Agrees k t c value

-- no check is made if they are taken as values of a procedure type
abbrev pub HeldTaken : Type 0
HeldTaken =
    (k : Scene)
    → IsSet k
    → (t : TypeNo) (h : Heading) (x : Part) (value : Gives ℤ)
    → scalar_at k.setting.home.types t ≡ None
    → AgreesHeld k h x.code value
    → AgreesHeld k h (behind x.code (λ types. check_taken types t x.constant x.of)) (λ a s.
    value a s ▷ λ v s. as_type a.types t v s)

abbrev pub HeldAssigns : Type 0
HeldAssigns =
    (k : Scene)
    → IsSet k
    → (function : Bool) (t : TypeNo) (h : Heading) (d e : Coded) (found : Gives Location)
    (value : Gives ℤ)
    → tree k.setting.home.types t ≡ Cell (Callable h)
    → Locates k (Cell (Callable h)) d found
    → AgreesHeld k h e value
    → Executes k function (d ⨾ e ⨾ with_setting (λ s. plain (cells.store_code s.home.types t)))
    (λ a s. found a s ▷ λ l s. value a s ▷ λ v s. answer.Value Normal (store_number l v s))

-- for a value formal
abbrev pub HeldPasses : Type 0
HeldPasses =
    (k : Scene) (h : Heading) (c : Coded) (value : Gives ℤ) → AgreesHeld k h c value → Passes k
    (ByNumber (Callable h)) c (λ a s. value a s ▷ λ v s. answer.Value (Number v) s)

-- RETURN
abbrev pub HeldGives : Type 0
HeldGives =
    (k : Scene) (h : Heading) (e : Coded) (value : Gives ℤ)
    → k.result ≡ Some (Cell (Callable h))
    → AgreesHeld k h e value
    → Executes k true (e ⨾ plain (instr.Return ∷ [])) (λ a s.
    value a s ▷ λ v s. answer.Value (Returned v) s)

-- ---- calls of them

module _ (k : Scene) (ask : Asks) (base : List Ty) (texts : Location → ℕ → ℕ) where
  -- the procedure with this number, which has this heading, and the function in its slot
  pub record HasCallee (h : Heading) (n : ℕ) : Type 0 where
    pub some : 0 < n
    pub small : n < 2 ^ 32
    pub callee : Callee
    pub is : entry_callee k.program (entry_of k.program (pos n)) ≡ Some callee
    pub outermost : callee.frames ≡ []
    pub own : ℕ
    pub function : ℕ
    pub typed : Typed
    pub filled : (bytes : List ℕ)
        → callee_in (store_of k.fixed bytes) k.own n ≡ Some (Own own function)
    pub there : own_function k.modules own function ≡ Some typed
    pub type :
        typed.type ≡ type_of (signature (all_operands (forms_in h)) (is_there (heading_result h)))
    pub does : DoesAsked k.program base texts k.limit (calls k) ask callee [] (forms_in h)
        (heading_result h) own function typed

  -- each number of a procedure has one
  abbrev pub HasCallees : Type 0
  HasCallees = (h : Heading) (n : ℕ) → NamesProcedure k.program h n → HasCallee h n

-- the number is checked and kept, then come the arguments, and then the call through the table
abbrev pub held_call : Numbered → TypeNo → Coded → List Coded → Coded
held_call numbered t x xs =
    x ⨾ plain (check_code (pos 1) (pos 4294967295) 7) ⨾ with_number (λ n.
    plain (instr.LocalSet n ∷ []) ⨾ top_code ⨾ all_coded xs ⨾ value_call numbered n t)

-- if the module has the type of the functions with this heading
abbrev pub HeldCalls : Type 0
HeldCalls =
    (k : Scene)
    → IsSet k
    → (ask : Asks) (numbered : Numbered) (base : List Ty) (texts : Location → ℕ → ℕ)
    → HasTop k base texts
    → HasCallees k ask base texts
    → (t : TypeNo) (h : Heading)
    → heading_at k.setting.home.types t ≡ Some h
    → type_at k.modules k.own (numbered (all_arguments (formals_of k.setting.home.types t))
    (has_result k.setting.home.types t))
    ≡ Some (type_of (of_heading k.setting.home.types t))
    → (x : Coded) (value : Gives ℤ)
    → AgreesHeld k h x value
    → (xs : List Coded) (gs : List (Gives Passed))
    → IsGrowing k (all_coded xs)
    → ((n : ℕ) (v : Value) → k.kept n ≡ None → PassAll (keeping k n v) (forms_in h) xs gs)
    → Calls k (heading_result h) (held_call numbered t x xs) (λ a s.
    value a s ▷ λ v s.
    asked_if k.program ask (entry_callee k.program (entry_of k.program v)) gs a s)
