-- What calls do: an activation of its own for each, with copies of what is passed by value.
use Rattle.std.specs.Prelude.{ℕ, zero, suc, ◌+◌, ◌-◌, ◌*◌, ℤ, pos, Bool, true, false, nat_lt, List, [], ◌∷◌, ◌++◌, map, length, Option, Some, None, if◌then◌else◌}
use Rattle.typed_tree.specs.declared.types.TypeNo.{TypeNo}
use Rattle.typed_tree.specs.declared.shape.Formal.{Formal}
use Rattle.typed_tree.specs.declared.shape.Shape.{Shape}
use Rattle.typed_tree.specs.declared.shape.Shape.TheVariants as shape
use Rattle.typed_tree.specs.declared.shape.Made.{Made}
use Rattle.typed_tree.specs.declared.known_types.Types.{Types}
use Rattle.typed_tree.specs.declared.statement.TypedStmt.{TypedStmt}
use Rattle.typed_tree.specs.declared.typed_module.Routine.{Routine}
use Rattle.typed_tree.specs.Known.{made_at}
use Rattle.layout_storage.specs.Sizes.{size}
use Rattle.layout_storage.specs.Shapes.{tree}
use Rattle.layout_storage.specs.Frames.{formals_of, frame}
use Rattle.layout_storage.specs.Texts.{argument_text}
use Rattle.def_meaning.specs.Store.{Location, Store, assign_number, copy_whole, overlay, fresh}
use Rattle.def_meaning.specs.Answer.{State, Answer, Value, no_return, empty_procedure, storage_fault, Ended, StillRunning}
use Rattle.def_meaning.specs.Outcome.{Outcome, Normal, Exited, Returned}
use Rattle.def_meaning.specs.Environment.{Modules, Environment, Named, At, Elements, Callee, Passed, Number, Variable, Array, Text}
use Rattle.def_meaning.specs.Expressions.{Asks}
use Rattle.def_meaning.specs.Statements.{character, in_turn, does}

-- ---- formals

-- how formals begin: their names, the number of the next instance, and the store
pub record Entered : Type 0 where
  pub names : List Named
  pub next : ℕ
  pub store : Store

-- variable v of an activation; its component 0 is what is kept for the call itself
abbrev pub variable_at : (activation v : ℕ) → Location
variable_at activation v = activation ∷ suc v ∷ []

abbrev pub named_also : Entered → Named → Store → Entered
named_also e name store = record e { names = e.names ++ name ∷ []; store = store }

-- the copy of an open array is an instance of its own
abbrev pub copied_also : Entered → (high : ℕ) → Store → Entered
copied_also e high store =
    record { names = e.names ++ Elements (e.next ∷ []) high ∷ []; next = suc e.next; store = store }

-- a number or a copy is the formal's own, a VAR formal is another name of the variable
abbrev pub with_passed : (is_var : Bool) → (activation : ℕ) → Entered → Passed → Entered
with_passed is_var activation e (Number v) =
    named_also e (At (variable_at activation (length e.names)))
    (assign_number (variable_at activation (length e.names)) v e.store)
with_passed true activation e (Variable l) = named_also e (At l) e.store
with_passed false activation e (Variable l) =
    named_also e (At (variable_at activation (length e.names)))
    (copy_whole (variable_at activation (length e.names)) l e.store)
with_passed true activation e (Array l high) = named_also e (Elements l high) e.store
with_passed false activation e (Array l high) =
    copied_also e high (copy_whole (e.next ∷ []) l e.store)
with_passed is_var activation e (Text text) =
    copied_also e (length (argument_text text) - 1) (overlay (e.next ∷ []) (character text) e.store)

abbrev pub with_all : (activation : ℕ) → List Formal → List Passed → Entered → Entered
with_all activation [] vs e = e
with_all activation (f ∷ fs) [] e = e
with_all activation (f ∷ fs) (v ∷ vs) e =
    with_all activation fs vs (with_passed f.is_var activation e v)

-- ---- storage

-- the bytes of the copy of an open array
abbrev pub copy_size : Types → Formal → Passed → ℕ
copy_size types f (Number v) = 0
copy_size types f (Variable l) = 0
copy_size types f (Array l high) = if f.is_var then 0 else suc high * size (tree types f.of)
copy_size types f (Text text) = length (argument_text text) * size (tree types f.of)

abbrev pub copies_size : Types → List Formal → List Passed → ℕ
copies_size types [] vs = 0
copies_size types (f ∷ fs) [] = 0
copies_size types (f ∷ fs) (v ∷ vs) = copy_size types f v + copies_size types fs vs

abbrev pub storage_need : Types → Routine → List Passed → ℕ
storage_need types r vs = size (frame types r) + copies_size types (formals_of types r.heading) vs

-- ---- the body

abbrev pub is_there : {A : Type 0} → Option A → Bool
is_there None = false
is_there (Some t) = true

abbrev pub gives_result : Shape → Bool
gives_result (shape.Procedure h) = is_there h.result
gives_result (shape.Scalar s) = false
gives_result shape.Set = false
gives_result (shape.Array i e) = false
gives_result (shape.Record fs) = false
gives_result (shape.Open e) = false

abbrev pub is_function_made : Option Made → Bool
is_function_made None = false
is_function_made (Some m) = gives_result m.shape

abbrev pub is_function : Types → Routine → Bool
is_function types r = is_function_made (made_at types r.heading)

-- a function that comes to its end is a fault
abbrev pub at_end : Bool → State → Answer ℤ
at_end true st = Ended no_return st.out
at_end false st = Value (pos 0) st

abbrev pub result : Bool → Outcome → Answer ℤ
result function (Value Normal st) = at_end function st
result function (Value Exited st) = at_end function st
result function (Value (Returned v) st) = Value v st
result function (Ended k out) = Ended k out
result function (StillRunning out) = StillRunning out

-- the names of the variables that stand behind the formals
abbrev pub variables_from : (activation v : ℕ) → List TypeNo → List Named
variables_from activation v [] = []
variables_from activation v (t ∷ ts) =
    At (variable_at activation v) ∷ variables_from activation (suc v) ts

abbrev pub enter_call : Types → Routine → (activation : ℕ) → List Passed → Store → Entered
enter_call types r activation vs store =
    with_all activation (formals_of types r.heading) vs (record {
      names = [];
      next = suc activation;
      store = overlay (activation ∷ []) (fresh (frame types r)) store;
    })

-- the body's names are the formals and then the variables
abbrev pub environment_of : Callee → (activation : ℕ) → Entered → (free : ℕ) → Environment
environment_of c activation e free = record {
  place = c.place;
  types = c.types;
  frames = (e.names ++ variables_from activation (length e.names) c.routine.variables) ∷ c.frames;
  withs = [];
  next = e.next;
  free = free;
}

module _ (p : Modules) (n : ℕ) where
  abbrev pub body_does : Asks → List TypedStmt → Environment → State → Outcome
  body_does ask body a st = in_turn (map (does p ask n) body) a st

  abbrev pub runs_in : Asks → Callee → (activation : ℕ) → Entered → (free : ℕ) → State → Answer ℤ
  runs_in ask c activation e free st =
      result (is_function c.types c.routine)
      (body_does ask c.routine.body (environment_of c activation e free)
      (record st { store = e.store }))

  -- a call whose frame and copies do not fit into the free storage is a fault
  abbrev pub runs : Asks → Callee → List Passed → (next free : ℕ) → State → Answer ℤ
  runs ask c vs next free st =
      if nat_lt free (storage_need c.types c.routine vs)
      then Ended storage_fault st.out
      else runs_in ask c next (enter_call c.types c.routine next vs st.store)
      (free - storage_need c.types c.routine vs) st

  -- calls nest at most d deep
  unfoldable pub calling : (d : ℕ) → Asks
  calling zero c vs next free st = StillRunning st.out
  calling (suc d) None vs next free st = Ended empty_procedure st.out
  calling (suc d) (Some c) vs next free st = runs (calling d) c vs next free st
