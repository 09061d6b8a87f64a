-- What calls do, if nothing that they ask for may be missing: the arguments are those that the
-- formals ask for, a new instance gets a number that no other has, and the types of its variables
-- are there.
use Rattle.std.specs.Prelude.{ℕ, zero, suc, ◌-◌, ◌==◌, ℤ, Bool, true, false, not, ◌&&◌, nat_lt, List, [], ◌∷◌, ◌++◌, map, length, Some, None, if◌then◌else◌}
use Rattle.typed_tree.specs.declared.shape.Formal.{Formal}
use Rattle.typed_tree.specs.declared.known_types.Types.{Types}
use Rattle.typed_tree.specs.declared.statement.TypedStmt.{TypedStmt}
use Rattle.layout_storage.specs.Types as layout
use Rattle.layout_storage.specs.Shapes.{tree}
use Rattle.layout_storage.specs.Frames.{formals_of, frame}
use Rattle.layout_storage.specs.Texts.{argument_text}
use Rattle.def_meaning.specs.Answer.{State, Answer, Ended, StillRunning, storage_fault, Value}
use Rattle.def_meaning.specs.Outcome.{Outcome, Exited}
use Rattle.def_meaning.specs.Environment.{Modules, Environment, Callee, Passed, Number, Variable, Array, Text}
use Rattle.def_meaning.specs.Expressions.{Asks}
use Rattle.def_meaning.specs.Statements.{in_turn}
use Rattle.def_meaning.specs.Calls as meaning
use Rattle.def_meaning.specs.Calls.{Entered, storage_need, is_function, enter_call, environment_of}
use Rattle.law_modules.specs.There.{are_types}
use Rattle.law_nothing_missing.specs.Worlds.{World, type_at, is_cell, is_like}
use Rattle.law_nothing_missing.specs.Expressions.{lacks, if_provided}
use Rattle.law_nothing_missing.specs.Statements.{does}

-- ---- arguments

-- a number for a formal of a scalar type, a variable of the formal's type, or as many elements of
-- that type as HIGH says
abbrev pub suits : Types → World → Formal → Passed → Bool
suits types world f (Number v) = not f.is_open && not f.is_var && is_cell (Some (tree types f.of))
suits types world f (Variable l) = not f.is_open && is_like (type_at world l) (tree types f.of)
suits types world f (Array l high) =
    f.is_open && is_like (type_at world l) (layout.Array (suc high) (tree types f.of))
suits types world f (Text text) = f.is_open && not f.is_var && is_cell (Some (tree types f.of))

abbrev pub all_suit : Types → World → List Formal → List Passed → Bool
all_suit types world [] [] = true
all_suit types world [] (v ∷ vs) = false
all_suit types world (f ∷ fs) [] = false
all_suit types world (f ∷ fs) (v ∷ vs) = suits types world f v && all_suit types world fs vs

-- the copy of an open array
abbrev pub copy_of : Types → Formal → Passed → World
copy_of types f (Number v) = []
copy_of types f (Variable l) = []
copy_of types f (Array l high) =
    if f.is_var then [] else layout.Array (suc high) (tree types f.of) ∷ []
copy_of types f (Text text) = layout.Array (length (argument_text text)) (tree types f.of) ∷ []

abbrev pub copies_of : Types → List Formal → List Passed → World
copies_of types [] vs = []
copies_of types (f ∷ fs) [] = []
copies_of types (f ∷ fs) (v ∷ vs) = copy_of types f v ++ copies_of types fs vs

-- ---- the body

module _ (lacking : ℕ) where
  -- EXIT does not leave it
  abbrev pub result : Bool → Outcome → Answer ℤ
  result function (Value Exited st) = lacks lacking st
  result function other = meaning.result function other

  module _ (p : Modules) (n : ℕ) where
    abbrev pub body_does : Asks → World → (function : Bool) → List TypedStmt → Environment → State
        → Outcome
    body_does ask world function body a st =
        in_turn (map (does lacking p ask world n function) body) a st

    -- in a world that has the frame, and the copies behind it
    abbrev pub runs_in : (World → Asks) → World → Callee → (activation : ℕ) → Entered → (left : ℕ)
        → State → Answer ℤ
    runs_in ask world c activation e left st =
        result (is_function c.types c.routine)
        (body_does (ask world) world (is_function c.types c.routine) c.routine.body
        (environment_of c activation e left) (record st { store = e.store }))

    abbrev pub runs_with : (World → Asks) → World → Callee → List Passed → (next left : ℕ) → State
        → Answer ℤ
    runs_with ask world c vs next left st =
        if nat_lt left (storage_need c.types c.routine vs)
        then Ended storage_fault st.out
        else runs_in ask
        (world
        ++ frame c.types c.routine ∷ copies_of c.types (formals_of c.types c.routine.heading) vs)
        c next (enter_call c.types c.routine next vs st.store)
        (left - storage_need c.types c.routine vs) st

    abbrev pub runs : (World → Asks) → World → Callee → List Passed → (next left : ℕ) → State
        → Answer ℤ
    runs ask world c vs next left st =
        if_provided lacking
        (next == length world
        && all_suit c.types world (formals_of c.types c.routine.heading) vs
        && are_types c.types c.routine.variables)
        (runs_with ask world c vs next left) st

    unfoldable pub calling : (d : ℕ) → World → Asks
    calling zero world c vs next left st = StillRunning st.out
    calling (suc d) world None vs next left st = lacks lacking st
    calling (suc d) world (Some c) vs next left st = runs (calling d) world c vs next left st
