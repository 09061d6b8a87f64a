-- The meaning with a WHILE that is bounded in another way. Laws on code count how often the
-- condition is evaluated, since that is how often the code of the loop begins.
use Rattle.std.specs.Prelude.{ℕ, zero, suc, ◌-◌, ℤ, nat_lt, List, [], ◌∷◌, map, Some, None, if◌then◌else◌}
use Rattle.typed_tree.specs.declared.statement.TypedStmt.{TypedStmt, TypedStmt-F, fold-TypedStmt}
use Rattle.typed_tree.specs.declared.statement.TypedStmt.TheOpen as step
use Rattle.def_meaning.specs.Answer.{State, Answer, empty_procedure, storage_fault, Ended, StillRunning}
use Rattle.def_meaning.specs.Outcome.{Outcome}
use Rattle.def_meaning.specs.Environment.{Modules, Environment, Callee, Passed}
use Rattle.def_meaning.specs.Expressions.{Asks, value}
use Rattle.def_meaning.specs.Statements.{Does, Arm, in_turn, step_layer, arm_layer}
use Rattle.def_meaning.specs.Calls.{Entered, storage_need, is_function, result, enter_call, environment_of}
use Rattle.def_meaning.specs.Runs.{storage, body_frame, first_state, body_environment, then_body}

-- what a WHILE does within a bound: its condition, and its body
abbrev pub Whiles : Type 0
Whiles = ℕ → (State → Answer ℤ) → (State → Outcome) → State → Outcome

module _ (w : Whiles) (p : Modules) where
  module _ (ask : Asks) (n : ℕ) where
    abbrev pub step_with : TypedStmt-F Does Arm → Does
    step_with (step.While e body) a st = w n (value p ask e a) (in_turn body a) st
    step_with x a st = step_layer p ask n x a st

    unfoldable pub does_with : TypedStmt → Does
    does_with = fold-TypedStmt Does Arm step_with (arm_layer p ask n)

  module _ (n : ℕ) where
    abbrev pub body_with : Asks → List TypedStmt → Environment → State → Outcome
    body_with ask body a st = in_turn (map (does_with ask n) body) a st

    abbrev pub runs_in_with : Asks → Callee → (activation : ℕ) → Entered → (free : ℕ) → State
        → Answer ℤ
    runs_in_with ask c activation e free st =
        result (is_function c.types c.routine)
        (body_with ask c.routine.body (environment_of c activation e free)
        (record st { store = e.store }))

    abbrev pub runs_with : Asks → Callee → List Passed → (next free : ℕ) → State → Answer ℤ
    runs_with ask c vs next free st =
        if nat_lt free (storage_need c.types c.routine vs)
        then Ended storage_fault st.out
        else runs_in_with ask c next (enter_call c.types c.routine next vs st.store)
        (free - storage_need c.types c.routine vs) st

    unfoldable pub calling_with : (d : ℕ) → Asks
    calling_with zero c vs next free st = StillRunning st.out
    calling_with (suc d) None vs next free st = Ended empty_procedure st.out
    calling_with (suc d) (Some c) vs next free st = runs_with (calling_with d) c vs next free st

    abbrev pub bodies_with : (free place : ℕ) → Modules → State → Outcome
    bodies_with free place [] st = Ended 0 st.out
    bodies_with free place (m ∷ ms) st =
        then_body (body_with (calling_with n) m.body (body_environment p place m free) st)
        (bodies_with free (suc place) ms)

    unfoldable pub run_with : (pages : ℕ) → Outcome
    run_with pages = bodies_with (storage p pages - body_frame) 0 p (first_state p)
