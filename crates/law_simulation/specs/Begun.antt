-- The meaning as laws on code have it: a WHILE evaluates its condition at most n times, since its
-- code begins as often. So it may make one turn less than the language's meaning has. What this
-- makes of a whole run is a beginning of the language's run, and of the run with the bound n + 1.
use Rattle.std.specs.Prelude.{ℕ, zero, suc, ℤ, List, if◌then◌else◌}
use Rattle.typed_tree.specs.declared.statement.TypedStmt.{TypedStmt, TypedStmt-F}
use Rattle.def_meaning.specs.Answer.{State, Answer, Value, ◌▷◌, StillRunning}
use Rattle.def_meaning.specs.Outcome.{Outcome, Normal, sequence}
use Rattle.def_meaning.specs.Operators.{is_true}
use Rattle.def_meaning.specs.Environment.{Modules, Environment, Callee, Passed}
use Rattle.def_meaning.specs.Expressions.{Asks}
use Rattle.def_meaning.specs.Statements.{Does, Arm}
use Rattle.def_meaning.specs.Whiles.{step_with, does_with, body_with, runs_with, calling_with, bodies_with, run_with}

abbrev pub while_begun : ℕ → (State → Answer ℤ) → (State → Outcome) → State → Outcome
while_begun zero test body st = StillRunning st.out
while_begun (suc n) test body st =
    test st ▷ λ v st.
    if is_true v then sequence (body st) (while_begun n test body) else Value Normal st

abbrev pub step_layer : Modules → Asks → (n : ℕ) → TypedStmt-F Does Arm → Does
step_layer = step_with while_begun

abbrev pub does : Modules → Asks → (n : ℕ) → TypedStmt → Does
does = does_with while_begun

abbrev pub body_does : Modules → (n : ℕ) → Asks → List TypedStmt → Environment → State → Outcome
body_does = body_with while_begun

abbrev pub runs : Modules → (n : ℕ) → Asks → Callee → List Passed → (next free : ℕ) → State
    → Answer ℤ
runs = runs_with while_begun

abbrev pub calling : Modules → (n d : ℕ) → Asks
calling = calling_with while_begun

abbrev pub bodies : Modules → (n free place : ℕ) → Modules → State → Outcome
bodies = bodies_with while_begun

abbrev pub run : Modules → (n pages : ℕ) → Outcome
run = run_with while_begun
