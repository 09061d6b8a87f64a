-- The definition's view of what the interpreter keeps.
use Rattle.std.specs.Prelude.{ℕ, ℤ, List, [], ◌∷◌, ◌++◌, map, unsigned_abs}
use Rattle.def_meaning.specs.Store.{Location, Store}
use Rattle.def_meaning.specs.Answer.{Value, State as Meant, Answer as Given, Ended, StillRunning}
use Rattle.def_meaning.specs.Outcome.{Outcome as Course, Normal, Exited, Returned}
use Rattle.plain_store.specs.declared.state.State.{State}
use Rattle.plain_store.specs.declared.state.Stop.{Stop}
use Rattle.plain_store.specs.declared.state.Stop.TheVariants as stop
use Rattle.plain_store.specs.declared.state.Answer.{Answer}
use Rattle.plain_store.specs.declared.state.Answer.TheVariants as answer
use Rattle.plain_store.specs.declared.state.Outcome.{Outcome}
use Rattle.plain_store.specs.declared.state.Outcome.TheVariants as outcome
use Rattle.plain_store.specs.Contents.{contents}

-- what the variables hold, and what has been printed
abbrev pub view_of : State → Meant
view_of st = record { store = contents st.store; out = st.out }

abbrev pub with_store : Store → Meant → Meant
with_store s st = record st { store = s }

abbrev pub with_byte : ℤ → Meant → Meant
with_byte v st = record st { out = st.out ++ unsigned_abs v ∷ [] }

-- a fault, HALT, or the bound
abbrev pub stop_meaning : {A : Type 0} → Stop → State → Given A
stop_meaning (stop.Ended k) st = Ended k st.out
stop_meaning stop.StillRunning st = StillRunning st.out

-- what is given
abbrev pub answer_meaning : {A : Type 0} → Answer A → State → Given A
answer_meaning (answer.Value v) st = Value v (view_of st)
answer_meaning (answer.Stopped s) st = stop_meaning s st

-- the same for statements
abbrev pub stop_course : Stop → State → Course
stop_course (stop.Ended k) st = Ended k st.out
stop_course stop.StillRunning st = StillRunning st.out

abbrev pub outcome_course : Outcome → State → Course
outcome_course outcome.Normal st = Value Normal (view_of st)
outcome_course outcome.Exited st = Value Exited (view_of st)
outcome_course (outcome.Returned v) st = Value (Returned v) (view_of st)
outcome_course (outcome.Stopped s) st = stop_course s st
