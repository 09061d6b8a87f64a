-- How statements end, and what comes behind them.
use Rattle.std.specs.Prelude.{ℤ}
use Rattle.def_meaning.specs.Answer.{State, Answer, Value, Ended, StillRunning}

-- how control leaves statements: normally, by EXIT, or by RETURN with a value (0 without one)
pub data Completion : Type 0 where
  Normal : Completion
  Exited : Completion
  Returned : (value : ℤ) → Completion

-- statements answer how control leaves them
abbrev pub Outcome : Type 0
Outcome = Answer Completion

-- one after the other: the second runs if the first is completed normally
abbrev pub sequence : Outcome → (State → Outcome) → Outcome
sequence (Value Normal st) next = next st
sequence (Value Exited st) next = Value Exited st
sequence (Value (Returned v) st) next = Value (Returned v) st
sequence (Ended k out) next = Ended k out
sequence (StillRunning out) next = StillRunning out
