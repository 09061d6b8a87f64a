-- What more time makes of a run.
use Rattle.std.specs.Prelude.{◌≡◌, ℕ, ◌≤◌, List, ◌++◌}
use Rattle.def_meaning.specs.Answer.{Ended, StillRunning, Value}
use Rattle.def_meaning.specs.Outcome.{Outcome, Normal, Exited, Returned}
use Rattle.def_meaning.specs.Environment.{Modules}
use Rattle.def_meaning.specs.Runs.{run}

abbrev pub output_of : Outcome → List ℕ
output_of (Value Normal st) = st.out
output_of (Value Exited st) = st.out
output_of (Value (Returned v) st) = st.out
output_of (Ended k out) = out
output_of (StillRunning out) = out

-- the second is the first, and then more
pub record Begins (xs ys : List ℕ) : Type 0 where
  pub more : List ℕ
  pub rest : xs ++ more ≡ ys

-- a run that ended with a bound ends alike with every greater one
abbrev pub EndsAlike : Type 0
EndsAlike =
    (p : Modules) (pages n m k : ℕ) (out : List ℕ) → n ≤ m → run p pages n ≡ Ended k out
    → run p pages m ≡ Ended k out

-- what is printed with a bound is a beginning of what is printed with every greater one
abbrev pub PrintsOn : Type 0
PrintsOn =
    (p : Modules) (pages n m : ℕ) → n ≤ m
    → Begins (output_of (run p pages n)) (output_of (run p pages m))
