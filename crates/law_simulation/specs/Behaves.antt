-- What it is for the machine's run to be the run of a program.
use Rattle.std.specs.Prelude.{◌≡◌, ℕ, ◌≤◌, List, ◌++◌}
use Rattle.wasm_tree.specs.declared.module.WModule.{WModule}
use Rattle.wasm_tree.specs.Machine.{Config, Over, run}
use Rattle.law_effect.specs.Laws.{IsOver}
use Rattle.def_meaning.specs.Answer.{Ended, StillRunning}
use Rattle.def_meaning.specs.Outcome.{Outcome}
use Rattle.def_meaning.specs.Later.{output_of}

-- The program's run with each bound, and the machine's run from a configuration.
pub record Behaves (modules : List WModule) (c : Config) (program : ℕ → Outcome) : Type 0 where
  -- if the program's run ends, the machine's run ends with the same number and the same bytes
  pub ends : (n k : ℕ) (out : List ℕ) → program n ≡ Ended k out
      → (m : ℕ) × (run modules m c ≡ (Over k, out))
  -- if the program still runs with every bound, the machine still runs after every number of
  -- reductions
  pub goes_on : ((n : ℕ) → (out : List ℕ) × (program n ≡ StillRunning out)) → (m : ℕ)
      → IsOver (run modules m c).0 → ⊥
  -- the machine never traps, and if it ends, the program ends
  pub only : (m : ℕ) (d : Config) (out : List ℕ) → IsOver d → run modules m c ≡ (d, out)
      → (n : ℕ) × (k : ℕ) × (d ≡ Over k) × (program n ≡ Ended k out)
  -- what the machine has printed is a beginning of what the program prints
  pub prints : (m : ℕ)
      → (n : ℕ) × (rest : List ℕ) × (output_of (program n) ≡ (run modules m c).1 ++ rest)
  -- what the program has printed while it runs is what the machine has printed at some time
  pub prints_also : (n : ℕ) (out : List ℕ) → program n ≡ StillRunning out
      → (m : ℕ) × (n ≤ m) × ((run modules m c).1 ≡ out)
