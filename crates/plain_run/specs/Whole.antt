-- The run of a program.
use Rattle.std.specs.Prelude.{◌≡◌, ℕ, suc, List, [], length}
use Rattle.def_meaning.specs.Answer.{State as Meant, Ended, StillRunning}
use Rattle.def_meaning.specs.Outcome.{Outcome as Course}
use Rattle.def_meaning.specs.Environment.{Modules}
use Rattle.def_meaning.specs.Runs.{bodies, data_size}
use Rattle.plain_values.specs.Surroundings.{modules_of}
use Rattle.plain_store.specs.declared.state.Stop.{Stop}
use Rattle.plain_store.specs.declared.state.Stop.TheVariants as stop
use Rattle.plain_store.specs.declared.prepared.Prepared.{Prepared}
use Rattle.plain_values.specs.declared.program.Program.{Program}
use Rattle.plain_values.specs.declared.program.Around.{Around}
use Rattle.plain_run.specs.declared.whole.Report.{Report}

-- a fault or the end, or the bound, with what has been printed
abbrev pub answered_end : Stop → List ℕ → Course
answered_end (stop.Ended k) out = Ended k out
answered_end stop.StillRunning out = StillRunning out

abbrev pub course_of : Report → Course
course_of x = answered_end x.end x.out

-- what stands around the body of a module
pub record IsBodyAround (program : Program) (home : Prepared) (place left : ℕ) (a : Around)
    : Type 0 where
  pub of : a.program.now ≡ program
  pub nests : a.depth ≡ program.bound
  pub at : a.place ≡ place
  pub body : a.home ≡ home
  pub frames : a.frames ≡ []
  pub withs : a.withs ≡ []
  pub next : a.next ≡ suc (length program.modules.now)
  pub free : a.left ≡ left

unfoldable pub data_of : Modules → ℕ
data_of ms = data_size ms

unfoldable pub bodies_in : Program → (left place : ℕ) → Modules → Meant → Course
bodies_in program left place ms st = bodies (modules_of program) program.bound left place ms st
