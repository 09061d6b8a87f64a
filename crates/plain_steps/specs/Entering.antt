-- How calls begin, as the definition sees it.
use Rattle.std.specs.Prelude.{◌≡◌, ℕ, List, [], ◌∷◌, ◌++◌, map, length}
use Rattle.def_meaning.specs.Answer.{State as Meant}
use Rattle.def_meaning.specs.Environment.{Named as Name}
use Rattle.def_meaning.specs.Calls.{Entered, variables_from}
use Rattle.plain_values.specs.declared.program.Named.{Named}
use Rattle.plain_values.specs.declared.program.Program.{Program}
use Rattle.plain_values.specs.declared.program.Around.{Around}
use Rattle.plain_values.specs.declared.program.Callee.{Callee}
use Rattle.plain_steps.specs.declared.entering.Begun.{Begun}
use Rattle.plain_values.specs.Surroundings.{name_of, frames_of}

abbrev pub names_of : List Named → List Name
names_of ns = map name_of ns

abbrev pub begun_of : Begun → Meant → Entered
begun_of b st = record { names = names_of b.names; next = b.next; store = st.store }

-- what stands around the body of a call
pub record IsBodyOf (program : Program) (depth : ℕ) (c : Callee) (activation : ℕ) (b : Begun)
    (left : ℕ) (a : Around) : Type 0 where
  pub of : a.program.now ≡ program
  pub nests : a.depth ≡ depth
  pub place : a.place ≡ c.place
  pub home : a.home ≡ c.home
  pub frames : frames_of a.frames
      ≡ (names_of b.names
      ++ variables_from activation (length (names_of b.names)) c.routine.now.variables)
      ∷ frames_of c.frames
  pub withs : a.withs ≡ []
  pub next : a.next ≡ b.next
  pub free : a.left ≡ left
