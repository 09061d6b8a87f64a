-- What the texts of a program come to, and what a run of their modules is by the language's
-- definition.
use Rattle.std.specs.Prelude.{◌≡◌, ◌≢◌, ◌≤◌, ℕ, List, ◌∷◌, ◌++◌, map, String}
use Rattle.std.specs.Global.{Global, Vec}
use Rattle.m2_tree.specs.declared.refusal.Refusal.{Refusal}
use Rattle.wasm_tree.specs.declared.module.WModule.{WModule}
use Rattle.wasm_tree.specs.Machine.{Over}
use Rattle.wasm_engine.specs.declared.engine.End.{End}
use Rattle.wasm_engine.specs.declared.engine.End.TheVariants.{Done, Trap}
use Rattle.def_meaning.specs.Answer.{Ended}
use Rattle.def_meaning.specs.Environment.{Modules}
use Rattle.def_meaning.specs.Later.{output_of}
use Rattle.def_meaning.specs.Runs.{run}
use Rattle.def_scheme.specs.Modules.{typed_module, typed_link}
use Rattle.run_directory.specs.Reported.{HasRun}
use Rattle.build_jobs.specs.declared.file.SourceFile.{SourceFile}
use Rattle.m2c.specs.declared.files.Outcome.{Outcome}
use Rattle.m2c.specs.declared.files.Outcome.TheVariants as outcome
use Rattle.m2c.specs.Build.{AreAlike, IsBuilt, IsProgram, name_bytes}

-- ---- what the definition says

-- these bytes are a beginning of what the program prints
pub record IsBeginning (p : Modules) (pages : ℕ) (bytes : List ℕ) : Type 0 where
  pub bound : ℕ
  pub rest : List ℕ
  pub is : output_of (run p pages bound) ≡ bytes ++ rest

-- the program's run ends with this number, and it prints these bytes
pub record EndsWith (p : Modules) (pages number : ℕ) (bytes : List ℕ) : Type 0 where
  pub bound : ℕ
  pub is : run p pages bound ≡ Ended number bytes

-- What a run did that has printed these bytes is right: they are a beginning of what the program
-- prints, the run did not trap, and if it has ended, the program's run ends with the same number
-- and prints these bytes.
pub record IsRight (p : Modules) (pages : ℕ) (end : End) (bytes : List ℕ) : Type 0 where
  pub begins : IsBeginning p pages bytes
  pub ended : (number : ℕ) → end ≡ Done number → EndsWith p pages number bytes
  pub no_trap : end ≢ Trap

-- ---- what the machine does

-- the modules of a program, link first
abbrev pub modules_of : Modules → (pages : ℕ) → List WModule
modules_of p pages = typed_link p pages ∷ map typed_module p

-- If the program's run ends, its modules have ended after enough reductions, with the same number
-- and the same bytes.
abbrev pub EndsInTime : Modules → (pages : ℕ) → Type 0
EndsInTime p pages =
    (number : ℕ) (bytes : List ℕ) → EndsWith p pages number bytes
    → (enough : ℕ)
    × ((steps : ℕ) → enough ≤ steps → HasRun (modules_of p pages) steps bytes (Over number))

-- ---- what texts come to

-- the files are a program, and nothing else; these are its modules, and they end in time
pub record IsProgramOf (files : List SourceFile) (pages : ℕ) (modules : List WModule) : Type 0 where
  pub link : Vec ℕ
  pub others : Vec (String Global × Vec ℕ)
  pub program : IsProgram files pages link.items (map name_bytes others.items)
  pub only : (other : Outcome) → IsBuilt files pages other
      → AreAlike (outcome.Built link others) other
  pub are : modules ≡ modules_of program.program pages
  pub in_time : EndsInTime program.program pages

-- the files break these rules, and nothing else is reported of them
pub record AreRefused (files : List SourceFile) (pages : ℕ) (refusals : Vec Refusal) : Type 0 where
  pub built : IsBuilt files pages (outcome.Refused refusals)
  pub only : (other : Outcome) → IsBuilt files pages other
      → AreAlike (outcome.Refused refusals) other
