-- What becomes of the texts of a program that is run.
use Rattle.std.specs.Prelude.{◌⊎◌, ℕ, List, [], Option}
use Rattle.wasm_tree.specs.declared.module.WModule.{WModule}
use Rattle.wasm_engine.specs.declared.engine.End.{End}
use Rattle.run_directory.specs.Reported.{IsRun, Printed}
use Rattle.build_jobs.specs.declared.file.SourceFile.{SourceFile}
use Rattle.run_program.specs.declared.fault.ProgramFault.{ProgramFault}
use Rattle.run_program.specs.declared.fault.ProgramFault.TheVariants.{Workers, Pages, NoMemory, Write}
use Rattle.run_program.specs.declared.whole.ProgramEnd.{ProgramEnd}
use Rattle.run_program.specs.declared.whole.ProgramEnd.TheVariants.{Refused, Ran}
use Rattle.run_program.specs.Cut.{IsPart}
use Rattle.run_program.specs.Runs.{IsBeginning, IsRight, IsProgramOf, AreRefused}

module _ {S : Type 0} (reported : S → Option (List ℕ)) (failed : S → ℕ) where
  -- The program's modules were run for this many reductions, and what they printed was taken. The
  -- run is right.
  pub record HasRunTo (files : List SourceFile) (pages steps : ℕ) (end : End)
      (before after : S) : Type 0 where
    pub modules : List WModule
    pub of : IsProgramOf files pages modules
    pub ran : IsRun reported failed modules steps end before after
    pub right : IsRight of.program.program pages end ran.bytes

  -- the run was broken off, after a beginning of what the program prints
  pub record IsCut (files : List SourceFile) (pages steps failures : ℕ)
      (before after : S) : Type 0 where
    pub modules : List WModule
    pub of : IsProgramOf files pages modules
    pub ran : IsPart reported failed modules steps failures before after
    pub begins : IsBeginning of.program.program pages ran.bytes

  -- the files are refused and nothing is printed, or they are a program and its run is there
  abbrev pub Ends : List SourceFile → (pages steps : ℕ) → ProgramEnd → (before after : S) → Type 0
  Ends files pages steps (Refused refusals) before after =
      AreRefused files pages refusals × Printed reported failed [] before after
  Ends files pages steps (Ran end) before after = HasRunTo files pages steps end before after

  -- nothing is printed, or memory was refused or the sink failed in the program's run
  abbrev pub Breaks : List SourceFile → (pages steps : ℕ) → ProgramFault → (before after : S)
      → Type 0
  Breaks files pages steps Workers before after = Printed reported failed [] before after
  Breaks files pages steps Pages before after = Printed reported failed [] before after
  Breaks files pages steps NoMemory before after =
      Printed reported failed [] before after ⊎ IsCut files pages steps 0 before after
  Breaks files pages steps Write before after = IsCut files pages steps 1 before after
