-- What the texts of a program come to, as a caller has it.
use Rattle.std.specs.Prelude.{ℕ, List}
use Rattle.wasm_tree.specs.declared.module.WModule.{WModule}
use Rattle.build_jobs.specs.declared.file.SourceFile.{SourceFile}
use Rattle.run_program.specs.declared.program.Program.{Program}
use Rattle.run_program.specs.declared.loading.Loaded.{Loaded}
use Rattle.run_program.specs.declared.loading.Loaded.TheVariants.{Refused, Ready}
use Rattle.run_program.specs.Runs.{AreRefused, IsProgramOf}

-- the modules of a program, link first
abbrev pub trees_of : Program → List WModule
trees_of p = p.modules.items

abbrev pub IsLoaded : List SourceFile → (pages : ℕ) → Loaded → Type 0
IsLoaded files pages (Refused refusals) = AreRefused files pages refusals
IsLoaded files pages (Ready p) = IsProgramOf files pages (trees_of p)
