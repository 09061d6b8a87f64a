-- A program that is saved into a folder and executed from there.
use Rattle.std.specs.Prelude.{◌≡◌, ◌≢◌, ℕ, true, List, [], ◌∷◌, ◌++◌, map, Option, Some, Ok, ⊤, String}
use Rattle.std.specs.List.{AllByRecursion}
use Rattle.std.specs.Global.{Global, Vec}
use Rattle.def_meaning.specs.Environment.{Modules}
use Rattle.wasm_tree.specs.declared.fault.WFault.TheVariants.{NoMemory}
use Rattle.write_directory.specs.Calls.{Call, Remove, Write, module_file}
use Rattle.write_directory.specs.Saves.{Saves}
use Rattle.run_directory.specs.declared.report.Report.{Report}
use Rattle.run_directory.specs.declared.report.Report.TheVariants.{Ran, Unread, Refused, Broken}
use Rattle.run_directory.specs.Directory.{Files, FileRead, HasRead}
use Rattle.run_directory.specs.Reported.{Comes, IsRun, IsBroken, Printed}
use Rattle.run_program.specs.Runs.{IsBeginning, IsRight, modules_of}

-- ---- what a folder holds

-- the name of the file that a call is about
abbrev pub file_in : Call → List ℕ
file_in (Remove name is_done) = name
file_in (Write name bytes is_done) = name

-- of the calls about this file the last one wrote these bytes
pub record IsLast (calls : List Call) (name bytes : List ℕ) : Type 0 where
  pub front : List Call
  pub back : List Call
  pub are : calls ≡ front ++ Write name bytes true ∷ back
  pub others : AllByRecursion (λ c. file_in c ≢ name) back

-- If a file can be read, it has the bytes that were written last.
abbrev pub Holds : List Call → Files → Type 0
Holds calls gives =
    (name written bytes : List ℕ) → IsLast calls name written → gives name (Some bytes)
    → bytes ≡ written

-- ---- what comes of it

module _ {S : Type 0} (reported : S → Option (List ℕ)) (failed : S → ℕ) where
  -- The program's modules were run for so many reductions, and what was printed is right; or the
  -- run was broken off, behind a beginning of what the program prints. Else a file could not be
  -- read or memory was refused, and nothing was printed.
  abbrev pub IsOfProgram : Modules → (pages steps : ℕ) → Report → (before after : S) → Type 0
  IsOfProgram p pages steps (Ran end) before after =
      (ran : IsRun reported failed (modules_of p pages) steps end before after)
      × IsRight p pages end ran.bytes
  IsOfProgram p pages steps (Broken fault) before after =
      (ran : IsBroken reported failed (modules_of p pages) steps fault before after)
      × IsBeginning p pages ran.bytes
  IsOfProgram p pages steps (Unread name) before after = Printed reported failed [] before after
  IsOfProgram p pages steps (Refused name fault) before after =
      (fault ≡ NoMemory) × Printed reported failed [] before after

-- Modules that were built were saved into a folder. From a folder that holds what was written
-- there, files are read, and a report comes of them. It is one of the program.
abbrev pub IsExecuted : {D I S : Type 0} → (calls : D → Option (List Call)) → (failures : D → ℕ)
    → (noted : I → Option (List FileRead)) → (gives : I → Files)
    → (reported : S → Option (List ℕ)) → (failed : S → ℕ) → Modules → (pages : ℕ) → (link : Vec ℕ)
    → (modules : Vec (String Global × Vec ℕ)) → Type 0
IsExecuted {D} {I} {S} calls failures noted gives reported failed p pages link modules =
    (dir dir_after : D)
    → Saves calls failures link.items (map module_file modules.items) (Ok tt) dir dir_after
    → (earlier all : List Call) → calls dir ≡ Some earlier → calls dir_after ≡ Some all
    → (folder folder_after : I) → Holds all (gives folder)
    → (reads : List FileRead) → HasRead noted gives reads folder folder_after
    → (steps : ℕ) (report : Report) (before after : S)
    → Comes reported failed reads steps report before after
    → IsOfProgram reported failed p pages steps report before after
