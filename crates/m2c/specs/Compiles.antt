-- What a compilation does: which files are read, what is printed, and what a directory is given.
use Rattle.std.specs.Prelude.{◌≡◌, ◌<◌, ◌≤◌, ◌⊎◌, ℕ, Bool, List, [], ◌∷◌, ◌++◌, map, Option, Some, None, Result, Ok, Err, ⊤, String}
use Rattle.std.specs.List.{flat_map}
use Rattle.std.specs.String.{string_bytes}
use Rattle.std.specs.Global.{Global, Vec}
use Rattle.pool_board.specs.Seats.{max_workers}
use Rattle.def_scheme.specs.Modules.{max_pages}
use Rattle.run_directory.specs.Directory.{Files, FileRead, Read, HasRead}
use Rattle.run_directory.specs.Reported.{Says}
use Rattle.build_jobs.specs.declared.file.SourceFile.{SourceFile}
use Rattle.m2_tree.specs.declared.refusal.Refusal.{Refusal}
use Rattle.write_directory.specs.declared.fault.SaveFault.{SaveFault}
use Rattle.write_directory.specs.Calls.{Call, module_file}
use Rattle.write_directory.specs.Saves.{Saves}
use Rattle.m2c.specs.declared.ending.Ending.{Ending}
use Rattle.m2c.specs.declared.ending.Ending.TheVariants.{Unbuilt, Unread, Refused, Saved}
use Rattle.m2c.specs.declared.files.BuildFault.{BuildFault}
use Rattle.m2c.specs.declared.files.BuildFault.TheVariants.{Workers, Pages, NoMemory}
pub use Rattle.build_jobs.specs.declared.options.Options.{Options}
use Rattle.m2c.specs.declared.files.Outcome.TheVariants as outcome
use Rattle.m2c.specs.Build.{IsBuilt}
use Rattle.m2c.specs.Endings.{status, words}
use Rattle.m2_tree.specs.Lines.{line_of}

-- ---- the options

abbrev pub AreWorkers : ℕ → Type 0
AreWorkers n = (1 ≤ n) × (n ≤ max_workers)

abbrev pub ArePages : ℕ → Type 0
ArePages n = (1 ≤ n) × (n ≤ max_pages)

-- the number of workers, or else the number of pages, is none that it may be
abbrev pub IsWrong : Options → BuildFault → Type 0
IsWrong o Workers = (o.workers < 1) ⊎ (max_workers < o.workers)
IsWrong o Pages = AreWorkers o.workers × ((o.pages < 1) ⊎ (max_pages < o.pages))
IsWrong o NoMemory = ⊥

abbrev pub AreFine : Options → Type 0
AreFine o = AreWorkers o.workers × ArePages o.pages

abbrev pub Checks : Options → Result ⊤ BuildFault → Type 0
Checks o (Ok _) = AreFine o
Checks o (Err fault) = IsWrong o fault

-- ---- the files

-- the file of this name, with the bytes that it gave
abbrev pub IsGiven : FileRead → (name : List ℕ) → SourceFile → Type 0
IsGiven read name file =
    (string_bytes file.name ≡ name) × (read ≡ Read name (Some file.bytes.items))

-- each name's file, in their order
pub data AreGiven : List FileRead → List (List ℕ) → List SourceFile → Type 0 where
  Empty : AreGiven [] [] []
  More : (read : FileRead) (name : List ℕ) (file : SourceFile) (reads : List FileRead)
      (names : List (List ℕ)) (files : List SourceFile)
      → IsGiven read name file → AreGiven reads names files
      → AreGiven (read ∷ reads) (name ∷ names) (file ∷ files)

-- the file of this name cannot be read, or memory was refused behind it
abbrev pub Lacks : FileRead → (name : List ℕ) → Ending → Type 0
Lacks read name (Unread reported) = (reported.now ≡ name) × (read ≡ Read name None)
Lacks read name (Unbuilt fault) =
    (fault ≡ NoMemory) × ((bytes : List ℕ) × (read ≡ Read name (Some bytes)))
Lacks read name (Refused all) = ⊥
Lacks read name (Saved answer) = ⊥

-- of the files of these names the first that is not there ends the compilation, and it is the last
-- that was asked for
pub record FirstLack (reads : List FileRead) (names : List (List ℕ)) (ending : Ending)
    : Type 0 where
  pub before : List (List ℕ)
  pub name : List ℕ
  pub after : List (List ℕ)
  pub are : names ≡ before ++ name ∷ after
  pub reads_before : List FileRead
  pub last : FileRead
  pub all_reads : reads ≡ reads_before ++ last ∷ []
  pub files : List SourceFile
  pub there : AreGiven reads_before before files
  pub lacks : Lacks last name ending

-- ---- what comes of files

module _ {D S : Type 0} (calls : D → Option (List Call)) (failures : D → ℕ)
    (reported : S → Option (List ℕ)) (failed : S → ℕ) where
  -- the refusals are printed, or those up to a failure
  pub record IsRefused (files : List SourceFile) (pages : ℕ) (all : Bool) (dir dir_after : D)
      (out out_after : S) : Type 0 where
    pub refusals : Vec Refusal
    pub built : IsBuilt files pages (outcome.Refused refusals)
    pub prints : Says reported failed all (flat_map line_of refusals.items) out out_after
    pub same : dir_after ≡ dir

  -- the modules are saved, or those up to a failure
  pub record IsSaved (files : List SourceFile) (pages : ℕ) (answer : Result ⊤ SaveFault)
      (dir dir_after : D) (out out_after : S) : Type 0 where
    pub link : Vec ℕ
    pub modules : Vec (String Global × Vec ℕ)
    pub built : IsBuilt files pages (outcome.Built link modules)
    pub saves : Saves calls failures link.items (map module_file modules.items) answer dir dir_after
    pub same : out_after ≡ out

  -- what comes of files that were read
  abbrev pub ComesOf : List SourceFile → (pages : ℕ) → Ending → (dir dir_after : D)
      (out out_after : S) → Type 0
  ComesOf files pages (Unbuilt NoMemory) dir dir_after out out_after =
      (dir_after ≡ dir) × (out_after ≡ out)
  ComesOf files pages (Unbuilt Workers) dir dir_after out out_after = ⊥
  ComesOf files pages (Unbuilt Pages) dir dir_after out out_after = ⊥
  ComesOf files pages (Unread name) dir dir_after out out_after = ⊥
  ComesOf files pages (Refused all) dir dir_after out out_after =
      IsRefused files pages all dir dir_after out out_after
  ComesOf files pages (Saved answer) dir dir_after out out_after =
      IsSaved files pages answer dir dir_after out out_after

  module _ {I : Type 0} (noted : I → Option (List FileRead)) (gives : I → Files) where
    -- the options are wrong, and nothing is done
    pub record AreWrong (options : Options) (ending : Ending) (files files_after : I)
        (dir dir_after : D) (out out_after : S) : Type 0 where
      pub fault : BuildFault
      pub is_fault : ending ≡ Unbuilt fault
      pub wrong : IsWrong options fault
      pub same_files : files_after ≡ files
      pub same_dir : dir_after ≡ dir
      pub same_out : out_after ≡ out

    -- not all files are there, and nothing is written
    pub record IsLacking (names : List (List ℕ)) (options : Options) (ending : Ending)
        (files files_after : I) (dir dir_after : D) (out out_after : S) : Type 0 where
      pub fine : AreFine options
      pub reads : List FileRead
      pub has_read : HasRead noted gives reads files files_after
      pub lack : FirstLack reads names ending
      pub same_dir : dir_after ≡ dir
      pub same_out : out_after ≡ out

    -- all files are there, and the ending is the ending of their build
    pub record IsOfBuild (names : List (List ℕ)) (options : Options) (ending : Ending)
        (files files_after : I) (dir dir_after : D) (out out_after : S) : Type 0 where
      pub fine : AreFine options
      pub reads : List FileRead
      pub has_read : HasRead noted gives reads files files_after
      pub sources : List SourceFile
      pub given : AreGiven reads names sources
      pub comes : ComesOf sources options.pages ending dir dir_after out out_after

    abbrev pub Comes : (names : List (List ℕ)) → Options → Ending → (files files_after : I)
        (dir dir_after : D) (out out_after : S) → Type 0
    Comes names options ending files files_after dir dir_after out out_after =
        AreWrong options ending files files_after dir dir_after out out_after
        ⊎ (IsLacking names options ending files files_after dir dir_after out out_after
        ⊎ IsOfBuild names options ending files files_after dir dir_after out out_after)

    -- The status and the words belong to an ending that comes.
    pub record Compiles {E : Type 0} (front reason : I → List ℕ)
        (reported_words : E → Option (List ℕ)) (failed_words : E → ℕ) (names : List (List ℕ))
        (options : Options) (answer : ℕ) (files files_after : I) (dir dir_after : D)
        (out out_after : S) (err err_after : E) : Type 0 where
      pub ending : Ending
      pub comes : Comes names options ending files files_after dir dir_after out out_after
      pub answers : answer ≡ status ending
      pub all_said : Bool
      pub says : Says reported_words failed_words all_said
          (words (front files_after) (reason files_after) options ending) err err_after
