-- What is reported of a directory, on two streams and by a status.
use Rattle.std.specs.Prelude.{◌≡◌, ◌↔◌, ◌≤◌, ◌⊎◌, ℕ, ◌+◌, ◌==◌, ◌||◌, Bool, true, false, List, [], ◌∷◌, ◌++◌, Option, Some, None, Ok, Err, if◌then◌else◌, codes, decimal}
use Rattle.wasm_tree.specs.declared.fault.WFault.{WFault}
use Rattle.wasm_tree.specs.declared.fault.WFault.TheVariants as faults
use Rattle.wasm_tree.specs.declared.module.WModule.{WModule}
use Rattle.wasm_tree.specs.Format.{Fails}
use Rattle.wasm_binary.specs.Binary.{Encodes, module_at}
use Rattle.wasm_tree.specs.Validity.{IsValid}
use Rattle.wasm_tree.specs.Machine.{Config, run}
use Rattle.wasm_tree.specs.Linking.{link, link_name}
use Rattle.wasm_engine.specs.declared.engine.End.{End}
use Rattle.wasm_engine.specs.declared.engine.End.TheVariants.{Done, Trap, StillRunning}
use Rattle.wasm_engine.specs.declared.engine.RunFault.{RunFault}
use Rattle.wasm_engine.specs.declared.engine.RunFault.TheVariants.{NoMemory, Write, Ended}
use Rattle.wasm_engine.specs.Instances.{IsEnd}
use Rattle.wasm_engine.specs.Reported.{with_bytes}
use Rattle.run_directory.specs.declared.report.Report.{Report}
use Rattle.run_directory.specs.declared.report.Report.TheVariants.{Ran, Unread, Refused, Broken}
use Rattle.run_directory.specs.Directory.{Files, FileRead, Read, HasRead, file_of, module_names, IsModule, AreModules}

-- ---- the status and the words

-- the program came to its end, or to HALT
abbrev pub is_normal : ℕ → Bool
is_normal k = (k == 0) || (k == 9)

abbrev pub status : Report → ℕ
status (Ran (Done k)) = if is_normal k then 0 else 1
status (Ran Trap) = 1
status (Ran StillRunning) = 4
status (Unread name) = 3
status (Refused name f) = 3
status (Broken f) = 3

abbrev pub end_word : ℕ → List ℕ
end_word k =
    if k == 1 then codes "range" else
    if k == 2 then codes "overflow" else
    if k == 3 then codes "index" else
    if k == 4 then codes "divisor" else
    if k == 5 then codes "case" else
    if k == 6 then codes "no return" else
    if k == 7 then codes "empty procedure" else
    if k == 8 then codes "storage" else
    codes "unknown"

abbrev pub number_of : WFault → ℕ
number_of faults.Malformed = 80
number_of faults.OutsideProfile = 81
number_of faults.Invalid = 82
number_of faults.Unlinked = 83
number_of faults.SegmentOutside = 84
number_of faults.NoMemory = 90

abbrev pub number_of_run : RunFault → ℕ
number_of_run NoMemory = 90
number_of_run Write = 91
number_of_run Ended = 92

-- the line that the file of the module of this name cannot be read
abbrev pub unread_words : (front reason name : List ℕ) → List ℕ
unread_words front reason name =
    front ++ (codes "cannot read " ++ (name ++ (codes ".wasm" ++ (reason ++ codes "\n"))))

-- one line on the second stream, or nothing, with what the directory says in front of a file and
-- behind it
abbrev pub words : (front reason : List ℕ) → Report → List ℕ
words front reason (Ran (Done k)) =
    if is_normal k
    then []
    else codes "fault " ++ decimal k ++ codes ": " ++ end_word k ++ codes "\n"
words front reason (Ran Trap) = codes "trap\n"
words front reason (Ran StillRunning) = []
words front reason (Unread name) = unread_words front reason name.now
words front reason (Refused name f) =
    name.now ++ codes ": refusal " ++ decimal (number_of f) ++ codes "\n"
words front reason (Broken f) = codes "refusal " ++ decimal (number_of_run f) ++ codes "\n"

-- ---- the streams

-- a stream took these bytes
pub record Printed {S : Type 0} (reported : S → Option (List ℕ)) (failed : S → ℕ) (bytes : List ℕ)
    (before after : S) : Type 0 where
  pub taken : reported after ≡ with_bytes (reported before) bytes
  pub failures : failed after ≡ failed before

-- it took some of them, and then failed and was left alone
pub record PartPrinted {S : Type 0} (reported : S → Option (List ℕ)) (failed : S → ℕ)
    (bytes : List ℕ) (before after : S) : Type 0 where
  pub front : List ℕ
  pub rest : List ℕ
  pub all : bytes ≡ front ++ rest
  pub taken : reported after ≡ with_bytes (reported before) front
  pub failures : failed after ≡ failed before + 1

abbrev pub Says : {S : Type 0} → (S → Option (List ℕ)) → (S → ℕ) → Bool → List ℕ
    → (before after : S) → Type 0
Says reported failed true bytes before after = Printed reported failed bytes before after
Says reported failed false bytes before after = PartPrinted reported failed bytes before after

-- ---- what a report says

-- linked and executed for `steps` reductions, the modules printed these bytes and are there
pub record HasRun (trees : List WModule) (steps : ℕ) (bytes : List ℕ) (config : Config)
    : Type 0 where
  pub first : Config
  pub linked : link trees ≡ Ok first
  pub is_run : run trees steps first ≡ (config, bytes)

pub record IsRun {S : Type 0} (reported : S → Option (List ℕ)) (failed : S → ℕ)
    (trees : List WModule) (steps : ℕ) (end : End) (before after : S) : Type 0 where
  pub bytes : List ℕ
  pub config : Config
  pub has_run : HasRun trees steps bytes config
  pub is_end : IsEnd end config
  pub printed : Printed reported failed bytes before after

-- broken off at the latest then, after what some reductions printed
pub record IsBroken {S : Type 0} (reported : S → Option (List ℕ)) (failed : S → ℕ)
    (trees : List WModule) (steps : ℕ) (fault : RunFault) (before after : S) : Type 0 where
  pub made : ℕ
  pub fits : made ≤ steps
  pub bytes : List ℕ
  pub config : Config
  pub has_run : HasRun trees made bytes config
  pub taken : reported after ≡ with_bytes (reported before) bytes
  pub write : (fault ≡ Write) ↔ (failed after ≡ failed before + 1)
  -- nothing broke it off before
  pub first : ¬ (fault ≡ Ended)

-- what a report says of modules and of the stream on which they print
abbrev pub IsOf : {S : Type 0} → (S → Option (List ℕ)) → (S → ℕ) → List WModule → (steps : ℕ)
    → Report → (before after : S) → Type 0
IsOf reported failed trees steps (Ran end) before after =
    IsRun reported failed trees steps end before after
IsOf reported failed trees steps (Broken fault) before after =
    IsBroken reported failed trees steps fault before after
IsOf reported failed trees steps (Refused name fault) before after =
    (name.now ≡ link_name) × Fails fault (link trees) × Printed reported failed [] before after
IsOf reported failed trees steps (Unread name) before after = ⊥

-- ---- what is missing

-- memory was refused for a file, before it was asked for or behind it, or its bytes encode no
-- module, or one that is not valid
pub data IsRefused (file : List ℕ) : List FileRead → WFault → Type 0 where
  Unasked : IsRefused file [] faults.NoMemory
  Memory : (bytes : List ℕ) → IsRefused file (Read file (Some bytes) ∷ []) faults.NoMemory
  Unencoded : (bytes : List ℕ) (fault : WFault) → module_at bytes ≡ Err fault
      → IsRefused file (Read file (Some bytes) ∷ []) fault
  NotValid : (bytes : List ℕ) (tree : WModule) → Encodes bytes tree → (IsValid tree → ⊥)
      → IsRefused file (Read file (Some bytes) ∷ []) faults.Invalid

-- by these reads the module of this name is not there, and the report names it
abbrev pub IsMissing : (reads : List FileRead) (name : List ℕ) → Report → Type 0
IsMissing reads name (Unread reported) =
    (reported.now ≡ name) × (reads ≡ Read (file_of name) None ∷ [])
IsMissing reads name (Refused reported fault) =
    (reported.now ≡ name) × IsRefused (file_of name) reads fault
IsMissing reads name (Ran end) = ⊥
IsMissing reads name (Broken fault) = ⊥

-- of the modules of these names the report names the first that is not there, and it is the last
-- that was asked for
pub record FirstMissing (reads : List FileRead) (names : List (List ℕ)) (report : Report)
    : Type 0 where
  pub before : List (List ℕ)
  pub name : List ℕ
  pub after : List (List ℕ)
  pub are : names ≡ before ++ name ∷ after
  pub reads_before : List FileRead
  pub last : List FileRead
  pub all_reads : reads ≡ reads_before ++ last
  pub trees : List WModule
  pub there : AreModules reads_before before trees
  pub missing : IsMissing last name report

-- ---- what comes of a directory

-- what comes of modules that are there, and of the modules of these names behind them: these are
-- there as well and the report is of all, or it names the first that is not
abbrev pub ComesOf : {S : Type 0} → (S → Option (List ℕ)) → (S → ℕ) → (reads : List FileRead)
    (first : List WModule) (names : List (List ℕ)) (steps : ℕ) → Report → (before after : S)
    → Type 0
ComesOf reported failed reads first names steps report before after =
    ((others : List WModule) × AreModules reads names others
    × IsOf reported failed (first ++ others) steps report before after)
    ⊎ (FirstMissing reads names report × Printed reported failed [] before after)

-- link is there, and behind it come the modules that its exports name
pub record ComesOfLink {S : Type 0} (reported : S → Option (List ℕ)) (failed : S → ℕ)
    (reads : List FileRead) (steps : ℕ) (report : Report) (before after : S) : Type 0 where
  pub link_tree : WModule
  pub first : FileRead
  pub others : List FileRead
  pub all_reads : reads ≡ first ∷ others
  pub link_is : IsModule first link_name link_tree
  pub comes : ComesOf reported failed others (link_tree ∷ []) (module_names link_tree.exports) steps
      report before after

-- that, or the report names link
abbrev pub Comes : {S : Type 0} → (S → Option (List ℕ)) → (S → ℕ) → (reads : List FileRead)
    (steps : ℕ) → Report → (before after : S) → Type 0
Comes reported failed reads steps report before after =
    ComesOfLink reported failed reads steps report before after
    ⊎ (IsMissing reads link_name report × Printed reported failed [] before after)

-- Files of a directory are read, and a report comes of them. The status and the words are the
-- report's.
pub record Executes {D S E : Type 0} (noted : D → Option (List FileRead)) (gives : D → Files)
    (front reason : D → List ℕ) (reported : S → Option (List ℕ)) (failed : S → ℕ)
    (reported_words : E → Option (List ℕ)) (failed_words : E → ℕ) (steps : ℕ) (answer : ℕ)
    (dir dir_after : D) (before after : S) (words_before words_after : E) : Type 0 where
  pub report : Report
  pub reads : List FileRead
  pub has_read : HasRead noted gives reads dir dir_after
  pub comes : Comes reported failed reads steps report before after
  pub answers : answer ≡ status report
  pub all_said : Bool
  pub says : Says reported_words failed_words all_said
      (words (front dir_after) (reason dir_after) report) words_before words_after
