-- The status of a compilation, and what is said of it.
use Rattle.std.specs.Prelude.{ℕ, true, false, List, [], ◌++◌, Ok, Err, if◌then◌else◌, codes, decimal}
use Rattle.pool_board.specs.Seats.{max_workers}
use Rattle.def_scheme.specs.Modules.{max_pages}
use Rattle.write_directory.specs.declared.fault.SaveFault.{SaveFault}
use Rattle.write_directory.specs.declared.fault.SaveFault.TheVariants as save
use Rattle.m2c.specs.declared.ending.Ending.{Ending}
use Rattle.m2c.specs.declared.ending.Ending.TheVariants.{Unbuilt, Unread, Refused, Saved}
use Rattle.m2c.specs.declared.files.BuildFault.{BuildFault}
use Rattle.m2c.specs.declared.files.BuildFault.TheVariants as build
use Rattle.build_jobs.specs.declared.options.Options.{Options}

abbrev pub status : Ending → ℕ
status (Unbuilt build.Workers) = 2
status (Unbuilt build.Pages) = 2
status (Unbuilt build.NoMemory) = 3
status (Unread name) = 3
status (Refused all) = if all then 1 else 3
status (Saved (Ok _)) = 0
status (Saved (Err fault)) = 3

-- an option takes a number up to this one
abbrev pub range_words : (front option : List ℕ) (most given : ℕ) → List ℕ
range_words front option most given =
    front ++ (option ++ (codes " takes a number from 1 to " ++ (decimal most
    ++ (codes ", and not '" ++ (decimal given ++ codes "'\n")))))

abbrev pub fault_words : (front : List ℕ) → Options → BuildFault → List ℕ
fault_words front options build.Workers =
    range_words front (codes "--workers") max_workers options.workers
fault_words front options build.Pages =
    range_words front (codes "--memory") max_pages options.pages
fault_words front options build.NoMemory = front ++ codes "refusal 90\n"

abbrev pub unread_words : (front reason name : List ℕ) → List ℕ
unread_words front reason name =
    front ++ (codes "cannot read " ++ (name ++ (reason ++ codes "\n")))

abbrev pub save_words : (front : List ℕ) → SaveFault → List ℕ
save_words front save.NoMemory = front ++ codes "refusal 90\n"
save_words front save.Device = front ++ codes "cannot write into the directory\n"

-- one line on the second stream, or nothing, with what the files' directory says in front and
-- behind
abbrev pub words : (front reason : List ℕ) → Options → Ending → List ℕ
words front reason options (Unbuilt fault) = fault_words front options fault
words front reason options (Unread name) = unread_words front reason name.now
words front reason options (Refused true) = []
words front reason options (Refused false) =
    front ++ codes "cannot write to standard output\n"
words front reason options (Saved (Ok _)) = []
words front reason options (Saved (Err fault)) = save_words front fault
