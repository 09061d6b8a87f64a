-- The faults of a program that is not run to where it was asked for.
use Rattle.std.specs.Prelude.{◌≡◌, ◌<◌, ◌⊎◌, ℕ}
use Rattle.pool_board.specs.Seats.{max_workers}
use Rattle.def_scheme.specs.Modules.{max_pages}
use Rattle.wasm_engine.specs.declared.engine.RunFault.{RunFault}
use Rattle.wasm_engine.specs.declared.engine.RunFault.TheVariants as run
use Rattle.m2c.specs.declared.files.BuildFault.{BuildFault}
use Rattle.m2c.specs.declared.files.BuildFault.TheVariants as build
use Rattle.build_jobs.specs.declared.options.Options.{Options}
use Rattle.m2c.specs.Compiles.{AreFine, AreWorkers}
use Rattle.run_program.specs.declared.fault.ProgramFault.{ProgramFault}
use Rattle.run_program.specs.declared.fault.ProgramFault.TheVariants.{Workers, Pages, NoMemory, Write}

abbrev pub number_of : ProgramFault → ℕ
number_of Workers = 70
number_of Pages = 73
number_of NoMemory = 90
number_of Write = 91

-- a build that was not made
abbrev pub fault_of : BuildFault → ProgramFault
fault_of build.Workers = Workers
fault_of build.Pages = Pages
fault_of build.NoMemory = NoMemory

-- The options with which a fault comes, if a program is not built. The fault of workers is the
-- first, then the fault of pages. All others come with options that can be had.
abbrev pub IsUnbuilt : ProgramFault → Options → Type 0
IsUnbuilt Workers o = (o.workers < 1) ⊎ (max_workers < o.workers)
IsUnbuilt Pages o = AreWorkers o.workers × ((o.pages < 1) ⊎ (max_pages < o.pages))
IsUnbuilt NoMemory o = AreFine o
IsUnbuilt Write o = ⊥

-- the same, of a program that is run
abbrev pub ComesWith : ProgramFault → Options → Type 0
ComesWith Workers o = IsUnbuilt Workers o
ComesWith Pages o = IsUnbuilt Pages o
ComesWith NoMemory o = AreFine o
ComesWith Write o = AreFine o

-- the fault is one of runs
abbrev pub IsOfRun : ProgramFault → Type 0
IsOfRun NoMemory = Unit {0}
IsOfRun Write = Unit {0}
IsOfRun Workers = ⊥
IsOfRun Pages = ⊥

-- a run that was broken off in its first call
abbrev pub IsFaultOf : RunFault → ProgramFault → Type 0
IsFaultOf run.NoMemory fault = fault ≡ NoMemory
IsFaultOf run.Write fault = fault ≡ Write
IsFaultOf run.Ended fault = ⊥
