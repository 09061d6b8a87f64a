-- What linked modules are, and what a call of run makes of them.
use Rattle.std.specs.Prelude.{◌≡◌, ℕ, ◌≤◌, ◌+◌, ◌⊎◌, Option, Some, None, Bool, List}
use Rattle.wasm_tree.specs.declared.module.WModule.{WModule}
use Rattle.wasm_tree.specs.Machine.{Config, Going, Over, Trapped, run}
use Rattle.wasm_machine.specs.Going.{going, progress}
use Rattle.wasm_machine.specs.declared.frame.Reduced.{Reduced}
use Rattle.wasm_engine.specs.Ends.{config_at}
use Rattle.wasm_engine.specs.Reported.{with_bytes}
use Rattle.wasm_engine.specs.declared.engine.RunFault.{RunFault}
use Rattle.wasm_engine.specs.declared.engine.RunFault.TheVariants.{NoMemory, Write}
use Rattle.wasm_engine.specs.declared.engine.Instances.{Instances}
use Rattle.wasm_engine.specs.declared.engine.End.{End}
use Rattle.wasm_engine.specs.declared.engine.End.TheVariants.{Done, Trap, StillRunning}

abbrev pub modules_of : Instances → List WModule
modules_of i = i.modules.now

-- where the run is
abbrev pub config_of : Instances → Config
config_of i = config_at i.end (going i.machine)

-- a call broke the run off
abbrev pub has_failed : Instances → Bool
has_failed i = i.is_broken

-- the answer that stands for a configuration
abbrev pub IsEnd : End → Config → Type 0
IsEnd (Done k) c = c ≡ Over k
IsEnd Trap c = c ≡ Trapped
IsEnd StillRunning (Going st now callers) = Unit {0}
IsEnd StillRunning (Over k) = ⊥
IsEnd StillRunning Trapped = ⊥

-- how a run is over, if it is
abbrev pub end_of : Config → Option End
end_of (Over k) = Some (Done k)
end_of Trapped = Some Trap
end_of (Going st now callers) = None

-- nothing was done
pub record IsIdle {S : Type 0} (reported : S → Option (List ℕ)) (old new : Instances)
    (before after : S) : Type 0 where
  pub config : config_of new ≡ config_of old
  pub bytes : reported after ≡ reported before

-- this many reductions were made, and what they printed was taken
pub record Made {S : Type 0} (reported : S → Option (List ℕ)) (failed : S → ℕ) (n : ℕ)
    (old new : Instances) (before after : S) : Type 0 where
  pub config : config_of new ≡ (run (modules_of old) n (config_of old)).0
  pub bytes :
      reported after ≡ with_bytes (reported before) (run (modules_of old) n (config_of old)).1
  pub failures : failed after ≡ failed before

-- what a reduction led to is kept, and what it printed was taken
pub record Settles {S : Type 0} (reported : S → Option (List ℕ)) (failed : S → ℕ) (r : Reduced)
    (old new : Instances) (before after : S) : Type 0 where
  pub config : config_of new ≡ (progress r old.machine).0
  pub bytes : reported after ≡ with_bytes (reported before) (progress r old.machine).1
  pub failures : failed after ≡ failed before

-- which fault, and whether there is one failure more
pub record Breaks {S : Type 0} (failed : S → ℕ) (e : RunFault) (before after : S) : Type 0 where
  pub write : e ≡ Write → failed after ≡ failed before + 1
  pub memory : e ≡ NoMemory → failed after ≡ failed before
  pub which : (e ≡ Write) ⊎ (e ≡ NoMemory)

-- nothing was taken: a byte was refused, or memory
pub record Stops {S : Type 0} (reported : S → Option (List ℕ)) (failed : S → ℕ) (e : RunFault)
    (before after : S) : Type 0 where
  pub bytes : reported after ≡ reported before
  pub breaks : Breaks failed e before after

-- this many reductions were made, and what they printed was taken
pub record Runs {S : Type 0} (reported : S → Option (List ℕ)) (failed : S → ℕ) (steps : ℕ) (e : End)
    (old new : Instances) (before after : S) : Type 0 where
  pub config : config_of new ≡ (run (modules_of old) steps (config_of old)).0
  pub answer : IsEnd e (config_of new)
  pub bytes :
      reported after ≡ with_bytes (reported before) (run (modules_of old) steps (config_of old)).1
  pub failures : failed after ≡ failed before

-- what no more reductions printed was taken, and nothing more
abbrev pub RunsPart : {S : Type 0} → (S → Option (List ℕ)) → (steps : ℕ) → Instances
    → (before after : S) → Type 0
RunsPart reported steps old before after =
    (n : ℕ) × (n ≤ steps)
    × (reported after ≡ with_bytes (reported before) (run (modules_of old) n (config_of old)).1)
