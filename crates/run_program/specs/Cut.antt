-- Runs of modules that were broken off.
use Rattle.std.specs.Prelude.{◌≡◌, ◌≤◌, ℕ, ◌+◌, List, Option}
use Rattle.wasm_tree.specs.declared.module.WModule.{WModule}
use Rattle.wasm_tree.specs.Machine.{Config}
use Rattle.wasm_engine.specs.Reported.{with_bytes}
use Rattle.run_directory.specs.Reported.{HasRun}
use Rattle.run_program.specs.declared.fault.ProgramFault.{ProgramFault}
use Rattle.run_program.specs.declared.fault.ProgramFault.TheVariants as fault

-- Modules were run for at most this many reductions. What was printed by then was taken, and the
-- sink has failed this much more often.
pub record IsPart {S : Type 0} (reported : S → Option (List ℕ)) (failed : S → ℕ)
    (modules : List WModule) (steps failures : ℕ) (before after : S) : Type 0 where
  pub made : ℕ
  pub fits : made ≤ steps
  pub bytes : List ℕ
  pub config : Config
  pub ran : HasRun modules made bytes config
  pub taken : reported after ≡ with_bytes (reported before) bytes
  pub failed_more : failed after ≡ failed before + failures

-- a run is broken off for want of memory, or by one failure of the sink
abbrev pub IsCutBy : {S : Type 0} → (S → Option (List ℕ)) → (S → ℕ) → List WModule → (steps : ℕ)
    → ProgramFault → (before after : S) → Type 0
IsCutBy reported failed modules steps fault.NoMemory before after =
    IsPart reported failed modules steps 0 before after
IsCutBy reported failed modules steps fault.Write before after =
    IsPart reported failed modules steps 1 before after
IsCutBy reported failed modules steps fault.Workers before after = ⊥
IsCutBy reported failed modules steps fault.Pages before after = ⊥
