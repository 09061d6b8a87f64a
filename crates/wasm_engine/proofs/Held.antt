-- What the engine keeps, over a call of run.
use Rattle.std.proofs.Math.Logic.{∥∥₁_map}
use Rattle.std.proofs.Common.{◌≡◌, ℕ, List, Option, Bool, sym, subst, arith}
use Rattle.std.specs.Prelude.{false, Result, Ok, Err, IfOk, is_err}
use Rattle.std.proofs.lemmas.Grind.{merely}
use Rattle.wasm_tree.specs.declared.module.WModule.{WModule}
use Rattle.wasm_tree.specs.Machine.{run}
use Rattle.wasm_known.specs.declared.table.KnownFunction.{KnownFunction}
use Rattle.wasm_engine.specs.Safe.{StaysSafe}
use Rattle.wasm_engine.specs.Quick.{Holds}
use Rattle.wasm_engine.specs.Instances.{modules_of, config_of, Runs}
use Rattle.wasm_engine.specs.declared.engine.End.{End}
use Rattle.wasm_engine.specs.declared.engine.RunFault.{RunFault}
use Rattle.wasm_engine.specs.declared.engine.Instances.{Instances}
use Rattle.wasm_engine.proofs.WellKept.{ran, is_safe}
use Rattle.wasm_engine.proofs.AtOnce.{holds_after}

-- of linked modules whose run was not broken off
pub held_before : (i : Instances) → i.is_broken ≡ false → ∥ Holds (modules_of i) i.table (config_of i) ∥₁
held_before i e = ∥∥₁_map i.sound (λ h. h e)

-- and once more reductions were made
pub held_after : {S : Type 0} (reported : S → Option (List ℕ)) (failed : S → ℕ) (steps : ℕ) (old new : Instances)
    (before after : S) (r : Result End RunFault) (broken : Bool)
    → broken ≡ is_err r → IfOk r (λ e. Runs reported failed steps e old new before after)
    → modules_of new ≡ modules_of old → new.table ≡ old.table
    → ∥ Holds (modules_of old) old.table (config_of old) ∥₁
    → ∥ (broken ≡ false → Holds (modules_of new) new.table (config_of new)) ∥₁
held_after reported failed steps old new before after (Ok e) broken is h same table w =
    ∥∥₁_map (holds_after (modules_of old) old.table steps (config_of old) (config_of new) w h.config)
    (λ x _. subst (λ (m : List WModule). Holds m new.table (config_of new)) (sym same)
    (subst (λ (t : List (List KnownFunction)). Holds (modules_of old) t (config_of new)) (sym table) x))
held_after reported failed steps old new before after (Err e) broken is h same table w =
    merely (λ g. absurd (grind (arith, is, g)))

-- what it needs is there, and it traps only as the standard says
pub stays_safe : (i : Instances) → i.is_broken ≡ false → StaysSafe (modules_of i) (config_of i)
stays_safe i e n = ∥∥₁_map (held_before i e)
    (λ w. is_safe (modules_of i) (run (modules_of i) n (config_of i)).0 (ran (modules_of i) n (config_of i) w.well))
