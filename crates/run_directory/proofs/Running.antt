-- Runs of linked modules.
use Rattle.std.proofs.Common.{◌≡◌, ℕ, ◌+◌, ◌↔◌, List, true, false, Option, Result, Ok, Err, refl, sym, ap, subst, ◌∙◌}
use Rattle.wasm_tree.specs.declared.module.WModule.{WModule}
use Rattle.wasm_tree.specs.Machine.{run}
use Rattle.wasm_tree.specs.Linking.{link}
use Rattle.wasm_engine.specs.declared.engine.End.{End}
use Rattle.wasm_engine.specs.declared.engine.RunFault.{RunFault}
use Rattle.wasm_engine.specs.declared.engine.RunFault.TheVariants.{Write, Ended}
use Rattle.wasm_engine.specs.declared.engine.Instances.{Instances}
use Rattle.wasm_engine.specs.Reported.{with_bytes}
use Rattle.wasm_engine.specs.Instances.{modules_of, config_of, has_failed, RunsPart}
use Rattle.run_directory.specs.Reported.{IsBroken}

abbrev fault_or : RunFault → Result End RunFault → RunFault
fault_or other (Ok e) = other
fault_or other (Err f) = f

module _ {S : Type 0} (reported : S → Option (List ℕ)) (failed : S → ℕ) (trees : List WModule) (steps : ℕ)
    (before after : S) (i : Instances) where
  pub broken : (fault : RunFault) (answer : Result End RunFault) → answer ≡ Err fault → link trees ≡ Ok (config_of i)
      → modules_of i ≡ trees → RunsPart reported steps i before after
      → (answer ≡ Err Write) ↔ (failed after ≡ failed before + 1)
      → (answer ≡ Err Ended) ↔ (has_failed i ≡ true) → has_failed i ≡ false
      → IsBroken reported failed trees steps fault before after
  broken fault answer is linked same part write ended fresh = record {
    made = part.0;
    fits = part.1;
    bytes = (run trees part.0 (config_of i)).1;
    config = (run trees part.0 (config_of i)).0;
    has_run = record { first = config_of i; linked = linked; is_run = refl };
    taken = subst (λ (ms : List WModule). reported after ≡ with_bytes (reported before) (run ms part.0 (config_of i)).1)
        same part.2;
    write = ((λ e. write.0 (is ∙ ap (λ (f : RunFault). Err f) e)), (λ f. ap (fault_or fault) (sym is ∙ write.1 f)));
    first = λ e. let both : true ≡ false = sym (ended.0 (is ∙ ap (λ (f : RunFault). Err f) e)) ∙ fresh in cc;
  }
