-- A run that goes on, as the loop makes it.
use Rattle.std.proofs.Common.{◌≡◌, ℕ, ◌+◌, ◌-◌, ◌≤◌, List, ◌++◌, Option, refl, sym, ap, subst, ◌∙◌, arith}
use Rattle.wasm_tree.specs.Machine.{Progress, run}
use Rattle.wasm_engine.specs.Reported.{with_bytes}
use Rattle.wasm_engine.specs.declared.engine.Instances.{Instances}
use Rattle.wasm_machine.specs.declared.frame.Machine.{Machine}
use Rattle.wasm_engine.specs.declared.engine.End.{End}
use Rattle.wasm_engine.specs.declared.engine.End.TheVariants.{Done, Trap, StillRunning}
use Rattle.wasm_machine.specs.Going.{going}
use Rattle.wasm_engine.specs.Ends.{config_at}
use Rattle.wasm_engine.specs.Instances.{config_of, modules_of, has_failed, Made, Runs, IsEnd}
use Rattle.wasm_engine.proofs.Runs.{IsOver, run_over, followed, run-plus, run-zero, with_bytes-append, with_bytes-nil}

-- the answer is that of where the run is
is_end : (e : End) (m : Machine) → IsEnd e (config_at e (going m))
is_end (Done k) m = refl
is_end Trap m = refl
is_end StillRunning m = tt

is_over : (e : End) (m : Machine) → (e ≡ StillRunning → ⊥) → IsOver (config_at e (going m))
is_over (Done k) m h = tt
is_over Trap m h = tt
is_over StillRunning m h = absurd (h refl)

-- so many reductions were made
pub record SoFar {S : Type 0} (reported : S → Option (List ℕ)) (failed : S → ℕ) (k : ℕ) (old now : Instances)
    (before after : S) : Type 0 where
  pub config : config_of now ≡ (run (modules_of old) k (config_of old)).0
  pub bytes : reported after ≡ with_bytes (reported before) (run (modules_of old) k (config_of old)).1
  pub failures : failed after ≡ failed before
  pub modules : modules_of now ≡ modules_of old
  pub broken : has_failed now ≡ has_failed old
  pub table : now.table ≡ old.table

module _ {S : Type 0} (reported : S → Option (List ℕ)) (failed : S → ℕ) (old : Instances) (before : S) where
  pub at_first : SoFar reported failed 0 old old before before
  at_first = record {
    config = rw (run-zero (modules_of old) (config_of old)) refl;
    bytes = rw (run-zero (modules_of old) (config_of old)) (sym (with_bytes-nil (reported before)));
    failures = refl;
    modules = refl;
    broken = refl;
    table = refl;
  }

  pub some_more : (k n : ℕ) (now next : Instances) (after later : S) → SoFar reported failed k old now before after
      → Made reported failed n now next after later → modules_of next ≡ modules_of now
      → has_failed next ≡ has_failed now → next.table ≡ now.table
      → SoFar reported failed (k + n) old next before later
  some_more k n now next after later so_far made same kept known =
      let first = run (modules_of old) k (config_of old) in
      let more : run (modules_of now) n (config_of now) ≡ run (modules_of old) n first.0 =
      rw (so_far.modules, so_far.config) refl in
      let whole : run (modules_of old) (k + n) (config_of old) ≡ followed (modules_of old) n first =
      run-plus (modules_of old) k n (config_of old) in
      record {
        config = made.config ∙ (ap (λ (p : Progress). p.0) more ∙ sym (ap (λ (p : Progress). p.0) whole));
        bytes =
            let step : reported later ≡ with_bytes (reported after) (run (modules_of old) n first.0).1 = made.bytes
            ∙ ap (λ (p : Progress). with_bytes (reported after) p.1) more in
            let joined : with_bytes (reported after) (run (modules_of old) n first.0).1
            ≡ with_bytes (reported before) (first.1 ++ (run (modules_of old) n first.0).1) =
            ap (λ t. with_bytes t (run (modules_of old) n first.0).1) so_far.bytes
            ∙ with_bytes-append (reported before) first.1 (run (modules_of old) n first.0).1 in
            step ∙ (joined ∙ sym (ap (λ (p : Progress). with_bytes (reported before) p.1) whole));
        failures = made.failures ∙ so_far.failures;
        modules = same ∙ so_far.modules;
        broken = kept ∙ so_far.broken;
        table = known ∙ so_far.table;
      }

  -- the run was over before all reductions were made
  pub over_early : (k n : ℕ) (now : Instances) (after : S) → k ≤ n → (now.end ≡ StillRunning → ⊥)
      → SoFar reported failed k old now before after → Runs reported failed n now.end old now before after
  over_early k n now after le stopped so_far =
      let over : IsOver (run (modules_of old) k (config_of old)).0 =
      subst IsOver so_far.config (is_over now.end now.machine stopped) in
      let split : n ≡ (n - k) + k = omega arith in
      let same : run (modules_of old) n (config_of old) ≡ run (modules_of old) k (config_of old) =
      ap (λ m. run (modules_of old) m (config_of old)) split
      ∙ run_over (modules_of old) k (n - k) (config_of old) over in
      record {
        config = so_far.config ∙ sym (ap (λ p. p.0) same);
        answer = is_end now.end now.machine;
        bytes = so_far.bytes ∙ sym (ap (λ p. with_bytes (reported before) p.1) same);
        failures = so_far.failures;
      }

  -- all reductions were made
  pub all_made : (k n : ℕ) (now : Instances) (after : S) → k ≡ n → SoFar reported failed k old now before after
      → Runs reported failed n now.end old now before after
  all_made k n now after same so_far =
      subst (λ m. Runs reported failed m now.end old now before after) same
      (record {
        config = so_far.config;
        answer = is_end now.end now.machine;
        bytes = so_far.bytes;
        failures =
            so_far.failures;
      })
