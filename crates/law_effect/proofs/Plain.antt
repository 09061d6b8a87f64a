-- Instructions that neither branch nor call: the machine's reduction around other labels and callers is the one alone.
use Rattle.std.proofs.Common.{◌≡◌, ℕ, zero, suc, List, [], Bool, true, false, Option, Some, None, if◌then◌else◌, refl}
use Rattle.std.specs.Prelude.{slice_get}
use Rattle.std.specs.Option.{option_and_then, option_map}
use Rattle.wasm_tree.specs.declared.instr.Instr.{Instr}
use Rattle.wasm_tree.specs.declared.module.WModule.{WModule}
use Rattle.wasm_tree.specs.declared.store.Memory.{Memory}
use Rattle.wasm_tree.specs.declared.store.Instance.{Instance}
use Rattle.wasm_tree.specs.Machine.{Config, Going, Over, Trapped, Progress, trap_now, or_trap, instance_of, memory_of, reduce}
use Rattle.law_effect.specs.Effect.{Fixed, store_of, Effect, FellThrough, Branched, Returned, Ended, Traps, StillRunning, of_config}
use Rattle.law_effect.specs.Laws.{Around, at, Leads}
use Rattle.law_effect.proofs.Reaching.{silent}

module _ (modules : List WModule) (fx : Fixed) (m : ℕ) (a : Around) (rest : List Instr) where
  -- the configuration that an effect of one instruction stands for
  abbrev pub config_of : Effect → Config
  config_of (FellThrough st stack) = at fx m a rest st stack
  config_of (Branched k st stack) = Trapped
  config_of (Returned st stack) = Trapped
  config_of (Ended k out) = Over k
  config_of (Traps out) = Trapped
  config_of (StillRunning out) = Trapped

  -- what is reached here, nothing printed, is what is reached alone
  abbrev pub Same : List ℕ → Progress → Progress → Type 0
  Same out here there = here ≡ (config_of (of_config out there.0), [])

  pub same_or : {A : Type 0} (out : List ℕ) (o : Option A) (f g : A → Progress) → ((x : A) → Same out (f x) (g x))
      → Same out (or_trap o f) (or_trap o g)
  same_or out None f g h = refl
  same_or out (Some x) f g h = h x

  pub same_if : (out : List ℕ) (b : Bool) (p q : Progress) → Same out p q
      → Same out (if b then p else trap_now) (if b then q else trap_now)
  same_if out true p q h = h
  same_if out false p q h = refl

  -- the one memory
  abbrev pub memory : List ℕ → ℕ × Memory
  memory bytes = (0, record { bytes = bytes; max = fx.max })

  abbrev in_place : List ℕ → Option ℕ → Option (ℕ × Memory)
  in_place bytes o = option_and_then (λ a. option_map (λ memory. (a, memory))
      (slice_get (store_of fx bytes).memories a)) o

  pub same_memory : (out bytes : List ℕ) (f g : ℕ × Memory → Progress) → Same out (f (memory bytes)) (g (memory bytes))
      → Same out (or_trap (memory_of (store_of fx bytes) m) f) (or_trap (memory_of (store_of fx bytes) m) g)
  same_memory out bytes f g h = go (instance_of (store_of fx bytes) m)
    where
      placed : (o : Option ℕ) → Same out (or_trap (in_place bytes o) f) (or_trap (in_place bytes o) g)
      placed None = refl
      placed (Some zero) = h
      placed (Some (suc k)) = refl

      go : (o : Option Instance) → Same out (or_trap
          (option_and_then (λ (i : Instance). in_place bytes (slice_get i.memories 0)) o) f)
          (or_trap (option_and_then (λ (i : Instance). in_place bytes (slice_get i.memories 0)) o) g)
      go None = refl
      go (Some i) = placed (slice_get i.memories 0)

  pub same_leads : (w : ℕ) (c : Config) (out : List ℕ) (d : Config)
      → reduce modules c ≡ (config_of (of_config out d), []) → Leads modules fx w m a rest c out (of_config out d)
  same_leads w c out (Going st now callers) e = silent modules c _ out e
  same_leads w c out (Over k) e = silent modules c _ out e
  same_leads w c out Trapped e = silent modules c _ out e
