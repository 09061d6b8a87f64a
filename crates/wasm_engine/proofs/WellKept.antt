-- The engine's configuration stays well typed.
use Rattle.std.proofs.Common.{◌≡◌, ℕ, ◌<◌, ◌≤◌, ◌+◌, length, get_or, List, ap, subst, sym, ◌∙◌, arith, inl, inr}
use Rattle.std.proofs.Math.Nat.{eq-or-lt_of_le}
use Rattle.std.proofs.lemmas.List.{get_or_default}
use Rattle.std.specs.Prelude.{All, Ok, ◌⊎◌}
use Rattle.wasm_tree.specs.declared.module.WModule.{WModule}
use Rattle.wasm_tree.specs.Machine.{Going, Over, Trapped}
use Rattle.wasm_tree.specs.Machine.{Config, run}
use Rattle.wasm_tree.specs.Linking.{link}
use Rattle.wasm_tree.specs.Validity.{IsValid}
use Rattle.wasm_sound.proofs.Linked.{link_is_sound}
use Rattle.wasm_sound.proofs.Soundness.{run_is_sound, is_ready, is_ready_to_end}
use Rattle.wasm_sound.proofs.Traps.{traps_by_rule, no_trap_at_end}
use Rattle.wasm_machine.specs.Well.{IsWell}
use Rattle.wasm_engine.specs.Safe.{IsSafe}

pub ran : (modules : List WModule) (n : ℕ) (c : Config) → IsWell modules c → IsWell modules (run modules n c).0
ran modules n c h = record { valid = h.valid; sound = run_is_sound modules n c h.valid h.sound }

pub well_linked : (modules : List WModule) (c : Config) → All IsValid modules → link modules ≡ Ok c → IsWell modules c
well_linked modules c valid e = record { valid = valid; sound = link_is_sound modules c valid e }

-- what such a configuration needs is there, and it traps only as the standard says
pub is_safe : (modules : List WModule) (c : Config) → IsWell modules c → IsSafe modules c
is_safe modules (Going st now callers) h = record {
  begins = is_ready modules h.valid st now callers h.sound;
  ends = is_ready_to_end modules h.valid st now callers h.sound;
  traps = λ i rest. traps_by_rule modules st now callers i rest h.valid h.sound;
  no_trap_at_end = no_trap_at_end modules st now callers h.valid h.sound;
}
is_safe modules (Over k) h = tt
is_safe modules Trapped h = tt

-- each module up to a place, and the one there
abbrev pub AreValid : ℕ → List WModule → Type 0
AreValid n modules = (k : ℕ) (d : WModule) → k < n → IsValid (get_or modules k d)

pub seen_more : (modules : List WModule) (n : ℕ) (x : WModule) → AreValid n modules → n < length modules
    → x ≡ get_or modules n x → IsValid x → AreValid (n + 1) modules
seen_more modules n x before within is valid k d less = go (eq-or-lt_of_le at_most)
  where
    at_most : k ≤ n
    at_most = omega arith

    go : (k ≡ n) ⊎ (k < n) → IsValid (get_or modules k d)
    go (inl e) = subst IsValid (is ∙ (get_or_default modules n x d within ∙ ap (λ (j : ℕ). get_or modules j d) (sym e)))
        valid
    go (inr h) = before k d h
