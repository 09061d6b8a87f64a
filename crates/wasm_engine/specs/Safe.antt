-- What linked valid modules never do: lack what their next reduction needs, or trap where the
-- standard has no trap.
use Rattle.std.specs.Prelude.{◌≡◌, ℕ, List, [], ◌∷◌}
use Rattle.wasm_tree.specs.declared.instr.Instr.{Instr, out-Instr}
use Rattle.wasm_tree.specs.declared.module.WModule.{WModule}
use Rattle.wasm_tree.specs.declared.store.Store.{Store}
use Rattle.wasm_tree.specs.Machine.{Activation, Config, Going, Over, Trapped, split_last, reduce, run}
use Rattle.wasm_sound.specs.Ready.{IsReady, IsReadyToEnd}
use Rattle.wasm_sound.specs.Traps.{MayTrap}

-- the next reduction is a trap
abbrev pub Traps : List WModule → Config → Type 0
Traps modules c = (reduce modules c).0 ≡ Trapped

-- a function runs: its next instruction, or the end of its block or of itself, finds the operands,
-- of their kinds, and the labels, locals, globals and functions that it needs, and traps only by a
-- rule of the standard
pub record IsSafeAt (modules : List WModule) (st : Store) (now : Activation)
    (callers : List Activation) : Type 0 where
  pub begins : (i : Instr) (rest : List Instr) → now.rest ≡ i ∷ rest
      → IsReady modules st now (out-Instr i)
  pub ends : now.rest ≡ [] → IsReadyToEnd now (split_last now.labels)
  pub traps : (i : Instr) (rest : List Instr) → now.rest ≡ i ∷ rest
      → Traps modules (Going st now callers) → MayTrap modules st now (out-Instr i)
  pub no_trap_at_end : now.rest ≡ [] → ¬ (Traps modules (Going st now callers))

abbrev pub IsSafe : List WModule → Config → Type 0
IsSafe modules (Going st now callers) = IsSafeAt modules st now callers
IsSafe modules (Over k) = Unit {0}
IsSafe modules Trapped = Unit {0}

-- so it is wherever reductions lead
abbrev pub StaysSafe : List WModule → Config → Type 0
StaysSafe modules c = (n : ℕ) → ∥ IsSafe modules (run modules n c).0 ∥₁
