-- Configurations that differ in the numbers of their instances alone.
use Rattle.std.specs.Prelude.{◌≡◌, ℕ, List, map, Option, slice_get}
use Rattle.std.specs.Option.{option_map}
use Rattle.wasm_tree.specs.declared.module.WModule.{WModule}
use Rattle.wasm_tree.specs.declared.store.Callee.{Callee}
use Rattle.wasm_tree.specs.declared.store.Callee.TheVariants.{Put, Stop, Own}
use Rattle.wasm_tree.specs.declared.store.Memory.{Memory}
use Rattle.wasm_tree.specs.declared.store.Store.{Store}
use Rattle.wasm_tree.specs.Machine.{Activation, Config, Going, Over, Trapped, Progress, callee_at, callee_in, global_at, memory_of, run}

-- the number of each instance is another one
module _ (number : ℕ → ℕ) where
  abbrev pub renumber : Callee → Callee
  renumber Put = Put
  renumber Stop = Stop
  renumber (Own m f) = Own (number m) f

  abbrev pub renumber_activation : Activation → Activation
  renumber_activation a = record a { instance = number a.instance }

  -- Each index of an instance stands for the same in both stores: for the same function of the
  -- same module, and for the same global and memory.
  pub record AreAlike (modules others : List WModule) (st new : Store) : Type 0 where
    pub trees : (m : ℕ) → slice_get others (number m) ≡ slice_get modules m
    pub functions : (m index : ℕ)
        → callee_at new (number m) index ≡ option_map renumber (callee_at st m index)
    pub slots : (m slot : ℕ)
        → callee_in new (number m) slot ≡ option_map renumber (callee_in st m slot)
    pub globals : (m index : ℕ) → global_at new (number m) index ≡ global_at st m index
    pub memories : (m : ℕ) (ms : List Memory)
        → memory_of (record new { memories = ms }) (number m)
        ≡ memory_of (record st { memories = ms }) m

  -- the same configuration, with the same memories, on these two stores
  pub data SameConfig (st new : Store) : Config → Config → Type 0 where
    BothGo : (ms : List Memory) (now : Activation) (callers : List Activation)
        → SameConfig st new (Going (record st { memories = ms }) now callers)
        (Going (record new { memories = ms }) (renumber_activation now)
        (map renumber_activation callers))
    BothEnd : (k : ℕ) → SameConfig st new (Over k) (Over k)
    BothTrap : SameConfig st new Trapped Trapped

  -- and the same bytes are printed on the way
  pub record SameProgress (st new : Store) (x y : Progress) : Type 0 where
    pub config : SameConfig st new x.0 y.0
    pub printed : y.1 ≡ x.1

-- So runs are alike, reduction for reduction.
abbrev pub RunsAreAlike : Type 0
RunsAreAlike =
    (number : ℕ → ℕ) (modules others : List WModule) (st new : Store)
    → AreAlike number modules others st new
    → (c d : Config)
    → SameConfig number st new c d
    → (n : ℕ)
    → SameProgress number st new (run modules n c) (run others n d)
