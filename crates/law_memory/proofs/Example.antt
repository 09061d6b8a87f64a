-- The hypotheses on helpers can be met: a module with copy alone.
use Rattle.std.proofs.Common.{◌≡◌, ℕ, List, [], ◌∷◌, Option, Some, None, refl}
use Rattle.wasm_tree.specs.declared.kinds.ValueType.TheVariants as types
use Rattle.wasm_tree.specs.declared.module.WModule.{WModule}
use Rattle.wasm_tree.specs.declared.store.Callee.TheVariants.{Put, Stop, Own}
use Rattle.wasm_tree.specs.declared.store.Store.{Store}
use Rattle.wasm_tree.specs.Machine.{callee_at, own_function}
use Rattle.law_effect.specs.Effect.{Fixed, store_of}
use Rattle.def_scheme.specs.Helpers.{helper, copy_code}
use Rattle.law_memory.specs.Called.{HasMemory}

abbrev fx : Fixed
fx = record {
  functions = Put ∷ Stop ∷ Own 0 0 ∷ [];
  tables = [];
  globals = [];
  instances = record { functions = 0 ∷ 1 ∷ 2 ∷ []; tables = []; memories = 0 ∷ []; globals = [] } ∷ [];
  max = None;
}

has_memory : HasMemory fx 0
has_memory bytes = refl

at_two : (bytes : List ℕ) → callee_at (store_of fx bytes) 0 2 ≡ Some (Own 0 0)
at_two bytes = refl

-- a store with one memory
one_memory : (st : Store) (bytes : List ℕ) (max : Option ℕ)
    → store_of (record {
      functions = st.functions;
      tables = st.tables;
      globals = st.globals;
      instances = st.instances;
      max = max;
    }) bytes ≡ record st { memories = record { bytes = bytes; max = max } ∷ [] }
one_memory st bytes max = refl

abbrev tree : WModule
tree = record {
  types = record { params = types.I32 ∷ types.I32 ∷ types.I32 ∷ []; results = [] } ∷ [];
  imports = [];
  functions = (helper (types.I32 ∷ types.I32 ∷ types.I32 ∷ []) [] 0 copy_code).function ∷ [];
  tables = [];
  memories = [];
  globals = [];
  exports = [];
  elements = [];
  «data» = [];
}

is_copy : own_function (tree ∷ []) 0 0 ≡ Some (helper (types.I32 ∷ types.I32 ∷ types.I32 ∷ []) [] 0 copy_code)
is_copy = refl
