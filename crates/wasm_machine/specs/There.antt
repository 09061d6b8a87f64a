-- What is there.
use Rattle.std.specs.Prelude.{◌≡◌, ℕ, Bool, true, false, List, ◌∷◌, [], ◌++◌, slice_get, Option, Some, None}
use Rattle.std.specs.Option.{option_map}
use Rattle.wasm_tree.specs.declared.store.Value.{Value}
use Rattle.wasm_tree.specs.declared.store.Table.{Table}
use Rattle.wasm_tree.specs.declared.store.Instance.{Instance}
use Rattle.wasm_tree.specs.declared.store.Store.{Store}
use Rattle.wasm_tree.specs.Machine.{instance_of}

abbrev pub is_there : {A : Type 0} → Option A → Bool
is_there None = false
is_there (Some x) = true

abbrev pub IsThere : {A : Type 0} → Option A → Type 0
IsThere o = is_there o ≡ true

-- the module has a table, and a slot that is filled has a function
abbrev pub HasSlots : Store → (m slot : ℕ) → Type 0
HasSlots st m slot =
    (i : Instance) × (place : ℕ) × (table : Table)
    × (instance_of st m ≡ Some i)
    × (slice_get i.tables 0 ≡ Some place)
    × (slice_get st.tables place ≡ Some table)
    × ((a : ℕ) → slice_get table.slots slot ≡ Some (Some a) → IsThere (slice_get st.functions a))

-- the operands below with what was made of the others, if something was
abbrev pub replace_operands : Option (List Value × Value) → Option (List Value)
replace_operands o = option_map (λ p. p.0 ++ p.1 ∷ []) o
