-- What a table of known functions says.
use Rattle.std.specs.Prelude.{◌≡◌, ℕ, List, [], slice_index_or, Some}
use Rattle.wasm_tree.specs.declared.module.WModule.{WModule}
use Rattle.wasm_tree.specs.declared.store.Store.{Store}
use Rattle.wasm_tree.specs.declared.store.Callee.TheVariants.{Own}
use Rattle.wasm_tree.specs.Machine.{Config, Going, Over, Trapped, Typed, callee_at, own_function}
use Rattle.wasm_helpers.specs.Codes.{check_typed, copy_typed, div_typed, fill_typed, mod_typed}
use Rattle.wasm_known.specs.declared.table.KnownFunction.{KnownFunction}
use Rattle.wasm_known.specs.declared.table.KnownFunction.TheVariants as known

-- the index stands, in a module, for a function of the module own with this code
pub record Stands (modules : List WModule) (st : Store) (m g own : ℕ) (code : ℕ → Typed)
    : Type 0 where
  pub function : ℕ
  pub type : ℕ
  pub callee : callee_at st m g ≡ Some (Own own function)
  pub typed : own_function modules own function ≡ Some (code type)

-- div and mod also call check
abbrev pub Means : List WModule → Store → (m g : ℕ) → KnownFunction → Type 0
Means modules st m g known.Other = Unit {0}
Means modules st m g known.Check = (own : ℕ) × Stands modules st m g own check_typed
Means modules st m g known.Divide =
    (own : ℕ) × Stands modules st m g own div_typed × Stands modules st own 4 own check_typed
Means modules st m g known.Modulo =
    (own : ℕ) × Stands modules st m g own mod_typed × Stands modules st own 4 own check_typed
Means modules st m g known.Fill = (own : ℕ) × Stands modules st m g own fill_typed
Means modules st m g known.Copy = (own : ℕ) × Stands modules st m g own copy_typed

-- what the table says of a function of a module
abbrev pub known_in : List (List KnownFunction) → (m g : ℕ) → KnownFunction
known_in table m g = slice_index_or (slice_index_or table m []) g known.Other

-- what the list says of each function of a module is right
abbrev pub RowIsRight : List WModule → Store → (m : ℕ) → List KnownFunction → Type 0
RowIsRight modules st m row = (g : ℕ) → Means modules st m g (slice_index_or row g known.Other)

-- and what the table says of all modules
abbrev pub IsRight : List WModule → Store → List (List KnownFunction) → Type 0
IsRight modules st table = (m : ℕ) → RowIsRight modules st m (slice_index_or table m [])

-- as long as a run goes on
abbrev pub StaysRight : List WModule → List (List KnownFunction) → Config → Type 0
StaysRight modules table (Going st now callers) = IsRight modules st table
StaysRight modules table (Over k) = Unit {0}
StaysRight modules table Trapped = Unit {0}
