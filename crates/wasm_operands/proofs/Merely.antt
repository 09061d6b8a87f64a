-- What follows from what is merely known to be.
use Rattle.std.proofs.Math.Logic.{∥∥₁_map, ∥∥₁_elim}
use Rattle.std.proofs.Common.{◌≡◌, ℕ, ◌<◌, ◌≤◌, List, Option}
use Rattle.std.specs.Coded.{Coded, Coded-set, coded_ℕ, coded_list, coded_option, coded×, le_prop}
use Rattle.wasm_tree.specs.contracts.store.Value as value
use Rattle.wasm_tree.specs.declared.store.Value.{Value}

pub merely_map : {A B : Type 0} → (A → B) → ∥ A ∥₁ → ∥ B ∥₁
merely_map f t = ∥∥₁_map t f

pub to_less : {A : Type 0} (n m : ℕ) → (A → n < m) → ∥ A ∥₁ → n < m
to_less n m f t = ∥∥₁_elim t le_prop f

pub to_le : {A : Type 0} (n m : ℕ) → (A → n ≤ m) → ∥ A ∥₁ → n ≤ m
to_le n m f t = ∥∥₁_elim t le_prop f

coded_found : Coded (Option (List Value × ℕ))
coded_found = coded_option (coded× (coded_list value.the_row.coded) coded_ℕ)

pub to_found : {A : Type 0} (x y : Option (List Value × ℕ)) → (A → x ≡ y) → ∥ A ∥₁ → x ≡ y
to_found x y f t = ∥∥₁_elim t (Coded-set coded_found x y) f

pub to_value : {A : Type 0} (x y : Option Value) → (A → x ≡ y) → ∥ A ∥₁ → x ≡ y
to_value x y f t = ∥∥₁_elim t (Coded-set (coded_option value.the_row.coded) x y) f
