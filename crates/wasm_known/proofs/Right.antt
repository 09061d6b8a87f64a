-- Tables that are right: row by row, and as long as a run goes on.
use Rattle.std.proofs.Common.{◌≡◌, ℕ, zero, suc, List, [], ◌∷◌, ◌++◌, length, ◌∙◌, subst}
use Rattle.std.specs.Prelude.{slice_index_or}
use Rattle.wasm_tree.specs.declared.module.WModule.{WModule}
use Rattle.wasm_tree.specs.declared.store.Store.{Store}
use Rattle.wasm_tree.specs.Machine.{Config, Going, Over, Trapped, Typed, run}
use Rattle.wasm_known.specs.declared.table.KnownFunction.{KnownFunction}
use Rattle.wasm_known.specs.declared.table.KnownFunction.TheVariants as known
use Rattle.wasm_known.specs.Table.{Stands, Means, RowIsRight, IsRight, StaysRight}
use Rattle.wasm_known.proofs.Names.{SameNames, KeepsAs, run_keeps, callee_kept}

-- what holds at each place holds once an element was put behind the others
pub one_more : {A : Type 0} (P : ℕ → A → Type 0) (xs : List A) (x d : A) → ((k : ℕ) → P k (slice_index_or xs k d))
    → P (length xs) x → (k : ℕ) → P k (slice_index_or (xs ++ x ∷ []) k d)
one_more P [] x d h p zero = p
one_more P [] x d h p (suc k) = h (suc k)
one_more P (y ∷ ys) x d h p zero = h zero
one_more P (y ∷ ys) x d h p (suc k) = one_more (λ j. P (suc j)) ys x d (λ j. h (suc j)) p k

pub row_more : (modules : List WModule) (st : Store) (m n : ℕ) (row : List KnownFunction) (x : KnownFunction)
    → n ≡ length row → RowIsRight modules st m row → Means modules st m n x → RowIsRight modules st m (row ++ x ∷ [])
row_more modules st m n row x e h p = one_more (λ g k. Means modules st m g k) row x known.Other h
    (subst (λ (g : ℕ). Means modules st m g x) e p)

pub table_more : (modules : List WModule) (st : Store) (n : ℕ) (table : List (List KnownFunction))
    (row : List KnownFunction) → n ≡ length table → IsRight modules st table → RowIsRight modules st n row
    → IsRight modules st (table ++ row ∷ [])
table_more modules st n table row e h p =
    one_more (λ m r. RowIsRight modules st m r) table row [] h (subst (λ (m : ℕ). RowIsRight modules st m row) e p)

module _ (modules : List WModule) (st new : Store) (same : SameNames st new) where
  stands : (m g own : ℕ) (code : ℕ → Typed) → Stands modules st m g own code → Stands modules new m g own code
  stands m g own code h = record {
    function = h.function;
    type = h.type;
    callee = callee_kept st new m g same
        ∙ h.callee;
    typed = h.typed;
  }

  means : (m g : ℕ) (k : KnownFunction) → Means modules st m g k → Means modules new m g k
  means m g known.Other h = tt
  means m g known.Check h = (h.0, stands m g h.0 _ h.1)
  means m g known.Divide h = (h.0, stands m g h.0 _ h.1, stands h.0 4 h.0 _ h.2)
  means m g known.Modulo h = (h.0, stands m g h.0 _ h.1, stands h.0 4 h.0 _ h.2)
  means m g known.Fill h = (h.0, stands m g h.0 _ h.1)
  means m g known.Copy h = (h.0, stands m g h.0 _ h.1)

  right : (table : List (List KnownFunction)) → IsRight modules st table → IsRight modules new table
  right table h m g = means m g (slice_index_or (slice_index_or table m []) g known.Other) (h m g)

right_kept : (modules : List WModule) (table : List (List KnownFunction)) (c d : Config) → KeepsAs c d
    → StaysRight modules table c → StaysRight modules table d
right_kept modules table (Going st now callers) (Going new running others) k h = right modules st new k table h
right_kept modules table (Over j) (Going new running others) k h = absurd k
right_kept modules table Trapped (Going new running others) k h = absurd k
right_kept modules table c (Over i) k h = tt
right_kept modules table c Trapped k h = tt

-- after so many reductions
pub right_after : (modules : List WModule) (table : List (List KnownFunction)) (n : ℕ) (c : Config)
    → StaysRight modules table c → StaysRight modules table (run modules n c).0
right_after modules table n c h = right_kept modules table c (run modules n c).0 (run_keeps modules n c) h
