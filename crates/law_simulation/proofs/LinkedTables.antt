-- Calls through the table reach the functions of procedures.
use Rattle.std.proofs.Common.{◌≡◌, ℕ, zero, suc, ◌+◌, ◌<◌, List, [], ◌∷◌, ◌++◌, length, Option, Some, None, ap, ◌∙◌, replicate, arith}
use Rattle.std.specs.Prelude.{slice_get}
use Rattle.std.specs.Option.{option_and_then}
use Rattle.wasm_tree.specs.declared.store.Callee.{Callee}
use Rattle.wasm_tree.specs.declared.store.Callee.TheVariants.{Put, Stop, Own}
use Rattle.wasm_tree.specs.declared.store.Instance.{Instance}
use Rattle.wasm_tree.specs.declared.store.Table.{Table}
use Rattle.wasm_tree.specs.Machine as machine
use Rattle.wasm_tree.specs.Machine.{callee_in, agree, is_same_type}
use Rattle.law_effect.specs.Effect.{store_of}
use Rattle.typed_tree.specs.declared.typed_module.TypedModule.{TypedModule}
use Rattle.def_scheme.specs.Modules.{slots}
use Rattle.law_modules.specs.Linked.{Program, count, owns, table_slots, slots_in}
use Rattle.law_modules.proofs.Stores.{counts}
use Rattle.law_simulation.specs.RunsPrograms.{fixtures_of}
use Rattle.law_simulation.proofs.LinkedPlaces.{instance_there, owns_at, filled_at}

-- ---- slots of the table

module _ (p : Program) (pages : ℕ) (before rest : Program) (m : TypedModule) (is : p ≡ before ++ m ∷ rest)
    (before' rest' : Program) (m' : TypedModule) (is' : p ≡ before' ++ m' ∷ rest') where
  -- a module finds another one's procedure in its slot
  pub slot_callee : (bytes : List ℕ) (j : ℕ) → j < slots m' → 5 + j < count m'
      → callee_in (store_of (fixtures_of p pages) bytes) (suc (length before)) (suc (slots_in before' + j))
      ≡ Some (Own (suc (length before')) (5 + j))
  slot_callee bytes j less few =
      let spare : List (Option ℕ) = replicate (slots_in []) None in
      let found : slice_get (table_slots 3 p ++ spare) (slots_in before' + j)
      ≡ Some (Some (3 + counts before' + 5 + j)) =
      front (table_slots 3 p) spare (slots_in before' + j) _
      (ap (λ (q : Program). slice_get (table_slots 3 q) (slots_in before' + j)) is'
      ∙ filled_at 3 before' rest' m' j less)
      in
      ap (λ (o : Option Instance). in_table o) (instance_there p pages before rest m is bytes)
      ∙ ap (λ (o : Option (Option ℕ)). option_and_then (λ (a : ℕ). slice_get (Put ∷ Stop ∷ Own 0 0 ∷ owns 1 p) a)
      (machine.function_in_slot o)) found
      ∙ ap (λ (a : ℕ). slice_get (Put ∷ Stop ∷ Own 0 0 ∷ owns 1 p) a)
      (let i : 3 + counts before' + 5 + j ≡ suc (suc (suc (counts before' + (5 + j)))) = omega arith in i)
      ∙ ap (λ (q : Program). slice_get (owns 1 q) (counts before' + (5 + j))) is'
      ∙ owns_at 1 before' rest' m' (5 + j) few
      ∙ ap (λ (n : ℕ). Some (Own n (5 + j))) (let i : 1 + length before' ≡ suc (length before') = omega arith in i)
    where
      front : {A : Type 0} (xs ys : List A) (k : ℕ) (x : A) → slice_get xs k ≡ Some x → slice_get (xs ++ ys) k ≡ Some x
      front [] ys k x h = absurd cc
      front (y ∷ xs) ys zero x h = h
      front (y ∷ xs) ys (suc k) x h = front xs ys k x h

      in_table : Option Instance → Option Callee
      in_table o =
          option_and_then (λ (i : Instance). option_and_then
          (λ (t : ℕ). option_and_then (λ (table : Table). option_and_then
          (λ (a : ℕ). slice_get (Put ∷ Stop ∷ Own 0 0 ∷ owns 1 p) a)
          (machine.function_in_slot (slice_get table.slots (suc (slots_in before' + j)))))
          (slice_get (store_of (fixtures_of p pages) bytes).tables t)) (slice_get i.tables 0)) o
