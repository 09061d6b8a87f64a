-- Instructions that branch or return.
use Rattle.std.proofs.Common.{◌≡◌, ℕ, ◌<◌, ◌≤◌, ◌⊎◌, inl, inr, Bool, true, false, List, [], ◌∷◌, ◌++◌, length, map, Some, sym, ap, ◌∙◌, append_assoc}
use Rattle.std.specs.Prelude.{slice_get, slice_index_or, All, ◌==◌, if◌then◌else◌}
use Rattle.std.proofs.lemmas.Bool.{cases_lt}
use Rattle.std.proofs.lemmas.List.{get_or_past}
use Rattle.wasm_tree.specs.declared.kinds.ValueType.{ValueType}
use Rattle.wasm_tree.specs.declared.kinds.ValueType.TheVariants as types
use Rattle.wasm_tree.specs.declared.instr.Instr.{Instr}
use Rattle.wasm_tree.specs.declared.instr.Instr.TheOpen as layer
use Rattle.wasm_tree.specs.declared.module.WModule.{WModule}
use Rattle.wasm_tree.specs.declared.store.Value.{Value}
use Rattle.wasm_tree.specs.declared.store.Value.TheVariants.{I32}
use Rattle.wasm_tree.specs.declared.store.Store.{Store}
use Rattle.wasm_tree.specs.Machine.{Activation, Going, Progress, top_i32, branch_by, branched_if}
use Rattle.wasm_tree.specs.Linking.{type_of}
use Rattle.wasm_sound.specs.Sound.{Level, IsSound}
use Rattle.wasm_sound.proofs.Lists.{parts}
use Rattle.wasm_sound.proofs.Operands.{one_is_i32, top_i32_at}
use Rattle.wasm_sound.proofs.Scenes.{Outside, Scene, Works, going, or_trap_at, goes_on, returned_is}
use Rattle.wasm_sound.proofs.Branches.{branch, left}

either_sound : (modules : List WModule) (b : Bool) (p q : Progress) → IsSound modules p.0 → IsSound modules q.0
    → IsSound modules (if b then p else q).0
either_sound modules true p q h g = h
either_sound modules false p q h g = g

-- the number on top, above operands of these types
pub top_number : (stack : List Value) (below : List ValueType) → map type_of stack ≡ below ++ types.I32 ∷ []
    → (us : List Value) × (n : ℕ) × (stack ≡ us ++ I32 n ∷ []) × (map type_of us ≡ below)
top_number stack below e =
    let cut = parts type_of stack below (types.I32 ∷ []) e in
    let n = one_is_i32 cut.1 cut.4 in
    (cut.0, n.0, cut.2 ∙ ap (λ (l : List Value). cut.0 ++ l) n.1, cut.3)

pub deep : (below lower taken one : List ValueType)
    → below ++ (lower ++ (taken ++ one)) ≡ below ++ (lower ++ taken) ++ one
deep below lower taken one = ap (λ (l : List ValueType). below ++ l) (sym (append_assoc lower taken one))
    ∙ sym (append_assoc below (lower ++ taken) one)

module _ (modules : List WModule) (st : Store) (a : Activation) (callers : List Activation) (returns : List ValueType)
    (inner : Level) (o : Outside modules st callers returns) (i : Instr) where
  pub jump : (l : ℕ) (taken lower r : List ValueType) → slice_get inner.context.labels l ≡ Some taken
      → Scene modules a returns inner (lower ++ taken) r → Works modules st a callers i (layer.Br l)
  jump l taken lower r e s =
      branch modules st callers returns o a inner s.context s.frame s.labels a.stack (s.lower ++ lower) taken l
      (s.stack ∙ ap (λ (x : List ValueType). inner.below ++ x) (sym (append_assoc s.lower lower taken))) e

  pub jump_if : (l : ℕ) (taken : List ValueType) → slice_get inner.context.labels l ≡ Some taken
      → Scene modules a returns inner (taken ++ types.I32 ∷ []) taken → Works modules st a callers i (layer.BrIf l)
  jump_if l taken e s =
      let top = top_number a.stack (inner.below ++ (s.lower ++ taken))
      (s.stack ∙ deep inner.below s.lower taken (types.I32 ∷ [])) in
      let go = branch modules st callers returns o a inner s.context s.frame s.labels top.0 s.lower taken l top.3 e in
      let stay = going modules st callers returns (record a { stack = top.0 }) o
      (goes_on modules a returns inner (taken ++ types.I32 ∷ []) taken s top.0 top.3) in (
        (top.0, top.1, top.2, go.0),
        or_trap_at modules (top_i32 a.stack) (top.0, top.1)
            (λ p. branched_if st (record a { stack = p.0 }) callers l p.1) (ap top_i32 top.2 ∙ top_i32_at top.0 top.1)
            (either_sound modules (top.1 == 0) (Going st (record a { stack = top.0 }) callers, [])
            (branch_by st (record a { stack = top.0 }) callers l) stay go.1),
      )

  -- each label of the table takes the same
  in_table : (ls : List ℕ) (default n : ℕ) (taken : List ValueType)
      → slice_get inner.context.labels default ≡ Some taken
      → All (λ l. slice_get inner.context.labels l ≡ Some taken) ls
      → slice_get inner.context.labels (slice_index_or ls n default) ≡ Some taken
  in_table ls default n taken e all = go (cases_lt n (length ls))
    where
      go : (n < length ls) ⊎ (length ls ≤ n) → slice_get inner.context.labels (slice_index_or ls n default) ≡ Some taken
      go (inl less) = all n default less
      go (inr more) = ap (slice_get inner.context.labels) (get_or_past ls n default more) ∙ e

  pub jump_table : (ls : List ℕ) (default : ℕ) (taken lower r : List ValueType)
      → slice_get inner.context.labels default ≡ Some taken
      → All (λ l. slice_get inner.context.labels l ≡ Some taken) ls
      → Scene modules a returns inner (lower ++ taken ++ types.I32 ∷ []) r
      → Works modules st a callers i (layer.BrTable ls default)
  jump_table ls default taken lower r e all s =
      let top = top_number a.stack (inner.below ++ (s.lower ++ (lower ++ taken)))
      (s.stack ∙ deep inner.below s.lower (lower ++ taken) (types.I32 ∷ [])) in
      let l = slice_index_or ls top.1 default in
      let typed : map type_of top.0 ≡ inner.below ++ (s.lower ++ lower ++ taken) = top.3
      ∙ ap (λ (x : List ValueType). inner.below ++ x) (sym (append_assoc s.lower lower taken)) in
      let go = branch modules st callers returns o a inner s.context s.frame s.labels top.0 (s.lower ++ lower) taken l
      typed (in_table ls default top.1 taken e all) in (
        (top.0, top.1, top.2, go.0),
        or_trap_at modules (top_i32 a.stack) (top.0, top.1)
            (λ p. branch_by st (record a { stack = p.0 }) callers (slice_index_or ls p.1 default))
            (ap top_i32 top.2 ∙ top_i32_at top.0 top.1) go.1,
      )

  pub return : (lower r : List ValueType) → Scene modules a returns inner (lower ++ inner.context.returns) r
      → Works modules st a callers i layer.Return
  return lower r s =
      let own = returned_is modules a returns inner (lower ++ inner.context.returns) r s in
      left modules st callers returns o a a.stack (inner.below ++ (s.lower ++ lower))
      (s.stack ∙ deep inner.below s.lower lower inner.context.returns
      ∙ ap (λ (x : List ValueType). inner.below ++ (s.lower ++ lower) ++ x) own)
      (s.frame.arity_is ∙ ap length (sym s.frame.returns_is))
