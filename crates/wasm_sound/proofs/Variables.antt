-- Instructions on operands, variables and memory.
use Rattle.std.proofs.Common.{◌≡◌, ℕ, ◌+◌, ◌<◌, List, [], ◌∷◌, ◌++◌, length, map, Some, refl, sym, ap, subst, ◌∙◌}
use Rattle.std.specs.Prelude.{slice_get, slice_set, nat_le, nat_lt}
use Rattle.std.proofs.lemmas.List.{append-nil}
use Rattle.std.proofs.lemmas.Option.{slice_get_within}
use Rattle.wasm_tree.specs.declared.kinds.ValueType.{ValueType}
use Rattle.wasm_tree.specs.declared.kinds.ValueType.TheVariants as types
use Rattle.wasm_tree.specs.declared.instr.Instr.{Instr}
use Rattle.wasm_tree.specs.declared.instr.Instr.TheOpen as layer
use Rattle.wasm_tree.specs.declared.instr.Numeric.{Numeric}
use Rattle.wasm_tree.specs.declared.instr.Load.{Load}
use Rattle.wasm_tree.specs.declared.instr.StoreWidth.{StoreWidth}
use Rattle.wasm_tree.specs.declared.module.WModule.{WModule}
use Rattle.wasm_tree.specs.declared.store.Value.{Value}
use Rattle.wasm_tree.specs.declared.store.Value.TheVariants.{I32, I64}
use Rattle.wasm_tree.specs.declared.store.Memory.{Memory}
use Rattle.wasm_tree.specs.declared.store.Store.{Store}
use Rattle.wasm_tree.specs.Numbers.{load_size, load_number, store_bytes}
use Rattle.wasm_tree.specs.Validity.{numeric_params, numeric_result}
use Rattle.wasm_tree.specs.Machine.{Activation, Going, or_trap, split_last, top_i32, top_i64, topmost, calculation, push_value, with_local, global_at, memory_of, bytes_at, paste_items, with_memory_bytes, loads, stores}
use Rattle.wasm_tree.specs.Linking.{type_of}
use Rattle.wasm_sound.specs.Sound.{Level, IsActivation, IsGoing, IsSound}
use Rattle.wasm_sound.specs.Ready.{CanSet, AreNumbers}
use Rattle.wasm_sound.proofs.Lists.{split_last-push}
use Rattle.wasm_sound.proofs.Operands.{is_one, one_is_i32, are_i32_i64, top_i32_at, top_i64_at, topmost_at, two, IsMade, calculated_typed}
use Rattle.wasm_sound.proofs.Scenes.{Outside, Scene, Works, going, or_trap_sound, or_trap_at, if_sound, operands, replaced, goes_on, local_at, global_there, memory_there, set_local, memory_set}

module _ (modules : List WModule) (st : Store) (a : Activation) (callers : List Activation) (returns : List ValueType)
    (inner : Level) (o : Outside modules st callers returns) (i : Instr) where
  -- a value of its type is pushed
  pub push : (v : Value) (t : ValueType) → type_of v ≡ t → Scene modules a returns inner [] (t ∷ [])
      → IsGoing modules st (record a { stack = a.stack ++ v ∷ [] }) callers
  push v t e s =
      replaced modules a returns inner [] (t ∷ []) s st callers o a.stack (v ∷ [])
      (s.stack ∙ ap (λ (l : List ValueType). inner.below ++ l) (append-nil s.lower))
      (ap (λ (u : ValueType). u ∷ []) e)

  pub drop : (t : ValueType) → Scene modules a returns inner (t ∷ []) [] → Works modules st a callers i layer.Drop
  drop t s =
      let on = operands modules a returns inner (t ∷ []) [] s in
      let one = is_one on.1 t on.4 in
      let e : a.stack ≡ on.0 ++ one.0 ∷ [] = on.2 ∙ ap (λ (l : List Value). on.0 ++ l) one.1 in (
        (on.0, one.0, e),
        or_trap_at modules (split_last a.stack) (on.0, one.0) (λ p. (Going st (record a { stack = p.0 }) callers, []))
            (ap split_last e ∙ split_last-push on.0 one.0)
            (subst (λ (l : List Value). IsGoing modules st (record a { stack = l }) callers) (append-nil on.0)
            (replaced modules a returns inner (t ∷ []) [] s st callers o on.0 [] on.3 refl)),
      )

  pub local_get : (x : ℕ) (t : ValueType) → slice_get inner.context.locals x ≡ Some t
      → Scene modules a returns inner [] (t ∷ []) → Works modules st a callers i (layer.LocalGet x)
  local_get x t e s =
      let v = local_at modules a returns inner [] (t ∷ []) s x t e in (
        slice_get_within a.locals x v.0 v.1,
        or_trap_at modules (slice_get a.locals x) v.0 (push_value st a callers) v.1
            (push v.0 t v.2 s),
      )

  pub global_get : (g : ℕ) (t : ValueType) → slice_get inner.context.globals g ≡ Some t
      → Scene modules a returns inner [] (t ∷ []) → Works modules st a callers i (layer.GlobalGet g)
  global_get g t e s =
      let v = global_there modules a returns inner [] (t ∷ []) s st g t o.store e in
      ((v.0, v.1), or_trap_at modules (global_at st a.instance g) v.0 (push_value st a callers) v.1 (push v.0 t v.2 s))

  -- the local that is set is there, and what it gets has its type
  settable : (x : ℕ) (t : ValueType) (r : List ValueType) → slice_get inner.context.locals x ≡ Some t
      → (s : Scene modules a returns inner (t ∷ []) r) → CanSet a.locals a.stack x
  settable x t r e s =
      let on = operands modules a returns inner (t ∷ []) r s in
      let one = is_one on.1 t on.4 in
      let old = local_at modules a returns inner (t ∷ []) r s x t e in
      (on.0, one.0, old.0, on.2 ∙ ap (λ (l : List Value). on.0 ++ l) one.1, old.1, one.2 ∙ sym old.2)

  -- the local that is there gets a value of its type
  with_local_sound : (b : Activation) (x : ℕ) (old v : Value) → slice_get b.locals x ≡ Some old
      → type_of v ≡ type_of old → IsActivation modules returns b [] → IsSound modules (with_local st b callers x v).0
  with_local_sound b x old v e t h =
      let set : Activation = record b { locals = slice_set b.locals x v } in
      let new : IsActivation modules returns set [] = record {
        context = h.context;
        inner = h.inner;
        above = h.above;
        frame = set_local modules b.instance b.arity b.locals returns h.context x old v e t h.frame;
        labels = h.labels;
        stack = h.stack;
        leads = h.leads;
      } in
      if_sound modules (nat_lt x (length b.locals)) (Going st set callers, [])
      (going modules st callers returns set o new)

  pub local_set : (x : ℕ) (t : ValueType) → slice_get inner.context.locals x ≡ Some t
      → Scene modules a returns inner (t ∷ []) [] → Works modules st a callers i (layer.LocalSet x)
  local_set x t e s =
      let on = operands modules a returns inner (t ∷ []) [] s in
      let one = is_one on.1 t on.4 in
      let there : a.stack ≡ on.0 ++ one.0 ∷ [] = on.2 ∙ ap (λ (l : List Value). on.0 ++ l) one.1 in
      let left : map type_of on.0 ≡ inner.below ++ (s.lower ++ []) = on.3
      ∙ ap (λ (l : List ValueType). inner.below ++ l) (sym (append-nil s.lower)) in
      let old = local_at modules a returns inner (t ∷ []) [] s x t e in
      let same : type_of one.0 ≡ type_of old.0 = one.2 ∙ sym old.2 in (
        (on.0, one.0, old.0, there, old.1, same),
        or_trap_at modules (split_last a.stack) (on.0, one.0)
            (λ p. with_local st (record a { stack = p.0 }) callers x p.1)
            (ap split_last there ∙ split_last-push on.0 one.0)
            (with_local_sound (record a { stack = on.0 }) x old.0 one.0 old.1 same
            (goes_on modules a returns inner (t ∷ []) [] s on.0 left)),
      )

  pub local_tee : (x : ℕ) (t : ValueType) → slice_get inner.context.locals x ≡ Some t
      → Scene modules a returns inner (t ∷ []) (t ∷ []) → Works modules st a callers i (layer.LocalTee x)
  local_tee x t e s =
      let can = settable x t (t ∷ []) e s in (
        can,
        or_trap_at modules (topmost a.stack) can.1 (with_local st a callers x)
            (ap topmost can.3 ∙ topmost_at can.0 can.1)
            (with_local_sound a x can.2 can.1 can.4 can.5
            (goes_on modules a returns inner (t ∷ []) (t ∷ []) s a.stack s.stack)),
      )

  pub load : (kind : Load) → 0 < length inner.context.memories
      → Scene modules a returns inner (types.I32 ∷ []) (types.I64 ∷ []) → Works modules st a callers i (layer.Load kind)
  load kind some s =
      let on = operands modules a returns inner (types.I32 ∷ []) (types.I64 ∷ []) s in
      let n = one_is_i32 on.1 on.4 in
      let there : a.stack ≡ on.0 ++ I32 n.0 ∷ [] = on.2 ∙ ap (λ (l : List Value). on.0 ++ l) n.1 in
      let m = memory_there modules a returns inner (types.I32 ∷ []) (types.I64 ∷ []) s st o.store some in (
        ((on.0, n.0, there), m),
        or_trap_at modules (top_i32 a.stack) (on.0, n.0)
            (λ p. or_trap (memory_of st a.instance) (loads st (record a { stack = p.0 }) callers kind p.1))
            (ap top_i32 there ∙ top_i32_at on.0 n.0)
            (or_trap_at modules (memory_of st a.instance) m.0 (loads st (record a { stack = on.0 }) callers kind n.0)
            m.1
            (or_trap_sound modules (bytes_at (load_size kind) n.0 m.0.1.bytes)
            (λ bytes. push_value st (record a { stack = on.0 }) callers (I64 (load_number kind bytes)))
            (λ bytes e. replaced modules a returns inner (types.I32 ∷ []) (types.I64 ∷ []) s st callers o on.0
            (I64 (load_number kind bytes) ∷ []) on.3 refl))),
      )

  stores_sound : (us : List Value) (place : ℕ) (bytes : List ℕ) (m : ℕ × Memory)
      → IsActivation modules returns (record a { stack = us }) []
      → IsSound modules (stores st (record a { stack = us }) callers place bytes m).0
  stores_sound us place bytes m h =
      let written = paste_items m.1.bytes place bytes in
      let new = with_memory_bytes st m.0 m.1 written in
      let round : Outside modules new callers returns =
      record { store = memory_set modules modules st m.0 m.1 written o.store; first = o.first; waiting = o.waiting }
      in
      if_sound modules (nat_le (place + length bytes) (length m.1.bytes))
      (Going new (record a { stack = us }) callers, [])
      (going modules new callers returns (record a { stack = us }) round h)

  pub store : (width : StoreWidth) → 0 < length inner.context.memories
      → Scene modules a returns inner (types.I32 ∷ types.I64 ∷ []) [] → Works modules st a callers i (layer.Store width)
  store width some s =
      let on = operands modules a returns inner (types.I32 ∷ types.I64 ∷ []) [] s in
      let n = are_i32_i64 on.1 on.4 in
      let there : a.stack ≡ on.0 ++ I32 n.0 ∷ I64 n.1 ∷ [] = on.2 ∙ ap (λ (l : List Value). on.0 ++ l) n.2 in
      let above : a.stack ≡ on.0 ++ I32 n.0 ∷ [] ++ I64 n.1 ∷ [] = there ∙ two on.0 (I32 n.0) (I64 n.1) in
      let left : map type_of on.0 ≡ inner.below ++ (s.lower ++ []) = on.3
      ∙ ap (λ (l : List ValueType). inner.below ++ l) (sym (append-nil s.lower)) in
      let m = memory_there modules a returns inner (types.I32 ∷ types.I64 ∷ []) [] s st o.store some in (
        (on.0, n.0, n.1, there, m),
        or_trap_at modules (top_i64 a.stack) (on.0 ++ I32 n.0 ∷ [], n.1)
            (λ v. or_trap (top_i32 v.0) (λ p. or_trap (memory_of st a.instance)
            (stores st (record a { stack = p.0 }) callers p.1 (store_bytes width v.1))))
            (ap top_i64 above ∙ top_i64_at (on.0 ++ I32 n.0 ∷ []) n.1)
            (or_trap_at modules (top_i32 (on.0 ++ I32 n.0 ∷ [])) (on.0, n.0)
            (λ p. or_trap (memory_of st a.instance)
            (stores st (record a { stack = p.0 }) callers p.1 (store_bytes width n.1))) (top_i32_at on.0 n.0)
            (or_trap_at modules (memory_of st a.instance) m.0
            (stores st (record a { stack = on.0 }) callers n.0 (store_bytes width n.1)) m.1
            (stores_sound on.0 n.0 (store_bytes width n.1) m.0
            (goes_on modules a returns inner (types.I32 ∷ types.I64 ∷ []) [] s on.0 left)))),
      )

  pub number : (f : Numeric) → Scene modules a returns inner (numeric_params f) (numeric_result f ∷ [])
      → Works modules st a callers i (layer.Numeric f)
  number f s =
      let on = operands modules a returns inner (numeric_params f) (numeric_result f ∷ []) s in
      let typed = calculated_typed f on.0 on.1 on.4 in (
        subst (AreNumbers f) (sym on.2) typed.0,
        or_trap_sound modules (calculation f a.stack) (λ p. push_value st (record a { stack = p.0 }) callers p.1)
            (λ p e.
            let found : calculation f (on.0 ++ on.1) ≡ Some p = ap (calculation f) (sym on.2) ∙ e in
            let is : IsMade f on.0 (Some p) = subst (IsMade f on.0) found typed.1 in
            subst (λ (l : List Value). IsGoing modules st (record a { stack = l ++ p.1 ∷ [] }) callers) (sym is.0)
            (replaced modules a returns inner (numeric_params f) (numeric_result f ∷ []) s st callers o on.0 (p.1 ∷ [])
            on.3 (ap (λ (u : ValueType). u ∷ []) is.1))),
      )
