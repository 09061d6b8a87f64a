-- Where what an instruction needs is there, it traps only as the standard says.
use Rattle.std.proofs.Common.{◌≡◌, ◌⊎◌, inl, inr, ℕ, ◌+◌, ◌-◌, ◌%◌, ◌^◌, ◌<◌, ◌≤◌, Bool, true, false, ◌&&◌, List, [], ◌∷◌, ◌++◌, length, take, drop, Option, Some, None, refl, sym, ap, ap₂, subst, ◌∙◌, arith}
use Rattle.std.specs.Prelude.{All, slice_get, slice_set, slice_index_or, nat_le, nat_lt, ◌==◌, if◌then◌else◌}
use Rattle.std.specs.Int.{w32, w64}
use Rattle.std.specs.Option.{option_and_then, option_map}
use Rattle.std.proofs.lemmas.Bool.{cases_lt, le-leb, lt-ltb, leb-false}
use Rattle.std.proofs.lemmas.Option.{none-some, slice_get_within}
use Rattle.wasm_tree.specs.declared.kinds.FuncType.{FuncType}
use Rattle.wasm_tree.specs.declared.instr.Instr.{Instr, out-Instr}
use Rattle.wasm_tree.specs.declared.instr.Instr.TheOpen as layer
use Rattle.wasm_tree.specs.declared.instr.Numeric.{Numeric}
use Rattle.wasm_tree.specs.declared.instr.Numeric.TheVariants as numeric
use Rattle.wasm_tree.specs.declared.instr.Load.{Load}
use Rattle.wasm_tree.specs.declared.module.WModule.{WModule}
use Rattle.wasm_tree.specs.declared.store.Value.{Value}
use Rattle.wasm_tree.specs.declared.store.Value.TheVariants.{I32, I64}
use Rattle.wasm_tree.specs.declared.store.Callee.{Callee}
use Rattle.wasm_tree.specs.declared.store.Callee.TheVariants.{Put, Stop, Own}
use Rattle.wasm_tree.specs.declared.store.Memory.{Memory}
use Rattle.wasm_tree.specs.declared.store.Table.{Table}
use Rattle.wasm_tree.specs.declared.store.Instance.{Instance}
use Rattle.wasm_tree.specs.declared.store.Store.{Store}
use Rattle.wasm_tree.specs.Numbers.{truth, compares, operation_result, extend_number, load_size, load_number, store_bytes}
use Rattle.wasm_tree.specs.Validity.{IsValid}
use Rattle.wasm_tree.specs.Machine.{Label, Activation, Config, Going, Over, Trapped, Progress, trap_now, or_trap, split_last, split_end, topmost, top_i32, top_i64, one_i32, one_i64, two_i32, two_i64, calculation, callee_at, callee_in, function_in_slot, instance_of, is_same_type, global_at, memory_of, own_function, type_at, callee_type, agree, enter_function, stop_with, call_function, call_typed, push_value, return_to, inside, keep_operands, branch_to, branch_by, branched_if, with_local, paste_items, with_memory_bytes, loads, stores, results_of, side, begun_layer, end_block, next, reduce}
use Rattle.wasm_sound.specs.Sound.{IsSound}
use Rattle.wasm_sound.specs.Ready.{IsI32, IsI64, AreI32, AreI64, AreNumbers, AreKept, CanBranch, CanCall, CanCallIndirect, IsReady, IsReadyToEnd}
use Rattle.wasm_sound.specs.Traps.{CallTraps, SlotTraps, NumberTraps, MayTrap}
use Rattle.wasm_sound.proofs.Lists.{split_last-push, same_at, some_at}
use Rattle.wasm_sound.proofs.Calls.{then_some}
use Rattle.wasm_sound.proofs.Operands.{top_i32_at, top_i64_at, topmost_at, two, two_i32_at, two_i64_at}
use Rattle.wasm_sound.proofs.Uses.{many_there}
use Rattle.wasm_sound.proofs.Soundness.{is_ready, is_ready_to_end}

-- it has trapped
abbrev IsTrap : Progress → Type 0
IsTrap p = p.0 ≡ Trapped

-- what is there is gone on with
past : {A : Type 0} (o : Option A) (x : A) (go : A → Progress) → o ≡ Some x → IsTrap (or_trap o go) → IsTrap (go x)
past {A} o x go e t = subst (λ (y : Option A). IsTrap (or_trap y go)) e t

-- it goes on
no_trap : (st : Store) (now : Activation) (callers : List Activation) (bytes : List ℕ)
    → IsTrap (Going st now callers, bytes) → ⊥
no_trap st now callers bytes t = grind arith

holds : (b : Bool) (p q : Progress) → b ≡ true → IsTrap (if b then p else q) → IsTrap p
holds true p q e t = t
holds false p q e t = absurd (grind arith)

-- a test that fails
fails : (b : Bool) (p : Progress) → (IsTrap p → ⊥) → IsTrap (if b then p else trap_now) → b ≡ false
fails true p n t = absurd (n t)
fails false p n t = refl

over_not : (b : Bool) (n : ℕ) → b ≡ true → ◌≡◌ {A = Config} (if b then Over n else Trapped) Trapped → ⊥
over_not true n e t = grind arith
over_not false n e t = grind arith

was_filled : (o : Option (Option ℕ)) (a : ℕ) → function_in_slot o ≡ Some a → o ≡ Some (Some a)
was_filled None a e = absurd (none-some a e)
was_filled (Some o) a e = ap (λ (x : Option ℕ). Some x) e

-- ---- branches and returns

module _ (modules : List WModule) (st : Store) (callers : List Activation) where
  no_return : (vs : List Value) → IsTrap (return_to st callers vs) → ⊥
  no_return vs t = go (split_last callers) t
    where
      go : (o : Option (List Activation × Activation))
          → IsTrap (elim o as (λ _. Progress) [
            | None ↦ (Over 0, [])
            | Some p ↦
                (Going st (record p.1 { stack = p.1.stack ++ vs }) p.0, [])
          ]) → ⊥
      go None t = grind arith
      go (Some p) t = no_trap st (record p.1 { stack = p.1.stack ++ vs }) p.0 [] t

  found_goes : (now : Activation) (m : Option (List Label × Label)) → AreKept now.arity now.stack m
      → IsTrap (branch_to st now callers m) → ⊥
  found_goes now None h t = no_return _ (past (split_end now.arity now.stack) _ (λ p. return_to st callers p.1)
      (many_there now.arity now.stack h) t)
  found_goes now (Some p) h t =
      let all : p.1.arity ≤ length now.stack = omega arith in
      no_trap st _ callers [] (past (split_end p.1.arity now.stack) _
      (λ q. (
        Going st (record now { labels = p.0; rest = p.1.again; stack = keep_operands p.1.height q }) callers,
        [],
      )) (many_there p.1.arity now.stack all) t)

  branch_goes : (now : Activation) (l : ℕ) → CanBranch now.labels now.arity now.stack l
      → IsTrap (branch_by st now callers l) → ⊥
  branch_goes now l h t =
      found_goes now (split_last (take (length now.labels - l) now.labels)) h.1
      (holds (nat_le l (length now.labels)) (branch_to st now callers
      (split_last (take (length now.labels - l) now.labels))) trap_now (le-leb l (length now.labels) h.0) t)

  branch_if_goes : (now : Activation) (l n : ℕ) → CanBranch now.labels now.arity now.stack l
      → IsTrap (branched_if st now callers l n) → ⊥
  branch_if_goes now l n h t = go (n == 0) t
    where
      go : (b : Bool) → IsTrap (if b then (Going st now callers, []) else branch_by st now callers l) → ⊥
      go true t = no_trap st now callers [] t
      go false t = branch_goes now l h t

  -- ---- calls

  stopped_trap : (n : ℕ) → stop_with n ≡ Trapped → (n ≡ 0) ⊎ (255 < n)
  stopped_trap n t = go (cases_lt n 1) (cases_lt 255 n)
    where
      go : (n < 1) ⊎ (1 ≤ n) → (255 < n) ⊎ (n ≤ 255) → (n ≡ 0) ⊎ (255 < n)
      go (inl none) most = inl (omega arith)
      go (inr some) (inl great) = inr great
      go (inr some) (inr small) =
          let both : (nat_le 1 n && nat_le n 255) ≡ true =
          ap₂ (λ (b c : Bool). b && c) (le-leb 1 n some) (le-leb n 255 small) in
          absurd (over_not (nat_le 1 n && nat_le n 255) n both t)

  call_traps : (now : Activation) (c : Callee) → CanCall modules now.stack c
      → IsTrap (call_function modules st now callers c) → CallTraps now.stack c
  call_traps now Put h t = absurd (no_trap st _ callers (h.1 % 256 ∷ [])
      (past (top_i64 now.stack) (h.0, h.1) (λ p. (Going st (record now { stack = p.0 }) callers, p.1 % 256 ∷ []))
      (ap top_i64 h.2 ∙ top_i64_at h.0 h.1) t))
  call_traps now Stop h t = (
    h.0,
    h.1,
    h.2,
    stopped_trap h.1
        (past (top_i64 now.stack) (h.0, h.1) (λ p. (stop_with p.1, [])) (ap top_i64 h.2 ∙ top_i64_at h.0 h.1) t),
  )
  call_traps now (Own m f) h t =
      let inner = past (own_function modules m f) h.0
      (λ u. or_trap (split_end (length u.type.params) now.stack)
      (λ q. (Going st (enter_function m u q.1) (callers ++ record now { stack = q.0 } ∷ []), []))) h.1 t in
      absurd (no_trap st _ _ [] (past (split_end (length h.0.type.params) now.stack) _
      (λ q. (Going st (enter_function m h.0 q.1) (callers ++ record now { stack = q.0 } ∷ []), []))
      (many_there (length h.0.type.params) now.stack h.2) inner))

  -- the function in a slot can be called
  slot_called : (m : ℕ) (stack : List Value) (index slot : ℕ) (c : Callee)
      → CanCallIndirect modules st m stack index slot → callee_in st m slot ≡ Some c
      → agree (type_at modules m index) (callee_type modules c) ≡ true → CanCall modules stack c
  slot_called m stack index slot c h e y =
      let i = then_some (λ (j : Instance). option_and_then
      (λ (t : ℕ). option_and_then (λ (table : Table). option_and_then (λ (b : ℕ). slice_get st.functions b)
      (function_in_slot (slice_get table.slots slot))) (slice_get st.tables t)) (slice_get j.tables 0))
      (instance_of st m) c e in
      let same_instance : i.0 ≡ h.1 = same_at (instance_of st m) i.0 h.1 i.1 h.5 in
      let t = then_some (λ (t : ℕ). option_and_then
      (λ (table : Table). option_and_then (λ (b : ℕ). slice_get st.functions b)
      (function_in_slot (slice_get table.slots slot))) (slice_get st.tables t)) (slice_get i.0.tables 0) c i.2 in
      let same_place : t.0 ≡ h.2 = same_at (slice_get i.0.tables 0) t.0 h.2 t.1
      (ap (λ (j : Instance). slice_get j.tables 0) same_instance ∙ h.6) in
      let table = then_some (λ (table : Table). option_and_then (λ (b : ℕ). slice_get st.functions b)
      (function_in_slot (slice_get table.slots slot))) (slice_get st.tables t.0) c t.2 in
      let same_table : table.0 ≡ h.3 = same_at (slice_get st.tables t.0) table.0 h.3 table.1
      (ap (slice_get st.tables) same_place ∙ h.7) in
      let b = then_some (λ (b : ℕ). slice_get st.functions b) (function_in_slot (slice_get table.0.slots slot)) c
      table.2 in
      let there : slice_get h.3.slots slot ≡ Some (Some b.0) =
      ap (λ (k : Table). slice_get k.slots slot) (sym same_table)
      ∙ was_filled (slice_get table.0.slots slot) b.0 b.1 in
      let can = h.8 b.0 there in
      let same : can.0 ≡ c = same_at (slice_get st.functions b.0) can.0 c can.2 b.2 in
      let agreed : is_same_type h.0 can.1 ≡ true =
      ap (agree (Some h.0)) (sym can.3) ∙ ap (λ (k : Callee). agree (Some h.0) (callee_type modules k)) same
      ∙ ap (λ (o : Option FuncType). agree o (callee_type modules c)) (sym h.4) ∙ y in
      subst (CanCall modules stack) same (can.4 agreed)

  indirect_traps : (now : Activation) (index slot : ℕ) → CanCallIndirect modules st now.instance now.stack index slot
      → IsTrap (or_trap (callee_in st now.instance slot)
      (call_typed modules st now callers (type_at modules now.instance index)))
      → SlotTraps modules st now.instance now.stack index slot (callee_in st now.instance slot)
  indirect_traps now index slot h t = go (callee_in st now.instance slot) refl t
    where
      either : (c : Callee) (b : Bool) → callee_in st now.instance slot ≡ Some c
          → agree (type_at modules now.instance index) (callee_type modules c) ≡ b
          → IsTrap (if b then call_function modules st now callers c else trap_now)
          → (agree (type_at modules now.instance index) (callee_type modules c) ≡ false) ⊎ CallTraps now.stack c
      either c true e y t = inr (call_traps now c (slot_called now.instance now.stack index slot c h e y) t)
      either c false e y t = inl y

      go : (o : Option Callee) → callee_in st now.instance slot ≡ o
          → IsTrap (or_trap o (call_typed modules st now callers (type_at modules now.instance index)))
          → SlotTraps modules st now.instance now.stack index slot o
      go None e t = tt
      go (Some c) e t = either c (agree (type_at modules now.instance index) (callee_type modules c)) e refl t

  -- ---- variables and memory

  set_goes : (now : Activation) (x : ℕ) (old v : Value) → slice_get now.locals x ≡ Some old
      → IsTrap (with_local st now callers x v) → ⊥
  set_goes now x old v e t =
      no_trap st (record now { locals = slice_set now.locals x v }) callers []
      (holds (nat_lt x (length now.locals)) (Going st (record now { locals = slice_set now.locals x v }) callers, [])
      trap_now (lt-ltb x (length now.locals) (slice_get_within now.locals x old e)) t)

  loads_trap : (now : Activation) (kind : Load) (place : ℕ) (m : ℕ × Memory)
      → IsTrap (loads st now callers kind place m) → length m.1.bytes < place + load_size kind
  loads_trap now kind place m t = leb-false (place + load_size kind) (length m.1.bytes)
      (go (nat_le (place + load_size kind) (length m.1.bytes)) t)
    where
      go : (b : Bool) → IsTrap (or_trap (if b then Some (take (load_size kind) (drop place m.1.bytes)) else None)
          (λ bytes. push_value st now callers (I64 (load_number kind bytes)))) → b ≡ false
      go true t = absurd (no_trap st _ callers [] t)
      go false t = refl

  stores_trap : (now : Activation) (place : ℕ) (bytes : List ℕ) (m : ℕ × Memory)
      → IsTrap (stores st now callers place bytes m) → length m.1.bytes < place + length bytes
  stores_trap now place bytes m t =
      leb-false (place + length bytes) (length m.1.bytes)
      (fails (nat_le (place + length bytes) (length m.1.bytes))
      (Going (with_memory_bytes st m.0 m.1 (paste_items m.1.bytes place bytes)) now callers, [])
      (no_trap (with_memory_bytes st m.0 m.1 (paste_items m.1.bytes place bytes)) now callers []) t)

  -- ---- numbers

  abbrev made : Activation → List Value × Value → Progress
  made now p = push_value st (record now { stack = p.0 }) callers p.1

  made_goes : (now : Activation) (p : List Value × Value) → IsTrap (made now p) → ⊥
  made_goes now p t = no_trap st (record now { stack = p.0 ++ p.1 ∷ [] }) callers [] t

  made_at : (now : Activation) (o : Option (List Value × Value)) (p : List Value × Value) → o ≡ Some p
      → IsTrap (or_trap o (made now)) → ⊥
  made_at now o p e t = made_goes now p (past o p (made now) e t)

  one_i32_goes : (now : Activation) (f : ℕ → Value) → IsI32 now.stack
      → IsTrap (or_trap (one_i32 now.stack f) (made now)) → ⊥
  one_i32_goes now f h t = made_at now (one_i32 now.stack f) (h.0, f h.1)
      (ap (λ (o : Option (List Value × ℕ)). option_map (λ (p : List Value × ℕ). (p.0, f p.1)) o)
      (ap top_i32 h.2 ∙ top_i32_at h.0 h.1)) t

  one_i64_goes : (now : Activation) (f : ℕ → Value) → IsI64 now.stack
      → IsTrap (or_trap (one_i64 now.stack f) (made now)) → ⊥
  one_i64_goes now f h t = made_at now (one_i64 now.stack f) (h.0, f h.1)
      (ap (λ (o : Option (List Value × ℕ)). option_map (λ (p : List Value × ℕ). (p.0, f p.1)) o)
      (ap top_i64 h.2 ∙ top_i64_at h.0 h.1)) t

  two_i32_goes : (now : Activation) (f : ℕ → ℕ → Value) → AreI32 now.stack
      → IsTrap (or_trap (two_i32 now.stack f) (made now)) → ⊥
  two_i32_goes now f h t = made_at now (two_i32 now.stack f) (h.0, f h.1 h.2)
      (ap (λ (s : List Value). two_i32 s f) h.3 ∙ two_i32_at h.0 h.1 h.2 f) t

  two_i64_traps : (now : Activation) (f : ℕ → ℕ → Option Value) → (h : AreI64 now.stack)
      → IsTrap (or_trap (two_i64 now.stack f) (made now)) → f h.1 h.2 ≡ None
  two_i64_traps now f h t = go (f h.1 h.2) refl
    where
      is : two_i64 now.stack f ≡ option_map (λ v. (h.0, v)) (f h.1 h.2)
      is = ap (λ (s : List Value). two_i64 s f) h.3 ∙ two_i64_at h.0 h.1 h.2 f

      go : (o : Option Value) → f h.1 h.2 ≡ o → o ≡ None
      go None e = refl
      go (Some v) e = absurd (made_at now (two_i64 now.stack f) (h.0, v)
          (is ∙ ap (λ (o : Option Value). option_map (λ (w : Value). (h.0, w)) o) e) t)

  undefined : (o : Option ℕ) → option_map I64 o ≡ None → o ≡ None
  undefined None e = refl
  undefined (Some n) e = absurd (grind arith)

  number_traps : (now : Activation) (f : Numeric) → AreNumbers f now.stack
      → IsTrap (or_trap (calculation f now.stack) (made now)) → NumberTraps f now.stack
  number_traps now numeric.I32Eqz h t = absurd (one_i32_goes now (λ n. I32 (truth (n == 0))) h t)
  number_traps now (numeric.I32Relation r) h t = absurd (two_i32_goes now (λ n m. I32 (truth (compares w32 r n m))) h t)
  number_traps now numeric.I64Eqz h t = absurd (one_i64_goes now (λ n. I32 (truth (n == 0))) h t)
  number_traps now (numeric.I64Relation r) h t =
      absurd (none-some _ (sym (two_i64_traps now (λ n m. Some (I32 (truth (compares w64 r n m)))) h t)))
  number_traps now numeric.I32Add h t = absurd (two_i32_goes now (λ n m. I32 ((n + m) % 2 ^ 32)) h t)
  number_traps now (numeric.I64Operation o) h t = (
    h.0,
    h.1,
    h.2,
    h.3,
    undefined (operation_result o h.1 h.2)
        (two_i64_traps now (λ n m. option_map I64 (operation_result o n m)) h t),
  )
  number_traps now numeric.I32WrapI64 h t = absurd (one_i64_goes now (λ n. I32 (n % 2 ^ 32)) h t)
  number_traps now numeric.I64ExtendI32S h t = absurd (one_i32_goes now (λ n. I64 (extend_number n)) h t)
  number_traps now numeric.I64ExtendI32U h t = absurd (one_i32_goes now (λ n. I64 n) h t)

  -- ---- all instructions

  pub ready_traps : (now : Activation) (i : Instr) (l : layer.Instr-F Instr) → IsReady modules st now l
      → IsTrap (begun_layer modules st now callers i l) → MayTrap modules st now l
  ready_traps now i layer.Unreachable h t = tt
  ready_traps now i (layer.Block k body) h t = no_trap st _ callers [] t
  ready_traps now i (layer.Loop k body) h t = no_trap st _ callers [] t
  ready_traps now i (layer.If k body otherwise) h t =
      no_trap st _ callers [] (past (top_i32 now.stack) (h.0, h.1)
      (λ p. inside st (record now { stack = p.0 }) callers (results_of k) now.rest (side p.1 body otherwise))
      (ap top_i32 h.2 ∙ top_i32_at h.0 h.1) t)
  ready_traps now i (layer.Br x) h t = branch_goes now x h t
  ready_traps now i (layer.BrIf x) h t =
      branch_if_goes (record now { stack = h.0 }) x h.1 h.3
      (past (top_i32 now.stack) (h.0, h.1) (λ p. branched_if st (record now { stack = p.0 }) callers x p.1)
      (ap top_i32 h.2 ∙ top_i32_at h.0 h.1) t)
  ready_traps now i (layer.BrTable xs x) h t =
      branch_goes (record now { stack = h.0 }) (slice_index_or xs h.1 x) h.3
      (past (top_i32 now.stack) (h.0, h.1)
      (λ p. branch_by st (record now { stack = p.0 }) callers (slice_index_or xs p.1 x))
      (ap top_i32 h.2 ∙ top_i32_at h.0 h.1) t)
  ready_traps now i layer.Return h t = found_goes now None h t
  ready_traps now i (layer.Call f) h t = (
    h.0,
    h.1,
    call_traps now h.0 h.2
        (past (callee_at st now.instance f) h.0 (call_function modules st now callers) h.1 t),
  )
  ready_traps now i (layer.CallIndirect x) h t = (
    h.0,
    h.1,
    h.2,
    indirect_traps (record now { stack = h.0 }) x h.1 h.3
        (past (top_i32 now.stack) (h.0, h.1)
        (λ p. or_trap (callee_in st now.instance p.1)
        (call_typed modules st (record now { stack = p.0 }) callers (type_at modules now.instance x)))
        (ap top_i32 h.2 ∙ top_i32_at h.0 h.1) t),
  )
  ready_traps now i layer.Drop h t = no_trap st _ callers []
      (past (split_last now.stack) (h.0, h.1) (λ p. (Going st (record now { stack = p.0 }) callers, []))
      (ap split_last h.2 ∙ split_last-push h.0 h.1) t)
  ready_traps now i (layer.LocalGet x) h t = let v = some_at now.locals x h in
      no_trap st _ callers [] (past (slice_get now.locals x) v.0 (push_value st now callers) v.1 t)
  ready_traps now i (layer.LocalSet x) h t =
      set_goes (record now { stack = h.0 }) x h.2 h.1 h.4
      (past (split_last now.stack) (h.0, h.1) (λ p. with_local st (record now { stack = p.0 }) callers x p.1)
      (ap split_last h.3 ∙ split_last-push h.0 h.1) t)
  ready_traps now i (layer.LocalTee x) h t =
      set_goes now x h.2 h.1 h.4 (past (topmost now.stack) h.1 (with_local st now callers x)
      (ap topmost h.3 ∙ topmost_at h.0 h.1) t)
  ready_traps now i (layer.GlobalGet g) h t =
      no_trap st _ callers [] (past (global_at st now.instance g) h.0 (push_value st now callers) h.1 t)
  ready_traps now i (layer.Load kind) h t =
      let first = past (top_i32 now.stack) (h.0.0, h.0.1)
      (λ p. or_trap (memory_of st now.instance) (loads st (record now { stack = p.0 }) callers kind p.1))
      (ap top_i32 h.0.2 ∙ top_i32_at h.0.0 h.0.1) t in (
        h.0.0,
        h.0.1,
        h.1.0,
        h.0.2,
        h.1.1,
        loads_trap (record now { stack = h.0.0 }) kind h.0.1 h.1.0
            (past (memory_of st now.instance) h.1.0 (loads st (record now { stack = h.0.0 }) callers kind h.0.1) h.1.1
            first),
      )
  ready_traps now i (layer.Store width) h t =
      let m = h.4 in
      let above = h.0 ++ I32 h.1 ∷ [] in
      let first = past (top_i64 now.stack) (above, h.2)
      (λ v. or_trap (top_i32 v.0) (λ p. or_trap (memory_of st now.instance)
      (stores st (record now { stack = p.0 }) callers p.1 (store_bytes width v.1))))
      (ap top_i64 (h.3 ∙ two h.0 (I32 h.1) (I64 h.2)) ∙ top_i64_at above h.2) t in
      let second = past (top_i32 above) (h.0, h.1)
      (λ p. or_trap (memory_of st now.instance)
      (stores st (record now { stack = p.0 }) callers p.1 (store_bytes width h.2))) (top_i32_at h.0 h.1) first in (
        h.0,
        h.1,
        h.2,
        m.0,
        h.3,
        m.1,
        stores_trap (record now { stack = h.0 }) h.1 (store_bytes width h.2) m.0
            (past (memory_of st now.instance) m.0
            (stores st (record now { stack = h.0 }) callers h.1 (store_bytes width h.2)) m.1 second),
      )
  ready_traps now i (layer.I32Const n) h t = no_trap st _ callers [] t
  ready_traps now i (layer.I64Const n) h t = no_trap st _ callers [] t
  ready_traps now i (layer.Numeric f) h t = number_traps now f h t

  pub end_goes : (now : Activation) (m : Option (List Label × Label)) → IsReadyToEnd now m
      → IsTrap (end_block st now callers m) → ⊥
  end_goes now None h t = found_goes now None (omega (arith, h)) t
  end_goes now (Some p) h t = no_trap st (record now { labels = p.0; rest = p.1.rest }) callers [] t

-- the code behind an instruction is nothing that it needs, and no reason for a trap
ready_behind : (modules : List WModule) (st : Store) (now : Activation) (rest : List Instr) (l : layer.Instr-F Instr)
    → IsReady modules st now l → IsReady modules st (record now { rest = rest }) l
ready_behind modules st now rest layer.Unreachable r = r
ready_behind modules st now rest l r = r

trap_before : (modules : List WModule) (st : Store) (now : Activation) (rest : List Instr) (l : layer.Instr-F Instr)
    → MayTrap modules st (record now { rest = rest }) l → MayTrap modules st now l
trap_before modules st now rest layer.Unreachable r = r
trap_before modules st now rest l r = r

-- a configuration that is well typed traps only as the standard says
pub traps_by_rule : (modules : List WModule) (st : Store) (now : Activation) (callers : List Activation) (i : Instr)
    (rest : List Instr) → All IsValid modules → IsSound modules (Going st now callers) → now.rest ≡ i ∷ rest
    → (reduce modules (Going st now callers)).0 ≡ Trapped → MayTrap modules st now (out-Instr i)
unfolding reduce
traps_by_rule modules st now callers i rest valid h e t =
    let ready = ready_behind modules st now rest (out-Instr i) (is_ready modules valid st now callers h i rest e) in
    trap_before modules st now rest (out-Instr i)
    (ready_traps modules st callers (record now { rest = rest }) i (out-Instr i) ready
    (subst (λ (code : List Instr). (next modules st now callers code).0 ≡ Trapped) e t))

pub no_trap_at_end : (modules : List WModule) (st : Store) (now : Activation) (callers : List Activation)
    → All IsValid modules → IsSound modules (Going st now callers) → now.rest ≡ []
    → (reduce modules (Going st now callers)).0 ≡ Trapped → ⊥
unfolding reduce
no_trap_at_end modules st now callers valid h e t =
    end_goes modules st callers now (split_last now.labels) (is_ready_to_end modules valid st now callers h e)
    (subst (λ (code : List Instr). (next modules st now callers code).0 ≡ Trapped) e t)
