-- What the helpers' code does.
use Rattle.std.proofs.Common.{◌≡◌, Option, ℕ, zero, suc, ◌+◌, ◌%◌, ◌^◌, ◌==◌, ◌<◌, ◌≤◌, ◌&&◌, List, [], ◌∷◌, ◌++◌, length, take, drop, Bool, true, false, nat_eq, nat_le, Some, None, if◌then◌else◌, refl, ap, ◌∙◌, arith}
use Rattle.std.specs.Prelude.{slice_get, slice_set}
use Rattle.std.specs.Int.{w64}
use Rattle.std.proofs.lemmas.Bool.{le-leb, ne_eqb}
use Rattle.std.proofs.lemmas.List.{append-nil}
use Rattle.wasm_tree.specs.declared.instr.Instr.{Instr}
use Rattle.wasm_tree.specs.declared.instr.Instr.TheVariants as instr
use Rattle.wasm_tree.specs.declared.instr.Numeric.TheVariants as numeric
use Rattle.wasm_tree.specs.declared.instr.Relation.{Relation}
use Rattle.wasm_tree.specs.declared.instr.Relation.TheVariants.{LtS, GtS}
use Rattle.wasm_tree.specs.declared.instr.Load.TheVariants as load
use Rattle.wasm_tree.specs.declared.instr.StoreWidth.TheVariants as width
use Rattle.std.specs.Option.{option_and_then}
use Rattle.wasm_tree.specs.declared.kinds.FuncType.{FuncType}
use Rattle.wasm_tree.specs.declared.kinds.ValueType.{ValueType}
use Rattle.wasm_tree.specs.declared.kinds.ValueType.TheVariants as types
use Rattle.wasm_tree.specs.declared.module.WModule.{WModule}
use Rattle.wasm_tree.specs.declared.store.Value.{Value}
use Rattle.wasm_tree.specs.declared.store.Value.TheVariants.{I32, I64}
use Rattle.wasm_tree.specs.declared.store.Callee.TheVariants.{Stop, Own}
use Rattle.wasm_tree.specs.Numbers.{truth, is_less, compares, load_size, load_number, store_bytes}
use Rattle.wasm_tree.specs.Machine.{Typed, type_at, agree, paste_items, bytes_at, callee_at, own_function}
use Rattle.law_effect.specs.Effect.{Fixed, State, store_of, Effect, FellThrough, Branched, Ended, Traps, Does, Calling, then_run, out_of, turn, turns, back, effect, calling}
use Rattle.def_scheme.specs.Helpers.{raise, copy_raises, copy_turn, copy_code, fill_raises, fill_turn, fill_code, check_tests, check_code, helper}
use Rattle.law_memory.specs.Called.{HasMemory, stopped_by, CopyRuns, FillRuns, CopyCalled, FillCalled, CheckCalled, TableCalled}
use Rattle.law_effect.specs.Bytes.{byte, copied_bytes, cleared_bytes}
use Rattle.law_effect.proofs.Bytes.{length-pasted, small_pasted, same_byte, one_byte}
use Rattle.law_effect.proofs.Steps.{◌▹◌, one_32, two_32, two_64, split_end_at, runs, block_runs, loop_runs, br_runs, br_if_runs, get_runs, set_runs, i32_runs, i64_runs, number_runs, load_runs, store_runs, own_runs, stop_runs, global_runs, indirect_runs, own_does}

is_not_zero : (k : ℕ) → nat_eq (suc k) 0 ≡ false
is_not_zero k = let ne : suc k ≡ 0 → ⊥ = omega arith in ne_eqb (suc k) 0 ne

module _ (modules : List WModule) (fx : Fixed) (n : ℕ) (calls : Calling) (m : ℕ) where
  abbrev go : List Instr → Does
  go = runs modules fx n calls m

  raise_runs : (rest : List Instr) (st : State) (x by k : ℕ) (s : List Value) → slice_get st.locals x ≡ Some (I32 k)
      → x < length st.locals
      → go (raise x by rest) st s ≡ go rest (record st { locals = slice_set st.locals x (I32 ((k + by) % 2 ^ 32)) }) s
  raise_runs rest st x by k s e h =
      get_runs modules fx n calls m (instr.I32Const by ∷ instr.Numeric numeric.I32Add ∷ instr.LocalSet x ∷ rest) st x
      (I32 k) s e
      ∙ i32_runs modules fx n calls m (instr.Numeric numeric.I32Add ∷ instr.LocalSet x ∷ rest) st by (s ▹ I32 k)
      ∙ number_runs modules fx n calls m (instr.LocalSet x ∷ rest) st numeric.I32Add (s ▹ I32 k ▹ I32 by) s
      (I32 ((k + by) % 2 ^ 32)) (two_32 s k by (λ i j. I32 ((i + j) % 2 ^ 32)))
      ∙ set_runs modules fx n calls m rest st x (I32 ((k + by) % 2 ^ 32)) s h

  module _ (has : HasMemory fx m) (out : List ℕ) where
    abbrev three : (to from k : ℕ) → List ℕ → State
    three to from k bytes = record { locals = I32 to ∷ I32 from ∷ I32 k ∷ []; bytes = bytes; out = out }

    -- whether the turn is the last one
    abbrev test : State → List Instr → ℕ → Effect
    test st rest b = then_run (if b == 0 then FellThrough st [] else Branched 1 st []) (go rest)

    -- a turn that copies a byte
    copies : (to from k : ℕ) (b : List ℕ) → to < length b → from < length b → byte from b < 256 → length b < 2 ^ 32
        → suc k < 2 ^ 32
        → go copy_turn (three to from (suc k) b) []
        ≡ Branched 0 (three (to + 1) (from + 1) k (paste_items b to (byte from b ∷ []))) []
    copies to from k b h1 h2 small long few =
        let st = three to from (suc k) b in
        let v = load_number load.I64From8U (take 1 (drop from b)) in
        let wrote : State = record st { bytes = paste_items b to (store_bytes width.One v) } in
        let r3 : List Instr = instr.LocalGet 0 ∷ instr.LocalGet 1 ∷ instr.Load load.I64From8U ∷ instr.Store width.One
        ∷ copy_raises in
        let there : bytes_at (load_size load.I64From8U) from b ≡ Some (take 1 (drop from b)) =
        ap (λ x. if x then Some (take 1 (drop from b)) else None) (le-leb (from + 1) (length b) (omega arith)) in
        let t : (to + 1) % 2 ^ 32 ≡ to + 1 = omega arith in
        let f : (from + 1) % 2 ^ 32 ≡ from + 1 = omega arith in
        let c : (suc k + 4294967295) % 2 ^ 32 ≡ k = omega arith in
        get_runs modules fx n calls m (instr.Numeric numeric.I32Eqz ∷ instr.BrIf 1 ∷ r3) st 2 (I32 (suc k)) [] refl
        ∙ number_runs modules fx n calls m (instr.BrIf 1 ∷ r3) st numeric.I32Eqz ([] ▹ I32 (suc k)) []
        (I32 (truth (suc k == 0))) (one_32 [] (suc k) (λ i. I32 (truth (i == 0))))
        ∙ br_if_runs modules fx n calls m r3 st 1 (truth (suc k == 0)) []
        ∙ ap (λ x. test st r3 (truth x)) (is_not_zero k)
        ∙ get_runs modules fx n calls m (instr.LocalGet 1 ∷ instr.Load load.I64From8U ∷ instr.Store width.One
        ∷ copy_raises) st 0 (I32 to) [] refl
        ∙ get_runs modules fx n calls m (instr.Load load.I64From8U ∷ instr.Store width.One ∷ copy_raises) st 1
        (I32 from) ([] ▹ I32 to) refl
        ∙ load_runs modules fx n calls m (instr.Store width.One ∷ copy_raises) st load.I64From8U from
        (take 1 (drop from b)) ([] ▹ I32 to) (has b) there
        ∙ store_runs modules fx n calls m copy_raises st width.One to v [] (has b) (omega (arith, h1))
        ∙ raise_runs (raise 1 1 (raise 2 4294967295 (instr.Br 0 ∷ []))) wrote 0 1 to [] refl (omega arith)
        ∙ raise_runs (raise 2 4294967295 (instr.Br 0 ∷ []))
        (record wrote { locals = I32 ((to + 1) % 2 ^ 32) ∷ I32 from ∷ I32 (suc k) ∷ [] }) 1 1 from [] refl
        (omega arith)
        ∙ raise_runs (instr.Br 0 ∷ []) (record wrote
        { locals = I32 ((to + 1) % 2 ^ 32) ∷ I32 ((from + 1) % 2 ^ 32) ∷ I32 (suc k) ∷ [] }) 2 4294967295 (suc k) []
        refl (omega arith)
        ∙ br_runs modules fx n calls m [] (three ((to + 1) % 2 ^ 32) ((from + 1) % 2 ^ 32)
        ((suc k + 4294967295) % 2 ^ 32) (paste_items b to (store_bytes width.One v))) 0 []
        ∙ ap (λ x. Branched 0 (three x ((from + 1) % 2 ^ 32) ((suc k + 4294967295) % 2 ^ 32)
        (paste_items b to (store_bytes width.One v))) []) t
        ∙ ap (λ x. Branched 0 (three (to + 1) x ((suc k + 4294967295) % 2 ^ 32)
        (paste_items b to (store_bytes width.One v))) []) f
        ∙ ap (λ x. Branched 0 (three (to + 1) (from + 1) x (paste_items b to (store_bytes width.One v))) []) c
        ∙ ap (λ ys. Branched 0 (three (to + 1) (from + 1) k (paste_items b to ys)) []) (same_byte from b small)

    -- the last turn
    copied : (to from : ℕ) (b : List ℕ) → go copy_turn (three to from 0 b) [] ≡ Branched 1 (three to from 0 b) []
    copied to from b =
        let st = three to from 0 b in
        let r3 : List Instr = instr.LocalGet 0 ∷ instr.LocalGet 1 ∷ instr.Load load.I64From8U ∷ instr.Store width.One
        ∷ copy_raises in
        get_runs modules fx n calls m (instr.Numeric numeric.I32Eqz ∷ instr.BrIf 1 ∷ r3) st 2 (I32 0) [] refl
        ∙ number_runs modules fx n calls m (instr.BrIf 1 ∷ r3) st numeric.I32Eqz ([] ▹ I32 0) [] (I32 1)
        (one_32 [] 0 (λ i. I32 (truth (i == 0))))
        ∙ br_if_runs modules fx n calls m r3 st 1 1 []

    -- all turns
    copy_turns : (k j to from : ℕ) (b : List ℕ) → k < j → to + k ≤ length b → from + k ≤ length b
        → ((a : ℕ) → byte a b < 256) → length b < 2 ^ 32
        → turns j (go copy_turn) (three to from k b) []
        ≡ Branched 0 (three (to + k) (from + k) 0 (copied_bytes k to from b)) []
    unfolding copied_bytes
    copy_turns zero zero to from b h a e small long = absurd (omega arith)
    copy_turns (suc k) zero to from b h a e small long = absurd (omega arith)
    copy_turns zero (suc j) to from b h a e small long =
        ap (λ x. turn 0 x (turns j (go copy_turn))) (copied to from b)
        ∙ ap (λ x. Branched 0 (three x from 0 b) []) (omega arith)
        ∙ ap (λ x. Branched 0 (three (to + 0) x 0 b) []) (omega arith)
    copy_turns (suc k) (suc j) to from b h a e small long =
        let b' = paste_items b to (byte from b ∷ []) in
        let l : length b' ≡ length b = length-pasted b to (byte from b ∷ []) (omega arith) in
        let small' = small_pasted b to (byte from b ∷ []) (omega arith) small (one_byte (byte from b) (small from)) in
        ap (λ x. turn 0 x (turns j (go copy_turn)))
        (copies to from k b (omega arith) (omega arith) (small from) long (omega arith))
        ∙ copy_turns k j (to + 1) (from + 1) b' (omega arith) (omega arith) (omega arith) small' (omega arith)
        ∙ ap (λ x. Branched 0 (three x (from + 1 + k) 0 (copied_bytes k (to + 1) (from + 1) b')) []) (omega arith)
        ∙ ap (λ x. Branched 0 (three (to + suc k) x 0 (copied_bytes k (to + 1) (from + 1) b')) []) (omega arith)

    -- ---- fill
    abbrev two : (to k : ℕ) → List ℕ → State
    two to k bytes = record { locals = I32 to ∷ I32 k ∷ []; bytes = bytes; out = out }

    clears : (to k : ℕ) (b : List ℕ) → to < length b → length b < 2 ^ 32 → suc k < 2 ^ 32
        → go fill_turn (two to (suc k) b) [] ≡ Branched 0 (two (to + 1) k (paste_items b to (0 ∷ []))) []
    clears to k b h long few =
        let st = two to (suc k) b in
        let wrote : State = record st { bytes = paste_items b to (0 ∷ []) } in
        let r3 : List Instr = instr.LocalGet 0 ∷ instr.I64Const 0 ∷ instr.Store width.One ∷ fill_raises in
        let t : (to + 1) % 2 ^ 32 ≡ to + 1 = omega arith in
        let c : (suc k + 4294967295) % 2 ^ 32 ≡ k = omega arith in
        get_runs modules fx n calls m (instr.Numeric numeric.I32Eqz ∷ instr.BrIf 1 ∷ r3) st 1 (I32 (suc k)) [] refl
        ∙ number_runs modules fx n calls m (instr.BrIf 1 ∷ r3) st numeric.I32Eqz ([] ▹ I32 (suc k)) []
        (I32 (truth (suc k == 0))) (one_32 [] (suc k) (λ i. I32 (truth (i == 0))))
        ∙ br_if_runs modules fx n calls m r3 st 1 (truth (suc k == 0)) []
        ∙ ap (λ x. test st r3 (truth x)) (is_not_zero k)
        ∙ get_runs modules fx n calls m (instr.I64Const 0 ∷ instr.Store width.One ∷ fill_raises) st 0 (I32 to) [] refl
        ∙ i64_runs modules fx n calls m (instr.Store width.One ∷ fill_raises) st 0 ([] ▹ I32 to)
        ∙ store_runs modules fx n calls m fill_raises st width.One to 0 [] (has b) (omega (arith, h))
        ∙ raise_runs (raise 1 4294967295 (instr.Br 0 ∷ [])) wrote 0 1 to [] refl (omega arith)
        ∙ raise_runs (instr.Br 0 ∷ []) (record wrote { locals = I32 ((to + 1) % 2 ^ 32) ∷ I32 (suc k) ∷ [] }) 1
        4294967295 (suc k) [] refl (omega arith)
        ∙ br_runs modules fx n calls m [] (two ((to + 1) % 2 ^ 32) ((suc k + 4294967295) % 2 ^ 32)
        (paste_items b to (0 ∷ []))) 0 []
        ∙ ap (λ x. Branched 0 (two x ((suc k + 4294967295) % 2 ^ 32) (paste_items b to (0 ∷ []))) []) t
        ∙ ap (λ x. Branched 0 (two (to + 1) x (paste_items b to (0 ∷ []))) []) c

    cleared : (to : ℕ) (b : List ℕ) → go fill_turn (two to 0 b) [] ≡ Branched 1 (two to 0 b) []
    cleared to b =
        let st = two to 0 b in
        let r3 : List Instr = instr.LocalGet 0 ∷ instr.I64Const 0 ∷ instr.Store width.One ∷ fill_raises in
        get_runs modules fx n calls m (instr.Numeric numeric.I32Eqz ∷ instr.BrIf 1 ∷ r3) st 1 (I32 0) [] refl
        ∙ number_runs modules fx n calls m (instr.BrIf 1 ∷ r3) st numeric.I32Eqz ([] ▹ I32 0) [] (I32 1)
        (one_32 [] 0 (λ i. I32 (truth (i == 0))))
        ∙ br_if_runs modules fx n calls m r3 st 1 1 []

    clear_turns : (k j to : ℕ) (b : List ℕ) → k < j → to + k ≤ length b → length b < 2 ^ 32
        → turns j (go fill_turn) (two to k b) [] ≡ Branched 0 (two (to + k) 0 (cleared_bytes k to b)) []
    unfolding cleared_bytes
    clear_turns zero zero to b h a long = absurd (omega arith)
    clear_turns (suc k) zero to b h a long = absurd (omega arith)
    clear_turns zero (suc j) to b h a long = ap (λ x. turn 0 x (turns j (go fill_turn))) (cleared to b)
        ∙ ap (λ x. Branched 0 (two x 0 b) []) (omega arith)
    clear_turns (suc k) (suc j) to b h a long =
        let b' = paste_items b to (0 ∷ []) in
        let l : length b' ≡ length b = length-pasted b to (0 ∷ []) (omega arith) in
        ap (λ x. turn 0 x (turns j (go fill_turn))) (clears to k b (omega arith) long (omega arith))
        ∙ clear_turns k j (to + 1) b' (omega arith) (omega arith) (omega arith)
        ∙ ap (λ x. Branched 0 (two x 0 (cleared_bytes k (to + 1) b')) []) (omega arith)

    -- a block around a loop that is left
    loop_in_block : (code : List Instr) (st to : State) → turns n (go code) st [] ≡ Branched 0 to []
        → go (instr.Block None (instr.Loop None code ∷ []) ∷ []) st [] ≡ FellThrough to []
    loop_in_block code st to e =
        block_runs modules fx n calls m [] st None (instr.Loop None code ∷ []) []
        ∙ ap (λ x. then_run (out_of 0 0 x) (go []))
        (loop_runs modules fx n calls m [] st None code [] ∙ ap (λ x. then_run x (go [])) e)

pub copy_runs : CopyRuns
copy_runs modules fx n calls m has k to from bytes out h a e small long =
    loop_in_block modules fx n calls m has out copy_turn
    (record { locals = I32 to ∷ I32 from ∷ I32 k ∷ []; bytes = bytes; out = out }) _
    (copy_turns modules fx n calls m has out k n to from bytes h a e small long)

pub fill_runs : FillRuns
fill_runs modules fx n calls m has k to bytes out h a long =
    loop_in_block modules fx n calls m has out fill_turn
    (record { locals = I32 to ∷ I32 k ∷ []; bytes = bytes; out = out }) _
    (clear_turns modules fx n calls m has out k n to bytes h a long)

-- ---- check

-- what is shown of a test that was pushed
module _ (modules : List WModule) (fx : Fixed) (n : ℕ) (calls : Calling) (m : ℕ) where
  abbrev on_stop : (k : ℕ) → (out : List ℕ) → Bool → Effect
  on_stop k out b = if b then Ended k out else Traps out

  abbrev faults : List Instr
  faults = instr.LocalGet 3 ∷ instr.Call 1 ∷ instr.Unreachable ∷ []

  module _ (st : State) (v lo hi k : ℕ) (is : st.locals ≡ I64 v ∷ I64 lo ∷ I64 hi ∷ I64 k ∷ [])
      (stops : callee_at (store_of fx st.bytes) m 1 ≡ Some Stop) where
    abbrev does : List Instr → Does
    does = runs modules fx n calls m

    local : (x : ℕ) (w : Value) → slice_get (I64 v ∷ I64 lo ∷ I64 hi ∷ I64 k ∷ []) x ≡ Some w
        → slice_get st.locals x ≡ Some w
    local x w e = ap (λ ls. slice_get ls x) is ∙ e

    -- a test of two locals, and a branch
    tests : (r : Relation) (x y i j : ℕ) (rest : List Instr) → slice_get st.locals x ≡ Some (I64 i)
        → slice_get st.locals y ≡ Some (I64 j)
        → does (instr.LocalGet x ∷ instr.LocalGet y ∷ instr.Numeric (numeric.I64Relation r) ∷ instr.BrIf 0 ∷ rest) st []
        ≡ (if compares w64 r i j then Branched 0 st [] else does rest st [])
    tests r x y i j rest e f =
        get_runs modules fx n calls m (instr.LocalGet y ∷ instr.Numeric (numeric.I64Relation r) ∷ instr.BrIf 0 ∷ rest)
        st x (I64 i) [] e
        ∙ get_runs modules fx n calls m (instr.Numeric (numeric.I64Relation r) ∷ instr.BrIf 0 ∷ rest) st y (I64 j)
        ([] ▹ I64 i) f
        ∙ number_runs modules fx n calls m (instr.BrIf 0 ∷ rest) st (numeric.I64Relation r) ([] ▹ I64 i ▹ I64 j) []
        (I32 (truth (compares w64 r i j))) (two_64 [] i j (λ a b. Some (I32 (truth (compares w64 r a b)))))
        ∙ br_if_runs modules fx n calls m rest st 0 (truth (compares w64 r i j)) []
        ∙ decided (compares w64 r i j)
      where
        decided : (b : Bool) → then_run (if truth b == 0 then FellThrough st [] else Branched 0 st []) (does rest)
            ≡ (if b then Branched 0 st [] else does rest st [])
        decided true = refl
        decided false = refl

    abbrev chosen : (b c : Bool) → Effect → Effect → Effect
    chosen b c stop go = if b then stop else (if c then stop else go)

    all_tests : does check_tests st [] ≡ chosen (is_less w64 v lo) (is_less w64 hi v) (Branched 0 st [])
        (Branched 1 st [])
    all_tests =
        let second : List Instr = instr.LocalGet 0 ∷ instr.LocalGet 2 ∷ instr.Numeric (numeric.I64Relation GtS)
        ∷ instr.BrIf 0 ∷ instr.Br 1 ∷ [] in
        tests LtS 0 1 v lo second (local 0 (I64 v) refl) (local 1 (I64 lo) refl)
        ∙ ap (λ x. if is_less w64 v lo then Branched 0 st [] else x)
        (tests GtS 0 2 v hi (instr.Br 1 ∷ []) (local 0 (I64 v) refl) (local 2 (I64 hi) refl))
        ∙ ap (λ x. chosen (is_less w64 v lo) (is_less w64 hi v) (Branched 0 st []) x)
        (br_runs modules fx n calls m [] st 1 [])

    faults_stop : does faults st [] ≡ stopped_by k st.out
    faults_stop =
        get_runs modules fx n calls m (instr.Call 1 ∷ instr.Unreachable ∷ []) st 3 (I64 k) [] (local 3 (I64 k) refl)
        ∙ stop_runs modules fx n calls m (instr.Unreachable ∷ []) st 1 k [] stops

    abbrev around : Effect → Effect
    around x = then_run (out_of 0 0 (then_run (out_of 0 0 x) (does faults))) (does (instr.LocalGet 0 ∷ []))

    check_runs : does check_code st [] ≡ chosen (is_less w64 v lo) (is_less w64 hi v) (stopped_by k st.out)
        (FellThrough st ([] ▹ I64 v))
    check_runs =
        block_runs modules fx n calls m (instr.LocalGet 0 ∷ []) st None (instr.Block None check_tests ∷ faults) []
        ∙ ap (λ x. then_run (out_of 0 0 x) (does (instr.LocalGet 0 ∷ [])))
        (block_runs modules fx n calls m faults st None check_tests [])
        ∙ ap around all_tests
        ∙ decided (is_less w64 v lo) (is_less w64 hi v)
      where
        stop_through : (b : Bool) → then_run (out_of 0 0 (on_stop k st.out b)) (does (instr.LocalGet 0 ∷ []))
            ≡ on_stop k st.out b
        stop_through true = refl
        stop_through false = refl

        stopping : around (Branched 0 st []) ≡ stopped_by k st.out
        stopping = ap (λ x. then_run (out_of 0 0 x) (does (instr.LocalGet 0 ∷ []))) faults_stop
            ∙ stop_through (nat_le 1 k && nat_le k 255)

        decided : (b c : Bool) → around (chosen b c (Branched 0 st []) (Branched 1 st []))
            ≡ chosen b c (stopped_by k st.out) (FellThrough st ([] ▹ I64 v))
        decided true c = stopping
        decided false true = stopping
        decided false false = get_runs modules fx n calls m [] st 0 (I64 v) [] (local 0 (I64 v) refl)

-- ---- calls of helpers

module _ (modules : List WModule) (fx : Fixed) (extra : (k f : ℕ) → ℕ) (n d loops m g own f index : ℕ) (st : State)
    (at_g : callee_at (store_of fx st.bytes) m g ≡ Some (Own own f)) where
  abbrev pub calls : Calling
  calls = calling modules fx extra n (suc d)

  abbrev pub behind : List Instr → Does
  behind = effect modules fx loops calls m

  -- the frame of the helper
  abbrev pub given : List Value → State
  given args = record { locals = args; bytes = st.bytes; out = st.out }

  pub helper_called : (params results : List ValueType) (code : List Instr) (s args : List Value) (rest : List Instr)
      → own_function modules own f ≡ Some (helper params results index code) → length params ≡ length args
      → behind (instr.Call g ∷ rest) st (s ++ args)
      ≡ then_run (back (length results) st.locals s
      (effect modules fx (n + extra own f) (calling modules fx extra n d) own code (given args) [])) (behind rest)
  unfolding calling
  helper_called params results code s args rest e l =
      own_runs modules fx loops calls m rest st g own f (helper params results index code) (s ++ args) s args at_g e
      (split_end_at s args (length params) l)
      ∙ ap (λ ls. then_run (back (length results) st.locals s
      (effect modules fx (n + extra own f) (calling modules fx extra n d) own code (given ls) [])) (behind rest))
      (append-nil args)

pub copy_called : CopyCalled
copy_called modules fx extra n d loops m g own f index has st at_g e k to from s rest h a b small long =
    let calls = calling modules fx extra n (suc d) in
    let did = copy_runs modules fx (n + extra own f) (calling modules fx extra n d) own has k to from st.bytes st.out h
    a b small long in
    helper_called modules fx extra n d loops m g own f index st at_g (types.I32 ∷ types.I32 ∷ types.I32 ∷ []) []
    copy_code s (I32 to ∷ I32 from ∷ I32 k ∷ []) rest e refl
    ∙ ap (λ x. then_run (back 0 st.locals s x) (effect modules fx loops calls m rest)) did
    ∙ ap (effect modules fx loops calls m rest (record st { bytes = copied_bytes k to from st.bytes })) (append-nil s)

pub fill_called : FillCalled
fill_called modules fx extra n d loops m g own f index has st at_g e k to s rest h a long =
    let calls = calling modules fx extra n (suc d) in
    let did = fill_runs modules fx (n + extra own f) (calling modules fx extra n d) own has k to st.bytes st.out h a
    long in
    helper_called modules fx extra n d loops m g own f index st at_g (types.I32 ∷ types.I32 ∷ []) [] fill_code s
    (I32 to ∷ I32 k ∷ []) rest e refl
    ∙ ap (λ x. then_run (back 0 st.locals s x) (effect modules fx loops calls m rest)) did
    ∙ ap (effect modules fx loops calls m rest (record st { bytes = cleared_bytes k to st.bytes })) (append-nil s)

stop_back : (k : ℕ) (b : Bool) (st : State) (s : List Value) (next : Does)
    → then_run (back 1 st.locals s (if b then Ended k st.out else Traps st.out)) next
    ≡ (if b then Ended k st.out else Traps st.out)
stop_back k true st s next = refl
stop_back k false st s next = refl

-- the answer of check in its caller
pub check_back : (b c : Bool) (k : ℕ) (st : State) (args s : List Value) (v : Value) (next : Does)
    → then_run (back 1 st.locals s (if b then stopped_by k st.out else
    (if c then stopped_by k st.out else FellThrough (record st { locals = args }) (v ∷ [])))) next
    ≡ (if b then stopped_by k st.out else (if c then stopped_by k st.out else next st (s ++ v ∷ [])))
check_back true c k st args s v next = stop_back k (nat_le 1 k && nat_le k 255) st s next
check_back false true k st args s v next = stop_back k (nat_le 1 k && nat_le k 255) st s next
check_back false false k st args s v next = refl

pub check_called : CheckCalled
check_called modules fx extra n d loops m g own f index st at_g e stops v lo hi k s rest =
    let calls = calling modules fx extra n (suc d) in
    let args : List Value = I64 v ∷ I64 lo ∷ I64 hi ∷ I64 k ∷ [] in
    let did = check_runs modules fx (n + extra own f) (calling modules fx extra n d) own (record st { locals = args }) v
    lo hi k refl stops in
    helper_called modules fx extra n d loops m g own f index st at_g
    (types.I64 ∷ types.I64 ∷ types.I64 ∷ types.I64 ∷ []) (types.I64 ∷ []) check_code s args rest e refl
    ∙ ap (λ x. then_run (back 1 st.locals s x) (effect modules fx loops calls m rest)) did
    ∙ check_back (is_less w64 v lo) (is_less w64 hi v) k st args s (I64 v) (effect modules fx loops calls m rest)

pub table_called : TableCalled
table_called modules fx n calls m top g slot type own f t st at_g at_slot is same shape s rest =
    let one : length t.type.params ≡ 1 = ap (λ (u : FuncType). length u.params) shape in
    i32_runs modules fx n calls m (instr.GlobalGet g ∷ instr.CallIndirect type ∷ rest) st top s
    ∙ global_runs modules fx n calls m (instr.CallIndirect type ∷ rest) st g (I32 slot) (s ▹ I32 top) at_g
    ∙ indirect_runs modules fx n calls m rest st type slot (Own own f) (s ▹ I32 top) at_slot
    (ap (λ (o : Option Typed). agree (type_at modules m type) (option_and_then (λ (t : Typed). Some t.type) o)) is
    ∙ same)
    ∙ ap (λ x. then_run x (effect modules fx n calls m rest))
    (own_does modules fx n calls m rest st own f t (s ▹ I32 top) s (I32 top ∷ []) is
    (split_end_at s (I32 top ∷ []) (length t.type.params) one))
