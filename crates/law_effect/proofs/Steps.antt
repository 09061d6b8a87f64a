-- The effect of each instruction, with its operands on top of any others: one equation each.
use Rattle.std.proofs.Common.{◌≡◌, sym, append_assoc, ℕ, suc, ◌+◌, ◌-◌, ◌%◌, ◌==◌, ◌≤◌, ◌<◌, ◌&&◌, List, [], ◌∷◌, ◌++◌, length, map, Bool, true, false, Option, Some, None, if◌then◌else◌, refl, ap, ap₂, ◌∙◌, arith}
use Rattle.std.specs.Prelude.{slice_get, slice_set, slice_index_or, nat_le}
use Rattle.std.specs.Option.{option_map}
use Rattle.std.proofs.lemmas.Bool.{le-leb}
use Rattle.std.proofs.lemmas.List.{append-nil, length-append, take_at, drop_at}
use Rattle.wasm_tree.specs.declared.instr.Instr.{Instr, Instr-F, out-Instr, map-Instr, fold_out-Instr}
use Rattle.wasm_tree.specs.declared.instr.Instr.TheOpen as layer
use Rattle.wasm_tree.specs.declared.instr.Instr.TheVariants as instr
use Rattle.wasm_tree.specs.declared.instr.Instr.TheVariants.{outs-Unreachable, outs-Block, outs-Loop, outs-If, outs-Br, outs-BrIf, outs-BrTable, outs-Drop, outs-LocalGet, outs-LocalSet, outs-LocalTee, outs-Return, outs-Call, outs-CallIndirect, outs-GlobalGet, outs-Load, outs-Store, outs-I32Const, outs-I64Const, outs-Numeric}
use Rattle.wasm_tree.specs.declared.instr.Numeric.{Numeric}
use Rattle.wasm_tree.specs.declared.instr.Load.{Load}
use Rattle.wasm_tree.specs.declared.instr.StoreWidth.{StoreWidth}
use Rattle.wasm_tree.specs.declared.kinds.ValueType.{ValueType}
use Rattle.wasm_tree.specs.declared.module.WModule.{WModule}
use Rattle.wasm_tree.specs.declared.store.Value.{Value}
use Rattle.wasm_tree.specs.declared.store.Value.TheVariants.{I32, I64}
use Rattle.wasm_tree.specs.declared.store.Callee.{Callee}
use Rattle.wasm_tree.specs.declared.store.Callee.TheVariants.{Put, Stop, Own}
use Rattle.wasm_tree.specs.Numbers.{load_size, load_number, store_bytes}
use Rattle.wasm_tree.specs.Machine.{Going, Over, Trapped, Typed, trap_now, or_trap, split_end, keep_operands, topmost, top_i32, top_i64, one_i32, one_i64, two_i32, two_i64, calculation, callee_at, callee_in, own_function, type_at, callee_type, agree, stop_with, global_at, memory_of, bytes_at, paste_items, push_value, with_local, loads, stores, results_of}
use Rattle.law_effect.specs.Effect.{Fixed, State, store_of, FellThrough, Branched, Returned, Ended, Traps, Does, Calling, or_traps, then_run, exec, to_label, out_of, turns, back, of_config, alone, pick_branch, call, does_layer, does, effect}
use Rattle.law_effect.proofs.Ways.{split_last-push}

-- ---- the operands on top

infixl 30 ◌▹◌
abbrev pub ◌▹◌ : List Value → Value → List Value
s ▹ v = s ++ v ∷ []

-- several, one after the other; with a list that is given this is `s ▹ u ▹ v ▹ ..`
abbrev pub onto : List Value → List Value → List Value
onto s [] = s
onto s (v ∷ vs) = onto (s ▹ v) vs

pub onto_is : (s vs : List Value) → onto s vs ≡ s ++ vs
onto_is s [] = sym (append-nil s)
onto_is s (v ∷ vs) = onto_is (s ▹ v) vs ∙ append_assoc s (v ∷ []) vs

pub top_32 : (s : List Value) (k : ℕ) → top_i32 (s ▹ I32 k) ≡ Some (s, k)
top_32 s k = rw (split_last-push s (I32 k)) refl

pub top_64 : (s : List Value) (k : ℕ) → top_i64 (s ▹ I64 k) ≡ Some (s, k)
top_64 s k = rw (split_last-push s (I64 k)) refl

pub one_32 : (s : List Value) (k : ℕ) (f : ℕ → Value) → one_i32 (s ▹ I32 k) f ≡ Some (s, f k)
one_32 s k f = rw (split_last-push s (I32 k)) refl

pub one_64 : (s : List Value) (k : ℕ) (f : ℕ → Value) → one_i64 (s ▹ I64 k) f ≡ Some (s, f k)
one_64 s k f = rw (split_last-push s (I64 k)) refl

pub two_32 : (s : List Value) (j k : ℕ) (f : ℕ → ℕ → Value) → two_i32 (s ▹ I32 j ▹ I32 k) f ≡ Some (s, f j k)
two_32 s j k f = rw (split_last-push (s ▹ I32 j) (I32 k), split_last-push s (I32 j)) refl

pub two_64 : (s : List Value) (j k : ℕ) (f : ℕ → ℕ → Option Value)
    → two_i64 (s ▹ I64 j ▹ I64 k) f ≡ option_map (λ v. (s, v)) (f j k)
two_64 s j k f = rw (split_last-push (s ▹ I64 j) (I64 k), split_last-push s (I64 j)) refl

pub topmost_is : (s : List Value) (v : Value) → topmost (s ▹ v) ≡ Some v
topmost_is s v = ap (λ i. slice_get (s ▹ v) i) (length_less s v) ∙ at_end s v
  where
    length_less : (s : List Value) (v : Value) → length (s ▹ v) - 1 ≡ length s
    length_less s v = let l = length-append s (v ∷ []) in omega (arith, l)

    at_end : (s : List Value) (v : Value) → slice_get (s ▹ v) (length s) ≡ Some v
    at_end [] v = refl
    at_end (x ∷ s) v = at_end s v

-- as in wasm_sound/proofs/Lists
pub split_end_at : (xs ys : List Value) (n : ℕ) → n ≡ length ys → split_end n (xs ++ ys) ≡ Some (xs, ys)
split_end_at xs ys n e =
    let long : length (xs ++ ys) ≡ length xs + length ys = length-append xs ys in
    let fits : n ≤ length (xs ++ ys) = omega (arith, long, e) in
    let front : length xs ≡ length (xs ++ ys) - n = omega (arith, long, e) in
    rw (le-leb n (length (xs ++ ys)) fits)
    (ap₂ (λ (us vs : List Value). Some (us, vs)) (take_at xs ys (length (xs ++ ys) - n) front)
    (drop_at xs ys (length (xs ++ ys) - n) front))

-- a branch to a label keeps what it asks for above what stood below the block
pub to_label_keeps : (below more results : List Value) (arity height : ℕ) (st : State) (go : Does)
    → arity ≡ length results → length below ≡ height
    → to_label arity height st ((below ++ more) ++ results) go ≡ go st (below ++ results)
to_label_keeps below more results arity height st go e h =
    ap (λ o. or_traps st.out o (λ p. go st (keep_operands height p))) (split_end_at (below ++ more) results arity e)
    ∙ ap (λ (s : List Value). go st (s ++ results)) (take_at below more height h)

module _ (modules : List WModule) (fx : Fixed) (n : ℕ) (calls : Calling) (m : ℕ) where
  abbrev pub runs : List Instr → Does
  runs = effect modules fx n calls m

  -- what the layer of an instruction does
  abbrev pub layered : Instr-F Instr → Does
  layered x = does_layer modules fx n calls m (map-Instr Instr Does (does modules fx n calls m) x)

  front : (i : Instr) (x : Instr-F Instr) → out-Instr i ≡ x → (rest : List Instr) (st : State) (stack : List Value)
      → runs (i ∷ rest) st stack ≡ then_run (layered x st stack) (runs rest)
  unfolding does
  front i x e rest st stack =
      ap (λ (go : Does). then_run (go st stack) (runs rest))
      (fold_out-Instr Does (does_layer modules fx n calls m) i ∙ ap layered e)

  module _ (rest : List Instr) (st : State) where
    pub block_runs : (t : Option ValueType) (body : List Instr) (s : List Value)
        → runs (instr.Block t body ∷ rest) st s
        ≡ then_run (out_of (results_of t) (length s) (runs body st s)) (runs rest)
    block_runs t body s = front (instr.Block t body) (layer.Block t body) (outs-Block t body) rest st s

    pub loop_runs : (t : Option ValueType) (body : List Instr) (s : List Value)
        → runs (instr.Loop t body ∷ rest) st s ≡ then_run (turns n (runs body) st s) (runs rest)
    loop_runs t body s = front (instr.Loop t body) (layer.Loop t body) (outs-Loop t body) rest st s

    pub if_runs : (t : Option ValueType) (body otherwise : List Instr) (s : List Value) (k : ℕ)
        → runs (instr.If t body (Some otherwise) ∷ rest) st (s ▹ I32 k)
        ≡ then_run (out_of (results_of t) (length s)
        (exec (pick_branch k (map (does modules fx n calls m) body)
        (Some (map (does modules fx n calls m) otherwise))) st s)) (runs rest)
    if_runs t body otherwise s k =
        front (instr.If t body (Some otherwise)) (layer.If t body (Some otherwise)) (outs-If t body (Some otherwise))
        rest st (s ▹ I32 k)
        ∙ ap (λ o. then_run (or_traps st.out o
        (λ p. out_of (results_of t) (length p.0)
        (exec (pick_branch p.1 (map (does modules fx n calls m) body)
        (Some (map (does modules fx n calls m) otherwise))) st p.0))) (runs rest)) (top_32 s k)

    pub if_one_runs : (t : Option ValueType) (body : List Instr) (s : List Value) (k : ℕ)
        → runs (instr.If t body None ∷ rest) st (s ▹ I32 k)
        ≡ then_run (out_of (results_of t) (length s)
        (exec (pick_branch k (map (does modules fx n calls m) body) None) st s)) (runs rest)
    if_one_runs t body s k =
        front (instr.If t body None) (layer.If t body None) (outs-If t body None) rest st (s ▹ I32 k)
        ∙ ap (λ o. then_run (or_traps st.out o
        (λ p. out_of (results_of t) (length p.0)
        (exec (pick_branch p.1 (map (does modules fx n calls m) body) None) st p.0))) (runs rest)) (top_32 s k)

    pub br_runs : (l : ℕ) (s : List Value) → runs (instr.Br l ∷ rest) st s ≡ Branched l st s
    br_runs l s = front (instr.Br l) (layer.Br l) (outs-Br l) rest st s

    pub br_if_runs : (l k : ℕ) (s : List Value)
        → runs (instr.BrIf l ∷ rest) st (s ▹ I32 k)
        ≡ then_run (if k == 0 then FellThrough st s else Branched l st s) (runs rest)
    br_if_runs l k s =
        front (instr.BrIf l) (layer.BrIf l) (outs-BrIf l) rest st (s ▹ I32 k)
        ∙ ap (λ o. then_run (or_traps st.out o (λ p. if p.1 == 0 then FellThrough st p.0 else Branched l st p.0))
        (runs rest)) (top_32 s k)

    pub br_table_runs : (ls : List ℕ) (l k : ℕ) (s : List Value)
        → runs (instr.BrTable ls l ∷ rest) st (s ▹ I32 k) ≡ Branched (slice_index_or ls k l) st s
    br_table_runs ls l k s =
        front (instr.BrTable ls l) (layer.BrTable ls l) (outs-BrTable ls l) rest st (s ▹ I32 k)
        ∙ ap (λ o. then_run (or_traps st.out o (λ p. Branched (slice_index_or ls p.1 l) st p.0)) (runs rest))
        (top_32 s k)

    pub return_runs : (s : List Value) → runs (instr.Return ∷ rest) st s ≡ Returned st s
    return_runs s = front instr.Return layer.Return outs-Return rest st s

    pub unreachable_runs : (s : List Value) → runs (instr.Unreachable ∷ rest) st s ≡ Traps st.out
    unreachable_runs s = front instr.Unreachable layer.Unreachable outs-Unreachable rest st s

    pub drop_runs : (v : Value) (s : List Value) → runs (instr.Drop ∷ rest) st (s ▹ v) ≡ runs rest st s
    drop_runs v s =
        front instr.Drop layer.Drop outs-Drop rest st (s ▹ v)
        ∙ ap (λ o. then_run (of_config st.out
        (or_trap o (λ p. (Going (store_of fx st.bytes) (record (alone m st (s ▹ v)) { stack = p.0 }) [], []))).0)
        (runs rest)) (split_last-push s v)

    pub get_runs : (x : ℕ) (v : Value) (s : List Value) → slice_get st.locals x ≡ Some v
        → runs (instr.LocalGet x ∷ rest) st s ≡ runs rest st (s ▹ v)
    get_runs x v s e =
        front (instr.LocalGet x) (layer.LocalGet x) (outs-LocalGet x) rest st s
        ∙ ap (λ o. then_run (of_config st.out (or_trap o (push_value (store_of fx st.bytes) (alone m st s) [])).0)
        (runs rest)) e

    pub set_runs : (x : ℕ) (v : Value) (s : List Value) → x < length st.locals
        → runs (instr.LocalSet x ∷ rest) st (s ▹ v) ≡ runs rest (record st { locals = slice_set st.locals x v }) s
    set_runs x v s h =
        front (instr.LocalSet x) (layer.LocalSet x) (outs-LocalSet x) rest st (s ▹ v)
        ∙ ap (λ o. then_run (of_config st.out
        (or_trap o (λ p. with_local (store_of fx st.bytes) (record (alone m st (s ▹ v)) { stack = p.0 }) [] x
        p.1)).0) (runs rest)) (split_last-push s v)
        ∙ ap (λ b. then_run (of_config st.out
        (if b then (
          Going (store_of fx st.bytes) (record (alone m st s) { locals = slice_set st.locals x v }) [],
          [],
        ) else trap_now).0) (runs rest)) (le-leb (suc x) (length st.locals) (omega (arith, h)))

    pub tee_runs : (x : ℕ) (v : Value) (s : List Value) → x < length st.locals
        → runs (instr.LocalTee x ∷ rest) st (s ▹ v) ≡ runs rest (record st { locals = slice_set st.locals x v }) (s ▹ v)
    tee_runs x v s h =
        front (instr.LocalTee x) (layer.LocalTee x) (outs-LocalTee x) rest st (s ▹ v)
        ∙ ap (λ o. then_run (of_config st.out
        (or_trap o (with_local (store_of fx st.bytes) (alone m st (s ▹ v)) [] x)).0) (runs rest)) (topmost_is s v)
        ∙ ap (λ b. then_run (of_config st.out
        (if b then (
          Going (store_of fx st.bytes) (record (alone m st (s ▹ v)) { locals = slice_set st.locals x v })
              [],
          [],
        ) else trap_now).0) (runs rest)) (le-leb (suc x) (length st.locals) (omega (arith, h)))

    pub global_runs : (x : ℕ) (v : Value) (s : List Value) → global_at (store_of fx st.bytes) m x ≡ Some v
        → runs (instr.GlobalGet x ∷ rest) st s ≡ runs rest st (s ▹ v)
    global_runs x v s e =
        front (instr.GlobalGet x) (layer.GlobalGet x) (outs-GlobalGet x) rest st s
        ∙ ap (λ o. then_run (of_config st.out (or_trap o (push_value (store_of fx st.bytes) (alone m st s) [])).0)
        (runs rest)) e

    pub i32_runs : (k : ℕ) (s : List Value) → runs (instr.I32Const k ∷ rest) st s ≡ runs rest st (s ▹ I32 k)
    i32_runs k s = front (instr.I32Const k) (layer.I32Const k) (outs-I32Const k) rest st s

    pub i64_runs : (k : ℕ) (s : List Value) → runs (instr.I64Const k ∷ rest) st s ≡ runs rest st (s ▹ I64 k)
    i64_runs k s = front (instr.I64Const k) (layer.I64Const k) (outs-I64Const k) rest st s

    -- the operands and the result by one_32 to two_64
    pub number_runs : (o : Numeric) (stack s : List Value) (v : Value) → calculation o stack ≡ Some (s, v)
        → runs (instr.Numeric o ∷ rest) st stack ≡ runs rest st (s ▹ v)
    number_runs o stack s v e =
        front (instr.Numeric o) (layer.Numeric o) (outs-Numeric o) rest st stack
        ∙ ap (λ q. then_run (of_config st.out
        (or_trap q (λ p. push_value (store_of fx st.bytes) (record (alone m st stack) { stack = p.0 }) [] p.1)).0)
        (runs rest)) e

    pub load_runs : (kind : Load) (place : ℕ) (bytes : List ℕ) (s : List Value)
        → memory_of (store_of fx st.bytes) m ≡ Some (0, record { bytes = st.bytes; max = fx.max })
        → bytes_at (load_size kind) place st.bytes ≡ Some bytes
        → runs (instr.Load kind ∷ rest) st (s ▹ I32 place) ≡ runs rest st (s ▹ I64 (load_number kind bytes))
    load_runs kind place bytes s own e =
        front (instr.Load kind) (layer.Load kind) (outs-Load kind) rest st (s ▹ I32 place)
        ∙ ap (λ o. then_run (of_config st.out
        (or_trap o (λ p. or_trap (memory_of (store_of fx st.bytes) m)
        (loads (store_of fx st.bytes) (record (alone m st (s ▹ I32 place)) { stack = p.0 }) [] kind p.1))).0)
        (runs rest)) (top_32 s place)
        ∙ ap (λ o. then_run (of_config st.out (or_trap o (loads (store_of fx st.bytes) (alone m st s) [] kind place)).0)
        (runs rest)) own
        ∙ ap (λ o. then_run (of_config st.out
        (or_trap o (λ bytes. push_value (store_of fx st.bytes) (alone m st s) [] (I64 (load_number kind bytes)))).0)
        (runs rest)) e

    pub store_runs : (width : StoreWidth) (place k : ℕ) (s : List Value)
        → memory_of (store_of fx st.bytes) m ≡ Some (0, record { bytes = st.bytes; max = fx.max })
        → place + length (store_bytes width k) ≤ length st.bytes
        → runs (instr.Store width ∷ rest) st (s ▹ I32 place ▹ I64 k)
        ≡ runs rest (record st { bytes = paste_items st.bytes place (store_bytes width k) }) s
    store_runs width place k s own h =
        front (instr.Store width) (layer.Store width) (outs-Store width) rest st (s ▹ I32 place ▹ I64 k)
        ∙ ap (λ o. then_run (of_config st.out
        (or_trap o (λ v. or_trap (top_i32 v.0)
        (λ p. or_trap (memory_of (store_of fx st.bytes) m)
        (stores (store_of fx st.bytes) (record (alone m st (s ▹ I32 place ▹ I64 k)) { stack = p.0 }) [] p.1
        (store_bytes width v.1))))).0) (runs rest)) (top_64 (s ▹ I32 place) k)
        ∙ ap (λ o. then_run (of_config st.out
        (or_trap o (λ p. or_trap (memory_of (store_of fx st.bytes) m)
        (stores (store_of fx st.bytes) (record (alone m st s) { stack = p.0 }) [] p.1 (store_bytes width k)))).0)
        (runs rest)) (top_32 s place)
        ∙ ap (λ o. then_run (of_config st.out
        (or_trap o (stores (store_of fx st.bytes) (alone m st s) [] place (store_bytes width k))).0) (runs rest))
        own
        ∙ ap (λ b. then_run (of_config st.out
        (if b then (Going (store_of fx (paste_items st.bytes place (store_bytes width k))) (alone m st s) [], [])
        else trap_now).0) (runs rest)) (le-leb (place + length (store_bytes width k)) (length st.bytes) h)

    -- ---- calls

    pub own_runs : (f k j : ℕ) (t : Typed) (stack s args : List Value)
        → callee_at (store_of fx st.bytes) m f ≡ Some (Own k j) → own_function modules k j ≡ Some t
        → split_end (length t.type.params) stack ≡ Some (s, args)
        → runs (instr.Call f ∷ rest) st stack
        ≡ then_run (back (length t.type.results) st.locals s (calls k j t args st.bytes st.out)) (runs rest)
    own_runs f k j t stack s args e own cut =
        front (instr.Call f) (layer.Call f) (outs-Call f) rest st stack
        ∙ ap (λ o. then_run (or_traps st.out o (λ c. call modules fx calls m c st stack)) (runs rest)) e
        ∙ ap (λ o. then_run (or_traps st.out o
        (λ (t : Typed). or_traps st.out (split_end (length t.type.params) stack)
        (λ p. back (length t.type.results) st.locals p.0 (calls k j t p.1 st.bytes st.out)))) (runs rest)) own
        ∙ ap (λ o. then_run (or_traps st.out o
        (λ p. back (length t.type.results) st.locals p.0 (calls k j t p.1 st.bytes st.out))) (runs rest)) cut

    pub own_does : (k j : ℕ) (t : Typed) (stack s args : List Value) → own_function modules k j ≡ Some t
        → split_end (length t.type.params) stack ≡ Some (s, args)
        → call modules fx calls m (Own k j) st stack
        ≡ back (length t.type.results) st.locals s (calls k j t args st.bytes st.out)
    own_does k j t stack s args own cut =
        ap (λ o. or_traps st.out o (λ (t : Typed). or_traps st.out (split_end (length t.type.params) stack)
        (λ p. back (length t.type.results) st.locals p.0 (calls k j t p.1 st.bytes st.out)))) own
        ∙ ap (λ o. or_traps st.out o (λ p. back (length t.type.results) st.locals p.0
        (calls k j t p.1 st.bytes st.out))) cut

    pub indirect_runs : (t slot : ℕ) (c : Callee) (s : List Value) → callee_in (store_of fx st.bytes) m slot ≡ Some c
        → agree (type_at modules m t) (callee_type modules c) ≡ true
        → runs (instr.CallIndirect t ∷ rest) st (s ▹ I32 slot) ≡ then_run (call modules fx calls m c st s) (runs rest)
    indirect_runs t slot c s e same =
        front (instr.CallIndirect t) (layer.CallIndirect t) (outs-CallIndirect t) rest st (s ▹ I32 slot)
        ∙ ap (λ o. then_run (or_traps st.out o
        (λ p. or_traps st.out (callee_in (store_of fx st.bytes) m p.1)
        (λ c. if agree (type_at modules m t) (callee_type modules c) then call modules fx calls m c st p.0 else
        Traps st.out))) (runs rest)) (top_32 s slot)
        ∙ ap (λ o. then_run (or_traps st.out o
        (λ c. if agree (type_at modules m t) (callee_type modules c) then call modules fx calls m c st s else Traps
        st.out)) (runs rest)) e
        ∙ ap (λ b. then_run (if b then call modules fx calls m c st s else Traps st.out) (runs rest)) same

    pub put_runs : (f k : ℕ) (s : List Value) → callee_at (store_of fx st.bytes) m f ≡ Some Put
        → runs (instr.Call f ∷ rest) st (s ▹ I64 k) ≡ runs rest (record st { out = st.out ++ k % 256 ∷ [] }) s
    put_runs f k s e =
        front (instr.Call f) (layer.Call f) (outs-Call f) rest st (s ▹ I64 k)
        ∙ ap (λ o. then_run (or_traps st.out o (λ c. call modules fx calls m c st (s ▹ I64 k))) (runs rest)) e
        ∙ ap (λ o. then_run (let p = or_trap o
        (λ p. (Going (store_of fx st.bytes) (record (alone m st (s ▹ I64 k)) { stack = p.0 }) [], p.1 % 256 ∷ []))
        in of_config (st.out ++ p.1) p.0) (runs rest)) (top_64 s k)

    pub stop_runs : (f k : ℕ) (s : List Value) → callee_at (store_of fx st.bytes) m f ≡ Some Stop
        → runs (instr.Call f ∷ rest) st (s ▹ I64 k)
        ≡ (if nat_le 1 k && nat_le k 255 then Ended k st.out else Traps st.out)
    stop_runs f k s e =
        front (instr.Call f) (layer.Call f) (outs-Call f) rest st (s ▹ I64 k)
        ∙ ap (λ o. then_run (or_traps st.out o (λ c. call modules fx calls m c st (s ▹ I64 k))) (runs rest)) e
        ∙ ap (λ o. then_run (of_config st.out (or_trap o (λ p. (stop_with p.1, []))).0) (runs rest)) (top_64 s k)
        ∙ go (nat_le 1 k && nat_le k 255)
      where
        go : (b : Bool) → then_run (of_config st.out (if b then Over k else Trapped)) (runs rest)
            ≡ (if b then Ended k st.out else Traps st.out)
        go true = refl
        go false = refl
