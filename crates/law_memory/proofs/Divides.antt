-- What calls of div and mod do.
use Rattle.std.proofs.Common.{◌≡◌, ℕ, suc, ◌+◌, ◌*◌, ◌%◌, ◌^◌, ◌==◌, ◌<◌, ◌&&◌, List, [], ◌∷◌, ◌++◌, length, Bool, true, false, Option, Some, None, if◌then◌else◌, refl, sym, ap, ◌∙◌, arith}
use Rattle.std.specs.Prelude.{slice_get, slice_set, int_div}
use Rattle.std.proofs.lemmas.Bool.{eqb-true}
use Rattle.std.specs.Option.{option_map}
use Rattle.std.specs.Int.{w64, cast_signed, cast_unsigned}
use Rattle.wasm_tree.specs.declared.instr.Instr.{Instr}
use Rattle.wasm_tree.specs.declared.instr.Instr.TheVariants as instr
use Rattle.wasm_tree.specs.declared.instr.Numeric.TheVariants as numeric
use Rattle.wasm_tree.specs.declared.instr.Operation.{Operation}
use Rattle.wasm_tree.specs.declared.instr.Operation.TheVariants.{Add, Sub, Mul, DivS, RemS}
use Rattle.wasm_tree.specs.declared.instr.Relation.TheVariants.{LtS}
use Rattle.wasm_tree.specs.declared.kinds.ValueType.TheVariants as types
use Rattle.wasm_tree.specs.declared.module.WModule.{WModule}
use Rattle.wasm_tree.specs.declared.store.Value.{Value}
use Rattle.wasm_tree.specs.declared.store.Value.TheVariants.{I32, I64}
use Rattle.wasm_tree.specs.declared.store.Callee.TheVariants.{Stop, Own}
use Rattle.wasm_tree.specs.Numbers.{truth, is_less, compares, operation_result}
use Rattle.wasm_tree.specs.Machine.{callee_at, own_function}
use Rattle.law_effect.specs.Effect.{Fixed, State, store_of, Effect, FellThrough, Ended, Does, Calling, then_run, back, effect, calling}
use Rattle.def_scheme.specs.Helpers.{divisor_checked, div_rest, mod_rest, mod_typed, check_typed}
use Rattle.law_memory.specs.Called.{remainder, is_below_zero, divided_down, modulo, DivCalled, ModCalled}
use Rattle.law_effect.proofs.Steps.{◌▹◌, one_32, two_64, split_end_at, runs, get_runs, set_runs, tee_runs, i64_runs, number_runs, own_runs}
use Rattle.law_memory.proofs.Helpers.{check_called, check_back, helper_called}

-- ---- a divisor that check lets through

not_zero : (y : ℕ) → is_less w64 y 1 ≡ false → (y == 0) ≡ false
not_zero y h = go (y == 0) refl
  where
    go : (b : Bool) → (y == 0) ≡ b → b ≡ false
    go false e = refl
    go true e = sym (ap (λ n. is_less w64 n 1) (eqb-true y 0 e)) ∙ h

not_last : (y : ℕ) → is_less w64 y 1 ≡ false → (y == 18446744073709551615) ≡ false
not_last y h = go (y == 18446744073709551615) refl
  where
    go : (b : Bool) → (y == 18446744073709551615) ≡ b → b ≡ false
    go false e = refl
    go true e = sym (ap (λ n. is_less w64 n 1) (eqb-true y 18446744073709551615 e)) ∙ h

and_false : (a : Bool) → (a && false) ≡ false
and_false true = refl
and_false false = refl

abbrev quotient : (x y : ℕ) → ℕ
quotient x y = cast_unsigned w64 (int_div (cast_signed w64 x) (cast_signed w64 y))

abbrev unless : Bool → Option ℕ → Option ℕ
unless b o = if b then None else o

divides : (x y : ℕ) → is_less w64 y 1 ≡ false → operation_result DivS x y ≡ Some (quotient x y)
divides x y h =
    ap (λ b. unless ((x == 9223372036854775808) && b) (unless (y == 0) (Some (quotient x y)))) (not_last y h)
    ∙ ap (λ b. unless b (unless (y == 0) (Some (quotient x y)))) (and_false (x == 9223372036854775808))
    ∙ ap (λ b. unless b (Some (quotient x y))) (not_zero y h)

leaves : (x y : ℕ) → is_less w64 y 1 ≡ false → operation_result RemS x y ≡ Some (remainder x y)
leaves x y h = ap (λ b. unless b (Some (remainder x y))) (not_zero y h)

-- ---- the code

abbrev chosen : (b c : Bool) → Effect → Effect → Effect
chosen b c stop go = if b then stop else (if c then stop else go)

module _ (modules : List WModule) (fx : Fixed) (n : ℕ) (calls : Calling) (m : ℕ) where
  abbrev does : List Instr → Does
  does = runs modules fx n calls m

  op_runs : (rest : List Instr) (st : State) (o : Operation) (x y r : ℕ) (s : List Value)
      → operation_result o x y ≡ Some r → does (instr.Numeric (numeric.I64Operation o) ∷ rest) st (s ▹ I64 x ▹ I64 y)
      ≡ does rest st (s ▹ I64 r)
  op_runs rest st o x y r s e =
      number_runs modules fx n calls m rest st (numeric.I64Operation o) (s ▹ I64 x ▹ I64 y) s (I64 r)
      (two_64 s x y (λ a b. option_map I64 (operation_result o a b))
      ∙ ap (λ q. option_map (λ v. (s, v)) (option_map I64 q)) e)

  -- 1 if the number on top is below 0
  below_runs : (rest : List Instr) (st : State) (r : ℕ) (s : List Value)
      → does (instr.I64Const 0 ∷ instr.Numeric (numeric.I64Relation LtS) ∷ instr.Numeric numeric.I64ExtendI32U ∷ rest)
      st (s ▹ I64 r) ≡ does rest st (s ▹ I64 (is_below_zero r))
  below_runs rest st r s =
      i64_runs modules fx n calls m (instr.Numeric (numeric.I64Relation LtS) ∷ instr.Numeric numeric.I64ExtendI32U
      ∷ rest) st 0 (s ▹ I64 r)
      ∙ number_runs modules fx n calls m (instr.Numeric numeric.I64ExtendI32U ∷ rest) st (numeric.I64Relation LtS)
      (s ▹ I64 r ▹ I64 0) s (I32 (is_below_zero r))
      (two_64 s r 0 (λ a b. Some (I32 (truth (compares w64 LtS a b)))))
      ∙ number_runs modules fx n calls m rest st numeric.I64ExtendI32U (s ▹ I32 (is_below_zero r)) s
      (I64 (is_below_zero r)) (one_32 s (is_below_zero r) I64)

  div_runs : (x y : ℕ) (bytes out : List ℕ) → is_less w64 y 1 ≡ false
      → does div_rest (record { locals = I64 x ∷ I64 y ∷ []; bytes = bytes; out = out }) []
      ≡ FellThrough (record { locals = I64 x ∷ I64 y ∷ []; bytes = bytes; out = out }) (I64 (divided_down x y) ∷ [])
  div_runs x y bytes out h =
      let st : State = record { locals = I64 x ∷ I64 y ∷ []; bytes = bytes; out = out } in
      let r5 : List Instr = instr.I64Const 0 ∷ instr.Numeric (numeric.I64Relation LtS)
      ∷ instr.Numeric numeric.I64ExtendI32U ∷ instr.Numeric (numeric.I64Operation Sub) ∷ [] in
      let r4 : List Instr = instr.Numeric (numeric.I64Operation RemS) ∷ r5 in
      let r2 : List Instr = instr.LocalGet 0 ∷ instr.LocalGet 1 ∷ r4 in
      let q = [] ▹ I64 (quotient x y) in
      get_runs modules fx n calls m (instr.LocalGet 1 ∷ instr.Numeric (numeric.I64Operation DivS) ∷ r2) st 0 (I64 x) []
      refl
      ∙ get_runs modules fx n calls m (instr.Numeric (numeric.I64Operation DivS) ∷ r2) st 1 (I64 y) ([] ▹ I64 x) refl
      ∙ op_runs r2 st DivS x y (quotient x y) [] (divides x y h)
      ∙ get_runs modules fx n calls m (instr.LocalGet 1 ∷ r4) st 0 (I64 x) q refl
      ∙ get_runs modules fx n calls m r4 st 1 (I64 y) (q ▹ I64 x) refl
      ∙ op_runs r5 st RemS x y (remainder x y) q (leaves x y h)
      ∙ below_runs (instr.Numeric (numeric.I64Operation Sub) ∷ []) st (remainder x y) q
      ∙ op_runs [] st Sub (quotient x y) (is_below_zero (remainder x y)) (divided_down x y) [] refl

  mod_runs : (x y : ℕ) (bytes out : List ℕ) → is_less w64 y 1 ≡ false
      → does mod_rest (record { locals = I64 x ∷ I64 y ∷ I64 0 ∷ []; bytes = bytes; out = out }) []
      ≡ FellThrough (record { locals = I64 x ∷ I64 y ∷ I64 (remainder x y) ∷ []; bytes = bytes; out = out })
      (I64 (modulo x y) ∷ [])
  mod_runs x y bytes out h =
      let st : State = record { locals = I64 x ∷ I64 y ∷ I64 0 ∷ []; bytes = bytes; out = out } in
      let kept : State = record { locals = I64 x ∷ I64 y ∷ I64 (remainder x y) ∷ []; bytes = bytes; out = out } in
      let r6 : List Instr = instr.Numeric (numeric.I64Operation Mul) ∷ instr.Numeric (numeric.I64Operation Add) ∷ [] in
      let r4 : List Instr = instr.I64Const 0 ∷ instr.Numeric (numeric.I64Relation LtS)
      ∷ instr.Numeric numeric.I64ExtendI32U ∷ instr.LocalGet 1 ∷ r6 in
      let r2 : List Instr = instr.LocalTee 2 ∷ instr.LocalGet 2 ∷ r4 in
      let r = [] ▹ I64 (remainder x y) in
      let b = is_below_zero (remainder x y) in
      get_runs modules fx n calls m (instr.LocalGet 1 ∷ instr.Numeric (numeric.I64Operation RemS) ∷ r2) st 0 (I64 x) []
      refl
      ∙ get_runs modules fx n calls m (instr.Numeric (numeric.I64Operation RemS) ∷ r2) st 1 (I64 y) ([] ▹ I64 x) refl
      ∙ op_runs r2 st RemS x y (remainder x y) [] (leaves x y h)
      ∙ tee_runs modules fx n calls m (instr.LocalGet 2 ∷ r4) st 2 (I64 (remainder x y)) [] (omega arith)
      ∙ get_runs modules fx n calls m r4 kept 2 (I64 (remainder x y)) r refl
      ∙ below_runs (instr.LocalGet 1 ∷ r6) kept (remainder x y) r
      ∙ get_runs modules fx n calls m r6 kept 1 (I64 y) (r ▹ I64 b) refl
      ∙ op_runs (instr.Numeric (numeric.I64Operation Add) ∷ []) kept Mul b y (b * y % 2 ^ 64) r refl
      ∙ op_runs [] kept Add (remainder x y) (b * y % 2 ^ 64) (modulo x y) [] refl

-- the divisor is checked
module _ (modules : List WModule) (fx : Fixed) (extra : (k f : ℕ) → ℕ) (n d loops own c check_index : ℕ) (st : State)
    (at_4 : callee_at (store_of fx st.bytes) own 4 ≡ Some (Own own c))
    (is : own_function modules own c ≡ Some (check_typed check_index))
    (stops : callee_at (store_of fx st.bytes) own 1 ≡ Some Stop) where
  abbrev body : List Instr → Does
  body = effect modules fx loops (calling modules fx extra n (suc d)) own

  checked_runs : (y : ℕ) (rest : List Instr) (to : Effect) → slice_get st.locals 1 ≡ Some (I64 y) → 1 < length st.locals
      → (is_less w64 y 1 ≡ false → body rest (record st { locals = slice_set st.locals 1 (I64 y) }) [] ≡ to)
      → body (divisor_checked rest) st [] ≡ chosen (is_less w64 y 1) (is_less w64 4294967295 y) (Ended 4 st.out) to
  checked_runs y rest to e long h =
      let calls = calling modules fx extra n (suc d) in
      let r4 : List Instr = instr.Call 4 ∷ instr.LocalSet 1 ∷ rest in
      get_runs modules fx loops calls own (instr.I64Const 1 ∷ instr.I64Const 4294967295 ∷ instr.I64Const 4 ∷ r4) st 1
      (I64 y) [] e
      ∙ i64_runs modules fx loops calls own (instr.I64Const 4294967295 ∷ instr.I64Const 4 ∷ r4) st 1 ([] ▹ I64 y)
      ∙ i64_runs modules fx loops calls own (instr.I64Const 4 ∷ r4) st 4294967295 ([] ▹ I64 y ▹ I64 1)
      ∙ i64_runs modules fx loops calls own r4 st 4 ([] ▹ I64 y ▹ I64 1 ▹ I64 4294967295)
      ∙ check_called modules fx extra n d loops own 4 own c check_index st at_4 is stops y 1 4294967295 4 []
      (instr.LocalSet 1 ∷ rest)
      ∙ ap (chosen (is_less w64 y 1) (is_less w64 4294967295 y) (Ended 4 st.out))
      (set_runs modules fx loops calls own rest st 1 (I64 y) [] long)
      ∙ decided (is_less w64 y 1) (is_less w64 4294967295 y) h
    where
      decided : (a b : Bool) → (a ≡ false → body rest (record st { locals = slice_set st.locals 1 (I64 y) }) [] ≡ to)
          → chosen a b (Ended 4 st.out) (body rest (record st { locals = slice_set st.locals 1 (I64 y) }) [])
          ≡ chosen a b (Ended 4 st.out) to
      decided true b h = refl
      decided false true h = refl
      decided false false h = h refl

pub div_called : DivCalled
div_called modules fx extra n d loops m g own f index c check_index st at_g e at_4 is stops x y s rest =
    let calls = calling modules fx extra n (suc (suc d)) in
    let inner : State = record { locals = I64 x ∷ I64 y ∷ []; bytes = st.bytes; out = st.out } in
    let did = checked_runs modules fx extra n d (n + extra own f) own c check_index inner at_4 is stops y div_rest
    (FellThrough inner (I64 (divided_down x y) ∷ [])) refl (omega arith)
    (div_runs modules fx (n + extra own f) (calling modules fx extra n (suc d)) own x y st.bytes st.out) in
    helper_called modules fx extra n (suc d) loops m g own f index st at_g (types.I64 ∷ types.I64 ∷ []) (types.I64 ∷ [])
    (divisor_checked div_rest) s (I64 x ∷ I64 y ∷ []) rest e refl
    ∙ ap (λ q. then_run (back 1 st.locals s q) (effect modules fx loops calls m rest)) did
    ∙ check_back (is_less w64 y 1) (is_less w64 4294967295 y) 4 st (I64 x ∷ I64 y ∷ []) s (I64 (divided_down x y))
    (effect modules fx loops calls m rest)

pub mod_called : ModCalled
unfolding calling
mod_called modules fx extra n d loops m g own f index c check_index st at_g e at_4 is stops x y s rest =
    let calls = calling modules fx extra n (suc (suc d)) in
    let inner : State = record { locals = I64 x ∷ I64 y ∷ I64 0 ∷ []; bytes = st.bytes; out = st.out } in
    let after : State = record { locals = I64 x ∷ I64 y ∷ I64 (remainder x y) ∷ []; bytes = st.bytes; out = st.out } in
    let did = checked_runs modules fx extra n d (n + extra own f) own c check_index inner at_4 is stops y mod_rest
    (FellThrough after (I64 (modulo x y) ∷ [])) refl (omega arith)
    (mod_runs modules fx (n + extra own f) (calling modules fx extra n (suc d)) own x y st.bytes st.out) in
    own_runs modules fx loops calls m rest st g own f (mod_typed index) (s ++ I64 x ∷ I64 y ∷ []) s (I64 x ∷ I64 y ∷ [])
    at_g e (split_end_at s (I64 x ∷ I64 y ∷ []) 2 refl)
    ∙ ap (λ q. then_run (back 1 st.locals s q) (effect modules fx loops calls m rest)) did
    ∙ check_back (is_less w64 y 1) (is_less w64 4294967295 y) 4 st (I64 x ∷ I64 y ∷ I64 (remainder x y) ∷ []) s
    (I64 (modulo x y)) (effect modules fx loops calls m rest)
