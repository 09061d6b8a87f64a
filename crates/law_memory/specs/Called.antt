-- What the helpers do: equations of their calls.
use Rattle.std.specs.Prelude.{◌≡◌, ℤ, pos, negsuc, ◌+ℤ◌, ◌*ℤ◌, ◌≤ℤ◌, ◌<ℤ◌, true, ℕ, zero, suc, ◌+◌, ◌-◌, ◌*◌, ◌%◌, ◌<◌, ◌≤◌, ◌^◌, int_div, int_rem, ◌&&◌, List, [], ◌∷◌, ◌++◌, length, Some, None, slice_index_or, nat_le, if◌then◌else◌}
use Rattle.std.specs.Int.{w64, cast_signed, cast_unsigned}
use Rattle.wasm_tree.specs.declared.kinds.ValueType.TheVariants as types
use Rattle.wasm_tree.specs.declared.instr.Instr.{Instr}
use Rattle.wasm_tree.specs.declared.instr.Instr.TheVariants as instr
use Rattle.wasm_tree.specs.declared.module.WModule.{WModule}
use Rattle.wasm_tree.specs.declared.store.Value.{Value}
use Rattle.wasm_tree.specs.declared.store.Value.TheVariants.{I32, I64}
use Rattle.wasm_tree.specs.declared.store.Callee.TheVariants.{Stop, Own}
use Rattle.wasm_tree.specs.Numbers.{truth, is_less}
use Rattle.wasm_tree.specs.Machine.{Typed, paste_items, callee_at, callee_in, global_at, memory_of, own_function, type_at, agree}
use Rattle.def_scheme.specs.Helpers.{copy_code, fill_code, check_typed, divisor_checked, div_rest, mod_typed, helper}
use Rattle.law_effect.specs.Bytes.{byte, copied_bytes, cleared_bytes}
use Rattle.law_effect.specs.Effect.{Fixed, State, store_of, Effect, FellThrough, Ended, Traps, Calling, effect, calling, then_run, back}

-- ---- answers

-- their answers
abbrev pub remainder : (x y : ℕ) → ℕ
remainder x y = cast_unsigned w64 (int_rem (cast_signed w64 x) (cast_signed w64 y))

abbrev pub is_below_zero : ℕ → ℕ
is_below_zero r = truth (is_less w64 r 0)

abbrev pub divided_down : (x y : ℕ) → ℕ
divided_down x y =
    (cast_unsigned w64 (int_div (cast_signed w64 x) (cast_signed w64 y))
    + (2 ^ 64 - is_below_zero (remainder x y)))
    % 2 ^ 64

abbrev pub modulo : (x y : ℕ) → ℕ
modulo x y = (remainder x y + is_below_zero (remainder x y) * y % 2 ^ 64) % 2 ^ 64

-- ---- what is known where a helper runs

-- the module has the one memory
abbrev pub HasMemory : Fixed → (m : ℕ) → Type 0
HasMemory fx m =
    (bytes : List ℕ)
    → memory_of (store_of fx bytes) m ≡ Some (0, record { bytes = bytes; max = fx.max })

abbrev pub stopped_by : (k : ℕ) (out : List ℕ) → Effect
stopped_by k out = if nat_le 1 k && nat_le k 255 then Ended k out else Traps out

-- ---- laws

abbrev pub CopyRuns : Type 0
CopyRuns =
    (modules : List WModule) (fx : Fixed) (n : ℕ) (calls : Calling) (m : ℕ)
    → HasMemory fx m
    → (k to from : ℕ) (bytes out : List ℕ)
    → k < n
    → to + k ≤ length bytes
    → from + k ≤ length bytes
    → ((a : ℕ) → byte a bytes < 256)
    → length bytes < 2 ^ 32
    → effect modules fx n calls m copy_code
    (record { locals = I32 to ∷ I32 from ∷ I32 k ∷ []; bytes = bytes; out = out }) []
    ≡ FellThrough
    (record {
      locals = I32 (to + k) ∷ I32 (from + k) ∷ I32 0 ∷ [];
      bytes = copied_bytes k to from bytes;
      out = out;
    }) []

abbrev pub FillRuns : Type 0
FillRuns =
    (modules : List WModule) (fx : Fixed) (n : ℕ) (calls : Calling) (m : ℕ)
    → HasMemory fx m
    → (k to : ℕ) (bytes out : List ℕ)
    → k < n
    → to + k ≤ length bytes
    → length bytes < 2 ^ 32
    → effect modules fx n calls m fill_code
    (record { locals = I32 to ∷ I32 k ∷ []; bytes = bytes; out = out }) []
    ≡ FellThrough
    (record { locals = I32 (to + k) ∷ I32 0 ∷ []; bytes = cleared_bytes k to bytes; out = out }) []

-- a call of copy, whose loop may have as many turns as there are bytes
abbrev pub CopyCalled : Type 0
CopyCalled =
    (modules : List WModule) (fx : Fixed) (extra : (k f : ℕ) → ℕ) (n d loops m g own f index : ℕ)
    → HasMemory fx own
    → (st : State)
    → callee_at (store_of fx st.bytes) m g ≡ Some (Own own f)
    → own_function modules own f
    ≡ Some (helper (types.I32 ∷ types.I32 ∷ types.I32 ∷ []) [] index copy_code)
    → (k to from : ℕ) (s : List Value) (rest : List Instr)
    → k < n + extra own f
    → to + k ≤ length st.bytes
    → from + k ≤ length st.bytes
    → ((a : ℕ) → byte a st.bytes < 256)
    → length st.bytes < 2 ^ 32
    → effect modules fx loops (calling modules fx extra n (suc d)) m (instr.Call g ∷ rest) st
    (s ++ I32 to ∷ I32 from ∷ I32 k ∷ [])
    ≡ effect modules fx loops (calling modules fx extra n (suc d)) m rest
    (record st { bytes = copied_bytes k to from st.bytes }) s

abbrev pub FillCalled : Type 0
FillCalled =
    (modules : List WModule) (fx : Fixed) (extra : (k f : ℕ) → ℕ) (n d loops m g own f index : ℕ)
    → HasMemory fx own
    → (st : State)
    → callee_at (store_of fx st.bytes) m g ≡ Some (Own own f)
    → own_function modules own f ≡ Some (helper (types.I32 ∷ types.I32 ∷ []) [] index fill_code)
    → (k to : ℕ) (s : List Value) (rest : List Instr)
    → k < n + extra own f
    → to + k ≤ length st.bytes
    → length st.bytes < 2 ^ 32
    → effect modules fx loops (calling modules fx extra n (suc d)) m (instr.Call g ∷ rest) st
    (s ++ I32 to ∷ I32 k ∷ [])
    ≡ effect modules fx loops (calling modules fx extra n (suc d)) m rest
    (record st { bytes = cleared_bytes k to st.bytes }) s

-- a call of check leaves the number, or ends the run
abbrev pub CheckCalled : Type 0
CheckCalled =
    (modules : List WModule) (fx : Fixed) (extra : (k f : ℕ) → ℕ) (n d loops m g own f index : ℕ)
    → (st : State)
    → callee_at (store_of fx st.bytes) m g ≡ Some (Own own f)
    → own_function modules own f ≡ Some (check_typed index)
    → callee_at (store_of fx st.bytes) own 1 ≡ Some Stop
    → (v lo hi k : ℕ) (s : List Value) (rest : List Instr)
    → effect modules fx loops (calling modules fx extra n (suc d)) m (instr.Call g ∷ rest) st
    (s ++ I64 v ∷ I64 lo ∷ I64 hi ∷ I64 k ∷ [])
    ≡ (if is_less w64 v lo then stopped_by k st.out
    else (if is_less w64 hi v then stopped_by k st.out
    else effect modules fx loops (calling modules fx extra n (suc d)) m rest st (s ++ I64 v ∷ [])))

-- a call of div or mod, if check is the function 4 of its module
abbrev pub DivCalled : Type 0
DivCalled =
    (modules : List WModule) (fx : Fixed) (extra : (k f : ℕ) → ℕ)
    (n d loops m g own f index c check_index : ℕ) → (st : State)
    → callee_at (store_of fx st.bytes) m g ≡ Some (Own own f)
    → own_function modules own f
    ≡ Some (helper (types.I64 ∷ types.I64 ∷ []) (types.I64 ∷ []) index (divisor_checked div_rest))
    → callee_at (store_of fx st.bytes) own 4 ≡ Some (Own own c)
    → own_function modules own c ≡ Some (check_typed check_index)
    → callee_at (store_of fx st.bytes) own 1 ≡ Some Stop
    → (x y : ℕ) (s : List Value) (rest : List Instr)
    → effect modules fx loops (calling modules fx extra n (suc (suc d))) m (instr.Call g ∷ rest) st
    (s ++ I64 x ∷ I64 y ∷ [])
    ≡ (if is_less w64 y 1 then Ended 4 st.out
    else (if is_less w64 4294967295 y then Ended 4 st.out
    else effect modules fx loops (calling modules fx extra n (suc (suc d))) m rest st
    (s ++ I64 (divided_down x y) ∷ [])))

abbrev pub ModCalled : Type 0
ModCalled =
    (modules : List WModule) (fx : Fixed) (extra : (k f : ℕ) → ℕ)
    (n d loops m g own f index c check_index : ℕ) → (st : State)
    → callee_at (store_of fx st.bytes) m g ≡ Some (Own own f)
    → own_function modules own f ≡ Some (mod_typed index)
    → callee_at (store_of fx st.bytes) own 4 ≡ Some (Own own c)
    → own_function modules own c ≡ Some (check_typed check_index)
    → callee_at (store_of fx st.bytes) own 1 ≡ Some Stop
    → (x y : ℕ) (s : List Value) (rest : List Instr)
    → effect modules fx loops (calling modules fx extra n (suc (suc d))) m (instr.Call g ∷ rest) st
    (s ++ I64 x ∷ I64 y ∷ [])
    ≡ (if is_less w64 y 1 then Ended 4 st.out
    else (if is_less w64 4294967295 y then Ended 4 st.out
    else effect modules fx loops (calling modules fx extra n (suc (suc d))) m rest st
    (s ++ I64 (modulo x y) ∷ [])))

-- a function with one i32 that stands in the table is called, also if another module has it: what
-- link's code does for each
abbrev pub TableCalled : Type 0
TableCalled =
    (modules : List WModule) (fx : Fixed) (n : ℕ) (calls : Calling) (m top g slot type own f : ℕ)
    (t : Typed) (st : State)
    → global_at (store_of fx st.bytes) m g ≡ Some (I32 slot)
    → callee_in (store_of fx st.bytes) m slot ≡ Some (Own own f)
    → own_function modules own f ≡ Some t
    → agree (type_at modules m type) (Some t.type) ≡ true
    → t.type ≡ record { params = types.I32 ∷ []; results = [] }
    → (s : List Value) (rest : List Instr)
    → effect modules fx n calls m
    (instr.I32Const top ∷ instr.GlobalGet g ∷ instr.CallIndirect type ∷ rest) st s
    ≡ then_run
    (back (length t.type.results) st.locals s (calls own f t (I32 top ∷ []) st.bytes st.out))
    (effect modules fx n calls m rest)

-- the quotient is rounded down, and the remainder is from 0 up to the divisor: as the language
-- divides
pub record Divides (x y q r : ℤ) : Type 0 where
  pub sum : x ≡ q *ℤ y +ℤ r
  pub least : pos 0 ≤ℤ r
  pub below : r <ℤ y

abbrev pub DividesDown : Type 0
DividesDown =
    (x y : ℤ)
    → negsuc (2 ^ 62) ≤ℤ x
    → x ≤ℤ pos (2 ^ 62)
    → pos 1 ≤ℤ y
    → y ≤ℤ pos 4294967295
    → Divides x y (cast_signed w64 (divided_down (cast_unsigned w64 x) (cast_unsigned w64 y)))
    (cast_signed w64 (modulo (cast_unsigned w64 x) (cast_unsigned w64 y)))
