-- What a call of a known function comes to, with the number of reductions.
use Rattle.std.specs.Prelude.{◌≡◌, false, ℕ, ◌+◌, ◌-◌, ◌*◌, ◌≤◌, ◌<◌, ◌^◌, ◌%◌, List, [], ◌∷◌, ◌++◌, length, Some}
use Rattle.std.specs.Int.{w64}
use Rattle.wasm_tree.specs.declared.instr.Instr.{Instr}
use Rattle.wasm_tree.specs.declared.instr.Instr.TheVariants as instr
use Rattle.wasm_tree.specs.declared.instr.Operation.TheVariants.{DivS, RemS}
use Rattle.wasm_tree.specs.declared.module.WModule.{WModule}
use Rattle.wasm_tree.specs.declared.store.Value.{Value}
use Rattle.wasm_tree.specs.declared.store.Value.TheVariants.{I32, I64}
use Rattle.wasm_tree.specs.declared.store.Callee.TheVariants.{Own}
use Rattle.wasm_tree.specs.declared.store.Memory.{Memory}
use Rattle.wasm_tree.specs.declared.store.Store.{Store}
use Rattle.wasm_tree.specs.Numbers.{truth, is_less, operation_result}
use Rattle.wasm_tree.specs.Machine.{Activation, Config, Going, callee_at, own_function, memory_of, with_memory_bytes, run}
use Rattle.law_effect.specs.Bytes.{byte, copied_bytes, cleared_bytes}
use Rattle.wasm_helpers.specs.Codes.{check_typed, copy_typed, fill_typed, div_typed, mod_typed}

-- this many reductions lead from one configuration to another, and print nothing
pub record Leads (modules : List WModule) (n : ℕ) (c d : Config) : Type 0 where
  pub path : run modules n c ≡ (d, [])

-- a function that goes on with this code and these operands
abbrev pub with : Activation → List Instr → List Value → Activation
with now code stack = record now { rest = code; stack = stack }

-- a call of check with a number between its bounds leaves the number
abbrev pub CheckReturns : Type 0
CheckReturns =
    (modules : List WModule) (st : Store) (now : Activation) (callers : List Activation)
    (g own f index : ℕ)
    → callee_at st now.instance g ≡ Some (Own own f)
    → own_function modules own f ≡ Some (check_typed index)
    → (v lo hi k : ℕ) (below : List Value) (rest : List Instr)
    → is_less w64 v lo ≡ false
    → is_less w64 hi v ≡ false
    → Leads modules 14
    (Going st (with now (instr.Call g ∷ rest) (below ++ I64 v ∷ I64 lo ∷ I64 hi ∷ I64 k ∷ []))
    callers)
    (Going st (with now rest (below ++ I64 v ∷ [])) callers)

-- so does the number on top if three constants stand in front of the call: its bounds, and what it
-- ends with if it is not between them
abbrev pub bounds_before : (lo hi k g : ℕ) → List Instr → List Instr
bounds_before lo hi k g rest =
    instr.I64Const lo ∷ instr.I64Const hi ∷ instr.I64Const k ∷ instr.Call g ∷ rest

abbrev pub BoundsReturn : Type 0
BoundsReturn =
    (modules : List WModule) (st : Store) (now : Activation) (callers : List Activation)
    (g own f index : ℕ)
    → callee_at st now.instance g ≡ Some (Own own f)
    → own_function modules own f ≡ Some (check_typed index)
    → (v lo hi k : ℕ) (below : List Value) (rest : List Instr)
    → is_less w64 v lo ≡ false
    → is_less w64 hi v ≡ false
    → Leads modules 17
    (Going st (with now (bounds_before lo hi k g rest) (below ++ I64 v ∷ [])) callers)
    (Going st (with now rest (below ++ I64 v ∷ [])) callers)

-- a call of fill, if the bytes are there, clears them
abbrev pub fill_reductions : (count : ℕ) → ℕ
fill_reductions count = count * 16 + 7

abbrev pub FillReturns : Type 0
FillReturns =
    (modules : List WModule) (st : Store) (now : Activation) (callers : List Activation)
    (g own f index place : ℕ) (memory : Memory)
    → callee_at st now.instance g ≡ Some (Own own f)
    → own_function modules own f ≡ Some (fill_typed index)
    → memory_of st own ≡ Some (place, memory)
    → (to k : ℕ) (below : List Value) (rest : List Instr)
    → to + k ≤ length memory.bytes
    → length memory.bytes < 2 ^ 32
    → Leads modules (fill_reductions k)
    (Going st (with now (instr.Call g ∷ rest) (below ++ I32 to ∷ I32 k ∷ [])) callers)
    (Going (with_memory_bytes st place memory (cleared_bytes k to memory.bytes))
    (with now rest below) callers)

-- a call of copy, if the bytes are there and have room, copies them from the first on
abbrev pub copy_reductions : (count : ℕ) → ℕ
copy_reductions count = count * 21 + 7

abbrev pub CopyReturns : Type 0
CopyReturns =
    (modules : List WModule) (st : Store) (now : Activation) (callers : List Activation)
    (g own f index place : ℕ) (memory : Memory)
    → callee_at st now.instance g ≡ Some (Own own f)
    → own_function modules own f ≡ Some (copy_typed index)
    → memory_of st own ≡ Some (place, memory)
    → (to from k : ℕ) (below : List Value) (rest : List Instr)
    → to + k ≤ length memory.bytes
    → from + k ≤ length memory.bytes
    → ((a : ℕ) → byte a memory.bytes < 256)
    → length memory.bytes < 2 ^ 32
    → Leads modules (copy_reductions k)
    (Going st (with now (instr.Call g ∷ rest) (below ++ I32 to ∷ I32 from ∷ I32 k ∷ [])) callers)
    (Going (with_memory_bytes st place memory (copied_bytes k to from memory.bytes))
    (with now rest below) callers)

-- what div and mod have: they stand in the module own, whose function 4 is check, and the divisor
-- is between its bounds
pub record Divides (modules : List WModule) (st : Store) (own y : ℕ) : Type 0 where
  pub check : ℕ
  pub type : ℕ
  pub callee : callee_at st own 4 ≡ Some (Own own check)
  pub typed : own_function modules own check ≡ Some (check_typed type)
  pub at_least : is_less w64 y 1 ≡ false
  pub at_most : is_less w64 4294967295 y ≡ false

-- the quotient and the remainder, rounded down by the sign of the remainder
abbrev pub quotient_down : (q r : ℕ) → ℕ
quotient_down q r = (q + (2 ^ 64 - truth (is_less w64 r 0))) % 2 ^ 64

abbrev pub remainder_up : (r y : ℕ) → ℕ
remainder_up r y = (r + truth (is_less w64 r 0) * y % 2 ^ 64) % 2 ^ 64

abbrev pub DivReturns : Type 0
DivReturns =
    (modules : List WModule) (st : Store) (now : Activation) (callers : List Activation)
    (g own f index : ℕ)
    → callee_at st now.instance g ≡ Some (Own own f)
    → own_function modules own f ≡ Some (div_typed index)
    → (x y q r : ℕ) (below : List Value) (rest : List Instr)
    → Divides modules st own y
    → operation_result DivS x y ≡ Some q
    → operation_result RemS x y ≡ Some r
    → Leads modules 31
    (Going st (with now (instr.Call g ∷ rest) (below ++ I64 x ∷ I64 y ∷ [])) callers)
    (Going st (with now rest (below ++ I64 (quotient_down q r) ∷ [])) callers)

abbrev pub ModReturns : Type 0
ModReturns =
    (modules : List WModule) (st : Store) (now : Activation) (callers : List Activation)
    (g own f index : ℕ)
    → callee_at st now.instance g ≡ Some (Own own f)
    → own_function modules own f ≡ Some (mod_typed index)
    → (x y r : ℕ) (below : List Value) (rest : List Instr)
    → Divides modules st own y
    → operation_result RemS x y ≡ Some r
    → Leads modules 32
    (Going st (with now (instr.Call g ∷ rest) (below ++ I64 x ∷ I64 y ∷ [])) callers)
    (Going st (with now rest (below ++ I64 (remainder_up r y) ∷ [])) callers)
