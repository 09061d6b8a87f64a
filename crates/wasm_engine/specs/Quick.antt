-- Several reductions at once.
use Rattle.std.specs.Prelude.{◌≡◌, ◌≤◌, ◌<◌, ◌^◌, false, true, ℕ, Bool, List, [], ◌∷◌, ◌++◌, length, slice_get, slice_set, Option, Some}
use Rattle.std.specs.Option.{option_and_then}
use Rattle.std.specs.Int.{w64}
use Rattle.wasm_tree.specs.declared.module.WModule.{WModule}
use Rattle.wasm_tree.specs.declared.instr.Instr.{Instr}
use Rattle.wasm_tree.specs.declared.instr.Instr.TheVariants.{Call, I32Const, I64Const}
use Rattle.wasm_tree.specs.declared.instr.Numeric.{Numeric}
use Rattle.wasm_tree.specs.declared.instr.Operation.TheVariants.{DivS, RemS}
use Rattle.wasm_tree.specs.Code.{tree}
use Rattle.wasm_tree.specs.declared.store.Value.{Value}
use Rattle.wasm_tree.specs.declared.store.Value.TheVariants.{I32, I64}
use Rattle.wasm_tree.specs.Numbers.{is_less, operation_result}
use Rattle.wasm_tree.specs.declared.store.Instance.{Instance}
use Rattle.wasm_tree.specs.declared.store.Memory.{Memory}
use Rattle.wasm_tree.specs.declared.store.Store.{Store}
use Rattle.wasm_tree.specs.Machine.{Config, calculation, instance_of, run}
use Rattle.law_effect.specs.Bytes.{byte}
use Rattle.wasm_known.specs.declared.table.KnownFunction.{KnownFunction}
use Rattle.wasm_known.specs.Known.{quotient_down, remainder_up}
use Rattle.wasm_known.specs.declared.table.KnownFunction.TheVariants as kind
use Rattle.wasm_known.specs.Table.{Means, StaysRight}
use Rattle.wasm_sound.specs.Ready.{AreI64}
use Rattle.wasm_machine.specs.declared.frame.Machine.{Machine}
use Rattle.wasm_machine.specs.Going.{going, store_of}
use Rattle.wasm_machine.specs.Well.{IsWell}

-- what the engine keeps: where the run is is well typed, and the table of known functions is right
-- there
pub record Holds (modules : List WModule) (table : List (List KnownFunction)) (c : Config)
    : Type 0 where
  pub well : IsWell modules c
  pub right : StaysRight modules table c

-- this many reductions lead there, and print nothing
abbrev pub Goes : List WModule → (n : ℕ) → (old new : Config) → Type 0
Goes modules n old new = (new, []) ≡ run modules n old

-- the number is between its bounds
abbrev pub IsBetween : (number lo hi : ℕ) → Type 0
IsBetween number lo hi = (is_less w64 number lo ≡ false) × (is_less w64 hi number ≡ false)

-- the operands of check are on top
abbrev pub HasFour : List Value → Type 0
HasFour stack =
    (below : List Value) × (v lo hi k : ℕ) × (stack ≡ below ++ I64 v ∷ I64 lo ∷ I64 hi ∷ I64 k ∷ [])

-- the number was between its bounds and is left alone on top, or all operands are as before
abbrev pub Checked : Bool → (old new : List Value) → Type 0
Checked false old new = new ≡ old
Checked true old new =
    (below : List Value) × (v lo hi k : ℕ) × (old ≡ below ++ I64 v ∷ I64 lo ∷ I64 hi ∷ I64 k ∷ [])
    × IsBetween v lo hi × (new ≡ below ++ I64 v ∷ [])

abbrev pub least_divisor : ℕ
least_divisor = 1

abbrev pub greatest_divisor : ℕ
greatest_divisor = 4294967295

-- the quotient rounded down, and the remainder from 0 up, if the divisor is between its bounds and
-- division is defined
abbrev pub IsQuotient : (x y n : ℕ) → Type 0
IsQuotient x y n =
    IsBetween y least_divisor greatest_divisor × (q r : ℕ) × (operation_result DivS x y ≡ Some q)
    × (operation_result RemS x y ≡ Some r) × (n ≡ quotient_down q r)

abbrev pub IsRemainder : (x y n : ℕ) → Type 0
IsRemainder x y n =
    IsBetween y least_divisor greatest_divisor × (r : ℕ) × (operation_result RemS x y ≡ Some r)
    × (n ≡ remainder_up r y)

-- a number was made of the two on top and is left in their place, or they are as before
abbrev pub Replaced : (Is : (x y n : ℕ) → Type 0) → Bool → (old new : List Value) → Type 0
Replaced Is false old new = new ≡ old
Replaced Is true old new =
    (below : List Value) × (x y n : ℕ) × (old ≡ below ++ I64 x ∷ I64 y ∷ []) × Is x y n
    × (new ≡ below ++ I64 n ∷ [])

-- what div or mod makes of two numbers
abbrev pub IsDivision : KnownFunction → (x y n : ℕ) → Type 0
IsDivision kind.Divide x y n = IsQuotient x y n
IsDivision kind.Modulo x y n = IsRemainder x y n
IsDivision kind.Check x y n = ⊥
IsDivision kind.Fill x y n = ⊥
IsDivision kind.Copy x y n = ⊥
IsDivision kind.Other x y n = ⊥

-- the operands of check, div or mod are on top
abbrev pub HasArguments : KnownFunction → List Value → Type 0
HasArguments kind.Check stack = HasFour stack
HasArguments kind.Divide stack = AreI64 stack
HasArguments kind.Modulo stack = AreI64 stack
HasArguments kind.Fill stack = Unit {0}
HasArguments kind.Copy stack = Unit {0}
HasArguments kind.Other stack = Unit {0}

-- what check, div or mod makes of its operands is left in their place, or they are as before
abbrev pub Calculated : KnownFunction → Bool → (old new : List Value) → Type 0
Calculated kind.Check done old new = Checked done old new
Calculated kind.Divide done old new = Replaced IsQuotient done old new
Calculated kind.Modulo done old new = Replaced IsRemainder done old new
Calculated kind.Fill done old new = (done ≡ false) × (new ≡ old)
Calculated kind.Copy done old new = (done ≡ false) × (new ≡ old)
Calculated kind.Other done old new = (done ≡ false) × (new ≡ old)

-- how many reductions a call of check, div or mod makes if it ends
abbrev pub reductions : KnownFunction → ℕ
reductions kind.Check = 14
reductions kind.Divide = 31
reductions kind.Modulo = 32
reductions kind.Fill = 0
reductions kind.Copy = 0
reductions kind.Other = 0

-- a call of a known function is next
pub record Calls (modules : List WModule) (m : Machine) (k : KnownFunction) (g : ℕ)
    (rest : List Instr) : Type 0 where
  pub next : tree m.now.rest.now ≡ Call g ∷ rest
  pub known : ∥ Means modules (store_of m) m.now.instance g k ∥₁
  pub sound : ∥ IsWell modules (going m) ∥₁

-- where the memory of a module stands
abbrev pub memory_place : Store → (m : ℕ) → Option ℕ
memory_place st m = option_and_then (λ (i : Instance). slice_get i.memories 0) (instance_of st m)

-- the operands of copy are on top
abbrev pub HasThree : List Value → Type 0
HasThree stack =
    (below : List Value) × (to from k : ℕ) × (stack ≡ below ++ I32 to ∷ I32 from ∷ I32 k ∷ [])

-- a module's memory, which stands at this place, reaches so far, and is no memory of 2^32 bytes
pub record Reaches (st : Store) (own reach : ℕ) (memories : List Memory) (place : ℕ) : Type 0 where
  pub memory : Memory
  pub at : memory_place st own ≡ Some place
  pub there : slice_get memories place ≡ Some memory
  pub reaches : reach ≤ length memory.bytes
  pub fits : length memory.bytes < 2 ^ 32
  pub small : (a : ℕ) → byte a memory.bytes < 256

-- the bytes of a module's memory, which reaches so far, were changed, or all is as before
abbrev pub Changed : Bool → Store → (own reach : ℕ) → (List ℕ → List ℕ) → (old new : List Memory)
    → Type 0
Changed false st own reach change old new = new ≡ old
Changed true st own reach change old new =
    (place : ℕ) × (found : Reaches st own reach old place)
    × (new ≡ slice_set old place (record found.memory { bytes = change found.memory.bytes }))

-- the instruction that pushes this number
abbrev pub pushing : Value → Instr
pushing (I32 n) = I32Const n
pushing (I64 n) = I64Const n

-- what this instruction makes of the operands, with this number above them, was put in their place,
-- or they are as before
abbrev pub Combined : Bool → Numeric → Value → (old new : List Value) → Type 0
Combined false o v old new = new ≡ old
Combined true o v old new =
    (below : List Value) × (w : Value) × (calculation o (old ++ v ∷ []) ≡ Some (below, w))
    × (new ≡ below ++ w ∷ [])
