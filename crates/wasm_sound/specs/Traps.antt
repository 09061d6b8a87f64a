-- The traps of the standard (Core 1.0, section 4.4): where an instruction traps though what it
-- needs is there.
use Rattle.std.specs.Prelude.{◌≡◌, ◌⊎◌, ℕ, ◌+◌, ◌<◌, false, List, [], ◌∷◌, ◌++◌, length, Option, Some, None}
use Rattle.wasm_tree.specs.declared.instr.Instr.{Instr}
use Rattle.wasm_tree.specs.declared.instr.Instr.TheOpen as layer
use Rattle.wasm_tree.specs.declared.instr.Numeric.{Numeric}
use Rattle.wasm_tree.specs.declared.instr.Numeric.TheVariants as numeric
use Rattle.wasm_tree.specs.declared.module.WModule.{WModule}
use Rattle.wasm_tree.specs.declared.store.Value.{Value}
use Rattle.wasm_tree.specs.declared.store.Value.TheVariants.{I32, I64}
use Rattle.wasm_tree.specs.declared.store.Callee.{Callee}
use Rattle.wasm_tree.specs.declared.store.Callee.TheVariants.{Put, Stop, Own}
use Rattle.wasm_tree.specs.declared.store.Memory.{Memory}
use Rattle.wasm_tree.specs.declared.store.Store.{Store}
use Rattle.wasm_tree.specs.Numbers.{operation_result, load_size, store_bytes}
use Rattle.wasm_tree.specs.Machine.{Activation, callee_at, callee_in, memory_of, type_at, callee_type, agree}

-- the host's stop ends with the numbers from 1 to 255 alone
abbrev pub CallTraps : List Value → Callee → Type 0
CallTraps stack Put = ⊥
CallTraps stack Stop =
    (below : List Value) × (n : ℕ) × (stack ≡ below ++ I64 n ∷ []) × ((n ≡ 0) ⊎ (255 < n))
CallTraps stack (Own m f) = ⊥

-- the slot is past the table or empty, or its function has another type than the one that is asked
-- for
abbrev pub SlotTraps : List WModule → Store → (m : ℕ) → List Value → (type_index slot : ℕ)
    → Option Callee → Type 0
SlotTraps modules st m stack index slot None = Unit {0}
SlotTraps modules st m stack index slot (Some c) =
    (agree (type_at modules m index) (callee_type modules c) ≡ false) ⊎ CallTraps stack c

-- the operation is not defined at these numbers
abbrev pub NumberTraps : Numeric → List Value → Type 0
NumberTraps (numeric.I64Operation o) stack =
    (below : List Value) × (n m : ℕ) × (stack ≡ below ++ I64 n ∷ I64 m ∷ [])
    × (operation_result o n m ≡ None)
NumberTraps o stack = ⊥

abbrev pub MayTrap : List WModule → Store → Activation → layer.Instr-F Instr → Type 0
MayTrap modules st now layer.Unreachable = Unit {0}
MayTrap modules st now (layer.Call f) =
    (c : Callee) × (callee_at st now.instance f ≡ Some c) × CallTraps now.stack c
MayTrap modules st now (layer.CallIndirect t) =
    (below : List Value) × (n : ℕ) × (now.stack ≡ below ++ I32 n ∷ [])
    × SlotTraps modules st now.instance below t n (callee_in st now.instance n)
-- the memory ends before the last byte
MayTrap modules st now (layer.Load kind) =
    (below : List Value) × (n : ℕ) × (m : ℕ × Memory) × (now.stack ≡ below ++ I32 n ∷ [])
    × (memory_of st now.instance ≡ Some m) × (length m.1.bytes < n + load_size kind)
MayTrap modules st now (layer.Store width) =
    (below : List Value) × (place n : ℕ) × (m : ℕ × Memory)
    × (now.stack ≡ below ++ I32 place ∷ I64 n ∷ [])
    × (memory_of st now.instance ≡ Some m)
    × (length m.1.bytes < place + length (store_bytes width n))
MayTrap modules st now (layer.Numeric o) = NumberTraps o now.stack
MayTrap modules st now _ = ⊥
