-- When a byte decides that bytes encode no module, and which fault that is.
use Rattle.std.specs.Prelude.{◌≡◌, ◌↔◌, ℕ, suc, ◌<◌, List, [], ◌∷◌, ◌++◌, get_or, Some, Err}
use Rattle.wasm_tree.specs.declared.fault.WFault.{WFault}
use Rattle.wasm_tree.specs.declared.fault.WFault.TheVariants.{Malformed}
use Rattle.wasm_tree.specs.declared.module.WModule.{WModule}
use Rattle.wasm_binary.specs.Binary.{module_at, Encodes}
use Rattle.law_format.specs.Places.{Place, SectionNumber, fault_at, Cell}
use Rattle.law_format.specs.Layouts.{Mark, Byte, Closes, Last, Layout, Fits, layout_marks, flat, room, within}

-- some module, whatever sizes are stated of its parts, begins with these marks, and this one is
-- next
pub record Begins (front : List Mark) (next : Mark) : Type 0 where
  pub layout : Layout
  pub fits : Fits layout
  pub rest : List Mark
  pub marks : layout_marks layout ≡ front ++ (next ∷ rest)

-- no module goes on with this byte, in whatever place
abbrev pub CannotStand : List Mark → ℕ → Type 0
CannotStand front b = (place : Place) → ¬ (Begins front (Byte (place, b)))

-- The next mark, how many bytes the parts that are begun may still take, the bytes that are left
-- within these sizes, and the fault.
pub data Decides (front : List Mark) : Mark → List ℕ → List ℕ → WFault → Type 0 where
  -- a byte is missing: there is none, or a stated size is used up, and no module ends there
  NoByte : (cell : Cell) (rooms : List ℕ) → ¬ (Begins front Last)
      → Decides front (Byte cell) rooms [] Malformed
  -- the next byte cannot stand there
  WrongByte : (place : Place) (c b : ℕ) (more rooms : List ℕ) → CannotStand front b
      → Decides front (Byte (place, c)) rooms (b ∷ more) (fault_at place)
  -- a byte stands behind the module, in the place of a section number
  ByteBehind : (b : ℕ) (more rooms : List ℕ) → CannotStand front b
      → Decides front Last rooms (b ∷ more) (fault_at SectionNumber)
  -- a part ends before its stated size
  BytesLeft : (n : ℕ) (rooms bytes : List ℕ) → Decides front Closes (suc n ∷ rooms) bytes Malformed

-- Behind these marks, in which each stated size is kept, the fault is decided.
pub record FirstFault (bytes : List ℕ) (fault : WFault) : Type 0 where
  pub front : List Mark
  pub at : List ℕ
  pub parts : bytes ≡ flat front ++ at
  pub rooms : List ℕ
  pub kept : room [] front ≡ Some rooms
  pub next : Mark
  pub begins : Begins front next
  pub decides : Decides front next rooms (within rooms at) fault

-- if bytes encode no module, the reader answers the fault that the first deciding byte makes
abbrev pub FirstFaultDecides : Type 0
FirstFaultDecides =
    (bytes : List ℕ) → ((i : ℕ) → get_or bytes i 0 < 256) → (fault : WFault)
    → module_at bytes ≡ Err fault
    → FirstFault bytes fault

-- no bytes have two first faults
abbrev pub OneFault : Type 0
OneFault =
    (bytes : List ℕ) (one other : WFault) → FirstFault bytes one → FirstFault bytes other
    → one ≡ other

-- bytes that encode a module have none
abbrev pub ModulesHaveNone : Type 0
ModulesHaveNone =
    (bytes : List ℕ) (m : WModule) → Encodes bytes m → (fault : WFault) → ¬ (FirstFault bytes fault)

-- so the reader answers a fault exactly if it is the first fault of these bytes
abbrev pub ReaderAnswersFirst : Type 0
ReaderAnswersFirst =
    (bytes : List ℕ) → ((i : ℕ) → get_or bytes i 0 < 256) → (fault : WFault)
    → (module_at bytes ≡ Err fault) ↔ FirstFault bytes fault
