-- Formats: how a value is encoded in bytes, what is read at the front of bytes, and which values
-- can be encoded. A reading is a value with the bytes behind it, or the first fault from the left.
use Rattle.std.specs.Prelude.{◌≡◌, ℕ, Bool, List, [], ◌∷◌, Result, Ok, Err, ◌==◌, if◌then◌else◌}
use Rattle.wasm_tree.specs.declared.fault.WFault.{WFault}
use Rattle.wasm_tree.specs.declared.fault.WFault.TheVariants.{Malformed, OutsideProfile, Invalid, Unlinked, SegmentOutside, NoMemory}

abbrev pub Reading : Type 0 → Type 0
Reading A = Result (A × List ℕ) WFault

pub record Format (A : Type 0) : Type 0 where
  pub encoding : A → List ℕ
  pub reading : List ℕ → Reading A
  pub fits : A → Bool

infixl 10 ◌>>=◌
abbrev pub ◌>>=◌ : {A B : Type 0} → Result A WFault → (A → Result B WFault) → Result B WFault
(Ok x) >>= f = f x
(Err e) >>= f = Err e

-- what a function answered, seen by view, is this reading, unless a request for memory was refused
abbrev pub Fails : {B : Type 0} → WFault → Result B WFault → Type 0
Fails Malformed read = read ≡ Err Malformed
Fails OutsideProfile read = read ≡ Err OutsideProfile
Fails Invalid read = read ≡ Err Invalid
Fails Unlinked read = read ≡ Err Unlinked
Fails SegmentOutside read = read ≡ Err SegmentOutside
Fails NoMemory read = Unit {0}

abbrev pub Gives : {A B : Type 0} → (A → B) → Result A WFault → Result B WFault → Type 0
Gives view (Ok x) read = read ≡ Ok (view x)
Gives view (Err e) read = Fails e read

-- one byte
abbrev pub byte_at : List ℕ → Reading ℕ
byte_at [] = Err Malformed
byte_at (b ∷ bytes) = Ok (b, bytes)

-- a byte that has to stand there
abbrev pub skip : ℕ → List ℕ → Reading (Unit {0})
skip byte [] = Err Malformed
skip byte (b ∷ bytes) = if b == byte then Ok (tt, bytes) else Err Malformed
