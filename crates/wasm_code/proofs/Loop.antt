-- Reading values one after the other, as a loop does.
use Rattle.std.proofs.Common.{◌≡◌, ℕ, suc, ◌-◌, ◌+◌, ◌≤◌, ◌<◌, List, [], ◌∷◌, ◌++◌, Some, None, Result, Ok, Err, refl, sym, ap, ◌∙◌, append_assoc, arith, ◌⊎◌, inl, inr}
use Rattle.std.proofs.lemmas.List.{append-nil}
use Rattle.wasm_tree.specs.declared.fault.WFault.{WFault}
use Rattle.wasm_tree.specs.declared.fault.WFault.TheVariants.{Malformed, OutsideProfile, Invalid, Unlinked, SegmentOutside, NoMemory}
use Rattle.wasm_tree.specs.Format.{Format, Reading, ◌>>=◌, Fails, byte_at}
use Rattle.wasm_code.proofs.Laws.{read_is}
use Rattle.wasm_tree.specs.declared.instr.Instr.{Instr}
use Rattle.wasm_code.specs.Parts.{many}
use Rattle.wasm_code.specs.declared.code.Ending.{Ending}
use Rattle.wasm_code.specs.Instructions.{ending_of, instr_of, Sequence, sequence}

-- what was read before, and what is still read
abbrev pub with_front : {A : Type 0} → List A → Reading (List A) → Reading (List A)
with_front front read = read >>= λ x. Ok (front ++ x.0, x.1)

-- one more value before what is still read
abbrev pub then_more : {A : Type 0} → A → Reading (List A) → Reading (List A)
then_more x read = read >>= λ xs. Ok (x ∷ xs.0, xs.1)

pub regroup : {A : Type 0} (front : List A) (x : A) (read : Reading (List A))
    → with_front front (then_more x read) ≡ with_front (front ++ x ∷ []) read
regroup {A} front x (Ok y) = ap (λ (xs : List A). Ok (xs, y.1)) (simp append_assoc)
regroup front x (Err f) = refl

-- the reading so far, where the next one reads a value and goes on
pub goes_on : {A : Type 0} (front : List A) (x : A) (now next total : Reading (List A)) → now ≡ then_more x next
    → with_front front now ≡ total → with_front (front ++ x ∷ []) next ≡ total
goes_on front x now next total e so_far = sym (regroup front x next) ∙ ap (with_front front) (sym e) ∙ so_far

-- the reading so far, where the next one fails
pub fails : {A : Type 0} (e : WFault) (front : List A) (now total : Reading (List A)) → Fails e now
    → with_front front now ≡ total → Fails e total
fails Malformed front now total h so_far = sym so_far ∙ rw h refl
fails OutsideProfile front now total h so_far = sym so_far ∙ rw h refl
fails Invalid front now total h so_far = sym so_far ∙ rw h refl
fails Unlinked front now total h so_far = sym so_far ∙ rw h refl
fails SegmentOutside front now total h so_far = sym so_far ∙ rw h refl
fails NoMemory front now total h so_far = tt

-- a fault of the first of two readings is one of both
pub fails_first : {A B : Type 0} (e : WFault) (first : Result A WFault) (next : A → Result B WFault) → Fails e first
    → Fails e (first >>= next)
fails_first Malformed first next h = rw h refl
fails_first OutsideProfile first next h = rw h refl
fails_first Invalid first next h = rw h refl
fails_first Unlinked first next h = rw h refl
fails_first SegmentOutside first next h = rw h refl
fails_first NoMemory first next h = tt

-- the reading so far, where nothing is left to read
pub is_whole : {A : Type 0} (front : List A) (rest : List ℕ) (now total : Reading (List A)) → now ≡ Ok ([], rest)
    → with_front front now ≡ total → total ≡ Ok (front, rest)
is_whole {A} front rest now total e so_far = sym so_far ∙ rw e (ap (λ (xs : List A). Ok (xs, rest)) (append-nil front))

pub one_less : (k most : ℕ) → k < most → most - k ≡ suc (most - (k + 1))
one_less k most h = omega arith

module _ {A : Type 0} (p : Format A) (count k : ℕ) (bytes : List ℕ) where
  pub many_more : (x : A) (after : List ℕ) → k < count → p.reading bytes ≡ Ok (x, after)
      → many p (count - k) bytes ≡ then_more x (many p (count - (k + 1)) after)
  unfolding many
  many_more x after h e = rw (one_less k count h, e) refl

  pub many_fail : (e : WFault) → k < count → Fails e (p.reading bytes) → Fails e (many p (count - k) bytes)
  unfolding many
  many_fail e h f = rw (one_less k count h)
      (fails_first e (p.reading bytes) (λ x. many p (count - (k + 1)) x.1 >>= λ xs. Ok (x.0 ∷ xs.0, xs.1)) f)

  pub many_none : count ≤ k → many p (count - k) bytes ≡ Ok ([], bytes)
  unfolding many
  many_none h = let none : count - k ≡ 0 = omega arith in rw none refl

-- what fails does so under another name
pub fails_same : {B : Type 0} (e : WFault) (now total : Result B WFault) → Fails e now → now ≡ total → Fails e total
fails_same Malformed now total h same = sym same ∙ h
fails_same OutsideProfile now total h same = sym same ∙ h
fails_same Invalid now total h same = sym same ∙ h
fails_same Unlinked now total h same = sym same ∙ h
fails_same SegmentOutside now total h same = sym same ∙ h
fails_same NoMemory now total h same = tt

-- instructions before those that are still read
abbrev pub with_instrs : List Instr → Reading Sequence → Reading Sequence
with_instrs front read = read >>= λ s. Ok ((front ++ s.0.0, s.0.1), s.1)

byte_is : (bytes : List ℕ) (b : ℕ) (after : List ℕ) → byte_at bytes ≡ Ok (b, after) → bytes ≡ b ∷ after
byte_is [] b after e = absurd cc
byte_is (c ∷ bytes) b after e = let is = read_is c b bytes after e in
    ap (λ (x : ℕ). x ∷ bytes) is.0 ∙ ap (λ (r : List ℕ). b ∷ r) is.1

module _ (op : ℕ → List ℕ → Reading Instr) (most k : ℕ) (bytes : List ℕ) where
  pub sequence_more : (b : ℕ) (mid : List ℕ) (i : Instr) (after : List ℕ) → k < most → byte_at bytes ≡ Ok (b, mid)
      → ending_of b ≡ None → instr_of op b mid ≡ Ok (i, after)
      → sequence op (most - k) bytes ≡ with_instrs (i ∷ []) (sequence op (most - (k + 1)) after)
  unfolding sequence
  sequence_more b mid i after h f n e = rw (one_less k most h, byte_is bytes b mid f, n, e, sequence) refl

  pub sequence_fail : (b : ℕ) (mid : List ℕ) (e : WFault) → k < most → byte_at bytes ≡ Ok (b, mid) → ending_of b ≡ None
      → Fails e (instr_of op b mid) → Fails e (sequence op (most - k) bytes)
  unfolding sequence
  sequence_fail b mid e h f n g = rw (one_less k most h, byte_is bytes b mid f, n, sequence)
      (fails_first e (instr_of op b mid) _ g)

  pub sequence_end : (b : ℕ) (mid : List ℕ) (e : Ending) → k < most → byte_at bytes ≡ Ok (b, mid) → ending_of b ≡ Some e
      → sequence op (most - k) bytes ≡ Ok (([], e), mid)
  unfolding sequence
  sequence_end b mid e h f n = rw (one_less k most h, byte_is bytes b mid f, n, sequence) refl

no_byte : (e : WFault) (bytes : List ℕ) → Fails e (byte_at bytes) → (e ≡ NoMemory) ⊎ (bytes ≡ [])
no_byte e [] h = inr refl
no_byte Malformed (b ∷ bytes) h = absurd cc
no_byte OutsideProfile (b ∷ bytes) h = absurd cc
no_byte Invalid (b ∷ bytes) h = absurd cc
no_byte Unlinked (b ∷ bytes) h = absurd cc
no_byte SegmentOutside (b ∷ bytes) h = absurd cc
no_byte NoMemory (b ∷ bytes) h = inl refl

pub sequence_cut : (op : ℕ → List ℕ → Reading Instr) (most k : ℕ) (bytes : List ℕ) (e : WFault) → k < most
    → Fails e (byte_at bytes) → Fails e (sequence op (most - k) bytes)
unfolding sequence
sequence_cut op most k [] e h f = rw (one_less k most h)
    (fails_first {A = ℕ × List ℕ} {B = Sequence × List ℕ} e (Err Malformed) (λ x. Err Malformed) f)
sequence_cut op most k (b ∷ bytes) e h f = elim (no_byte e (b ∷ bytes) f) [
  | inl none ↦ rw none tt
  | inr cut ↦ absurd cc
]

pub sequence_none : (op : ℕ → List ℕ → Reading Instr) (most k : ℕ) (bytes : List ℕ) → most ≤ k
    → sequence op (most - k) bytes ≡ Err Malformed
unfolding sequence
sequence_none op most k bytes h = let none : most - k ≡ 0 = omega arith in rw none refl
