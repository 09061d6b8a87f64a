-- The laws of value types, and of parts told apart by a byte.
use Rattle.std.proofs.Common.{◌≡◌, ℕ, true, cond, eqb, ◌⊎◌, List, [], ◌∷◌, ◌++◌, Result, Ok, Err, refl, sym, ap, ◌∙◌, inl, inr}
use Rattle.std.proofs.lemmas.Bool.{eqb-true, cases_Bool}
use Rattle.wasm_tree.specs.declared.fault.WFault.{WFault}
use Rattle.wasm_tree.specs.declared.fault.WFault.TheVariants.{OutsideProfile}
use Rattle.wasm_tree.specs.declared.kinds.ValueType.{ValueType}
use Rattle.wasm_tree.specs.declared.kinds.ValueType.TheVariants.{I32, I64}
use Rattle.wasm_tree.specs.Format.{Format, Reading, ◌>>=◌, skip}
use Rattle.wasm_code.specs.Parts.{◌◂◌, ◌·◌}
use Rattle.wasm_code.specs.Instructions.{value_type}
use Rattle.wasm_code.proofs.Laws.{IsBytes, IsBytes-tail, bind_ok, guard_ok, read_is, put_before, Taken, taken_at, Law}

-- ---- a byte that says which of several parts follows

pub if_tag : {A : Type 0} (b k : ℕ) (r s : Result A WFault) (z : Result A WFault) → cond (eqb b k) r s ≡ z
    → ((b ≡ k) × (r ≡ z)) ⊎ (s ≡ z)
if_tag b k r s z e =
    elim (cases_Bool (eqb b k)) [
      | inl same ↦ inl (eqb-true b k same, rw same at e)
      | inr other ↦ inr (rw other at e)
    ]

-- a reading, seen as another value
abbrev pub read_as : {A B : Type 0} → (A → B) → Reading A → Reading B
read_as make r = r >>= λ t. Ok (make t.0, t.1)

-- the format f encodes what make makes as the byte k and the part
module _ {A B : Type 0} (f : Format B) (p : Format A) (make : A → B) (k : ℕ) (law : Law p)
    (encoded : (t : A) → f.encoding (make t) ≡ k ∷ p.encoding t) (fit : (t : A) → f.fits (make t) ≡ p.fits t) where
  pub tagged : (b : ℕ) (bytes : List ℕ) (x : B) (rest : List ℕ) → IsBytes bytes → b ≡ k
      → read_as make (p.reading bytes) ≡ Ok (x, rest) → Taken f (b ∷ bytes) x rest
  tagged b bytes x rest fits tag e =
      let a = bind_ok (p.reading bytes) (λ t. Ok (make t.0, t.1)) (x, rest) e in
      let is = read_is (make a.0.0) x a.0.1 rest a.2 in
      let t = law.takes bytes a.0.0 a.0.1 fits a.1 in
      let encodes : f.encoding (make a.0.0) ≡ b ∷ p.encoding a.0.0 = encoded a.0.0
      ∙ ap (λ (c : ℕ). c ∷ p.encoding a.0.0) (sym tag) in
      taken_at f (b ∷ bytes) (make a.0.0) x a.0.1 rest is
      (record {
        parts = put_before b bytes (p.encoding a.0.0) a.0.1 a.0.1 (f.encoding (make a.0.0)) t.parts refl
            encodes;
        rest_fits = t.rest_fits;
        fits = fit a.0.0 ∙ t.fits;
      })

-- the same, with a byte behind the part
pub bind_behind : {A B : Type 0} (p : Format A) (make : A → B) (c : ℕ) (bytes : List ℕ) (z : B × List ℕ)
    → (p.reading bytes >>= λ t. skip c t.1 >>= λ s. Ok (make t.0, s.1)) ≡ Ok z
    → read_as make ((p ◂ c).reading bytes) ≡ Ok z
bind_behind {A} p make c bytes z e =
    let a = bind_ok (p.reading bytes) (λ t. skip c t.1 >>= λ s. Ok (make t.0, s.1)) z e in
    let b = bind_ok (skip c a.0.1) (λ s. Ok (make a.0.0, s.1)) z a.2 in
    ap (λ (r : Reading A). read_as make (r >>= λ x. skip c x.1 >>= λ s. Ok (x.0, s.1))) a.1
    ∙ ap (λ (r : Reading (Unit {0})). read_as make (r >>= λ s. Ok (a.0.0, s.1))) b.1 ∙ b.2

-- the same, of two parts
pub bind_pair : {A B C : Type 0} (p : Format A) (q : Format B) (make : A × B → C) (bytes : List ℕ) (z : C × List ℕ)
    → (p.reading bytes >>= λ x. q.reading x.1 >>= λ y. Ok (make (x.0, y.0), y.1)) ≡ Ok z
    → read_as make ((p · q).reading bytes) ≡ Ok z
bind_pair {A} {B} p q make bytes z e =
    let a = bind_ok (p.reading bytes) (λ x. q.reading x.1 >>= λ y. Ok (make (x.0, y.0), y.1)) z e in
    let b = bind_ok (q.reading a.0.1) (λ y. Ok (make (a.0.0, y.0), y.1)) z a.2 in
    ap (λ (r : Reading A). read_as make (r >>= λ x. q.reading x.1 >>= λ y. Ok ((x.0, y.0), y.1))) a.1
    ∙ ap (λ (r : Reading B). read_as make (r >>= λ y. Ok ((a.0.0, y.0), y.1))) b.1 ∙ b.2

-- ---- types

value_type_takes : (bytes : List ℕ) (x : ValueType) (rest : List ℕ) → IsBytes bytes
    → value_type.reading bytes ≡ Ok (x, rest) → Taken value_type bytes x rest
unfolding value_type
value_type_takes [] x rest fits e = absurd cc
value_type_takes (b ∷ bytes) x rest fits e =
    elim (if_tag b 0x7F (Ok (I32, bytes)) (cond (eqb b 0x7E) (Ok (I64, bytes)) (Err OutsideProfile)) (Ok (x, rest)) e) [
      | inl t ↦
          taken_at value_type (b ∷ bytes) I32 x bytes rest (read_is I32 x bytes rest t.1)
          (record { parts = ap (λ (c : ℕ). c ∷ bytes) t.0; rest_fits = IsBytes-tail b bytes fits; fits = refl })
      | inr e1 ↦
          let g = guard_ok (eqb b 0x7E) OutsideProfile (Ok (I64, bytes)) (x, rest) e1 in
          taken_at value_type (b ∷ bytes) I64 x bytes rest (read_is I64 x bytes rest g.1)
          (record {
            parts = ap (λ (c : ℕ). c ∷ bytes) (eqb-true b 0x7E g.0);
            rest_fits =
                IsBytes-tail b bytes fits;
            fits = refl;
          })
    ]

value_type_again : (x : ValueType) (rest : List ℕ) → value_type.fits x ≡ true
    → value_type.reading (value_type.encoding x ++ rest) ≡ Ok (x, rest)
unfolding value_type
value_type_again I32 rest fits = refl
value_type_again I64 rest fits = refl

pub value_type_law : Law value_type
value_type_law = record { takes = value_type_takes; again = value_type_again }

pub value_type_fits : (x : ValueType) → value_type.fits x ≡ true
unfolding value_type
value_type_fits x = refl
