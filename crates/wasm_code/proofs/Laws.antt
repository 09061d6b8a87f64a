-- The two laws of a format: what is read was encoded so, and what is encoded is read again.
use Rattle.std.proofs.Common.{◌≡◌, ℕ, suc, ◌+◌, ◌<◌, Bool, true, false, cond, List, [], ◌∷◌, ◌++◌, length, get_or, take, drop, Result, Ok, Err, refl, sym, ap, subst, ◌∙◌, arith, inl, inr}
use Rattle.std.proofs.lemmas.Bool.{cases_lt}
use Rattle.std.proofs.lemmas.List.{append-nil, length-take, get_or-drop, get_or-take, get_or_past, get_or-append-add}
use Rattle.wasm_tree.specs.declared.fault.WFault.{WFault}
use Rattle.wasm_tree.specs.Format.{Format, ◌>>=◌}

abbrev pub IsBytes : List ℕ → Type 0
IsBytes bytes = (i : ℕ) → get_or bytes i 0 < 256

pub IsBytes-drop : (n : ℕ) (bytes : List ℕ) → IsBytes bytes → IsBytes (drop n bytes)
IsBytes-drop n bytes h i = rw get_or-drop (h (n + i))

pub IsBytes-take : (n : ℕ) (bytes : List ℕ) → IsBytes bytes → IsBytes (take n bytes)
IsBytes-take n bytes h i =
    elim (cases_lt i n) [
      | inl lt ↦ rw (get_or-take n bytes i 0 lt) (h i)
      | inr le ↦ rw (get_or_past (take n bytes) i 0 (omega (arith, length-take n bytes))) (omega arith)
    ]

pub IsBytes-tail : (b : ℕ) (bytes : List ℕ) → IsBytes (b ∷ bytes) → IsBytes bytes
IsBytes-tail b bytes h i = h (suc i)

-- what stands behind a text
pub IsBytes-after : (bytes text rest : List ℕ) → bytes ≡ text ++ rest → IsBytes bytes → IsBytes rest
IsBytes-after bytes text rest e h i = rw (← get_or-append-add text rest i 0, ← e) (h (length text + i))

-- the value of a step that did not fail
pub bind_ok : {A B : Type 0} (r : Result A WFault) (f : A → Result B WFault) (y : B) → (r >>= f) ≡ Ok y → (x : A)
    × (r ≡ Ok x) × (f x ≡ Ok y)
bind_ok (Ok x) f y e = (x, refl, e)
bind_ok (Err d) f y e = absurd cc

-- a test that did not fail
pub guard_ok : {A : Type 0} (b : Bool) (d : WFault) (x : Result A WFault) (z : A) → cond b x (Err d) ≡ Ok z → (b ≡ true)
    × (x ≡ Ok z)
guard_ok true d x z e = (refl, e)
guard_ok false d x z e = absurd cc

pub otherwise_ok : {A : Type 0} (b : Bool) (d : WFault) (y : Result A WFault) (z : A) → cond b (Err d) y ≡ Ok z
    → (b ≡ false) × (y ≡ Ok z)
otherwise_ok true d y z e = absurd cc
otherwise_ok false d y z e = (refl, e)

abbrev done : {A : Type 0} → A → Result A WFault
done x = Ok x

pub ok_is : {A : Type 0} (x y : A) → done x ≡ done y → x ≡ y
ok_is x y e = cc

-- what was read, and what is left
pub read_is : {A : Type 0} (x y : A) (b c : List ℕ) → done {A = A × List ℕ} (x, b) ≡ done (y, c) → (x ≡ y) × (b ≡ c)
read_is {A} x y b c e = (
  ap (λ (p : A × List ℕ). p.0) (ok_is {A = A × List ℕ} (x, b) (y, c) e),
  ap
      (λ (p : A × List ℕ). p.1) (ok_is {A = A × List ℕ} (x, b) (y, c) e),
)

-- what a reading took from the front
pub record Taken {A : Type 0} (p : Format A) (bytes : List ℕ) (x : A) (rest : List ℕ) : Type 0 where
  pub parts : bytes ≡ p.encoding x ++ rest
  pub rest_fits : IsBytes rest
  pub fits : p.fits x ≡ true

pub taken_at : {A : Type 0} (p : Format A) (bytes : List ℕ) (x y : A) (b c : List ℕ) → (x ≡ y) × (b ≡ c)
    → Taken p bytes x b → Taken p bytes y c
taken_at p bytes x y b c is t = subst (λ z. Taken p bytes z c) is.0 (subst (λ r. Taken p bytes x r) is.1 t)

pub record Law {A : Type 0} (p : Format A) : Type 0 where
  pub takes : (bytes : List ℕ) (x : A) (rest : List ℕ) → IsBytes bytes → p.reading bytes ≡ Ok (x, rest)
      → Taken p bytes x rest
  pub again : (x : A) (rest : List ℕ) → p.fits x ≡ true → p.reading (p.encoding x ++ rest) ≡ Ok (x, rest)

-- the same of a format that is read from bytes of its own
pub record WholeLaw {A : Type 0} (p : Format A) : Type 0 where
  pub takes : (bytes : List ℕ) (x : A) (rest : List ℕ) → IsBytes bytes → p.reading bytes ≡ Ok (x, rest)
      → Taken p bytes x rest
  pub again : (x : A) → p.fits x ≡ true → p.reading (p.encoding x) ≡ Ok (x, [])

pub whole : {A : Type 0} (p : Format A) → Law p → WholeLaw p
whole p law = record {
  takes = law.takes;
  again = λ x fits. ap p.reading (sym (append-nil (p.encoding x)))
      ∙ law.again x [] fits;
}

-- a byte before what was read
pub put_before : (b : ℕ) (bytes text mid rest encoded : List ℕ) → bytes ≡ text ++ mid → mid ≡ rest → encoded ≡ b ∷ text
    → b ∷ bytes ≡ encoded ++ rest
put_before b bytes text mid rest encoded e same is =
    ap (λ (t : List ℕ). b ∷ t) (e ∙ ap (λ (r : List ℕ). text ++ r) same) ∙ ap (λ (s : List ℕ). s ++ rest) (sym is)
