-- The first module alone is a program.
use Rattle.std.proofs.Common.{◌≡◌, ℕ, zero, suc, ◌+◌, ◌<◌, ◌≤◌, ◌==◌, Bool, true, false, List, length, get_or, Some, ⊎_elim, refl, sym, ap, subst, ◌∙◌, ne_eqb, arith}
use Rattle.std.specs.Prelude.{slice_get}
use Rattle.std.proofs.lemmas.Bool.{cases_eq}
use Rattle.std.proofs.lemmas.Option.{slice_get_read, slice_get_within, get_or_from_slice_get}
use Rattle.link_parts.specs.declared.part.Part.{Part}

-- so far
abbrev pub AreFirst : List Part → ℕ → Type 0
AreFirst parts k = (n : ℕ) (p : Part) → n < k → slice_get parts n ≡ Some p → p.is_program ≡ (n == 0)

module _ (parts : List Part) where
  pub first_none : AreFirst parts 0
  first_none n p lt at = absurd (omega arith)

  pub first_more : (k : ℕ) (x : Part) → k < length parts → x ≡ get_or parts k x → x.is_program ≡ (k == 0)
      → AreFirst parts k → AreFirst parts (k + 1)
  first_more k x lt is here so_far n p below at = ⊎_elim
      (λ same. let found : slice_get parts k ≡ Some p = subst (λ (m : ℕ). slice_get parts m ≡ Some p) same at in
      let one : x ≡ p = is ∙ get_or_from_slice_get parts k p x found in
      ap (λ (q : Part). q.is_program) (sym one) ∙ here ∙ ap (λ (m : ℕ). m == 0) (sym same))
      (λ other. so_far n p (omega arith) at)
      (cases_eq n k)

  pub all_first : (k : ℕ) → length parts ≤ k → AreFirst parts k → (n : ℕ) (p : Part) → slice_get parts n ≡ Some p
      → p.is_program ≡ (n == 0)
  all_first k long so_far n p at = so_far n p (let lt = slice_get_within parts n p at in omega arith) at

  pub there : (k : ℕ) (x : Part) → k < length parts → x ≡ get_or parts k x → slice_get parts k ≡ Some x
  there k x lt is = slice_get_read parts (length parts) k x refl lt is

pub here_first : (k : ℕ) (b : Bool) → b ≡ true → k ≤ 0 → b ≡ (k == 0)
here_first zero b h low = h
here_first (suc k) b h low = absurd (omega arith)

pub here_other : (k : ℕ) (b : Bool) → b ≡ false → 0 < k → b ≡ (k == 0)
here_other zero b h lt = absurd (omega arith)
here_other (suc k) b h lt = h ∙ sym (ne_eqb (suc k) 0 (λ e. omega (arith, e)))
