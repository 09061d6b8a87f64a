-- Numbers cut to 32 bits.
use Rattle.std.proofs.Common.{◌≡◌, ℕ, ◌+◌, suc, List, [], ◌∷◌, ◌++◌, ap, ◌∙◌, sym, add_assoc, add-zero, zero-add, arith}
use Rattle.layout_storage.specs.Extents.{total}
use Rattle.emit_buffer.specs.Cut.{cut}

pub again_is : (n : ℕ) → cut (cut n) ≡ cut n
again_is n = omega arith

pub sum_is : (n m : ℕ) → cut (cut n + cut m) ≡ cut (n + m)
sum_is n m = omega arith

pub next_is : (n : ℕ) → cut (cut n + 1) ≡ cut (suc n)
next_is n = omega arith

-- one more count, and one alone
pub one_more : (ns : List ℕ) (n : ℕ) → total (ns ++ n ∷ []) ≡ total ns + n
one_more [] n = add-zero n ∙ sym (zero-add n)
one_more (m ∷ ns) n = ap (λ (k : ℕ). m + k) (one_more ns n) ∙ sym (add_assoc m (total ns) n)

pub one_alone : (n : ℕ) → total ([] ++ n ∷ []) ≡ n
one_alone n = add-zero n
