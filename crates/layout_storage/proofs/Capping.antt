-- Sums and products of sizes in 32 bits.
use Rattle.std.proofs.Common.{◌≡◌, ℕ, zero, suc, ◌+◌, ◌*◌, sym, ap, ◌∙◌, arith}
use Rattle.std.proofs.Math.Nat.{suc-mul, mul_comm}
use Rattle.layout_storage.specs.Capped.{cap_size}

pub sum_both : (a b : ℕ) → cap_size (cap_size a + cap_size b) ≡ cap_size (a + b)
sum_both a b = omega arith

pub twice : (a : ℕ) → cap_size (cap_size a) ≡ cap_size a
twice a = omega arith

product_one : (n s : ℕ) → cap_size (n * cap_size s) ≡ cap_size (n * s)
product_one zero s = omega arith
product_one (suc n) s =
    ap cap_size (suc-mul n (cap_size s)) ∙ sym (sum_both (n * cap_size s) (cap_size s))
    ∙ ap (λ (k : ℕ). cap_size (k + cap_size (cap_size s))) (product_one n s)
    ∙ ap (λ (k : ℕ). cap_size (cap_size (n * s) + k)) (twice s) ∙ sum_both (n * s) s
    ∙ ap cap_size (sym (suc-mul n s))

pub product_both : (n s : ℕ) → cap_size (cap_size n * cap_size s) ≡ cap_size (n * s)
product_both n s =
    product_one (cap_size n) s ∙ ap cap_size (mul_comm (cap_size n) s) ∙ product_one s n ∙ ap cap_size (mul_comm s n)

pub from_nought : (n : ℕ) → cap_size (0 + n) ≡ cap_size n
from_nought n = omega arith
