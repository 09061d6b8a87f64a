-- Sums over modules, of which there are at most 1024.
use Rattle.std.proofs.Common.{ℕ, suc, ◌+◌, ◌*◌, ◌≤◌, ◌<◌, arith}

pub one_more : (n a r : ℕ) → a ≤ 8589934592 → r ≤ n * 8589934592 → a + r ≤ suc n * 8589934592
one_more n a r h k = omega (arith, h, k)

pub no_overflow : (n a r : ℕ) → suc n ≤ 1024 → a ≤ 8589934592 → r ≤ n * 8589934592 → a + r < 18446744073709551616
no_overflow n a r c h k = omega (arith, c, h, k)
