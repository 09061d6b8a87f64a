-- Tables of marks.
use Rattle.std.proofs.Common.{◌≡◌, ℕ, zero, suc, ◌<◌, ◌≤◌, Bool, List, [], ◌∷◌, ◌++◌, length, refl, ap, arith}
use Rattle.std.specs.Prelude.{slice_set, slice_get, Some}
use Rattle.emit_tables.specs.declared.marks.Mark.{Mark}
use Rattle.emit_tables.specs.Marked.{none, mark_kind, marked_at}

less : (m n : ℕ) → suc m < suc n → m < n
less m n h = omega (arith, h)

-- a table that does not reach so far, with one more
pub longer : (n : ℕ) (r : Bool) (xs : List Mark) → length xs ≤ n → marked_at n r (xs ++ none ∷ []) ≡ marked_at n r xs
longer zero r [] h = refl
longer zero r (x ∷ xs) h = absurd (omega (arith, h))
longer (suc n) r [] h = refl
longer (suc n) r (x ∷ xs) h = ap (λ (ys : List Mark). x ∷ ys) (longer n r xs (omega (arith, h)))

inside_some : (x y : Mark) → Some y ≡ Some x → x ≡ y
inside_some x y e = cc

-- and one that does
pub is_set : (n : ℕ) (r : Bool) (xs : List Mark) (x : Mark) → slice_get xs n ≡ Some x
    → slice_set xs n (mark_kind x r) ≡ marked_at n r xs
is_set zero r [] x e = absurd cc
is_set zero r (y ∷ xs) x e = ap (λ (z : Mark). mark_kind z r ∷ xs) (inside_some x y e)
is_set (suc n) r [] x e = absurd cc
is_set (suc n) r (y ∷ xs) x e = ap (λ (ys : List Mark). y ∷ ys) (is_set n r xs x e)
