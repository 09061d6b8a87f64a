-- How many numbers are passed for formals.
use Rattle.std.proofs.Common.{◌≡◌, ℕ, suc, ◌+◌, Bool, true, false, cond, List, [], ◌∷◌, length, arith, add-zero, zero-add, sym, ◌∙◌}
use Rattle.std.specs.Prelude.{count_by, if◌then◌else◌}
use Rattle.std.specs.List.{fold}
use Rattle.typed_tree.specs.declared.shape.Formal.{Formal}
use Rattle.def_scheme.specs.Exprs.{all_arguments}

one_more : (b : Bool) (a m l n : ℕ) → (a + cond b 1 0) + m ≡ l + n → a + ((if b then 2 else 1) + m) ≡ suc l + n
one_more true a m l n e = omega (arith, e)
one_more false a m l n e = omega (arith, e)

counted_from : (fs : List Formal) (a : ℕ)
    → a + all_arguments fs ≡ length fs + fold (λ (a : ℕ) (x : Formal). a + cond x.is_open 1 0) a fs
counted_from [] a = add-zero a ∙ sym (zero-add a)
counted_from (f ∷ fs) a = one_more f.is_open a (all_arguments fs) (length fs)
    (fold (λ (a : ℕ) (x : Formal). a + cond x.is_open 1 0) (a + cond f.is_open 1 0) fs)
    (counted_from fs (a + cond f.is_open 1 0))

pub counted : (fs : List Formal) → all_arguments fs ≡ length fs + count_by (λ f. f.is_open) fs
counted fs = sym (zero-add (all_arguments fs)) ∙ counted_from fs 0
