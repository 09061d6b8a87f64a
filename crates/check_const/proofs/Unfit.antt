-- Numbers that no type has.
use Rattle.std.proofs.Common.{◌≡◌, ℤ, pos, negsuc, Bool, true, false, cond, not, ◌&&◌, arith, subst, of_z, to_z, Option, Some, None, Ok, ap}
use Rattle.std.specs.Prelude.{int_le, FitsSigned}
use Rattle.std.specs.Int.{w64}
use Rattle.std.proofs.lemmas.Int.{ints, to_z-of_z}
use Rattle.m2_rule.specs.declared.rule.Rule.TheVariants as rule
use Rattle.m2_tree.specs.declared.pos.Pos.{Pos}
use Rattle.typed_tree.specs.declared.types.TypeNo.{TypeNo}
use Rattle.typed_tree.specs.Types.{is_integer}
use Rattle.check_scope.specs.Elaborated.{least, report}
use Rattle.check_const.specs.Operands.{number_value}
use Rattle.check_const.specs.Numbers.{fits, number_at}

not_between : (l n h : ℤ) → FitsSigned w64 l → FitsSigned w64 h → ¬ FitsSigned w64 n
    → (int_le l n && int_le n h) ≡ false
not_between l n h p q none = grind (arith, ints, none)

no_integer : (n : ℤ) → ¬ FitsSigned w64 n → (int_le (negsuc 2147483647) n && int_le n (pos 2147483647)) ≡ false
no_integer n none = grind (arith, ints, none)

no_cardinal : (n : ℤ) → ¬ FitsSigned w64 n → (int_le (pos 0) n && int_le n (pos 4294967295)) ≡ false
no_cardinal n none = grind (arith, ints, none)

no_untyped : (n : ℤ) → ¬ FitsSigned w64 n → (int_le (negsuc 2147483647) n && int_le n (pos 4294967295)) ≡ false
no_untyped n none = grind (arith, ints, none)

either : (b x y : Bool) → x ≡ false → y ≡ false → cond b x y ≡ false
either true x y p q = p
either false x y p q = q

unfit : (sort : Option TypeNo) (n : ℤ) → ¬ FitsSigned w64 n → fits sort n ≡ false
unfit None n none = no_untyped n none
unfit (Some t) n none = either (is_integer t) _ _ (no_integer n none) (no_cardinal n none)

pub no_fit : (E : ℤ → ℤ → ℤ) (x y : ℤ) → FitsSigned w64 x → FitsSigned w64 y
    → ¬ FitsSigned w64 (E (to_z w64 (of_z w64 x)) (to_z w64 (of_z w64 y))) → ¬ FitsSigned w64 (E x y)
no_fit E x y p q h =
    subst (λ (n : ℤ). ¬ FitsSigned w64 (E n y)) (to_z-of_z w64 x p)
    (subst (λ (n : ℤ). ¬ FitsSigned w64 (E (to_z w64 (of_z w64 x)) n)) (to_z-of_z w64 y q) h)

pub reported_of : (at : Pos) (sort : Option TypeNo) (n : ℤ) → ¬ FitsSigned w64 n
    → number_at least at sort n ≡ report least at rule.OutOfRange
reported_of at sort n none = ap (λ (b : Bool). cond (not b) (report least at rule.OutOfRange)
    (Ok (number_value sort n))) (unfit sort n none)
