-- What operators and standard functions make of numbers. TRUE is 1 and FALSE 0; in a set, element k
-- is there if bit k is 1.
use Rattle.std.specs.Prelude.{ℕ, ◌/◌, ◌%◌, ◌^◌, ◌==◌, ℤ, pos, ◌-ℤ◌, Bool, true, false, not, ◌&&◌, int_le, int_lt, bit_and, bit_or, bit_xor, unsigned_abs, if◌then◌else◌}
use Rattle.std.specs.Int.{int_div_euclid, int_rem_euclid}
use Rattle.typed_tree.specs.declared.computed.Comparison.{Comparison}
use Rattle.typed_tree.specs.declared.computed.Comparison.TheVariants.{Equal, Unequal, Less, AtMost, Greater, AtLeast}
use Rattle.typed_tree.specs.declared.computed.SetOperator.{SetOperator}
use Rattle.typed_tree.specs.declared.computed.SetOperator.TheVariants.{Union, Difference, Intersection, SymmetricDifference}
use Rattle.typed_tree.specs.declared.computed.Inclusion.{Inclusion}
use Rattle.typed_tree.specs.declared.computed.Inclusion.TheVariants.{Within, Around}

abbrev pub is_between : ℤ → ℤ → ℤ → Bool
is_between low v high = int_le low v && int_le v high

abbrev pub truth : Bool → ℤ
truth true = pos 1
truth false = pos 0

abbrev pub is_true : ℤ → Bool
is_true v = int_lt (pos 0) v

-- ---- relations

abbrev pub comparison_holds : Comparison → ℤ → ℤ → Bool
comparison_holds Equal x y = int_le x y && int_le y x
comparison_holds Unequal x y = not (int_le x y && int_le y x)
comparison_holds Less x y = int_lt x y
comparison_holds AtMost x y = int_le x y
comparison_holds Greater x y = int_lt y x
comparison_holds AtLeast x y = int_le y x

-- ---- sets

abbrev pub bits : ℤ → ℕ
bits v = unsigned_abs v

abbrev pub without : ℕ → ℕ → ℕ
without a b = bit_and a (bit_xor b 4294967295)

abbrev pub set_operation : SetOperator → ℤ → ℤ → ℤ
set_operation Union a b = pos (bit_or (bits a) (bits b))
set_operation Difference a b = pos (without (bits a) (bits b))
set_operation Intersection a b = pos (bit_and (bits a) (bits b))
set_operation SymmetricDifference a b = pos (bit_xor (bits a) (bits b))

abbrev pub inclusion_holds : Inclusion → ℤ → ℤ → Bool
inclusion_holds Within a b = without (bits a) (bits b) == 0
inclusion_holds Around a b = without (bits b) (bits a) == 0

abbrev pub has : ℤ → ℤ → Bool
has set element = bits set / 2 ^ bits element % 2 == 1

abbrev pub single : ℤ → ℕ
single element = 2 ^ bits element

-- ---- standard functions

abbrev pub absolute : ℤ → ℤ
absolute v = pos (unsigned_abs v)

-- a to z become A to Z, all others stay
abbrev pub capital : ℤ → ℤ
capital v = if is_between (pos 97) v (pos 122) then v -ℤ pos 32 else v

abbrev pub odd : ℤ → Bool
odd v = unsigned_abs v % 2 == 1

-- x = q * y + r with 0 <= r < y, if y is positive
abbrev pub quotient : ℤ → ℤ → ℤ
quotient x y = int_div_euclid x y

abbrev pub remainder : ℤ → ℤ → ℤ
remainder x y = int_rem_euclid x y
