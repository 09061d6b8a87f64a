-- Scalars, and what operators make of them.
use Rattle.std.specs.Prelude.{ℤ, pos, negsuc, ◌+ℤ◌, ◌-ℤ◌, ◌*ℤ◌, ◌≡◌, Bool, true, cond, ◌&&◌, ◌||◌, int_le, int_lt, Option, Some, None}
use Rattle.m2_tree.specs.declared.expr.RelOp.{RelOp}
use Rattle.m2_tree.specs.declared.expr.RelOp.TheVariants.{Equal, Unequal, Less, AtMost, Greater, AtLeast}
use Rattle.m2_tree.specs.declared.expr.Sign.{Sign}
use Rattle.m2_tree.specs.declared.expr.Sign.TheVariants as sign
use Rattle.typed_tree.specs.declared.types.TypeNo.{TypeNo}
use Rattle.typed_tree.specs.Types.{integer, cardinal, boolean}
use Rattle.check_const.specs.declared.operator.BinaryOp.{BinaryOp}
use Rattle.check_const.specs.declared.operator.BinaryOp.TheVariants.{Plus, Minus, Times, Div, Mod, And, Or, Relation}
use Rattle.check_const.specs.Numbers.{quotient, remainder}
use Rattle.check_const.specs.Operate.{holds_between}

-- A scalar is a constant, by its base type and its ordinal number, or a value of a base type. A
-- constant that is made of number literals alone is a number, and has no type.
pub data Amount : Type 0 where
  Constant : Option TypeNo → ℤ → Amount
  Value : TypeNo → Amount

-- the base type of either
abbrev pub sort_of : Amount → Option TypeNo
sort_of (Constant sort n) = sort
sort_of (Value t) = Some t

-- ---- types

pub data IsWhole : TypeNo → Type 0 where
  is_integer : IsWhole integer
  is_cardinal : IsWhole cardinal

-- INTEGER, CARDINAL or a number
pub data IsNumber : Option TypeNo → Type 0 where
  number : IsNumber None
  whole : {t : TypeNo} → IsWhole t → IsNumber (Some t)

-- the number is from the first to the last
pub record Within (low n high : ℤ) : Type 0 where
  pub from_low : int_le low n ≡ true
  pub to_high : int_le n high ≡ true

-- INTEGER is -2147483648 to 2147483647, CARDINAL 0 to 4294967295; each operation on numbers must
-- stay in -2147483648 to 4294967295.
pub data InRange : Option TypeNo → ℤ → Type 0 where
  in_numbers : {n : ℤ} → Within (negsuc 2147483647) n (pos 4294967295) → InRange None n
  in_integer : {n : ℤ} → Within (negsuc 2147483647) n (pos 2147483647) → InRange (Some integer) n
  in_cardinal : {n : ℤ} → Within (pos 0) n (pos 4294967295) → InRange (Some cardinal) n

-- A number takes the type its place asks for.
pub data Suits : Option TypeNo → Amount → Type 0 where
  has_type : {sort : Option TypeNo} {t : TypeNo} {n : ℤ} → Suits sort (Constant (Some t) n)
  is_value : {sort : Option TypeNo} {t : TypeNo} → Suits sort (Value t)
  not_asked : {n : ℤ} → Suits None (Constant None n)
  takes_type : {t : TypeNo} {n : ℤ} → InRange (Some t) n → Suits (Some t) (Constant None n)

-- ---- operators

-- INTEGER and CARDINAL are not mixed in one operation. A number goes with both.
pub data GoTogether : Option TypeNo → Option TypeNo → Option TypeNo → Type 0 where
  same_type : {t : TypeNo} → GoTogether (Some t) (Some t) (Some t)
  numbers : GoTogether None None None
  number_left : {t : TypeNo} → IsWhole t → GoTogether None (Some t) (Some t)
  number_right : {t : TypeNo} → IsWhole t → GoTogether (Some t) None (Some t)

pub data IsArithmetic : BinaryOp → Type 0 where
  plus : IsArithmetic Plus
  minus : IsArithmetic Minus
  times : IsArithmetic Times
  div : IsArithmetic Div
  modulo : IsArithmetic Mod

pub data IsLogical : BinaryOp → Type 0 where
  and : IsLogical And
  or : IsLogical Or

-- the scalars have all six relations
pub data IsComparison : BinaryOp → Type 0 where
  equal : IsComparison (Relation Equal)
  unequal : IsComparison (Relation Unequal)
  less : IsComparison (Relation Less)
  at_most : IsComparison (Relation AtMost)
  greater : IsComparison (Relation Greater)
  at_least : IsComparison (Relation AtLeast)

-- Arithmetic takes whole numbers, AND and OR take BOOLEAN, relations any scalars.
pub data Takes : BinaryOp → Option TypeNo → Type 0 where
  arithmetic : {op : BinaryOp} {sort : Option TypeNo} → IsArithmetic op → IsNumber sort
      → Takes op sort
  logical : {op : BinaryOp} → IsLogical op → Takes op (Some boolean)
  comparison : {op : BinaryOp} {sort : Option TypeNo} → IsComparison op → Takes op sort

-- Two scalars fit an operator, which then works on this type.
pub record Fits (op : BinaryOp) (a b : Amount) (sort : Option TypeNo) : Type 0 where
  pub together : GoTogether (sort_of a) (sort_of b) sort
  pub takes : Takes op sort

-- ---- the values of constants

pub data IsDivision : BinaryOp → Type 0 where
  by_div : IsDivision Div
  by_mod : IsDivision Mod

pub data BelowOne : Amount → Type 0 where
  below_one : {sort : Option TypeNo} {n : ℤ} → int_lt n (pos 1) ≡ true → BelowOne (Constant sort n)

-- DIV and MOD give x = q * y + r, 0 <= r < y.
pub data Evaluates : BinaryOp → ℤ → ℤ → ℤ → Type 0 where
  sum_is : {x y : ℤ} → Evaluates Plus x y (x +ℤ y)
  difference_is : {x y : ℤ} → Evaluates Minus x y (x -ℤ y)
  product_is : {x y : ℤ} → Evaluates Times x y (x *ℤ y)
  quotient_is : {x y : ℤ} → Evaluates Div x y (quotient x y)
  remainder_is : {x y : ℤ} → Evaluates Mod x y (remainder x y)

pub data Says : BinaryOp → ℤ → ℤ → Bool → Type 0 where
  both_hold : {x y : ℤ} → Says And x y (int_lt (pos 0) x && int_lt (pos 0) y)
  one_holds : {x y : ℤ} → Says Or x y (int_lt (pos 0) x || int_lt (pos 0) y)
  compares : {r : RelOp} {x y : ℤ} → Says (Relation r) x y (holds_between r x y)

-- FALSE and TRUE
abbrev pub truth : Bool → Amount
truth b = Constant (Some boolean) (cond b (pos 1) (pos 0))

-- ---- what operators give

-- Nothing is wrong with the operands: they fit, a constant divisor is positive, and numbers have
-- the type that is asked for.
pub record AreRight (op : BinaryOp) (a b : Amount) (sort : Option TypeNo) : Type 0 where
  pub fits : Fits op a b sort
  pub divides : IsDivision op → BelowOne b → ⊥
  pub left : Suits sort a
  pub right : Suits sort b

-- the type of a result
pub data Yields : BinaryOp → TypeNo → TypeNo → Type 0 where
  own_type : {op : BinaryOp} {t : TypeNo} → IsArithmetic op → Yields op t t
  truth_of_two : {op : BinaryOp} {t : TypeNo} → IsLogical op → Yields op t boolean
  truth_of_order : {op : BinaryOp} {t : TypeNo} → IsComparison op → Yields op t boolean

pub data IsComputed : Amount → Amount → Type 0 where
  left_computed : {t : TypeNo} {b : Amount} → IsComputed (Value t) b
  right_computed : {a : Amount} {t : TypeNo} → IsComputed a (Value t)

-- What is made of constants is a constant, and every constant expression is evaluated by the
-- compiler.
pub data Gives (op : BinaryOp) : Amount → Amount → Amount → Type 0 where
  constant : {s s' sort : Option TypeNo} {x y z : ℤ}
      → AreRight op (Constant s x) (Constant s' y) sort → IsArithmetic op → Evaluates op x y z
      → InRange sort z → Gives op (Constant s x) (Constant s' y) (Constant sort z)
  decided : {s s' sort : Option TypeNo} {x y : ℤ} {b : Bool}
      → AreRight op (Constant s x) (Constant s' y) sort → Says op x y b
      → Gives op (Constant s x) (Constant s' y) (truth b)
  computed : {a b : Amount} {t u : TypeNo} → AreRight op a b (Some t) → IsComputed a b
      → Yields op t u → Gives op a b (Value u)

-- ---- signs

-- plus takes INTEGER, CARDINAL and numbers, minus INTEGER and numbers
pub data TakesSign : Sign → Option TypeNo → Type 0 where
  plus_takes : {sort : Option TypeNo} → IsNumber sort → TakesSign sign.Plus sort
  minus_number : TakesSign sign.Minus None
  minus_integer : TakesSign sign.Minus (Some integer)

pub data Signs : Sign → Amount → Amount → Type 0 where
  plus_is : {a : Amount} → Signs sign.Plus a a
  minus_constant : {sort : Option TypeNo} {n : ℤ} → InRange sort (pos 0 -ℤ n)
      → Signs sign.Minus (Constant sort n) (Constant sort (pos 0 -ℤ n))
  minus_value : {t : TypeNo} → Signs sign.Minus (Value t) (Value t)
