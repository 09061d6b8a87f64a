-- The values that expressions have, and what operators make of them.
use Rattle.std.specs.Prelude.{◌≡◌, ℕ, ◌==◌, ℤ, pos, Bool, not, int_lt, bit_and, bit_or, bit_xor, List, [], ◌∷◌, Option, Some, None}
use Rattle.m2_rule.specs.declared.rule.Rule.{Rule}
use Rattle.m2_rule.specs.declared.rule.Rule.TheVariants as rule
use Rattle.m2_rule.specs.Breaches.{breach}
use Rattle.m2_tree.specs.declared.pos.Pos.{Pos}
use Rattle.m2_tree.specs.declared.expr.RelOp.TheVariants.{Equal, Unequal, AtMost, AtLeast, In}
use Rattle.m2_tree.specs.declared.expr.Sign.{Sign}
use Rattle.typed_tree.specs.declared.types.TypeNo.{TypeNo}
use Rattle.typed_tree.specs.declared.known_types.Types.{Types}
use Rattle.typed_tree.specs.Types.{boolean, char}
use Rattle.m2_rule.specs.declared.breach.Breach.{Breach}
use Rattle.check_const.specs.declared.operator.BinaryOp.{BinaryOp}
use Rattle.check_const.specs.declared.operator.BinaryOp.TheVariants.{Plus, Minus, Times, Over, Relation}
use Rattle.check_const.specs.Sets.{without, has}
use Rattle.def_typing.specs.Shapes.{Agree}
use Rattle.def_typing.specs.Amounts.{Amount, Constant, Value, sort_of, IsNumber, Within, InRange, Suits, Fits, IsArithmetic, IsDivision, BelowOne, Evaluates, AreRight, Gives, truth, TakesSign, Signs}

-- a refusal: its place and its rule
infixl 50 ◌!◌
abbrev pub ◌!◌ : Pos → Rule → Breach
at ! broken = breach at broken

-- ---- values

-- what an expression has as a value
pub data Kind : Type 0 where
  Scalar : Amount → Kind
  -- a set, a constant one by its elements: element k is there if bit k is 1
  Set : Option ℕ → Kind
  Text : List ℕ → Kind
  -- a value of a procedure type
  Routine : TypeNo → Kind
  -- a procedure, by its heading
  Procedure : TypeNo → Kind
  -- an array or a record in a variable
  Whole : TypeNo → Kind
  -- an open array, which is no operand and is not assigned
  Untaken : Kind

abbrev pub letter_or : List ℕ → Kind
letter_or (c ∷ []) = Scalar (Constant (Some char) (pos c))
letter_or text = Text text

-- A string of length 1 is a character if no array is asked for.
abbrev pub operand : Kind → Kind
operand (Text text) = letter_or text
operand k = k

-- ---- operators on sets

-- union, difference, intersection, and the elements that are in one of both
pub data Combines : BinaryOp → ℕ → ℕ → ℕ → Type 0 where
  union : {a b : ℕ} → Combines Plus a b (bit_or a b)
  difference : {a b : ℕ} → Combines Minus a b (without a b)
  intersection : {a b : ℕ} → Combines Times a b (bit_and a b)
  symmetric_difference : {a b : ℕ} → Combines Over a b (bit_xor a b)

-- sets have =, # and the inclusions <= and >=
pub data Relates : BinaryOp → ℕ → ℕ → Bool → Type 0 where
  equal_sets : {a b : ℕ} → Relates (Relation Equal) a b (a == b)
  unequal_sets : {a b : ℕ} → Relates (Relation Unequal) a b (not (a == b))
  within : {a b : ℕ} → Relates (Relation AtMost) a b (without a b == 0)
  around : {a b : ℕ} → Relates (Relation AtLeast) a b (without b a == 0)

pub data IsCombining : BinaryOp → Type 0 where
  by_plus : IsCombining Plus
  by_minus : IsCombining Minus
  by_times : IsCombining Times
  by_over : IsCombining Over

pub data IsSetRelation : BinaryOp → Type 0 where
  by_equal : IsSetRelation (Relation Equal)
  by_unequal : IsSetRelation (Relation Unequal)
  by_at_most : IsSetRelation (Relation AtMost)
  by_at_least : IsSetRelation (Relation AtLeast)

pub data IsMembership : BinaryOp → Type 0 where
  by_in : IsMembership (Relation In)

-- a constant element is from 0 to 31
pub data IsElement : Amount → Type 0 where
  constant_element : {sort : Option TypeNo} {n : ℤ} → Within (pos 0) n (pos 31)
      → IsElement (Constant sort n)
  some_element : {t : TypeNo} → IsElement (Value t)

-- ---- procedures as operands

pub data IsEquality : BinaryOp → Type 0 where
  by_equal : IsEquality (Relation Equal)
  by_unequal : IsEquality (Relation Unequal)

-- beside a value of a procedure type one of the same type, or a procedure whose heading agrees
pub data AreRoutines (types : Types) : Kind → Kind → Type 0 where
  of_one_type : {t : TypeNo} → AreRoutines types (Routine t) (Routine t)
  with_procedure : {t h : TypeNo} → Agree types t h → AreRoutines types (Routine t) (Procedure h)
  procedure_with : {t h : TypeNo} → Agree types t h → AreRoutines types (Procedure h) (Routine t)

-- ---- all operators

-- Two operands fit an operator.
pub data AreOperands (types : Types) (op : BinaryOp) : Kind → Kind → Type 0 where
  scalars : {a b : Amount} {sort : Option TypeNo} → Fits op a b sort
      → AreOperands types op (Scalar a) (Scalar b)
  combined : {m n : Option ℕ} → IsCombining op → AreOperands types op (Set m) (Set n)
  related : {m n : Option ℕ} → IsSetRelation op → AreOperands types op (Set m) (Set n)
  -- IN takes an INTEGER, a CARDINAL or a number, and a set.
  member : {a : Amount} {m : Option ℕ} → IsMembership op → IsNumber (sort_of a)
      → AreOperands types op (Scalar a) (Set m)
  -- procedures have = and # alone
  routines : {a b : Kind} → IsEquality op → AreRoutines types a b → AreOperands types op a b

pub data NotBoth : Option ℕ → Option ℕ → Type 0 where
  first_computed : {n : Option ℕ} → NotBoth None n
  second_computed : {m : Option ℕ} → NotBoth m None

pub data NotConstant : Amount → Option ℕ → Type 0 where
  element_computed : {t : TypeNo} {m : Option ℕ} → NotConstant (Value t) m
  set_computed : {a : Amount} → NotConstant a None

-- what an operator makes of two operands: a constant, if both are constants
pub data Makes (types : Types) (op : BinaryOp) : Kind → Kind → Kind → Type 0 where
  scalar : {a b c : Amount} → Gives op a b c → Makes types op (Scalar a) (Scalar b) (Scalar c)
  constant_set : {a b c : ℕ} → Combines op a b c
      → Makes types op (Set (Some a)) (Set (Some b)) (Set (Some c))
  constant_relation : {a b : ℕ} {v : Bool} → Relates op a b v
      → Makes types op (Set (Some a)) (Set (Some b)) (Scalar (truth v))
  constant_member : {sort : Option TypeNo} {n : ℤ} {a : ℕ} → IsMembership op → IsNumber sort
      → IsElement (Constant sort n)
      → Makes types op (Scalar (Constant sort n)) (Set (Some a)) (Scalar (truth (has a n)))
  set : {m n : Option ℕ} → IsCombining op → NotBoth m n → Makes types op (Set m) (Set n) (Set None)
  relation : {m n : Option ℕ} → IsSetRelation op → NotBoth m n
      → Makes types op (Set m) (Set n) (Scalar (Value boolean))
  member : {a : Amount} {m : Option ℕ} → IsMembership op → IsNumber (sort_of a) → IsElement a
      → NotConstant a m → Makes types op (Scalar a) (Set m) (Scalar (Value boolean))
  routines : {a b : Kind} → IsEquality op → AreRoutines types a b
      → Makes types op a b (Scalar (Value boolean))

-- the refusals at an operator between two scalars that fit it
pub data Overreaches (op : BinaryOp) (spot left right : Pos) (a b : Amount) : Breach → Type 0 where
  -- A divisor of 0 or less is refused if it is a constant.
  divisor : {sort : Option TypeNo} → Fits op a b sort → IsDivision op → BelowOne b
      → Overreaches op spot left right a b (spot ! rule.OutOfRange)
  -- A number takes the type that its place asks for.
  left_number : {sort : Option TypeNo} → Fits op a b sort → (Suits sort a → ⊥)
      → Overreaches op spot left right a b (left ! rule.OutOfRange)
  right_number : {sort : Option TypeNo} → Fits op a b sort → (Suits sort b → ⊥)
      → Overreaches op spot left right a b (right ! rule.OutOfRange)
  -- Each operation on constants stays in the range of its type.
  out_of_range : {s s' sort : Option TypeNo} {x y z : ℤ} → a ≡ Constant s x → b ≡ Constant s' y
      → AreRight op a b sort → IsArithmetic op → Evaluates op x y z → (InRange sort z → ⊥)
      → Overreaches op spot left right a b (spot ! rule.OutOfRange)

-- the refusals at an operator between two operands
pub data Misused (types : Types) (op : BinaryOp) (spot left right : Pos)
    : Kind → Kind → Breach → Type 0 where
  -- INTEGER and CARDINAL are not mixed in one operation, and each operator has its types.
  unfit : {a b : Kind} → (AreOperands types op a b → ⊥)
      → Misused types op spot left right a b (spot ! rule.WrongType)
  overreaches : {a b : Amount} {f : Breach} → Overreaches op spot left right a b f
      → Misused types op spot left right (Scalar a) (Scalar b) f
  no_element : {a : Amount} {m : Option ℕ} → IsMembership op → IsNumber (sort_of a)
      → (IsElement a → ⊥)
      → Misused types op spot left right (Scalar a) (Set m) (left ! rule.OutOfRange)

-- ---- what takes one operand

-- The refusals at an operand: it is of another sort, or it is a constant that leads out of range.
pub data Misapplied (IsTaken : Type 0) (Makes : Kind → Type 0) (at : Pos) (broken : Rule)
    : Breach → Type 0 where
  unsuited : (IsTaken → ⊥) → Misapplied IsTaken Makes at broken (at ! broken)
  makes_nothing : IsTaken → ((k : Kind) → Makes k → ⊥)
      → Misapplied IsTaken Makes at broken (at ! rule.OutOfRange)

abbrev pub MaySign : Sign → Kind → Type 0
MaySign o (Scalar a) = TakesSign o (sort_of a)
MaySign o k = ⊥

pub data SignMakes (o : Sign) : Kind → Kind → Type 0 where
  signed : {a b : Amount} → TakesSign o (sort_of a) → Signs o a b
      → SignMakes o (Scalar a) (Scalar b)

-- NOT takes a BOOLEAN.
pub data Negates : Kind → Kind → Type 0 where
  not_constant : {n : ℤ}
      → Negates (Scalar (Constant (Some boolean) n)) (Scalar (truth (not (int_lt (pos 0) n))))
  not_value : Negates (Scalar (Value boolean)) (Scalar (Value boolean))
