-- Standard functions, and which arguments formals take.
use Rattle.std.specs.Prelude.{◌≡◌, ℕ, ℤ, pos, ◌-ℤ◌, Bool, true, false, int_lt, List, [], ◌∷◌, length, Option, Some, None}
use Rattle.std.specs.Int.{int_rem_euclid}
use Rattle.m2_rule.specs.declared.rule.Rule.TheVariants as rule
use Rattle.m2_tree.specs.declared.pos.Pos.{Pos}
use Rattle.m2_tree.specs.declared.expr.Expr.{Expr}
use Rattle.typed_tree.specs.declared.types.TypeNo.{TypeNo}
use Rattle.typed_tree.specs.declared.meaning.Standard.{Standard}
use Rattle.typed_tree.specs.declared.meaning.Standard.TheVariants.{Abs, Cap, Chr, High, Max, Min, Odd, Ord, Val}
use Rattle.typed_tree.specs.declared.shape.Formal.{Formal}
use Rattle.typed_tree.specs.declared.shape.Scalar.{Scalar as Range}
use Rattle.typed_tree.specs.declared.shape.Shape.{Shape}
use Rattle.typed_tree.specs.declared.shape.Shape.TheVariants as shape
use Rattle.typed_tree.specs.declared.shape.Signature.{Signature}
use Rattle.typed_tree.specs.declared.known_types.Types.{Types}
use Rattle.typed_tree.specs.Types.{boolean, cardinal, char}
use Rattle.m2_rule.specs.declared.breach.Breach.{Breach}
use Rattle.check_const.specs.Standards.{upper}
use Rattle.def_typing.specs.Shapes.{shape_at, IsMade}
use Rattle.def_typing.specs.Amounts.{Amount, Constant, Value, sort_of, IsNumber, Within, InRange, truth}
use Rattle.def_typing.specs.Operators.{◌!◌, Kind, Scalar, Set, Text, Routine, Whole, Untaken, operand, Misapplied}
use Rattle.def_typing.specs.Things.{Thing, AValue, AVariable, AnOpenArray, AType, AProcedure, ANested, AStandard, content, Taken, Mistaken, Compatible, OutOfType}

-- ---- functions of one value

-- the base types that it takes
pub data TakesOne : Standard → Option TypeNo → Type 0 where
  abs_takes : {sort : Option TypeNo} → IsNumber sort → TakesOne Abs sort
  cap_takes : TakesOne Cap (Some char)
  chr_takes : {sort : Option TypeNo} → IsNumber sort → TakesOne Chr sort
  odd_takes : {sort : Option TypeNo} → IsNumber sort → TakesOne Odd sort
  ord_takes : {sort : Option TypeNo} → TakesOne Ord sort

pub data AbsoluteOf : ℤ → ℤ → Type 0 where
  turned : {n : ℤ} → int_lt n (pos 0) ≡ true → AbsoluteOf n (pos 0 -ℤ n)
  itself : {n : ℤ} → int_lt n (pos 0) ≡ false → AbsoluteOf n n

pub data Computes : Standard → Amount → Amount → Type 0 where
  -- ABS: the absolute value, of the argument's type
  abs_constant : {sort : Option TypeNo} {n m : ℤ} → AbsoluteOf n m → InRange sort m
      → Computes Abs (Constant sort n) (Constant sort m)
  abs_value : {t : TypeNo} → Computes Abs (Value t) (Value t)
  -- CAP: the capital letter
  cap_constant : {sort : Option TypeNo} {n : ℤ}
      → Computes Cap (Constant sort n) (Constant (Some char) (upper n))
  cap_value : {t : TypeNo} → Computes Cap (Value t) (Value char)
  -- CHR: the character with this ordinal number
  chr_constant : {sort : Option TypeNo} {n : ℤ} → Within (pos 0) n (pos 255)
      → Computes Chr (Constant sort n) (Constant (Some char) n)
  chr_value : {t : TypeNo} → Computes Chr (Value t) (Value char)
  -- ODD: whether it is odd
  odd_constant : {sort : Option TypeNo} {n : ℤ}
      → Computes Odd (Constant sort n) (truth (int_lt (pos 0) (int_rem_euclid n (pos 2))))
  odd_value : {t : TypeNo} → Computes Odd (Value t) (Value boolean)
  -- ORD: the ordinal number
  ord_constant : {sort : Option TypeNo} {n : ℤ} → InRange (Some cardinal) n
      → Computes Ord (Constant sort n) (Constant (Some cardinal) n)
  ord_value : {t : TypeNo} → Computes Ord (Value t) (Value cardinal)

abbrev pub MayApply : Standard → Kind → Type 0
MayApply f (Scalar a) = TakesOne f (sort_of a)
MayApply f k = ⊥

pub data Applies (f : Standard) : Kind → Kind → Type 0 where
  applied : {a b : Amount} → TakesOne f (sort_of a) → Computes f a b
      → Applies f (Scalar a) (Scalar b)

-- the refusals of its argument
abbrev pub Misapplies : Standard → Pos → Kind → Breach → Type 0
Misapplies f at k b = Misapplied (MayApply f k) (Applies f k) at rule.WrongArgument b

-- ---- functions of types

-- the name of a scalar type
pub data NamesScalar (types : Types) : Thing → Range → Type 0 where
  names_scalar : {t : TypeNo} {r : Range} → IsMade types t (shape.Scalar r)
      → NamesScalar types (AType t) r

-- MAX and MIN of a type
pub data BoundOf (r : Range) : Standard → ℤ → Type 0 where
  greatest : BoundOf r Max r.high
  smallest : BoundOf r Min r.low

abbrev pub MayConvert : Kind → Type 0
MayConvert (Scalar a) = IsNumber (sort_of a)
MayConvert k = ⊥

-- VAL: the value of the type with this ordinal number
pub data Converts (r : Range) : Kind → Kind → Type 0 where
  converted_constant : {sort : Option TypeNo} {n : ℤ} → IsNumber sort → Within r.low n r.high
      → Converts r (Scalar (Constant sort n)) (Scalar (Constant (Some r.base) n))
  converted_value : {t : TypeNo} → IsNumber (Some t)
      → Converts r (Scalar (Value t)) (Scalar (Value r.base))

-- the refusals of what is converted
abbrev pub Misconverts : Range → Pos → Kind → Breach → Type 0
Misconverts r at k f = Misapplied (MayConvert k) (Converts r k) at rule.WrongArgument f

-- how many arguments a standard function has; the other standard procedures are none
abbrev pub arity : Standard → Option ℕ
arity Abs = Some 1
arity Cap = Some 1
arity Chr = Some 1
arity High = Some 1
arity Max = Some 1
arity Min = Some 1
arity Odd = Some 1
arity Ord = Some 1
arity Val = Some 2
arity other = None

pub data IsOfOne : Standard → Type 0 where
  of_abs : IsOfOne Abs
  of_cap : IsOfOne Cap
  of_chr : IsOfOne Chr
  of_odd : IsOfOne Odd
  of_ord : IsOfOne Ord

-- HIGH is a value of a running program: no constant calls it.
abbrev pub fixed_arity : Standard → Option ℕ
fixed_arity High = None
fixed_arity other = arity other

-- the argument of a standard function that is taken as a value, and the one that names a type
pub data TakesValue : Standard → List Expr → Expr → Type 0 where
  of_one : {f : Standard} {x : Expr} → IsOfOne f → TakesValue f (x ∷ []) x
  to_convert : {t x : Expr} → TakesValue Val (t ∷ x ∷ []) x

pub data TakesType : Standard → List Expr → Expr → Type 0 where
  of_max : {t : Expr} → TakesType Max (t ∷ []) t
  of_min : {t : Expr} → TakesType Min (t ∷ []) t
  of_conversion : {t x : Expr} → TakesType Val (t ∷ x ∷ []) t

-- ---- functions that are declared

abbrev pub result_of : TypeNo → Option Shape → Kind
result_of t (Some (shape.Scalar r)) = Scalar (Value r.base)
result_of t (Some shape.Set) = Set None
result_of t (Some (shape.Procedure h)) = Routine t
result_of t other = Untaken

-- what a function of this result type gives
abbrev pub result_kind : Types → TypeNo → Kind
result_kind types t = result_of t (shape_at types t)

-- a procedure, or a variable of a procedure type, with its heading
pub data HasHeading (types : Types) : Thing → Signature → Type 0 where
  of_procedure : {h : TypeNo} {s : Signature} → IsMade types h (shape.Procedure s)
      → HasHeading types (AProcedure h) s
  of_nested : {h : TypeNo} {s : Signature} → IsMade types h (shape.Procedure s)
      → HasHeading types (ANested h) s
  of_variable : {t : TypeNo} {s : Signature} → IsMade types t (shape.Procedure s)
      → HasHeading types (AVariable t) s

-- what is called in an expression, by the number of its arguments
pub data IsFunctionOf (types : Types) : Thing → ℕ → Type 0 where
  declared : {x : Thing} {s : Signature} {t : TypeNo} → HasHeading types x s → s.result ≡ Some t
      → IsFunctionOf types x (length s.formals)
  standard : {f : Standard} {n : ℕ} → arity f ≡ Some n → IsFunctionOf types (AStandard f) n

-- ---- formals and arguments

abbrev pub variable_formal : TypeNo → Formal
variable_formal t = record { is_var = true; is_open = false; of = t }

abbrev pub open_variable_formal : TypeNo → Formal
open_variable_formal t = record { is_var = true; is_open = true; of = t }

abbrev pub value_formal : TypeNo → Formal
value_formal t = record { is_var = false; is_open = false; of = t }

abbrev pub open_value_formal : TypeNo → Formal
open_value_formal t = record { is_var = false; is_open = true; of = t }

-- an array of these elements whose least index has number 0
pub data HasElements (types : Types) (t u : TypeNo) : Type 0 where
  has_elements : {i : TypeNo} {r : Range} → IsMade types u (shape.Array i t)
      → IsMade types i (shape.Scalar r) → Within (pos 0) r.low (pos 0) → HasElements types t u

-- what a formal takes
pub data Accepts (types : Types) : Formal → Thing → Type 0 where
  -- VAR: a variable of the same type
  variable : {t : TypeNo} → Accepts types (variable_formal t) (AVariable t)
  -- VAR ARRAY OF: an array of these elements, also an open one
  array_variable : {t u : TypeNo} → HasElements types t u
      → Accepts types (open_variable_formal t) (AVariable u)
  open_variable : {t : TypeNo} → Accepts types (open_variable_formal t) (AnOpenArray t)
  -- ARRAY OF: the same, and a string if the elements are CHAR
  array : {t u : TypeNo} → HasElements types t u → Accepts types (open_value_formal t) (AVariable u)
  open_array : {t : TypeNo} → Accepts types (open_value_formal t) (AnOpenArray t)
  text : {s : List ℕ} → Accepts types (open_value_formal char) (AValue (Text s))
  -- an array or a record: a variable of the same type
  whole : {t : TypeNo} → content types t ≡ Whole t → Accepts types (value_formal t) (AVariable t)
  -- else what is assignment compatible
  compatible : {t : TypeNo} {x : Thing} (k : Kind) → Taken types x k
      → Compatible types t (operand k) → Accepts types (value_formal t) x

-- the refusals of an argument
pub data Mispassed (types : Types) (at : Pos) : Formal → Thing → Breach → Type 0 where
  no_variable : {is_open : Bool} {t : TypeNo} {x : Thing}
      → (Accepts types (record { is_var = true; is_open = is_open; of = t }) x → ⊥)
      → Mispassed types at (record { is_var = true; is_open = is_open; of = t }) x
      (at ! rule.NoVariable)
  no_value : {is_open : Bool} {t : TypeNo} {x : Thing} {f : Breach} → Mistaken at x f
      → Mispassed types at (record { is_var = false; is_open = is_open; of = t }) x f
  wrong_argument : {is_open : Bool} {t : TypeNo} {x : Thing} (k : Kind) → Taken types x k
      → (Accepts types (record { is_var = false; is_open = is_open; of = t }) x → ⊥)
      → Mispassed types at (record { is_var = false; is_open = is_open; of = t }) x
      (at ! rule.WrongArgument)
  out_of_range : {t : TypeNo} {x : Thing} (k : Kind) → Taken types x k
      → Compatible types t (operand k) → OutOfType types t (operand k)
      → Mispassed types at (value_formal t) x (at ! rule.OutOfRange)

-- a formal takes what it accepts, if nothing is to be refused
pub record IsPassed (types : Types) (formal : Formal) (x : Thing) : Type 0 where
  pub accepted : Accepts types formal x
  pub unrefused : (at : Pos) (f : Breach) → Mispassed types at formal x f → ⊥
