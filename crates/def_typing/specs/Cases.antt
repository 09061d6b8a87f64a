-- The selector of a CASE and its labels, and which rules are broken in them.
use Rattle.std.specs.Prelude.{◌≡◌, ℕ, ℤ, pos, true, false, int_le, int_lt, ◌⊎◌, List, [], ◌∷◌, Option, Some, None}
use Rattle.m2_rule.specs.declared.breach.Breach.{Breach}
use Rattle.m2_rule.specs.declared.rule.Rule.TheVariants as rule
use Rattle.m2_tree.specs.declared.pos.Pos.{Pos}
use Rattle.m2_tree.specs.declared.name.Ident.{Ident}
use Rattle.m2_tree.specs.declared.expr.Expr.{Expr}
use Rattle.m2_tree.specs.declared.expr.Item.{Item, out-Item}
use Rattle.typed_tree.specs.declared.types.TypeNo.{TypeNo}
use Rattle.typed_tree.specs.declared.known_types.Types.{Types}
use Rattle.typed_tree.specs.Types.{integer, cardinal}
use Rattle.def_typing.specs.Amounts.{Amount, Constant, Value, IsNumber, GoTogether, Suits}
use Rattle.def_typing.specs.Operators.{◌!◌, Kind, Scalar, Set, Text, Untaken, operand}
use Rattle.def_typing.specs.Things.{Thing, AValue, AVariable, ANested, AStandard, Headless, Standing, content, Mistaken}
use Rattle.def_typing.specs.Parts.{first}
use Rattle.def_typing.specs.Constants.{IsBound as Bounds}
use Rattle.def_typing.specs.Expressions.{Stands, Has, Broken, BrokenAsValue}

-- the type in which the labels are held against the selector
pub data SelectsIn : Amount → TypeNo → Type 0 where
  constant_type : {t : TypeNo} {n : ℤ} → SelectsIn (Constant (Some t) n) t
  value_type : {t : TypeNo} → SelectsIn (Value t) t
  -- A number is an INTEGER if it is negative, and else a CARDINAL.
  negative : {n : ℤ} → int_lt n (pos 0) ≡ true → SelectsIn (Constant None n) integer
  not_negative : {n : ℤ} → int_lt n (pos 0) ≡ false → SelectsIn (Constant None n) cardinal

-- ---- the bounds of labels

-- a constant scalar, a constant set or a string
abbrev pub IsConstantThing : Thing → Type 0
IsConstantThing (AValue (Scalar (Constant sort n))) = Unit {0}
IsConstantThing (AValue (Set (Some bits))) = Unit {0}
IsConstantThing (AValue (Text text)) = Unit {0}
IsConstantThing other = ⊥

-- a procedure that is no value, whatever its heading
abbrev pub IsNoValue : Thing → Type 0
IsNoValue (AStandard p) = Unit {0}
IsNoValue (ANested h) = Unit {0}
IsNoValue (Headless true) = Unit {0}
IsNoValue other = ⊥

pub record IsNoConstant (x : Thing) : Type 0 where
  pub not_constant : IsConstantThing x → ⊥
  pub not_refused : IsNoValue x → ⊥

-- what is there at run time, if it is a value
abbrev pub run_time_kind : Types → Thing → Kind
run_time_kind types (AValue k) = k
run_time_kind types (AVariable t) = content types t
run_time_kind types other = Untaken

-- If the selector has no meaning, nothing is asked of the type.
abbrev pub SuitsSelector : Option TypeNo → Kind → Type 0
SuitsSelector None k = Unit {0}
SuitsSelector (Some base) k = k ≡ Scalar (Value base)

-- a number of a base type, if it has one
abbrev pub Number : Type 0
Number = Option TypeNo × ℤ

-- the number of a bound
pub data IsBound (base : Option TypeNo) : Thing → Option Number → Type 0 where
  is_bound : {k : Kind} {sort : Option TypeNo} {n : ℤ} → operand k ≡ Scalar (Constant sort n)
      → IsBound base (AValue k) (Some (sort, n))
  -- A set or a string has none. If the selector has no meaning, none is asked for.
  no_number : {k : Kind} → base ≡ None → IsConstantThing (AValue k)
      → ((sort : Option TypeNo) (n : ℤ) → operand k ≡ Scalar (Constant sort n) → ⊥)
      → IsBound base (AValue k) None

-- the refusals of a bound at its place, in a label
pub data Misbounds (types : Types) (base : Option TypeNo) (label at : Pos) (x : Thing)
    : Breach → Type 0 where
  no_bound : IsConstantThing x → ((p : Option Number) → IsBound base x p → ⊥)
      → Misbounds types base label at x (at ! rule.WrongType)
  no_value : {f : Breach} → Mistaken at x f → Misbounds types base label at x f
  -- a label that is no constant, whatever the selector
  no_constant : IsNoConstant x → Misbounds types base label at x (label ! rule.WrongLabel)
  other_type : IsNoConstant x → (SuitsSelector base (run_time_kind types x) → ⊥)
      → Misbounds types base label at x (at ! rule.WrongType)

-- ---- labels

-- A bound has the base type of the selector, or is a number if this is INTEGER or CARDINAL.
abbrev pub IsOfBase : Option TypeNo → Option TypeNo → Type 0
IsOfBase None sort = Unit {0}
IsOfBase (Some base) sort = GoTogether (Some base) sort (Some base)

-- A number is one of this type.
pub record FitsSelector (base sort : Option TypeNo) (n : ℤ) : Type 0 where
  pub of_base : IsOfBase base sort
  pub suits : Suits base (Constant sort n)

abbrev pub Fits : Option TypeNo → Option Number → Type 0
Fits base None = Unit {0}
Fits base (Some p) = FitsSelector base p.0 p.1

pub data Misfits (at : Pos) (base sort : Option TypeNo) (n : ℤ) : Breach → Type 0 where
  other_base : (IsOfBase base sort → ⊥) → Misfits at base sort n (at ! rule.WrongType)
  not_in_base : IsOfBase base sort → (Suits base (Constant sort n) → ⊥)
      → Misfits at base sort n (at ! rule.OutOfRange)

-- The bounds go together, and the second is below the first.
pub data IsEmpty (s t : Option TypeNo) (n m : ℤ) : Type 0 where
  is_empty : {u : Option TypeNo} → GoTogether s t u → int_lt m n ≡ true → IsEmpty s t n m

abbrev pub IsEmptyRange : Option Number → Option Number → Type 0
IsEmptyRange (Some p) (Some q) = IsEmpty p.0 q.0 p.1 q.1
IsEmptyRange (Some p) None = ⊥
IsEmptyRange None q = ⊥

-- what a label stands for: the values from the first to the last, or none
abbrev pub Values : Type 0
Values = Option (Number × Number)

abbrev pub from_to : Option Number → Option Number → Values
from_to (Some p) (Some q) = Some (p, q)
from_to (Some p) None = None
from_to None q = None

-- two bounds of one base type, or two whole numbers
pub data AreOfOneBase : Option TypeNo → Option TypeNo → Type 0 where
  one_type : {t : TypeNo} → AreOfOneBase (Some t) (Some t)
  whole_numbers : {s t : Option TypeNo} → IsNumber s → IsNumber t → AreOfOneBase s t

-- All bounds are of one base, the first range has values, and neither ends before the other
-- begins.
pub record ShareValues (a b : Number × Number) : Type 0 where
  pub first_base : AreOfOneBase a.0.0 a.1.0
  pub second_base : AreOfOneBase b.0.0 b.1.0
  pub one_base : AreOfOneBase a.0.0 b.0.0
  pub has_values : int_lt a.1.1 a.0.1 ≡ false
  pub from_low : int_le b.0.1 a.1.1 ≡ true
  pub to_high : int_le a.0.1 b.1.1 ≡ true

abbrev pub Meets : Values → Values → Type 0
Meets (Some a) (Some b) = ShareValues a b
Meets (Some a) None = ⊥
Meets None b = ⊥

-- ---- the selector

module _ (types : Types) (names : Ident → Standing) (exports : ℕ → Ident → Standing) where
  -- The selector is a scalar.
  pub data IsSelector (e : Expr) (base : TypeNo) : Type 0 where
    is_selector : {k : Kind} {a : Amount} → Has types names exports e k → operand k ≡ Scalar a
        → SelectsIn a base → IsSelector e base

  pub data BrokenSelector (e : Expr) : Breach → Type 0 where
    in_selector : {f : Breach} → BrokenAsValue types names exports e f → BrokenSelector e f
    no_scalar : {k : Kind} → Has types names exports e k
        → ((a : Amount) → operand k ≡ Scalar a → ⊥) → BrokenSelector e (first e ! rule.WrongType)

  -- a bound of a label
  pub data IsLabelBound (base : Option TypeNo) (e : Expr) (p : Option Number) : Type 0 where
    is_label_bound : {x : Thing} → Stands types names exports e x → IsBound base x p
        → IsLabelBound base e p

  pub data BrokenLabelBound (base : Option TypeNo) (label : Pos) (e : Expr) (f : Breach)
      : Type 0 where
    in_bound : Broken types names exports e f → BrokenLabelBound base label e f
    at_bound : {x : Thing} → Stands types names exports e x
        → Misbounds types base label (first e) x f → BrokenLabelBound base label e f

  -- the base type that labels are held against
  abbrev pub SelectsBy : Expr → Option TypeNo → Type 0
  SelectsBy e (Some base) = IsSelector e base
  SelectsBy e None = (base : TypeNo) → IsSelector e base → ⊥

  module _ (base : Option TypeNo) where
    pub data IsLabel (i : Item) : Values → Type 0 where
      single : {p : Option Number} → (out-Item i).high ≡ None
          → IsLabelBound base (out-Item i).low p → Fits base p → IsLabel i (from_to p p)
      range : {high : Expr} {p q : Option Number} → (out-Item i).high ≡ Some high
          → IsLabelBound base (out-Item i).low p → IsLabelBound base high q → Fits base p
          → Fits base q → (IsEmptyRange p q → ⊥) → IsLabel i (from_to p q)

    pub data BrokenLabel (i : Item) : Breach → Type 0 where
      in_label_bound : {e : Expr} {f : Breach} → Bounds e (out-Item i)
          → BrokenLabelBound base (first (out-Item i).low) e f → BrokenLabel i f
      misfits : {e : Expr} {sort : Option TypeNo} {n : ℤ} {f : Breach} → Bounds e (out-Item i)
          → IsLabelBound base e (Some (sort, n)) → Misfits (first e) base sort n f
          → BrokenLabel i f
      empty : {high : Expr} {p q : Option Number} → (out-Item i).high ≡ Some high
          → IsLabelBound base (out-Item i).low p → IsLabelBound base high q → IsEmptyRange p q
          → BrokenLabel i (first (out-Item i).low ! rule.EmptyRange)

    -- A label is there twice if it meets a label in front of it that is not there twice itself.
    -- The nearest one stands first.
    abbrev pub IsTwice : List Item → Values → Type 0
    IsTwice [] b = ⊥
    IsTwice (i ∷ front) b =
        ((a : Values) × IsLabel i a × Meets a b × (IsTwice front a → ⊥)) ⊎ IsTwice front b

    -- labels behind others
    pub data AreLabels : List Item → List Item → Type 0 where
      no_label : {front : List Item} → AreLabels front []
      one_label : {front is : List Item} {i : Item} {a : Values} → IsLabel i a
          → (IsTwice front a → ⊥) → AreLabels (i ∷ front) is → AreLabels front (i ∷ is)

    pub data BrokenLabels : List Item → List Item → Breach → Type 0 where
      in_label : {front is : List Item} {i : Item} {f : Breach} → BrokenLabel i f
          → BrokenLabels front (i ∷ is) f
      there_twice : {front is : List Item} {i : Item} {a : Values} → IsLabel i a → IsTwice front a
          → BrokenLabels front (i ∷ is) (first (out-Item i).low ! rule.WrongLabel)
      behind_label : {front is : List Item} {i : Item} {f : Breach}
          → BrokenLabels (i ∷ front) is f → BrokenLabels front (i ∷ is) f
