-- What operators, signs and standard functions are in a typed tree.
use Rattle.std.specs.Prelude.{◌≡◌, ℕ, ℤ, pos, Option, Some, None}
use Rattle.m2_tree.specs.declared.expr.RelOp.TheVariants as rel
use Rattle.m2_tree.specs.declared.expr.Sign.{Sign}
use Rattle.m2_tree.specs.declared.expr.Sign.TheVariants as sign
use Rattle.typed_tree.specs.declared.types.TypeNo.{TypeNo}
use Rattle.typed_tree.specs.declared.computed.Arithmetic.{Arithmetic}
use Rattle.typed_tree.specs.declared.computed.Arithmetic.TheVariants.{Add, Subtract, Multiply, Divide, Remainder}
use Rattle.typed_tree.specs.declared.computed.Comparison.{Comparison}
use Rattle.typed_tree.specs.declared.computed.Comparison.TheVariants as comparison
use Rattle.typed_tree.specs.declared.computed.Inclusion.{Inclusion}
use Rattle.typed_tree.specs.declared.computed.Inclusion.TheVariants as inclusion
use Rattle.typed_tree.specs.declared.computed.SetOperator.{SetOperator}
use Rattle.typed_tree.specs.declared.computed.SetOperator.TheVariants.{Union, Difference, Intersection, SymmetricDifference}
use Rattle.typed_tree.specs.declared.computed.Link.TheVariants as link
use Rattle.typed_tree.specs.declared.computed.TypedExpr.{TypedExpr}
use Rattle.typed_tree.specs.declared.computed.TypedExpr.TheVariants as expr
use Rattle.typed_tree.specs.declared.meaning.Standard.{Standard}
use Rattle.typed_tree.specs.declared.meaning.Standard.TheVariants.{Abs, Cap, Chr, Odd, Ord}
use Rattle.typed_tree.specs.declared.known_types.Types.{Types}
use Rattle.typed_tree.specs.Chains.{link_operand}
use Rattle.typed_tree.specs.Types.{bitset, boolean, cardinal}
use Rattle.check_const.specs.declared.operator.BinaryOp.{BinaryOp}
use Rattle.check_const.specs.declared.operator.BinaryOp.TheVariants.{Plus, Minus, Times, Over, Div, Mod, And, Or, Relation}
use Rattle.def_typing.specs.Amounts.{Amount, Constant, Value, sort_of, GoTogether}
use Rattle.def_typing.specs.Operators.{Kind, Scalar, Set, Routine, Procedure, AreRoutines}

-- ---- operators

pub data Calculates : BinaryOp → Arithmetic → Type 0 where
  adds : Calculates Plus Add
  subtracts : Calculates Minus Subtract
  multiplies : Calculates Times Multiply
  divides : Calculates Div Divide
  leaves : Calculates Mod Remainder

pub data Compares : BinaryOp → Comparison → Type 0 where
  equal : Compares (Relation rel.Equal) comparison.Equal
  unequal : Compares (Relation rel.Unequal) comparison.Unequal
  less : Compares (Relation rel.Less) comparison.Less
  at_most : Compares (Relation rel.AtMost) comparison.AtMost
  greater : Compares (Relation rel.Greater) comparison.Greater
  at_least : Compares (Relation rel.AtLeast) comparison.AtLeast

-- = and # of sets and of procedures
pub data Equates : BinaryOp → Comparison → Type 0 where
  equates : Equates (Relation rel.Equal) comparison.Equal
  tells_apart : Equates (Relation rel.Unequal) comparison.Unequal

pub data Unites : BinaryOp → SetOperator → Type 0 where
  union : Unites Plus Union
  difference : Unites Minus Difference
  intersection : Unites Times Intersection
  symmetric_difference : Unites Over SymmetricDifference

pub data Includes : BinaryOp → Inclusion → Type 0 where
  within : Includes (Relation rel.AtMost) inclusion.Within
  around : Includes (Relation rel.AtLeast) inclusion.Around

-- ---- values

-- The code of a value is a typed expression. A constant has none, since its kind tells it, and
-- arrays and records have places instead.
abbrev pub HasNoCode : Kind → Type 0
HasNoCode (Scalar (Value t)) = ⊥
HasNoCode (Set None) = ⊥
HasNoCode (Routine t) = ⊥
HasNoCode (Procedure h) = ⊥
HasNoCode other = Unit {0}

-- At a place that asks for a type a constant gets this type.
pub data At (t : TypeNo) : Kind → Option TypedExpr → TypedExpr → Type 0 where
  constant : {sort : Option TypeNo} {n : ℤ}
      → At t (Scalar (Constant sort n)) None (expr.Constant t n)
  constant_set : {bits : ℕ} → At t (Set (Some bits)) None (expr.Constant bitset (pos bits))
  computed : {k : Kind} {x : TypedExpr} → At t k (Some x) x

-- numbers between which an operator stands are CARDINAL, if no operand has a type
abbrev pub or_cardinal : Option TypeNo → TypeNo
or_cardinal None = cardinal
or_cardinal (Some t) = t

-- ---- operators between two values, by their kinds and their code

pub data Operates (types : Types) (op : BinaryOp)
    : Kind → Option TypedExpr → Kind → Option TypedExpr → TypedExpr → Type 0 where
  calculation : {a b : Amount} {c d : Option TypedExpr} {x y : TypedExpr} {sort : Option TypeNo}
      {o : Arithmetic} → Calculates op o → GoTogether (sort_of a) (sort_of b) sort
      → At (or_cardinal sort) (Scalar a) c x → At (or_cardinal sort) (Scalar b) d y
      → Operates types op (Scalar a) c (Scalar b) d
      (link_operand x (link.Arithmetic o (or_cardinal sort) y))
  -- The second operand of AND and OR is evaluated only if the first one does not decide.
  conjunction : {a b : Amount} {c d : Option TypedExpr} {x y : TypedExpr} → op ≡ And
      → At boolean (Scalar a) c x → At boolean (Scalar b) d y
      → Operates types op (Scalar a) c (Scalar b) d (link_operand x (link.And y))
  disjunction : {a b : Amount} {c d : Option TypedExpr} {x y : TypedExpr} → op ≡ Or
      → At boolean (Scalar a) c x → At boolean (Scalar b) d y
      → Operates types op (Scalar a) c (Scalar b) d (link_operand x (link.Or y))
  scalar_comparison : {a b : Amount} {c d : Option TypedExpr} {x y : TypedExpr}
      {sort : Option TypeNo} {o : Comparison}
      → Compares op o
      → GoTogether (sort_of a) (sort_of b) sort
      → At (or_cardinal sort) (Scalar a) c x
      → At (or_cardinal sort) (Scalar b) d y
      → Operates types op (Scalar a) c (Scalar b) d (expr.Compare o x y)
  set_operation : {m n : Option ℕ} {c d : Option TypedExpr} {x y : TypedExpr} {o : SetOperator}
      → Unites op o → At bitset (Set m) c x → At bitset (Set n) d y
      → Operates types op (Set m) c (Set n) d (link_operand x (link.Combine o y))
  set_comparison : {m n : Option ℕ} {c d : Option TypedExpr} {x y : TypedExpr} {o : Comparison}
      → Equates op o → At bitset (Set m) c x → At bitset (Set n) d y
      → Operates types op (Set m) c (Set n) d (expr.Compare o x y)
  set_inclusion : {m n : Option ℕ} {c d : Option TypedExpr} {x y : TypedExpr} {o : Inclusion}
      → Includes op o → At bitset (Set m) c x → At bitset (Set n) d y
      → Operates types op (Set m) c (Set n) d (expr.Include o x y)
  membership : {a : Amount} {n : Option ℕ} {c d : Option TypedExpr} {x y : TypedExpr}
      → op ≡ Relation rel.In → At (or_cardinal (sort_of a)) (Scalar a) c x → At bitset (Set n) d y
      → Operates types op (Scalar a) c (Set n) d (expr.In x y)
  procedures : {a b : Kind} {x y : TypedExpr} {o : Comparison} → Equates op o
      → AreRoutines types a b → Operates types op a (Some x) b (Some y) (expr.Compare o x y)

-- the code of a result of this kind: what is made of constants is a constant
pub data Codes (types : Types) (op : BinaryOp) (a : Kind) (c : Option TypedExpr) (b : Kind)
    (d : Option TypedExpr) (k : Kind) : Option TypedExpr → Type 0 where
  constant_result : HasNoCode k → Codes types op a c b d k None
  computed_result : {x : TypedExpr} → (HasNoCode k → ⊥)
      → Operates types op a c b d x → Codes types op a c b d k (Some x)

-- ---- signs, and standard functions of one value

pub data Signed (k : Kind) : Sign → Option TypedExpr → Option TypedExpr → Type 0 where
  constant_signed : {o : Sign} → Signed k o None None
  plus : {t : TypeNo} {x : TypedExpr} → k ≡ Scalar (Value t)
      → Signed k sign.Plus (Some x) (Some (expr.Plus t x))
  minus : {x : TypedExpr} → Signed k sign.Minus (Some x) (Some (expr.Negate x))

-- of a value of a base type
pub data Applied (t : TypeNo) (x : TypedExpr) : Standard → TypedExpr → Type 0 where
  absolute : Applied t x Abs (expr.Abs t x)
  capital : Applied t x Cap (expr.Cap x)
  character : Applied t x Chr (expr.Chr x)
  is_odd : Applied t x Odd (expr.Odd x)
  ordinal : Applied t x Ord (expr.Ord x)
