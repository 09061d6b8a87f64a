-- What constant expressions are, and which rules fail at their tokens.
use Rattle.std.specs.Prelude.{◌≡◌, ℕ, ℤ, pos, true, int_lt, bit_or, List, [], ◌∷◌, length, Option, Some, None}
use Rattle.m2_rule.specs.declared.rule.Rule.TheVariants as rule
use Rattle.m2_tree.specs.declared.pos.Pos.{Pos}
use Rattle.m2_tree.specs.declared.name.Ident.{Ident}
use Rattle.m2_tree.specs.declared.expr.MulOp.{MulOp}
use Rattle.m2_tree.specs.declared.expr.AddOp.{AddOp}
use Rattle.m2_tree.specs.declared.expr.RelOp.{RelOp}
use Rattle.m2_tree.specs.declared.expr.Sign.{Sign}
use Rattle.m2_tree.specs.declared.expr.Operator.{Operator}
use Rattle.m2_tree.specs.declared.expr.Expr.{Expr, Expr-F, out-Expr}
use Rattle.m2_tree.specs.declared.expr.Expr.TheOpen as layer
use Rattle.m2_tree.specs.declared.expr.Selector.{Selector, Selector-F, out-Selector}
use Rattle.m2_tree.specs.declared.expr.Designator.{Designator, out-Designator}
use Rattle.m2_tree.specs.declared.expr.Item.{Item, Item-F, out-Item}
use Rattle.typed_tree.specs.declared.types.TypeNo.{TypeNo}
use Rattle.typed_tree.specs.declared.meaning.Standard.{Standard}
use Rattle.typed_tree.specs.declared.meaning.Standard.TheVariants.{Val}
use Rattle.typed_tree.specs.declared.shape.Scalar.{Scalar as Range}
use Rattle.typed_tree.specs.declared.shape.Shape.TheVariants as shape
use Rattle.typed_tree.specs.declared.known_types.Types.{Types}
use Rattle.typed_tree.specs.Types.{bitset, char}
use Rattle.m2_rule.specs.declared.breach.Breach.{Breach}
use Rattle.check_const.specs.declared.operator.BinaryOp.TheVariants as op
use Rattle.check_const.specs.Sets.{with_span}
use Rattle.def_typing.specs.Shapes.{IsMade}
use Rattle.def_typing.specs.Amounts.{Constant, IsNumber, GoTogether, Within}
use Rattle.def_typing.specs.Operators.{◌!◌, Kind, Scalar, Set, Text, operand, Makes, Misused, Misapplied, MaySign, SignMakes, Negates}
use Rattle.def_typing.specs.Things.{Thing, AValue, AType, AStandard, AModule, Standing, Known, Ahead, Misnamed}
use Rattle.def_typing.specs.Functions.{Applies, Misapplies, BoundOf, Converts, Misconverts, IsOfOne, fixed_arity, TakesValue, TakesType}
use Rattle.def_typing.specs.Parts.{first, Operand, factors, addends, Among, IsInner}

-- what an expression stands for, if it has to be constant
pub data Fixed : Type 0 where
  AConstant : Kind → Fixed
  AScope : ℕ → Fixed
  ANamedType : TypeNo → Fixed
  AFunction : Standard → Fixed
  NoConstant : Fixed

abbrev pub fixed_thing : Thing → Fixed
fixed_thing (AValue k) = AConstant k
fixed_thing (AModule k) = AScope k
fixed_thing (AType t) = ANamedType t
fixed_thing (AStandard f) = AFunction f
fixed_thing other = NoConstant

-- A procedure is no constant, also before its heading.
abbrev pub FixedAs : Standing → Fixed → Type 0
FixedAs (Known x) y = y ≡ fixed_thing x
FixedAs Ahead y = y ≡ NoConstant
FixedAs other y = ⊥

-- the refusals at a name in a constant expression
pub record FixedMisnamed (at : Pos) (s : Standing) (f : Breach) : Type 0 where
  pub not_ahead : s ≡ Ahead → ⊥
  pub misnamed : Misnamed at s f

-- ---- components

-- no constant, and no module that may export one
pub data IsUnfixed : Fixed → Type 0 where
  unfixed_type : {t : TypeNo} → IsUnfixed (ANamedType t)
  unfixed_function : {f : Standard} → IsUnfixed (AFunction f)
  unfixed_other : IsUnfixed NoConstant

pub data FixedPicks (exports : ℕ → Ident → Standing)
    : Fixed → Selector-F Expr Selector Designator Item → Fixed → Type 0 where
  of_module : {k : ℕ} {at : Pos} {name : Ident} {y : Fixed} → FixedAs (exports k name) y
      → FixedPicks exports (AScope k) (layer.Field at name) y
  -- What is no constant has no constant components, and so have modules with brackets.
  of_field : {x : Fixed} {at : Pos} {name : Ident} → IsUnfixed x
      → FixedPicks exports x (layer.Field at name) NoConstant
  of_element : {x : Fixed} {at : Pos} {e : Expr} → IsUnfixed x
      → FixedPicks exports x (layer.Index at e) NoConstant
  element_of_module : {k : ℕ} {at : Pos} {e : Expr}
      → FixedPicks exports (AScope k) (layer.Index at e) NoConstant

pub data FixedMispicks (exports : ℕ → Ident → Standing)
    : Fixed → Selector-F Expr Selector Designator Item → Breach → Type 0 where
  in_module : {k : ℕ} {at : Pos} {name : Ident} {f : Breach}
      → FixedMisnamed name.pos (exports k name) f
      → FixedMispicks exports (AScope k) (layer.Field at name) f
  -- Constants have no components.
  constant_field : {k : Kind} {at : Pos} {name : Ident}
      → FixedMispicks exports (AConstant k) (layer.Field at name) (at ! rule.WrongType)
  constant_element : {k : Kind} {at : Pos} {e : Expr}
      → FixedMispicks exports (AConstant k) (layer.Index at e) (at ! rule.WrongType)

pub data FixedSelected (exports : ℕ → Ident → Standing)
    : Fixed → List Selector → Fixed → Type 0 where
  whole : {x : Fixed} → FixedSelected exports x [] x
  component : {x y z : Fixed} {s : Selector} {ss : List Selector}
      → FixedPicks exports x (out-Selector s) y → FixedSelected exports y ss z
      → FixedSelected exports x (s ∷ ss) z

pub data FixedSelectionFails (exports : ℕ → Ident → Standing)
    : Fixed → List Selector → Breach → Type 0 where
  at_next : {x : Fixed} {s : Selector} {ss : List Selector} {f : Breach}
      → FixedMispicks exports x (out-Selector s) f → FixedSelectionFails exports x (s ∷ ss) f
  behind : {x y : Fixed} {s : Selector} {ss : List Selector} {f : Breach}
      → FixedPicks exports x (out-Selector s) y → FixedSelectionFails exports y ss f
      → FixedSelectionFails exports x (s ∷ ss) f

-- a name with its components
pub data FixedDenotes (names : Ident → Standing) (exports : ℕ → Ident → Standing) (d : Designator)
    (y : Fixed) : Type 0 where
  fixed_named : {x : Fixed} → FixedAs (names (out-Designator d).name) x
      → FixedSelected exports x (out-Designator d).selectors y → FixedDenotes names exports d y

-- ---- functions

-- what a constant calls, by the number of its arguments
pub data IsFixedFunctionOf : Fixed → ℕ → Type 0 where
  fixed_standard : {f : Standard} {n : ℕ} → fixed_arity f ≡ Some n
      → IsFixedFunctionOf (AFunction f) n

-- the name of a scalar type
pub data FixedScalar (types : Types) : Fixed → Range → Type 0 where
  fixed_scalar : {t : TypeNo} {r : Range} → IsMade types t (shape.Scalar r)
      → FixedScalar types (ANamedType t) r

-- ---- parts

-- the bounds of an element
pub data IsBound (x : Expr) (i : Item-F Expr Selector Designator Item) : Type 0 where
  low_bound : i.low ≡ x → IsBound x i
  high_bound : i.high ≡ Some x → IsBound x i

module _ (names : Ident → Standing) (exports : ℕ → Ident → Standing) where
  -- the parts of a constant expression, which are constants themselves
  pub data IsFixedPart : Expr → Expr-F Expr Selector Designator Item → Type 0 where
    an_inner : {e : Expr} {y : Expr-F Expr Selector Designator Item} → IsInner e y
        → IsFixedPart e y
    in_element : {name : Option Ident} {at : Pos} {items : List Item} {i : Item} {e : Expr}
        → Among i items → IsBound e (out-Item i) → IsFixedPart e (layer.Set name at items)
    -- Arguments are looked at if a standard function takes this number of them.
    an_argument : {d : Designator} {args : List Expr} {f : Standard} {e : Expr}
        → FixedDenotes names exports d (AFunction f) → TakesValue f args e
        → IsFixedPart e (layer.Use d (Some args))

  -- the argument that names a type
  pub data IsTypePart (t : Expr) : Expr-F Expr Selector Designator Item → Type 0 where
    a_type : {d : Designator} {args : List Expr} {f : Standard}
        → FixedDenotes names exports d (AFunction f) → TakesType f args t
        → IsTypePart t (layer.Use d (Some args))

-- the refusals at a name that should stand for something of a sort
pub data Misses (Fits : Thing → Type 0) (spot at : Pos) : Standing → Breach → Type 0 where
  no_name : {s : Standing} {f : Breach} → FixedMisnamed at s f → Misses Fits spot at s f
  other_sort : {x : Thing} → (Fits x → ⊥) → Misses Fits spot at (Known x) (spot ! rule.NoType)
  a_procedure : Misses Fits spot at Ahead (spot ! rule.NoType)

-- the refusals at the name of a set's type
abbrev pub Misset : Pos → Standing → Breach → Type 0
Misset at s f = Misses (λ x. x ≡ AType bitset) at at s f

-- ---- what constant expressions are

module _ (types : Types) (names : Ident → Standing) (exports : ℕ → Ident → Standing) where
  mutual
    pub data Fixes : Expr → Fixed → Type 0 where
      as_fixed : {e : Expr} {x : Fixed} → FixedReads (out-Expr e) x → Fixes e x

    pub data FixedReads : Expr-F Expr Selector Designator Item → Fixed → Type 0 where
      fixed_literal : {at : Pos} {n : ℕ}
          → FixedReads (layer.Number at n) (AConstant (Scalar (Constant None (pos n))))
      fixed_character : {at : Pos} {c : ℕ}
          → FixedReads (layer.Char at c) (AConstant (Scalar (Constant (Some char) (pos c))))
      fixed_string : {at : Pos} {text : List ℕ}
          → FixedReads (layer.Text at text) (AConstant (Text text))
      -- The type of a set is BITSET, whether its name is written or not.
      fixed_set : {at : Pos} {items : List Item} {bits : ℕ} → AddUp 0 items bits
          → FixedReads (layer.Set None at items) (AConstant (Set (Some bits)))
      fixed_named_set : {name : Ident} {at : Pos} {items : List Item} {bits : ℕ}
          → names name ≡ Known (AType bitset) → AddUp 0 items bits
          → FixedReads (layer.Set (Some name) at items) (AConstant (Set (Some bits)))
      fixed_name : {d : Designator} {x : Fixed} → FixedDenotes names exports d x
          → FixedReads (layer.Use d None) x
      fixed_called : {d : Designator} {args : List Expr} {f : Standard} {k : Kind}
          → FixedDenotes names exports d (AFunction f) → FixedCalls f args k
          → FixedReads (layer.Use d (Some args)) (AConstant k)
      fixed_brackets : {at : Pos} {e : Expr} {k : Kind} → Fixes e (AConstant k)
          → FixedReads (layer.Bracketed at e) (AConstant k)
      fixed_negated : {at : Pos} {e : Expr} {a k : Kind} → Fixes e (AConstant a) → Negates a k
          → FixedReads (layer.Not at e) (AConstant k)
      fixed_term : {e : Expr} {rest : List (Operator MulOp × Expr)} {a k : Kind}
          → Fixes e (AConstant a) → FixedChain a (factors rest) k
          → FixedReads (layer.Term e rest) (AConstant k)
      fixed_sum : {e : Expr} {rest : List (Operator AddOp × Expr)} {a k : Kind}
          → Fixes e (AConstant a) → FixedChain a (addends rest) k
          → FixedReads (layer.Sum None e rest) (AConstant k)
      fixed_signed_sum : {sign : Operator Sign} {e : Expr} {rest : List (Operator AddOp × Expr)}
          {a b k : Kind} → Fixes e (AConstant a) → SignMakes sign.op (operand a) b
          → FixedChain b (addends rest) k → FixedReads (layer.Sum (Some sign) e rest) (AConstant k)
      fixed_relation : {a b : Expr} {o : Operator RelOp} {x y k : Kind} → Fixes a (AConstant x)
          → Fixes b (AConstant y) → Makes types (op.Relation o.op) (operand x) (operand y) k
          → FixedReads (layer.Relation a o b) (AConstant k)

    -- what a standard function gives of constants
    pub data FixedCalls : Standard → List Expr → Kind → Type 0 where
      fixed_of_one : {f : Standard} {e : Expr} {a k : Kind} → Fixes e (AConstant a)
          → Applies f (operand a) k → FixedCalls f (e ∷ []) k
      fixed_of_type : {f : Standard} {t : Expr} {x : Fixed} {r : Range} {n : ℤ} → Fixes t x
          → FixedScalar types x r → BoundOf r f n
          → FixedCalls f (t ∷ []) (Scalar (Constant (Some r.base) n))
      fixed_converted : {t e : Expr} {x : Fixed} {r : Range} {a k : Kind} → Fixes t x
          → FixedScalar types x r → Fixes e (AConstant a) → Converts r (operand a) k
          → FixedCalls Val (t ∷ e ∷ []) k

    pub data FixedChain : Kind → List Operand → Kind → Type 0 where
      fixed_done : {k : Kind} → FixedChain k [] k
      fixed_then : {a b c k : Kind} {x : Operand} {xs : List Operand} → Fixes x.of (AConstant b)
          → Makes types x.op (operand a) (operand b) c → FixedChain c xs k
          → FixedChain a (x ∷ xs) k

    -- from these bits, by elements in braces, to the bits of the set
    pub data AddUp : ℕ → List Item → ℕ → Type 0 where
      no_item : {a : ℕ} → AddUp a [] a
      one_item : {a b c : ℕ} {i : Item} {is : List Item} → Adds (out-Item i) b
          → AddUp (bit_or a b) is c → AddUp a (i ∷ is) c

    -- An element is a number from 0 to 31, and a range goes upwards.
    pub data Adds : Item-F Expr Selector Designator Item → ℕ → Type 0 where
      single : {i : Item-F Expr Selector Designator Item} {sort : Option TypeNo} {n : ℤ}
          → i.high ≡ None → HasNumber i.low sort n → Within (pos 0) n (pos 31)
          → Adds i (with_span 0 n n)
      range : {i : Item-F Expr Selector Designator Item} {high : Expr} {s t u : Option TypeNo}
          {n m : ℤ} → i.high ≡ Some high → HasNumber i.low s n → HasNumber high t m
          → Within (pos 0) n (pos 31) → Within (pos 0) m (pos 31) → GoTogether s t u
          → (int_lt m n ≡ true → ⊥) → Adds i (with_span 0 n m)

    pub data HasNumber : Expr → Option TypeNo → ℤ → Type 0 where
      has_number : {e : Expr} {k : Kind} {sort : Option TypeNo} {n : ℤ} → Fixes e (AConstant k)
          → operand k ≡ Scalar (Constant sort n) → IsNumber sort → HasNumber e sort n

  -- ---- rules that are broken

  -- the refusals at a call; those of a type's name stand in `Expressions`
  pub data FixedMiscalled (at : Pos) : Fixed → List Expr → Breach → Type 0 where
    -- Constants call standard functions alone, and not HIGH.
    fixed_no_function : {x : Fixed} {args : List Expr} → ((n : ℕ) → IsFixedFunctionOf x n → ⊥)
        → FixedMiscalled at x args (at ! rule.NoConstant)
    fixed_wrong_count : {x : Fixed} {args : List Expr} {n : ℕ} → IsFixedFunctionOf x n
        → (n ≡ length args → ⊥) → FixedMiscalled at x args (at ! rule.ArgumentCount)
    fixed_misapplied : {p : Standard} {e : Expr} {k : Kind} {f : Breach} → IsOfOne p
        → Fixes e (AConstant k) → Misapplies p (first e) (operand k) f
        → FixedMiscalled at (AFunction p) (e ∷ []) f
    fixed_misconverted : {t e : Expr} {x : Fixed} {r : Range} {k : Kind} {f : Breach} → Fixes t x
        → FixedScalar types x r → Fixes e (AConstant k) → Misconverts r (first e) (operand k) f
        → FixedMiscalled at (AFunction Val) (t ∷ e ∷ []) f

  pub data FixedChainFails (left : Pos) : Kind → List Operand → Breach → Type 0 where
    fixed_at_once : {a b : Kind} {x : Operand} {xs : List Operand} {f : Breach}
        → Fixes x.of (AConstant b)
        → Misused types x.op x.spot left (first x.of) (operand a) (operand b) f
        → FixedChainFails left a (x ∷ xs) f
    fixed_further : {a b c : Kind} {x : Operand} {xs : List Operand} {f : Breach}
        → Fixes x.of (AConstant b) → Makes types x.op (operand a) (operand b) c
        → FixedChainFails left c xs f → FixedChainFails left a (x ∷ xs) f

  -- the refusals of an element in braces
  pub data ItemFails (i : Item-F Expr Selector Designator Item) : Breach → Type 0 where
    no_number : {e : Expr} {k : Kind} → IsBound e i → Fixes e (AConstant k)
        → ((sort : Option TypeNo) (n : ℤ) → HasNumber e sort n → ⊥)
        → ItemFails i (first e ! rule.WrongType)
    no_element : {e : Expr} {sort : Option TypeNo} {n : ℤ} → IsBound e i → HasNumber e sort n
        → (Within (pos 0) n (pos 31) → ⊥) → ItemFails i (first e ! rule.OutOfRange)
    -- The bounds may not be an INTEGER and a CARDINAL.
    unlike : {high : Expr} {s t : Option TypeNo} {n m : ℤ} → i.high ≡ Some high
        → HasNumber i.low s n → HasNumber high t m → ((u : Option TypeNo) → GoTogether s t u → ⊥)
        → ItemFails i (first high ! rule.WrongType)
    empty : {high : Expr} {s t u : Option TypeNo} {n m : ℤ} → i.high ≡ Some high
        → HasNumber i.low s n → HasNumber high t m → GoTogether s t u → int_lt m n ≡ true
        → ItemFails i (first i.low ! rule.EmptyRange)

  pub data FixedFails : Expr-F Expr Selector Designator Item → Breach → Type 0 where
    fixed_at_name : {d : Designator} {args : Option (List Expr)} {f : Breach}
        → FixedMisnamed (out-Designator d).name.pos (names (out-Designator d).name) f
        → FixedFails (layer.Use d args) f
    fixed_at_selector : {d : Designator} {args : Option (List Expr)} {x : Fixed} {f : Breach}
        → FixedAs (names (out-Designator d).name) x
        → FixedSelectionFails exports x (out-Designator d).selectors f
        → FixedFails (layer.Use d args) f
    fixed_at_call : {d : Designator} {args : List Expr} {x : Fixed} {f : Breach}
        → FixedDenotes names exports d x → FixedMiscalled (out-Designator d).name.pos x args f
        → FixedFails (layer.Use d (Some args)) f
    no_constant : {y : Expr-F Expr Selector Designator Item} {e : Expr} {x : Fixed}
        → IsFixedPart names exports e y → Fixes e x → ((k : Kind) → x ≡ AConstant k → ⊥)
        → FixedFails y (first e ! rule.NoConstant)
    fixed_not_boolean : {at : Pos} {e : Expr} {a : Kind} → Fixes e (AConstant a)
        → ((k : Kind) → Negates a k → ⊥) → FixedFails (layer.Not at e) (at ! rule.WrongType)
    fixed_in_term : {e : Expr} {rest : List (Operator MulOp × Expr)} {a : Kind} {f : Breach}
        → Fixes e (AConstant a) → FixedChainFails (first e) a (factors rest) f
        → FixedFails (layer.Term e rest) f
    fixed_in_sum : {e : Expr} {rest : List (Operator AddOp × Expr)} {a : Kind} {f : Breach}
        → Fixes e (AConstant a) → FixedChainFails (first e) a (addends rest) f
        → FixedFails (layer.Sum None e rest) f
    fixed_at_sign : {sign : Operator Sign} {e : Expr} {rest : List (Operator AddOp × Expr)}
        {a : Kind} {f : Breach} → Fixes e (AConstant a)
        → Misapplied (MaySign sign.op (operand a)) (SignMakes sign.op (operand a)) sign.pos
        rule.WrongType f
        → FixedFails (layer.Sum (Some sign) e rest) f
    fixed_in_signed_sum : {sign : Operator Sign} {e : Expr} {rest : List (Operator AddOp × Expr)}
        {a b : Kind} {f : Breach} → Fixes e (AConstant a) → SignMakes sign.op (operand a) b
        → FixedChainFails sign.pos b (addends rest) f
        → FixedFails (layer.Sum (Some sign) e rest) f
    fixed_at_relation : {a b : Expr} {o : Operator RelOp} {x y : Kind} {f : Breach}
        → Fixes a (AConstant x) → Fixes b (AConstant y)
        → Misused types (op.Relation o.op) o.pos (first a) (first b) (operand x) (operand y) f
        → FixedFails (layer.Relation a o b) f
    at_set_type : {name : Ident} {at : Pos} {items : List Item} {f : Breach}
        → Misset name.pos (names name) f → FixedFails (layer.Set (Some name) at items) f
    at_item : {name : Option Ident} {at : Pos} {items : List Item} {i : Item} {f : Breach}
        → Among i items → ItemFails (out-Item i) f → FixedFails (layer.Set name at items) f
