-- What expressions stand for, and which rules are broken in them.
use Rattle.std.specs.Prelude.{◌≡◌, ℕ, ℤ, pos, Bool, false, List, [], ◌∷◌, length, Option, Some, None}
use Rattle.m2_rule.specs.declared.rule.Rule.TheVariants as rule
use Rattle.m2_tree.specs.declared.pos.Pos.{Pos}
use Rattle.m2_tree.specs.declared.name.Ident.{Ident}
use Rattle.m2_tree.specs.declared.expr.MulOp.{MulOp}
use Rattle.m2_tree.specs.declared.expr.AddOp.{AddOp}
use Rattle.m2_tree.specs.declared.expr.RelOp.{RelOp}
use Rattle.m2_tree.specs.declared.expr.Sign.{Sign}
use Rattle.m2_tree.specs.declared.expr.Operator.{Operator}
use Rattle.m2_tree.specs.declared.expr.Expr.{Expr, Expr-F, out-Expr}
use Rattle.m2_tree.specs.declared.expr.Expr.TheOpen as layer
use Rattle.m2_tree.specs.declared.expr.Selector.{Selector, Selector-F, out-Selector}
use Rattle.m2_tree.specs.declared.expr.Designator.{Designator, out-Designator}
use Rattle.m2_tree.specs.declared.expr.Item.{Item}
use Rattle.typed_tree.specs.declared.types.TypeNo.{TypeNo}
use Rattle.typed_tree.specs.declared.meaning.Standard.{Standard}
use Rattle.typed_tree.specs.declared.meaning.Standard.TheVariants.{High, Val}
use Rattle.typed_tree.specs.declared.shape.Formal.{Formal}
use Rattle.typed_tree.specs.declared.shape.Scalar.{Scalar as Range}
use Rattle.typed_tree.specs.declared.shape.Signature.{Signature}
use Rattle.typed_tree.specs.declared.known_types.Types.{Types}
use Rattle.typed_tree.specs.Types.{cardinal, char}
use Rattle.m2_rule.specs.declared.breach.Breach.{Breach}
use Rattle.check_const.specs.declared.operator.BinaryOp.TheVariants as op
use Rattle.def_typing.specs.Parts.{first, Operand, factors, addends, Among, IsInner}
use Rattle.def_typing.specs.Constants.{Fixed, AConstant, Fixes, FixedReads, FixedFails, FixedScalar, IsFixedPart, IsTypePart}
use Rattle.def_typing.specs.Amounts.{Constant, Value}
use Rattle.def_typing.specs.Operators.{◌!◌, Kind, Scalar, Text, operand, Makes, Misused, Misapplied, MaySign, SignMakes, Negates}
use Rattle.def_typing.specs.Things.{Thing, AValue, AVariable, AnOpenArray, AStandard, Headless, Standing, Known, Ahead, Misnamed, Taken, Mistaken, IsAssignable, Misassigned, Picks, Indexes}
use Rattle.def_typing.specs.Functions.{Applies, Misapplies, NamesScalar, BoundOf, Converts, Misconverts, IsOfOne, TakesValue, TakesType, result_kind, HasHeading, IsFunctionOf, Mispassed, IsPassed}

-- ---- parts

-- an argument beside its formal
pub data Beside (formal : Formal) (x : Expr) : List Formal → List Expr → Type 0 where
  beside : {fs : List Formal} {xs : List Expr} → Beside formal x (formal ∷ fs) (x ∷ xs)
  behind : {g : Formal} {fs : List Formal} {y : Expr} {xs : List Expr} → Beside formal x fs xs
      → Beside formal x (g ∷ fs) (y ∷ xs)

-- the parts of an expression that are taken as values
pub data IsOperand : Expr → Expr-F Expr Selector Designator Item → Type 0 where
  an_inner : {e : Expr} {y : Expr-F Expr Selector Designator Item} → IsInner e y → IsOperand e y
  as_index : {d : Designator} {args : Option (List Expr)} {s : Selector} {at : Pos} {e : Expr}
      → Among s (out-Designator d).selectors → out-Selector s ≡ layer.Index at e
      → IsOperand e (layer.Use d args)

-- the expressions that stand in an expression
pub data IsPart (x : Expr) : Expr-F Expr Selector Designator Item → Type 0 where
  an_operand : {y : Expr-F Expr Selector Designator Item} → IsOperand x y → IsPart x y
  an_argument : {d : Designator} {args : List Expr} → Among x args
      → IsPart x (layer.Use d (Some args))

-- a name with components, as M.T
pub data HasComponents : Expr → Type 0 where
  has_components : {e : Expr} {d : Designator} {s : Selector} {ss : List Selector}
      → out-Expr e ≡ layer.Use d None → (out-Designator d).selectors ≡ s ∷ ss → HasComponents e

-- ---- what expressions stand for

-- The types that are known, what names stand for, and what modules export.
module _ (types : Types) (names : Ident → Standing) (exports : ℕ → Ident → Standing) where
  mutual
    pub data Stands : Expr → Thing → Type 0 where
      as_written : {e : Expr} {x : Thing} → Reads (out-Expr e) x → Stands e x

    -- An expression has a constant, or a value of a type.
    pub data Has : Expr → Kind → Type 0 where
      taken : {e : Expr} {x : Thing} {k : Kind} → Stands e x → Taken types x k → Has e k

    pub data Reads : Expr-F Expr Selector Designator Item → Thing → Type 0 where
      -- A constant made of number literals alone is a number.
      literal : {at : Pos} {n : ℕ}
          → Reads (layer.Number at n) (AValue (Scalar (Constant None (pos n))))
      -- Octal digits and C are a CHAR.
      character : {at : Pos} {c : ℕ}
          → Reads (layer.Char at c) (AValue (Scalar (Constant (Some char) (pos c))))
      string : {at : Pos} {text : List ℕ} → Reads (layer.Text at text) (AValue (Text text))
      -- Sets have constant elements.
      constant_set : {name : Option Ident} {at : Pos} {items : List Item} {k : Kind}
          → FixedReads types names exports (layer.Set name at items) (AConstant k)
          → Reads (layer.Set name at items) (AValue k)
      designated : {d : Designator} {x : Thing} → Denotes d x → Reads (layer.Use d None) x
      called : {d : Designator} {args : List Expr} {x : Thing} {k : Kind} → Denotes d x
          → Calls x args k → Reads (layer.Use d (Some args)) (AValue k)
      bracketed : {at : Pos} {e : Expr} {k : Kind} → Has e k
          → Reads (layer.Bracketed at e) (AValue k)
      negated : {at : Pos} {e : Expr} {a k : Kind} → Has e a → Negates a k
          → Reads (layer.Not at e) (AValue k)
      term : {e : Expr} {rest : List (Operator MulOp × Expr)} {a k : Kind} → Has e a
          → Chain a (factors rest) k → Reads (layer.Term e rest) (AValue k)
      sum : {e : Expr} {rest : List (Operator AddOp × Expr)} {a k : Kind} → Has e a
          → Chain a (addends rest) k → Reads (layer.Sum None e rest) (AValue k)
      -- A sign stands before the first term only and applies to that whole term.
      signed_sum : {sign : Operator Sign} {e : Expr} {rest : List (Operator AddOp × Expr)}
          {a b k : Kind} → Has e a → SignMakes sign.op (operand a) b → Chain b (addends rest) k
          → Reads (layer.Sum (Some sign) e rest) (AValue k)
      relation : {a b : Expr} {o : Operator RelOp} {x y k : Kind} → Has a x → Has b y
          → Makes types (op.Relation o.op) (operand x) (operand y) k
          → Reads (layer.Relation a o b) (AValue k)

    -- from a first operand, by operators with their second ones, to what they give
    pub data Chain : Kind → List Operand → Kind → Type 0 where
      done : {k : Kind} → Chain k [] k
      then : {a b c k : Kind} {x : Operand} {xs : List Operand} → Has x.of b
          → Makes types x.op (operand a) (operand b) c → Chain c xs k → Chain a (x ∷ xs) k

    -- a name with its components
    pub data Denotes : Designator → Thing → Type 0 where
      named : {d : Designator} {x y : Thing} → names (out-Designator d).name ≡ Known x
          → Selected x (out-Designator d).selectors y → Denotes d y

    pub data Selected : Thing → List Selector → Thing → Type 0 where
      whole : {x : Thing} → Selected x [] x
      component : {x y z : Thing} {s : Selector} {ss : List Selector} → Selects x (out-Selector s) y
          → Selected y ss z → Selected x (s ∷ ss) z

    pub data Selects : Thing → Selector-F Expr Selector Designator Item → Thing → Type 0 where
      field : {x y : Thing} {at : Pos} {name : Ident} → Picks types exports name x (Known y)
          → Selects x (layer.Field at name) y
      -- An index is assignment compatible with the index type.
      element : {x : Thing} {i t : TypeNo} {at : Pos} {e : Expr} {k : Kind} → Indexes types x i t
          → Has e k → IsAssignable types i (operand k) → Selects x (layer.Index at e) (AVariable t)

    -- what a call gives
    pub data Calls : Thing → List Expr → Kind → Type 0 where
      of_function : {x : Thing} {s : Signature} {t : TypeNo} {args : List Expr}
          → HasHeading types x s → s.result ≡ Some t → ArePassed s.formals args
          → Calls x args (result_kind types t)
      of_one : {f : Standard} {x : Expr} {a k : Kind} → Has x a → Applies f (operand a) k
          → Calls (AStandard f) (x ∷ []) k
      of_type : {f : Standard} {t : Expr} {x : Thing} {r : Range} {n : ℤ} → Stands t x
          → NamesScalar types x r → BoundOf r f n
          → Calls (AStandard f) (t ∷ []) (Scalar (Constant (Some r.base) n))
      converted : {t e : Expr} {x : Thing} {r : Range} {a k : Kind} → Stands t x
          → NamesScalar types x r → Has e a → Converts r (operand a) k
          → Calls (AStandard Val) (t ∷ e ∷ []) k
      -- HIGH of an open array is a CARDINAL.
      greatest_index : {e : Expr} {t : TypeNo} → Stands e (AnOpenArray t)
          → Calls (AStandard High) (e ∷ []) (Scalar (Value cardinal))

    -- Formals and arguments agree in number, and each argument suits its formal.
    pub data ArePassed : List Formal → List Expr → Type 0 where
      no_more : ArePassed [] []
      one_more : {f : Formal} {fs : List Formal} {e : Expr} {es : List Expr} {x : Thing}
          → Stands e x → IsPassed types f x → ArePassed fs es → ArePassed (f ∷ fs) (e ∷ es)

  -- ---- rules that are broken

  -- the refusals at a component
  pub data Misselected : Thing → Selector-F Expr Selector Designator Item → Breach → Type 0 where
    no_components : {x : Thing} {at : Pos} {name : Ident}
        → ((s : Standing) → Picks types exports name x s → ⊥)
        → Misselected x (layer.Field at name) (at ! rule.WrongType)
    at_field : {x : Thing} {at : Pos} {name : Ident} {s : Standing} {f : Breach}
        → Picks types exports name x s → Misnamed name.pos s f
        → Misselected x (layer.Field at name) f
    no_elements : {x : Thing} {at : Pos} {e : Expr} → ((i t : TypeNo) → Indexes types x i t → ⊥)
        → Misselected x (layer.Index at e) (at ! rule.WrongType)
    at_index : {x : Thing} {i t : TypeNo} {at : Pos} {e : Expr} {k : Kind} {f : Breach}
        → Indexes types x i t → Has e k
        → Misassigned types i (first e) rule.NotAssignable (operand k) f
        → Misselected x (layer.Index at e) f

  -- as far as what stands before it stands for something
  pub data SelectionFails : Thing → List Selector → Breach → Type 0 where
    at_next : {x : Thing} {s : Selector} {ss : List Selector} {f : Breach}
        → Misselected x (out-Selector s) f → SelectionFails x (s ∷ ss) f
    behind : {x y : Thing} {s : Selector} {ss : List Selector} {f : Breach}
        → Selects x (out-Selector s) y → SelectionFails y ss f → SelectionFails x (s ∷ ss) f

  -- the refusals at a call
  pub data Miscalled (at : Pos) : Thing → List Expr → Breach → Type 0 where
    -- Only functions are called in expressions.
    no_function : {x : Thing} {args : List Expr} → ((nested : Bool) → x ≡ Headless nested → ⊥)
        → ((n : ℕ) → IsFunctionOf types x n → ⊥) → Miscalled at x args (at ! rule.WrongType)
    -- Another count of arguments is refused at the designator called.
    wrong_count : {x : Thing} {args : List Expr} {n : ℕ} → IsFunctionOf types x n
        → (n ≡ length args → ⊥) → Miscalled at x args (at ! rule.ArgumentCount)
    -- Each argument suits its formal.
    mispassed : {x y : Thing} {s : Signature} {t : TypeNo} {args : List Expr} {formal : Formal}
        {e : Expr} {f : Breach} → HasHeading types x s → s.result ≡ Some t
        → length s.formals ≡ length args → Beside formal e s.formals args → Stands e y
        → Mispassed types (first e) formal y f → Miscalled at x args f
    no_value : {p : Standard} {args : List Expr} {e : Expr} {x : Thing} {f : Breach}
        → TakesValue p args e → Stands e x → Mistaken (first e) x f
        → Miscalled at (AStandard p) args f
    misapplied : {p : Standard} {e : Expr} {k : Kind} {f : Breach} → IsOfOne p → Has e k
        → Misapplies p (first e) (operand k) f → Miscalled at (AStandard p) (e ∷ []) f
    no_type : {p : Standard} {args : List Expr} {e : Expr} {x : Thing} → TakesType p args e
        → Stands e x
        → ((r : Range) → NamesScalar types x r → ⊥)
        → Miscalled at (AStandard p) args (first e ! rule.NoType)
    misconverted : {t e : Expr} {x : Thing} {r : Range} {k : Kind} {f : Breach} → Stands t x
        → NamesScalar types x r → Has e k → Misconverts r (first e) (operand k) f
        → Miscalled at (AStandard Val) (t ∷ e ∷ []) f
    no_array : {e : Expr} {x : Thing} {f : Breach} → Stands e x → Mistaken (first e) x f
        → Miscalled at (AStandard High) (e ∷ []) f
    no_open_array : {e : Expr} {x : Thing} → Stands e x → ((t : TypeNo) → x ≡ AnOpenArray t → ⊥)
        → ((f : Breach) → Mistaken (first e) x f → ⊥)
        → Miscalled at (AStandard High) (e ∷ []) (first e ! rule.WrongArgument)

  -- the refusals at operators of a chain, as far as what stands before them has a value
  pub data ChainFails (left : Pos) : Kind → List Operand → Breach → Type 0 where
    at_once : {a b : Kind} {x : Operand} {xs : List Operand} {f : Breach} → Has x.of b
        → Misused types x.op x.spot left (first x.of) (operand a) (operand b) f
        → ChainFails left a (x ∷ xs) f
    further : {a b c : Kind} {x : Operand} {xs : List Operand} {f : Breach} → Has x.of b
        → Makes types x.op (operand a) (operand b) c → ChainFails left c xs f
        → ChainFails left a (x ∷ xs) f

  mutual
    -- A rule fails at a token of the construct itself. It speaks only if the parts that it looks at
    -- have a meaning.
    pub data Fails : Expr-F Expr Selector Designator Item → Breach → Type 0 where
      at_name : {d : Designator} {args : Option (List Expr)} {f : Breach}
          → Misnamed (out-Designator d).name.pos (names (out-Designator d).name) f
          → Fails (layer.Use d args) f
      at_selector : {d : Designator} {args : Option (List Expr)} {x : Thing} {f : Breach}
          → names (out-Designator d).name ≡ Known x
          → SelectionFails x (out-Designator d).selectors f → Fails (layer.Use d args) f
      at_call : {d : Designator} {args : List Expr} {x : Thing} {f : Breach} → Denotes d x
          → Miscalled (out-Designator d).name.pos x args f → Fails (layer.Use d (Some args)) f
      no_operand : {y : Expr-F Expr Selector Designator Item} {e : Expr} {x : Thing} {f : Breach}
          → IsOperand e y → Stands e x → Mistaken (first e) x f → Fails y f
      at_set : {name : Option Ident} {at : Pos} {items : List Item} {f : Breach}
          → FixedFails types names exports (layer.Set name at items) f
          → Fails (layer.Set name at items) f
      in_set : {name : Option Ident} {at : Pos} {items : List Item} {e : Expr} {f : Breach}
          → IsFixedPart names exports e (layer.Set name at items) → FixedBroken e f
          → Fails (layer.Set name at items) f
      not_boolean : {at : Pos} {e : Expr} {a : Kind} → Has e a
          → ((k : Kind) → Negates a k → ⊥) → Fails (layer.Not at e) (at ! rule.WrongType)
      in_term : {e : Expr} {rest : List (Operator MulOp × Expr)} {a : Kind} {f : Breach}
          → Has e a → ChainFails (first e) a (factors rest) f → Fails (layer.Term e rest) f
      in_sum : {e : Expr} {rest : List (Operator AddOp × Expr)} {a : Kind} {f : Breach}
          → Has e a → ChainFails (first e) a (addends rest) f → Fails (layer.Sum None e rest) f
      at_sign : {sign : Operator Sign} {e : Expr} {rest : List (Operator AddOp × Expr)} {a : Kind}
          {f : Breach} → Has e a
          → Misapplied (MaySign sign.op (operand a)) (SignMakes sign.op (operand a)) sign.pos
          rule.WrongType f
          → Fails (layer.Sum (Some sign) e rest) f
      in_signed_sum : {sign : Operator Sign} {e : Expr} {rest : List (Operator AddOp × Expr)}
          {a b : Kind} {f : Breach} → Has e a → SignMakes sign.op (operand a) b
          → ChainFails sign.pos b (addends rest) f → Fails (layer.Sum (Some sign) e rest) f
      at_relation : {a b : Expr} {o : Operator RelOp} {x y : Kind} {f : Breach} → Has a x
          → Has b y
          → Misused types (op.Relation o.op) o.pos (first a) (first b) (operand x) (operand y) f
          → Fails (layer.Relation a o b) f

    -- A rule is broken in an expression if it fails at a token of it, or of a part of it.
    pub data Broken : Expr → Breach → Type 0 where
      fails : {e : Expr} {f : Breach} → Fails (out-Expr e) f → Broken e f
      inside : {e x : Expr} {f : Breach} → IsPart x (out-Expr e) → Broken x f → Broken e f

    -- the same of a constant expression
    pub data FixedBroken : Expr → Breach → Type 0 where
      fixed_fails : {e : Expr} {f : Breach} → FixedFails types names exports (out-Expr e) f
          → FixedBroken e f
      fixed_inside : {e x : Expr} {f : Breach} → IsFixedPart names exports x (out-Expr e)
          → FixedBroken x f → FixedBroken e f
      in_type : {e t : Expr} {f : Breach} → IsTypePart names exports t (out-Expr e)
          → BrokenTypeArgument t f → FixedBroken e f

    -- the same of an argument that names a type; with components it is read as in a body
    pub data BrokenTypeArgument : Expr → Breach → Type 0 where
      in_fixed : {t : Expr} {f : Breach} → (HasComponents t → ⊥) → FixedBroken t f
          → BrokenTypeArgument t f
      no_scalar : {t : Expr} {x : Fixed} → (HasComponents t → ⊥) → Fixes types names exports t x
          → ((r : Range) → FixedScalar types x r → ⊥)
          → BrokenTypeArgument t (first t ! rule.NoType)
      in_components : {t : Expr} {f : Breach} → HasComponents t → Broken t f
          → BrokenTypeArgument t f
      no_scalar_component : {t : Expr} {x : Thing} → HasComponents t → Stands t x
          → ((r : Range) → NamesScalar types x r → ⊥)
          → BrokenTypeArgument t (first t ! rule.NoType)

  -- the same of an expression that is taken as a value
  pub data BrokenAsValue (e : Expr) (f : Breach) : Type 0 where
    broken : Broken e f → BrokenAsValue e f
    mistaken : {x : Thing} → Stands e x → Mistaken (first e) x f → BrokenAsValue e f

  -- the same of an expression that has to be constant
  pub data BrokenAsConstant (e : Expr) : Breach → Type 0 where
    broken_constant : {f : Breach} → FixedBroken e f → BrokenAsConstant e f
    not_constant : {x : Fixed} → Fixes types names exports e x → ((k : Kind) → x ≡ AConstant k → ⊥)
        → BrokenAsConstant e (first e ! rule.NoConstant)
