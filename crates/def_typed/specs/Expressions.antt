-- The typed trees of expressions: names by what they mean, and a type at every value.
use Rattle.std.specs.Prelude.{◌≡◌, ℕ, List, [], ◌∷◌, Option, Some, None, slice_get}
use Rattle.m2_tree.specs.declared.pos.Pos.{Pos}
use Rattle.m2_tree.specs.declared.name.Ident.{Ident}
use Rattle.m2_tree.specs.declared.expr.MulOp.{MulOp}
use Rattle.m2_tree.specs.declared.expr.AddOp.{AddOp}
use Rattle.m2_tree.specs.declared.expr.RelOp.{RelOp}
use Rattle.m2_tree.specs.declared.expr.Sign.{Sign}
use Rattle.m2_tree.specs.declared.expr.Operator.{Operator}
use Rattle.m2_tree.specs.declared.expr.Expr.{Expr, Expr-F, out-Expr}
use Rattle.m2_tree.specs.declared.expr.Expr.TheOpen as layer
use Rattle.m2_tree.specs.declared.expr.Selector.{Selector, Selector-F, out-Selector}
use Rattle.m2_tree.specs.declared.expr.Designator.{Designator, out-Designator}
use Rattle.m2_tree.specs.declared.expr.Item.{Item}
use Rattle.typed_tree.specs.declared.types.TypeNo.{TypeNo}
use Rattle.typed_tree.specs.declared.computed.Argument.{Argument}
use Rattle.typed_tree.specs.declared.computed.Argument.TheVariants as argument
use Rattle.typed_tree.specs.declared.computed.Call.{Call}
use Rattle.typed_tree.specs.declared.computed.Call.TheVariants as call
use Rattle.typed_tree.specs.declared.computed.Component.TheVariants as part
use Rattle.typed_tree.specs.declared.computed.LocalProcedure.{LocalProcedure}
use Rattle.typed_tree.specs.declared.computed.Place.{Place}
use Rattle.typed_tree.specs.declared.computed.Root.TheVariants as root
use Rattle.typed_tree.specs.declared.computed.Slot.{Slot}
use Rattle.typed_tree.specs.declared.computed.TypedExpr.{TypedExpr}
use Rattle.typed_tree.specs.declared.computed.TypedExpr.TheVariants as expr
use Rattle.typed_tree.specs.declared.meaning.Procedure.{Procedure as ModuleProcedure}
use Rattle.typed_tree.specs.declared.meaning.Standard.{Standard}
use Rattle.typed_tree.specs.declared.meaning.Standard.TheVariants.{High, Val}
use Rattle.typed_tree.specs.declared.shape.Formal.{Formal}
use Rattle.typed_tree.specs.declared.shape.Shape.TheVariants as shape
use Rattle.typed_tree.specs.declared.shape.Signature.{Signature}
use Rattle.typed_tree.specs.declared.known_types.Types.{Types}
use Rattle.typed_tree.specs.Chains.{behind, root_place}
use Rattle.typed_tree.specs.Names.{place_of}
use Rattle.typed_tree.specs.Types.{cardinal, char}
use Rattle.check_const.specs.declared.operator.BinaryOp.TheVariants as op
use Rattle.def_typing.specs.Parts.{Operand, factors, addends}
use Rattle.def_typing.specs.Shapes.{IsMade}
use Rattle.def_typing.specs.Amounts.{Value}
use Rattle.def_typing.specs.Operators.{Kind, Scalar, Text, Whole, operand, Makes, SignMakes}
use Rattle.def_typing.specs.Things.{Standing, AType, AStandard, content}
use Rattle.def_typing.specs.Functions.{variable_formal, open_variable_formal, value_formal, open_value_formal}
use Rattle.def_typing.specs.Expressions.{Stands, Has, Denotes}
use Rattle.def_typed.specs.Named.{Named, Variable, OpenArray, Procedure, Nested, Module, named, Senses}
use Rattle.def_typed.specs.Coded.{HasNoCode, At, Codes, Signed, Applied}

-- The types that are known, what names stand for, what modules export, and what names mean.
module _ (types : Types) (names : Ident → Standing) (exports : ℕ → Ident → Standing)
    (senses : Senses) where
  mutual
    -- ---- designators

    pub data Names : Designator → Named → Type 0 where
      by_name : {d : Designator} {x y : Named}
          → named senses.level (senses.of_names (out-Designator d).name) ≡ Some x
          → Leads x (out-Designator d).selectors y → Names d y

    pub data Leads : Named → List Selector → Named → Type 0 where
      whole : {x : Named} → Leads x [] x
      component : {x y z : Named} {s : Selector} {ss : List Selector}
          → Selects x (out-Selector s) y → Leads y ss z → Leads x (s ∷ ss) z

    pub data Selects : Named → Selector-F Expr Selector Designator Item → Named → Type 0 where
      exported : {k : ℕ} {at : Pos} {name : Ident} {x : Named}
          → named senses.level (senses.of_exports k name) ≡ Some x
          → Selects (Module k) (layer.Field at name) x
      -- A field has the number of its place in the record.
      field : {t u : TypeNo} {place : Place} {at : Pos} {name : Ident} {key : List ℕ} {i : ℕ}
          {fields : List (List ℕ × TypeNo)} → IsMade types t (shape.Record fields)
          → place_of name.name fields ≡ Some i → slice_get fields i ≡ Some (key, u)
          → Selects (Variable t place) (layer.Field at name)
          (Variable u (behind place (part.Field t i)))
      element : {t i u : TypeNo} {place : Place} {at : Pos} {e : Expr} {x : TypedExpr}
          → IsMade types t (shape.Array i u) → Gives i e x
          → Selects (Variable t place) (layer.Index at e)
          (Variable u (behind place (part.Element t x)))
      open_element : {t : TypeNo} {s : Slot} {at : Pos} {e : Expr} {x : TypedExpr}
          → Gives cardinal e x
          → Selects (OpenArray t s) (layer.Index at e)
          (Variable t (behind (root_place (root.Open s)) (part.OpenElement s t x)))

    -- an expression that is a designator
    pub data Designates : Expr → Named → Type 0 where
      designates : {e : Expr} {d : Designator} {x : Named} → out-Expr e ≡ layer.Use d None
          → Names d x → Designates e x

    -- ---- values

    -- the code of an expression of this kind
    pub data HasCode : Expr → Kind → Option TypedExpr → Type 0 where
      no_code : {e : Expr} {k : Kind} → HasNoCode k → HasCode e k None
      a_code : {e : Expr} {k : Kind} {x : TypedExpr} → (HasNoCode k → ⊥)
          → Computes (out-Expr e) x → HasCode e k (Some x)

    -- what an expression is at a place that asks for this type
    pub data Gives : TypeNo → Expr → TypedExpr → Type 0 where
      gives : {t : TypeNo} {e : Expr} {k : Kind} {c : Option TypedExpr} {x : TypedExpr}
          → Has types names exports e k → HasCode e k c → At t (operand k) c x → Gives t e x

    -- what computes the value of an expression that is no constant
    pub data Computes : Expr-F Expr Selector Designator Item → TypedExpr → Type 0 where
      -- a variable that is no array and no record
      loaded : {d : Designator} {t : TypeNo} {place : Place} → Names d (Variable t place)
          → (content types t ≡ Whole t → ⊥) → Computes (layer.Use d None) (expr.Load t place)
      a_procedure : {d : Designator} {p : ModuleProcedure} → Names d (Procedure p)
          → Computes (layer.Use d None) (expr.Procedure p)
      a_function : {d : Designator} {args : List Expr} {s : Signature} {t : TypeNo} {c : Call}
          → Calls d args s c → s.result ≡ Some t
          → Computes (layer.Use d (Some args)) (expr.Call t c)
      of_one : {d : Designator} {f : Standard} {e : Expr} {t : TypeNo} {x y : TypedExpr}
          → Denotes types names exports d (AStandard f)
          → Has types names exports e (Scalar (Value t)) → Computes (out-Expr e) x
          → Applied t x f y → Computes (layer.Use d (Some (e ∷ []))) y
      converted : {d : Designator} {to e : Expr} {t u : TypeNo} {x : TypedExpr}
          → Denotes types names exports d (AStandard Val) → Stands types names exports to (AType u)
          → Has types names exports e (Scalar (Value t)) → Computes (out-Expr e) x
          → Computes (layer.Use d (Some (to ∷ e ∷ []))) (expr.Val u x)
      greatest_index : {d : Designator} {e : Expr} {t : TypeNo} {s : Slot}
          → Denotes types names exports d (AStandard High) → Designates e (OpenArray t s)
          → Computes (layer.Use d (Some (e ∷ []))) (expr.High s)
      bracketed : {at : Pos} {e : Expr} {x : TypedExpr} → Computes (out-Expr e) x
          → Computes (layer.Bracketed at e) x
      negated : {at : Pos} {e : Expr} {x : TypedExpr} → Computes (out-Expr e) x
          → Computes (layer.Not at e) (expr.Not x)
      term : {e : Expr} {rest : List (Operator MulOp × Expr)} {a : Kind} {c : Option TypedExpr}
          {x : TypedExpr} → Has types names exports e a → HasCode e a c
          → Chains a c (factors rest) (Some x) → Computes (layer.Term e rest) x
      sum : {e : Expr} {rest : List (Operator AddOp × Expr)} {a : Kind} {c : Option TypedExpr}
          {x : TypedExpr} → Has types names exports e a → HasCode e a c
          → Chains a c (addends rest) (Some x) → Computes (layer.Sum None e rest) x
      signed_sum : {sign : Operator Sign} {e : Expr} {rest : List (Operator AddOp × Expr)}
          {a b : Kind} {c d : Option TypedExpr} {x : TypedExpr} → Has types names exports e a
          → HasCode e a c → SignMakes sign.op (operand a) b → Signed a sign.op c d
          → Chains b d (addends rest) (Some x) → Computes (layer.Sum (Some sign) e rest) x
      relation : {e f : Expr} {o : Operator RelOp} {a b k : Kind} {c d : Option TypedExpr}
          {x : TypedExpr} → Has types names exports e a → HasCode e a c
          → Has types names exports f b → HasCode f b d
          → Makes types (op.Relation o.op) (operand a) (operand b) k
          → Codes types (op.Relation o.op) (operand a) c (operand b) d k (Some x)
          → Computes (layer.Relation e o f) x

    -- from a first operand, by operators with their second ones, to the code of the result
    pub data Chains : Kind → Option TypedExpr → List Operand → Option TypedExpr → Type 0 where
      done : {k : Kind} {c : Option TypedExpr} → Chains k c [] c
      then : {a b k : Kind} {c d z w : Option TypedExpr} {x : Operand} {xs : List Operand}
          → Has types names exports x.of b → HasCode x.of b d
          → Makes types x.op (operand a) (operand b) k
          → Codes types x.op (operand a) c (operand b) d k z → Chains k z xs w
          → Chains a c (x ∷ xs) w

    -- ---- calls

    -- a call with the heading of what is called
    pub data Calls : Designator → List Expr → Signature → Call → Type 0 where
      of_module : {d : Designator} {args : List Expr} {p : ModuleProcedure} {s : Signature}
          {xs : List Argument} → Names d (Procedure p)
          → IsMade types p.heading (shape.Procedure s) → ArePassed s.formals args xs
          → Calls d args s (call.Module p xs)
      of_nested : {d : Designator} {args : List Expr} {p : LocalProcedure} {s : Signature}
          {xs : List Argument} → Names d (Nested p) → IsMade types p.heading (shape.Procedure s)
          → ArePassed s.formals args xs → Calls d args s (call.Nested p xs)
      of_variable : {d : Designator} {args : List Expr} {t : TypeNo} {place : Place}
          {s : Signature} {xs : List Argument} → Names d (Variable t place)
          → IsMade types t (shape.Procedure s) → ArePassed s.formals args xs
          → Calls d args s (call.Variable t place xs)

    pub data ArePassed : List Formal → List Expr → List Argument → Type 0 where
      no_more : ArePassed [] [] []
      one_more : {f : Formal} {fs : List Formal} {e : Expr} {es : List Expr} {x : Argument}
          {xs : List Argument} → IsPassed f e x → ArePassed fs es xs
          → ArePassed (f ∷ fs) (e ∷ es) (x ∷ xs)

    -- an argument for a formal
    pub data IsPassed : Formal → Expr → Argument → Type 0 where
      variable : {t : TypeNo} {e : Expr} {place : Place} → Designates e (Variable t place)
          → IsPassed (variable_formal t) e (argument.Place place)
      array_variable : {t u : TypeNo} {e : Expr} {place : Place} → Designates e (Variable u place)
          → IsPassed (open_variable_formal t) e (argument.Array u place)
      open_variable : {t : TypeNo} {e : Expr} {s : Slot} → Designates e (OpenArray t s)
          → IsPassed (open_variable_formal t) e (argument.Open s)
      array : {t u : TypeNo} {e : Expr} {place : Place} → Designates e (Variable u place)
          → IsPassed (open_value_formal t) e (argument.Array u place)
      open_array : {t : TypeNo} {e : Expr} {s : Slot} → Designates e (OpenArray t s)
          → IsPassed (open_value_formal t) e (argument.Open s)
      text : {e : Expr} {s : List ℕ} → Has types names exports e (Text s)
          → IsPassed (open_value_formal char) e (argument.Text s)
      -- an array or a record for a value formal
      copied : {t : TypeNo} {e : Expr} {place : Place} → content types t ≡ Whole t
          → Designates e (Variable t place) → IsPassed (value_formal t) e (argument.Place place)
      value : {t : TypeNo} {e : Expr} {x : TypedExpr} → (content types t ≡ Whole t → ⊥)
          → Gives t e x → IsPassed (value_formal t) e (argument.Value t x)
