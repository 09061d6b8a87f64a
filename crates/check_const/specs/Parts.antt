-- What constant expressions mean.
use Rattle.std.specs.Prelude.{ℕ, pos, List, [], ◌∷◌, bit_or, Option, Some, None, Result, Ok}
use Rattle.std.specs.List.{fold}
use Rattle.m2_rule.specs.declared.rule.Rule.TheVariants as rule
use Rattle.m2_tree.specs.declared.pos.Pos.{Pos}
use Rattle.m2_tree.specs.declared.name.Ident.{Ident}
use Rattle.m2_tree.specs.declared.expr.MulOp.{MulOp}
use Rattle.m2_tree.specs.declared.expr.AddOp.{AddOp}
use Rattle.m2_tree.specs.declared.expr.RelOp.{RelOp}
use Rattle.m2_tree.specs.declared.expr.Sign.{Sign}
use Rattle.m2_tree.specs.declared.expr.Operator.{Operator}
use Rattle.m2_tree.specs.declared.expr.Expr.{Expr-F}
use Rattle.m2_tree.specs.declared.expr.Expr.TheOpen as layer
use Rattle.m2_tree.specs.declared.expr.Selector.{Selector-F}
use Rattle.m2_tree.specs.declared.expr.Item.{Item-F}
use Rattle.typed_tree.specs.declared.types.TypeNo.{TypeNo}
use Rattle.typed_tree.specs.declared.shape.Scalar.{Scalar}
use Rattle.typed_tree.specs.declared.meaning.Value.{Value}
use Rattle.typed_tree.specs.declared.meaning.Value.TheVariants as value
use Rattle.typed_tree.specs.declared.meaning.Standard.{Standard}
use Rattle.typed_tree.specs.Types.{char}
use Rattle.check_scope.specs.Elaborated.{Gathers, report, both, of_sort, ◌▷◌}
use Rattle.check_scope.specs.declared.scope.Scope.{Scope}
use Rattle.check_scope.specs.Scopes.{looked_up}
use Rattle.check_const.specs.declared.operand.Ordinal.{Ordinal}
use Rattle.check_const.specs.declared.operator.BinaryOp.TheVariants as op
use Rattle.check_const.specs.Operators.{mul_op, add_op}
use Rattle.check_const.specs.Operands.{number_value}
use Rattle.check_const.specs.Operate.{constant_operation, with_sign, negation}
use Rattle.check_const.specs.Sets.{set_element, single, span_of}
use Rattle.check_const.specs.declared.denoted.Denoted.{Denoted}
use Rattle.check_const.specs.declared.denoted.Denoted.TheVariants as denoted
use Rattle.check_const.specs.declared.call.Sort.{Sort}
use Rattle.check_const.specs.declared.call.Sort.TheVariants.{Unary, Bound, Conversion, Never}
use Rattle.check_const.specs.Denote.{denoted_by, denoted_of, constant_by, of_value, is_bitset, component, exported_meaning}
use Rattle.check_const.specs.Calls.{sort_of, type_in, type_argument, unary, bound, conversion_call}

-- an expression or a designator: the place of its first token, what it stands for in a scope, and
-- the type that it names there, if it names one
pub record Part (T : Type 0) : Type 0 where
  pub at : Pos
  pub denotes : Scope T → Result Denoted T
  pub names : Scope T → Result (Option TypeNo) T

abbrev pub named_type : {T : Type 0} → Result Denoted T → Result (Option TypeNo) T
named_type d = d ▷ λ x. Ok (type_in x)

-- what names a type if it stands for one
abbrev pub standing : {T : Type 0} → Pos → (Scope T → Result Denoted T) → Part T
standing at means = record { at = at; denotes = means; names = λ s. named_type (means s) }

-- a selector: what it picks of what stands before it
abbrev pub Pick : Type 0 → Type 0
Pick T = Scope T → Result Denoted T → Result Denoted T

-- an element of a set: its bits
abbrev pub Adds : Type 0 → Type 0
Adds T = Scope T → Result ℕ T

-- ---- places

abbrev pub sign_place : Option (Operator Sign) → Pos → Pos
sign_place None at = at
sign_place (Some o) at = o.pos

abbrev pub set_place : Option Ident → Pos → Pos
set_place None at = at
set_place (Some name) at = name.pos

-- ---- pieces

abbrev pub value_at : {T : Type 0} → Pos → Result Value T → Result (Pos × Value) T
value_at at v = v ▷ λ x. Ok (at, x)

abbrev pub single_of : (g : Gathers) → Pos → Result Value g.Reported → Result ℕ g.Reported
single_of g at v = v ▷ single g at

abbrev pub element_of : (g : Gathers) → Pos → Result Value g.Reported → Result Ordinal g.Reported
element_of g at v = v ▷ set_element g at

abbrev pub joined_bits : (g : Gathers) → Result ℕ g.Reported → Result ℕ g.Reported
    → Result ℕ g.Reported
joined_bits g so more = both g so more ▷ λ p. Ok (bit_or p.0 p.1)

abbrev pub signed_first : (g : Gathers) → Option (Operator Sign) → Result Value g.Reported
    → Result Value g.Reported
signed_first g None v = v
signed_first g (Some o) v = with_sign g o.op o.pos v

abbrev pub set_type : (g : Gathers) → Scope g.Reported → Option Ident → Result (Unit {0}) g.Reported
set_type g s None = Ok tt
set_type g s (Some name) =
    of_sort g name.pos rule.NoType (looked_up g s name) ▷ is_bitset g name.pos

abbrev pub set_of : (g : Gathers) → Result (Unit {0}) g.Reported → Result ℕ g.Reported
    → Result Denoted g.Reported
set_of g t bits = both g t bits ▷ λ p. Ok (denoted.Value (value.Set p.1))

abbrev pub relation_value : (g : Gathers) → Operator RelOp → Pos → Result Value g.Reported → Pos
    → Result Value g.Reported → Result Denoted g.Reported
relation_value g o at a at' b = of_value (constant_operation g (op.Relation o.op) o.pos at a at' b)

-- ---- designators

abbrev pub first_name : (g : Gathers) → Scope g.Reported → Ident → Result Denoted g.Reported
first_name g s name = denoted_of (looked_up g s name)

abbrev pub name_in_module : (g : Gathers) → Scope g.Reported → ℕ → Ident → Result Denoted g.Reported
name_in_module g s k name = exported_meaning g s.tables k name ▷ λ m. Ok (denoted_by m)

abbrev pub field_of : (g : Gathers) → Scope g.Reported → Pos → Ident → Denoted
    → Result Denoted g.Reported
field_of g s at name (denoted.Module k) = name_in_module g s k name
field_of g s at name denoted.Variable = component g at denoted.Variable
field_of g s at name (denoted.Value v) = component g at (denoted.Value v)
field_of g s at name (denoted.Type t) = component g at (denoted.Type t)
field_of g s at name denoted.Procedure = component g at denoted.Procedure
field_of g s at name (denoted.Standard f) = component g at (denoted.Standard f)

module _ (g : Gathers) where
  -- a part taken as a constant
  abbrev pub constant : Scope g.Reported → Part g.Reported → Result Value g.Reported
  constant s x = constant_by g x.at (x.denotes s)

  -- ---- calls

  abbrev pub one : Scope g.Reported → Pos → List (Part g.Reported) → Result (Pos × Value) g.Reported
  one s at [] = report g at rule.ArgumentCount
  one s at (x ∷ []) = value_at x.at (constant s x)
  one s at (x ∷ y ∷ xs) = report g at rule.ArgumentCount

  abbrev pub type_only : Scope g.Reported → Pos → List (Part g.Reported)
      → Result (TypeNo × Scalar) g.Reported
  type_only s at [] = report g at rule.ArgumentCount
  type_only s at (x ∷ []) = type_argument g s.types x.at (x.names s)
  type_only s at (x ∷ y ∷ xs) = report g at rule.ArgumentCount

  abbrev pub conversion : Scope g.Reported → Pos → List (Part g.Reported) → Result Value g.Reported
  conversion s at [] = report g at rule.ArgumentCount
  conversion s at (t ∷ []) = report g at rule.ArgumentCount
  conversion s at (t ∷ x ∷ []) =
      conversion_call g (type_argument g s.types t.at (t.names s)) x.at (constant s x)
  conversion s at (t ∷ x ∷ y ∷ xs) = report g at rule.ArgumentCount

  abbrev pub by_sort : Scope g.Reported → Pos → Standard → List (Part g.Reported) → Sort
      → Result Value g.Reported
  by_sort s at f args Unary = unary g f (one s at args)
  by_sort s at f args Bound = bound f (type_only s at args)
  by_sort s at f args Conversion = conversion s at args
  by_sort s at f args Never = report g at rule.NoConstant

  abbrev pub standard_call_value : Scope g.Reported → Pos → Denoted → List (Part g.Reported)
      → Result Value g.Reported
  standard_call_value s at (denoted.Standard f) args = by_sort s at f args (sort_of f)
  standard_call_value s at (denoted.Value v) args = report g at rule.NoConstant
  standard_call_value s at (denoted.Type t) args = report g at rule.NoConstant
  standard_call_value s at denoted.Variable args = report g at rule.NoConstant
  standard_call_value s at denoted.Procedure args = report g at rule.NoConstant
  standard_call_value s at (denoted.Module k) args = report g at rule.NoConstant

  abbrev pub call_value : Scope g.Reported → Pos → Result Denoted g.Reported
      → List (Part g.Reported) → Result Value g.Reported
  call_value s at d args = d ▷ λ x. standard_call_value s at x args

  abbrev pub used_with : Part g.Reported → Option (List (Part g.Reported)) → Part g.Reported
  used_with d None = d
  used_with d (Some args) = standing d.at (λ s. of_value (call_value s d.at (d.denotes s) args))

  -- ---- operators

  abbrev pub factor : Scope g.Reported → Pos → Result Value g.Reported
      → Operator MulOp × Part g.Reported → Result Value g.Reported
  factor s at left x = constant_operation g (mul_op x.0.op) x.0.pos at left x.1.at (constant s x.1)

  abbrev pub term : Scope g.Reported → Pos → Result Value g.Reported
      → Operator AddOp × Part g.Reported → Result Value g.Reported
  term s at left x = constant_operation g (add_op x.0.op) x.0.pos at left x.1.at (constant s x.1)

  -- ---- elements

  abbrev pub element_or_range : Scope g.Reported → Part g.Reported → Option (Part g.Reported)
      → Result ℕ g.Reported
  element_or_range s low None = single_of g low.at (constant s low)
  element_or_range s low (Some high) =
      span_of g low.at (element_of g low.at (constant s low)) high.at
      (element_of g high.at (constant s high))

  abbrev pub with_item : Scope g.Reported → Result ℕ g.Reported → Adds g.Reported
      → Result ℕ g.Reported
  with_item s so i = joined_bits g so (i s)

  -- ---- the layers

  abbrev pub expr_layer :
      Expr-F (Part g.Reported) (Pick g.Reported) (Part g.Reported) (Adds g.Reported)
      → Part g.Reported
  expr_layer (layer.Number at n) = standing at (λ s. Ok (denoted.Value (value.Number (pos n))))
  expr_layer (layer.Char at c) =
      standing at (λ s. Ok (denoted.Value (number_value (Some char) (pos c))))
  expr_layer (layer.Text at t) = standing at (λ s. Ok (denoted.Value (value.Text t)))
  expr_layer (layer.Set name at items) =
      standing (set_place name at) (λ s.
      set_of g (set_type g s name) (fold (with_item s) (Ok 0) items))
  expr_layer (layer.Not at e) = standing at (λ s. of_value (negation g at (constant s e)))
  expr_layer (layer.Bracketed at e) = standing at (λ s. of_value (constant s e))
  expr_layer (layer.Use d args) = used_with d args
  expr_layer (layer.Term e rest) =
      standing e.at (λ s. of_value (fold (factor s e.at) (constant s e) rest))
  expr_layer (layer.Sum sign e rest) =
      standing (sign_place sign e.at) (λ s.
      of_value (fold (term s (sign_place sign e.at)) (signed_first g sign (constant s e)) rest))
  expr_layer (layer.Relation a o b) =
      standing a.at (λ s. relation_value g o a.at (constant s a) b.at (constant s b))

  abbrev pub selector_layer :
      Selector-F (Part g.Reported) (Pick g.Reported) (Part g.Reported) (Adds g.Reported)
      → Pick g.Reported
  selector_layer (layer.Field at name) = λ s d. d ▷ field_of g s at name
  selector_layer (layer.Index at index) = λ s d. d ▷ component g at

  -- what a name with selectors stands for
  abbrev pub selection : Scope g.Reported → Ident → List (Pick g.Reported)
      → Result Denoted g.Reported
  selection s name picks = fold (λ x p. p s x) (first_name g s name) picks

  abbrev pub item_layer :
      Item-F (Part g.Reported) (Pick g.Reported) (Part g.Reported) (Adds g.Reported)
      → Adds g.Reported
  item_layer i = λ s. element_or_range s i.low i.high
