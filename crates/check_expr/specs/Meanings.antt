-- What expressions of bodies mean: each has a value, or names what has none, or breaks rules.
use Rattle.std.specs.Prelude.{ℕ, false, cond, List, [], ◌∷◌, map, length, Option, Some, None, Result, Ok, Err}
use Rattle.std.specs.List.{fold}
use Rattle.m2_rule.specs.Breaches.{breach}
use Rattle.m2_rule.specs.declared.rule.Rule.TheVariants as rule
use Rattle.m2_tree.specs.declared.pos.Pos.{Pos}
use Rattle.m2_tree.specs.declared.name.Ident.{Ident}
use Rattle.m2_tree.specs.declared.expr.MulOp.{MulOp}
use Rattle.m2_tree.specs.declared.expr.AddOp.{AddOp}
use Rattle.m2_tree.specs.declared.expr.RelOp.{RelOp}
use Rattle.m2_tree.specs.declared.expr.Sign.{Sign}
use Rattle.m2_tree.specs.declared.expr.Operator.{Operator}
use Rattle.m2_tree.specs.declared.expr.Expr.{Expr, Expr-F, map-Expr, fold-Expr}
use Rattle.m2_tree.specs.declared.expr.Expr.TheOpen as layer
use Rattle.m2_tree.specs.declared.expr.Selector.{Selector, Selector-F, map-Selector, fold-Selector}
use Rattle.m2_tree.specs.declared.expr.Designator.{Designator, Designator-F, map-Designator, fold-Designator}
use Rattle.m2_tree.specs.declared.expr.Item.{Item, Item-F, map-Item, fold-Item}
use Rattle.typed_tree.specs.declared.types.TypeNo.{TypeNo}
use Rattle.typed_tree.specs.declared.computed.Argument.{Argument}
use Rattle.typed_tree.specs.declared.computed.TypedExpr.TheVariants as expr
use Rattle.typed_tree.specs.declared.shape.Formal.{Formal}
use Rattle.typed_tree.specs.declared.shape.Scalar.{Scalar as Range}
use Rattle.typed_tree.specs.declared.meaning.Value.{Value}
use Rattle.typed_tree.specs.declared.shape.Signature.{Signature}
use Rattle.typed_tree.specs.declared.meaning.Standard.{Standard}
use Rattle.typed_tree.specs.declared.meaning.Meaning.{Meaning}
use Rattle.typed_tree.specs.declared.meaning.Meaning.TheVariants as meaning
use Rattle.typed_tree.specs.declared.known_types.Types.{Types}
use Rattle.check_scope.specs.declared.meaningless.Meaningless.{Meaningless}
use Rattle.check_scope.specs.declared.meaningless.Meaningless.TheVariants.{Headless}
use Rattle.check_scope.specs.Elaborated.{Gathers, least, report, reported_beside, both, beside, ahead, of_sort, of_heading, of_value, of_sort_of_value, plain, ◌▷◌}
use Rattle.check_scope.specs.declared.scope.Scope.{Scope}
use Rattle.check_scope.specs.Scopes.{looked_up}
use Rattle.check_const.specs.declared.operator.BinaryOp.{BinaryOp}
use Rattle.check_const.specs.declared.operator.BinaryOp.TheVariants as op
use Rattle.check_const.specs.Operate.{constant_operation}
use Rattle.check_const.specs.Operators.{mul_op, add_op}
use Rattle.check_const.specs.declared.denoted.Denoted.{Denoted}
use Rattle.check_const.specs.Denote.{exported_meaning}
use Rattle.check_const.specs.Parts.{Part, Pick, Adds, constant, named_type, sign_place}
use Rattle.check_const.specs.Parts as constants
use Rattle.check_value.specs.declared.computed.Computed.{Computed}
use Rattle.check_value.specs.declared.computed.Computed.TheVariants as value
use Rattle.check_value.specs.declared.computed.Designated.{Designated}
use Rattle.check_value.specs.declared.computed.Designated.TheVariants as designated
use Rattle.check_value.specs.Classes.{signature_at}
use Rattle.check_value.specs.Values.{designated_by, function_result, value_at_place}
use Rattle.check_value.specs.Operations.{operation_between}
use Rattle.check_value.specs.Signs.{with_sign, negation}
use Rattle.check_value.specs.Selection.{field, indices, element_at_index}
use Rattle.check_value.specs.declared.callee.Callee.{Callee}
use Rattle.check_value.specs.declared.callee.Called.{Called}
use Rattle.check_value.specs.declared.callee.Called.TheVariants as called
use Rattle.check_value.specs.declared.standard.Unary.{Unary}
use Rattle.check_value.specs.declared.standard.Form.{Form}
use Rattle.check_value.specs.declared.standard.Form.TheVariants as form
use Rattle.check_value.specs.Callees.{callee_of, function_of, call_by}
use Rattle.check_value.specs.Actuals.{actual, next_formal, with_argument}
use Rattle.check_value.specs.Functions.{form_of, unary_at, type_named, bound_at, conversion_at, high_of}

-- an expression or a designator: what it is as a constant expression, with the place of its first
-- token, and what it stands for in a scope
pub record Meant (T : Type 0) : Type 0 where
  pub fixed : Part T
  pub means : Scope T → Result Designated (Meaningless T)

-- a selector: the same, of what stands before it
pub record Picks (T : Type 0) : Type 0 where
  pub fixed : Pick T
  pub picks : Scope T → Result Designated (Meaningless T) → Result Designated (Meaningless T)

-- ---- pieces

abbrev pub of_computed : {T : Type 0} → Result Computed T → Result Designated (Meaningless T)
of_computed x = plain (x ▷ λ v. Ok (designated.Value v))

abbrev pub value_standing : (g : Gathers) → Types → Pos → Result Designated (Meaningless g.Reported)
    → Result Computed g.Reported
value_standing g types at d = of_value g at d ▷ value_at_place g types at

abbrev pub signed_first : (g : Gathers) → Option (Operator Sign) → Result Computed g.Reported
    → Result Computed g.Reported
signed_first g None x = x
signed_first g (Some o) x = with_sign g o.op o.pos x

abbrev pub relation_value : (g : Gathers) → Types → Operator RelOp → Pos
    → Result Computed g.Reported → Pos → Result Computed g.Reported → Result Computed g.Reported
relation_value g types o at x at' y = operation_between g types (op.Relation o.op) o.pos at x at' y

-- ---- designators

abbrev pub first_name : (g : Gathers) → Scope g.Reported → Ident
    → Result Designated (Meaningless g.Reported)
first_name g s name = looked_up g s name ▷ λ m. plain (designated_by g s.level name.pos m)

abbrev pub name_in_module : (g : Gathers) → Scope g.Reported → ℕ → Ident
    → Result Designated g.Reported
name_in_module g s k name = exported_meaning g s.tables k name ▷ designated_by g s.level name.pos

-- a name of a module, or a field of a record
abbrev pub field_of : (g : Gathers) → Scope g.Reported → Pos → Ident → Designated
    → Result Designated g.Reported
field_of g s at name (designated.Module k) = name_in_module g s k name
field_of g s at name (designated.Value x) = field g s.types at name (designated.Value x)
field_of g s at name (designated.Variable t d) = field g s.types at name (designated.Variable t d)
field_of g s at name (designated.Open t slot) = field g s.types at name (designated.Open t slot)
field_of g s at name (designated.Type t) = field g s.types at name (designated.Type t)
field_of g s at name (designated.Procedure p) = field g s.types at name (designated.Procedure p)
field_of g s at name (designated.Nested p) = field g s.types at name (designated.Nested p)
field_of g s at name (designated.Standard f) = field g s.types at name (designated.Standard f)

abbrev pub field_at : (g : Gathers) → Scope g.Reported → Pos → Ident
    → Result Designated (Meaningless g.Reported) → Result Designated (Meaningless g.Reported)
field_at g s at name d = plain (of_sort g at rule.WrongType d ▷ field_of g s at name)

-- what stands before a bracket is elaborated beside the index
abbrev pub index_at : (g : Gathers) → Types → Pos → Result Designated (Meaningless g.Reported) → Pos
    → Result Computed g.Reported → Result Designated (Meaningless g.Reported)
index_at g types at d at' x =
    plain (element_at_index g types (of_sort g at rule.WrongType d ▷ indices g types at) at' x)

-- ---- arguments that name a type

-- the type that stands there, if it is one
abbrev pub type_in : Designated → Option TypeNo
type_in (designated.Type t) = Some t
type_in (designated.Value x) = None
type_in (designated.Variable t d) = None
type_in (designated.Open t slot) = None
type_in (designated.Procedure p) = None
type_in (designated.Nested p) = None
type_in (designated.Standard f) = None
type_in (designated.Module k) = None

abbrev pub type_of : (g : Gathers) → Pos → Result Designated (Meaningless g.Reported)
    → Result (Option TypeNo) g.Reported
type_of g at d = of_sort g at rule.NoType d ▷ λ x. Ok (type_in x)

-- a name with selectors is no constant expression
abbrev pub names_by : {A R : Type 0} → List A → (bare selected : R) → R
names_by [] bare selected = bare
names_by (x ∷ xs) bare selected = selected

-- ---- formals

abbrev pub formals_of : Option Signature → List Formal
formals_of None = []
formals_of (Some h) = h.formals

-- for a VAR formal it counts that a procedure is no variable, for others what it is
abbrev pub passed_for : (g : Gathers) → Formal → Pos → Result Designated (Meaningless g.Reported)
    → Result Designated g.Reported
passed_for g f at d = cond f.is_var (of_sort g at rule.NoVariable d) (of_value g at d)

abbrev pub argument_by : (g : Gathers) → Types → Option Formal → Pos
    → Result Designated (Meaningless g.Reported) → Result Argument g.Reported
argument_by g types None at d = report g at rule.ArgumentCount
argument_by g types (Some f) at d = passed_for g f at d ▷ actual g types f at

abbrev pub call_given : (g : Gathers) → Types → TypeNo → Callee → Result (List Argument) g.Reported
    → Result Computed g.Reported
call_given g types t c args = args ▷ λ xs. Ok (function_result types t (expr.Call t (call_by xs c)))

module _ (g : Gathers) where
  -- a constant expression as it stands
  abbrev pub as_constant : Scope g.Reported → Part g.Reported
      → Result Designated (Meaningless g.Reported)
  as_constant s x = plain (constant g s x ▷ λ v. Ok (designated.Value (value.Constant v)))

  -- a part taken as a value
  abbrev pub value_of : Scope g.Reported → Meant g.Reported → Result Computed g.Reported
  value_of s x = value_standing g s.types x.fixed.at (x.means s)

  -- ---- calls

  -- what is broken in the arguments themselves
  abbrev pub with_look : Scope g.Reported → Result (Unit {0}) g.Reported → Meant g.Reported
      → Result (Unit {0}) g.Reported
  with_look s so x = beside g so (of_heading (x.means s) ▷ λ d. Ok tt)

  abbrev pub breaches_in_all : Scope g.Reported → List (Meant g.Reported)
      → Result (Unit {0}) g.Reported
  breaches_in_all s args = fold (with_look s) (Ok tt) args

  -- a wrong number of arguments
  abbrev pub wrong_count : {A : Type 0} → Scope g.Reported → Pos → List (Meant g.Reported)
      → Result A g.Reported
  wrong_count s at args = reported_beside g at rule.ArgumentCount (breaches_in_all s args)

  -- the arguments, one after the other, with the formals that are left
  abbrev pub with_actual : Scope g.Reported → List Formal × Result (List Argument) g.Reported
      → Meant g.Reported → List Formal × Result (List Argument) g.Reported
  with_actual s st x =
      let n = next_formal st.0 in
      (n.1, with_argument g st.1 (argument_by g s.types n.0 x.fixed.at (x.means s)))

  abbrev pub actuals : Scope g.Reported → List Formal → List (Meant g.Reported)
      → Result (List Argument) g.Reported
  actuals s fs args = (fold (with_actual s) (fs, Ok []) args).1

  -- the number of arguments is checked before them
  abbrev pub routine_called : Scope g.Reported → Pos → TypeNo → Callee → List (Meant g.Reported)
      → Result Computed g.Reported
  routine_called s at h c args =
      ahead g (function_of g at (signature_at s.types h) (length args)) (breaches_in_all s args)
      (λ t. call_given g s.types t c (actuals s (formals_of (signature_at s.types h)) args))

  abbrev pub unary : Scope g.Reported → Pos → Standard → Unary → List (Meant g.Reported)
      → Result Computed g.Reported
  unary s at f u [] = wrong_count s at []
  unary s at f u (x ∷ []) = value_of s x ▷ unary_at g f u x.fixed.at
  unary s at f u (x ∷ y ∷ xs) = wrong_count s at (x ∷ y ∷ xs)

  abbrev pub scalar_named : Scope g.Reported → Meant g.Reported → Result (TypeNo × Range) g.Reported
  scalar_named s x = of_sort g x.fixed.at rule.NoType (x.means s) ▷ type_named g s.types x.fixed.at

  abbrev pub bound : Scope g.Reported → Pos → Standard → List (Meant g.Reported)
      → Result Computed g.Reported
  bound s at f [] = wrong_count s at []
  bound s at f (x ∷ []) = bound_at f (scalar_named s x)
  bound s at f (x ∷ y ∷ xs) = wrong_count s at (x ∷ y ∷ xs)

  abbrev pub conversion : Scope g.Reported → Pos → List (Meant g.Reported)
      → Result Computed g.Reported
  conversion s at [] = wrong_count s at []
  conversion s at (t ∷ []) = wrong_count s at (t ∷ [])
  conversion s at (t ∷ x ∷ []) = conversion_at g (scalar_named s t) x.fixed.at (value_of s x)
  conversion s at (t ∷ x ∷ y ∷ xs) = wrong_count s at (t ∷ x ∷ y ∷ xs)

  abbrev pub high : Scope g.Reported → Pos → List (Meant g.Reported) → Result Computed g.Reported
  high s at [] = wrong_count s at []
  high s at (x ∷ []) =
      of_sort_of_value g x.fixed.at rule.WrongArgument (x.means s) ▷ high_of g x.fixed.at
  high s at (x ∷ y ∷ xs) = wrong_count s at (x ∷ y ∷ xs)

  abbrev pub by_form : Scope g.Reported → Pos → Standard → List (Meant g.Reported) → Form
      → Result Computed g.Reported
  by_form s at f args (form.Unary u) = unary s at f u args
  by_form s at f args form.Bound = bound s at f args
  by_form s at f args form.Conversion = conversion s at args
  by_form s at f args form.High = high s at args
  by_form s at f args form.Proper = reported_beside g at rule.WrongType (breaches_in_all s args)

  abbrev pub callee_value : Scope g.Reported → Pos → List (Meant g.Reported) → Called
      → Result Computed g.Reported
  callee_value s at args (called.Routine h c) = routine_called s at h c args
  callee_value s at args (called.Standard f) = by_form s at f args (form_of f)

  -- the arguments are looked at, also if nothing can be called so
  abbrev pub call_in_expression : Scope g.Reported → Pos
      → Result Designated (Meaningless g.Reported) → List (Meant g.Reported)
      → Result Computed g.Reported
  call_in_expression s at d args =
      ahead g (of_heading d ▷ callee_of g s.types at) (breaches_in_all s args)
      (callee_value s at args)

  abbrev pub used_with : Scope g.Reported → Meant g.Reported → Option (List (Meant g.Reported))
      → Result Designated (Meaningless g.Reported)
  used_with s d None = d.means s
  used_with s d (Some args) = of_computed (call_in_expression s d.fixed.at (d.means s) args)

  -- ---- operators

  -- a value and the operand that follows, by the operator at p
  abbrev pub operation_with : Scope g.Reported → Pos → Result Computed g.Reported → BinaryOp → Pos
      → Meant g.Reported → Result Computed g.Reported
  operation_with s at left o p x =
      operation_between g s.types o p at left x.fixed.at (value_of s x)

  abbrev pub factor : Scope g.Reported → Pos → Result Computed g.Reported
      → Operator MulOp × Meant g.Reported → Result Computed g.Reported
  factor s at left x = operation_with s at left (mul_op x.0.op) x.0.pos x.1

  abbrev pub term : Scope g.Reported → Pos → Result Computed g.Reported
      → Operator AddOp × Meant g.Reported → Result Computed g.Reported
  term s at left x = operation_with s at left (add_op x.0.op) x.0.pos x.1

  abbrev pub relation : Scope g.Reported → Meant g.Reported → Operator RelOp → Meant g.Reported
      → Result Computed g.Reported
  relation s a o b = relation_value g s.types o a.fixed.at (value_of s a) b.fixed.at (value_of s b)

  -- ---- the layers

  abbrev pub expr_fixed :
      Expr-F (Meant g.Reported) (Picks g.Reported) (Meant g.Reported) (Adds g.Reported)
      → Part g.Reported
  expr_fixed x =
      constants.expr_layer g (map-Expr (Meant g.Reported) (Picks g.Reported) (Meant g.Reported)
      (Adds g.Reported) (Part g.Reported) (Pick g.Reported) (Part g.Reported) (Adds g.Reported)
      (λ e. e.fixed) (λ e. e.fixed) (λ e. e.fixed) (λ e. e) x)

  -- what stands for itself is a constant; sets have constant elements
  abbrev pub expr_means :
      Expr-F (Meant g.Reported) (Picks g.Reported) (Meant g.Reported) (Adds g.Reported)
      → Part g.Reported → Scope g.Reported → Result Designated (Meaningless g.Reported)
  expr_means (layer.Number at n) fixed s = as_constant s fixed
  expr_means (layer.Char at c) fixed s = as_constant s fixed
  expr_means (layer.Text at t) fixed s = as_constant s fixed
  expr_means (layer.Set name at items) fixed s = as_constant s fixed
  expr_means (layer.Not at e) fixed s = of_computed (negation g at (value_of s e))
  expr_means (layer.Bracketed at e) fixed s = of_computed (value_of s e)
  expr_means (layer.Use d args) fixed s = used_with s d args
  expr_means (layer.Term e rest) fixed s =
      of_computed (fold (factor s e.fixed.at) (value_of s e) rest)
  expr_means (layer.Sum sign e rest) fixed s =
      of_computed
      (fold (term s (sign_place sign e.fixed.at)) (signed_first g sign (value_of s e)) rest)
  expr_means (layer.Relation a o b) fixed s = of_computed (relation s a o b)

  abbrev pub expr_layer :
      Expr-F (Meant g.Reported) (Picks g.Reported) (Meant g.Reported) (Adds g.Reported)
      → Meant g.Reported
  expr_layer x = record { fixed = expr_fixed x; means = expr_means x (expr_fixed x) }

  abbrev pub selector_fixed :
      Selector-F (Meant g.Reported) (Picks g.Reported) (Meant g.Reported) (Adds g.Reported)
      → Pick g.Reported
  selector_fixed x =
      constants.selector_layer g (map-Selector (Meant g.Reported) (Picks g.Reported)
      (Meant g.Reported) (Adds g.Reported) (Part g.Reported) (Pick g.Reported) (Part g.Reported)
      (Adds g.Reported) (λ e. e.fixed) (λ e. e.fixed) (λ e. e.fixed) (λ e. e) x)

  abbrev pub selector_picks :
      Selector-F (Meant g.Reported) (Picks g.Reported) (Meant g.Reported) (Adds g.Reported)
      → Scope g.Reported → Result Designated (Meaningless g.Reported)
      → Result Designated (Meaningless g.Reported)
  selector_picks (layer.Field at name) s d = field_at g s at name d
  selector_picks (layer.Index at x) s d = index_at g s.types at d x.fixed.at (value_of s x)

  abbrev pub selector_layer :
      Selector-F (Meant g.Reported) (Picks g.Reported) (Meant g.Reported) (Adds g.Reported)
      → Picks g.Reported
  selector_layer x = record { fixed = selector_fixed x; picks = selector_picks x }

  abbrev pub designation : Scope g.Reported → Ident → List (Picks g.Reported)
      → Result Designated (Meaningless g.Reported)
  designation s name selectors =
      fold (λ x p. p.picks s x) (first_name g s name) selectors

  abbrev pub denotation : Scope g.Reported → Ident → List (Picks g.Reported)
      → Result Denoted g.Reported
  denotation s name selectors = constants.selection g s name (map (λ p. p.fixed) selectors)

  -- if it has selectors, the type that it names is found as in a body
  abbrev pub designator_fixed :
      Designator-F (Meant g.Reported) (Picks g.Reported) (Meant g.Reported) (Adds g.Reported)
      → Part g.Reported
  designator_fixed d = record {
    at = d.name.pos;
    denotes = λ s. denotation s d.name d.selectors;
    names = λ s.
        names_by d.selectors (named_type (denotation s d.name d.selectors))
        (type_of g d.name.pos (designation s d.name d.selectors));
  }

  abbrev pub designator_layer :
      Designator-F (Meant g.Reported) (Picks g.Reported) (Meant g.Reported) (Adds g.Reported)
      → Meant g.Reported
  designator_layer d =
      record { fixed = designator_fixed d; means = λ s. designation s d.name d.selectors }

  abbrev pub item_layer :
      Item-F (Meant g.Reported) (Picks g.Reported) (Meant g.Reported) (Adds g.Reported)
      → Adds g.Reported
  item_layer i =
      constants.item_layer g (map-Item (Meant g.Reported) (Picks g.Reported) (Meant g.Reported)
      (Adds g.Reported) (Part g.Reported) (Pick g.Reported) (Part g.Reported) (Adds g.Reported)
      (λ e. e.fixed) (λ e. e.fixed) (λ e. e.fixed) (λ e. e) i)

  unfoldable pub meanings_of : Expr → Meant g.Reported
  meanings_of =
      fold-Expr (Meant g.Reported) (Picks g.Reported) (Meant g.Reported) (Adds g.Reported)
      expr_layer selector_layer designator_layer item_layer

  unfoldable pub picks : Selector → Picks g.Reported
  picks =
      fold-Selector (Meant g.Reported) (Picks g.Reported) (Meant g.Reported) (Adds g.Reported)
      expr_layer selector_layer designator_layer item_layer

  unfoldable pub head : Designator → Meant g.Reported
  head =
      fold-Designator (Meant g.Reported) (Picks g.Reported) (Meant g.Reported) (Adds g.Reported)
      expr_layer selector_layer designator_layer item_layer

  unfoldable pub item : Item → Adds g.Reported
  item =
      fold-Item (Meant g.Reported) (Picks g.Reported) (Meant g.Reported) (Adds g.Reported)
      expr_layer selector_layer designator_layer item_layer

-- ---- constant expressions

abbrev pub part : (g : Gathers) → Expr → Part g.Reported
part g e = (meanings_of g e).fixed

-- ---- the same, step by step

-- a constant and the operand that follows, by the operator at p
abbrev pub constant_operation_with : Scope (least).Reported → Pos → Result Value (least).Reported
    → BinaryOp → Pos → Expr → Result Value (least).Reported
constant_operation_with s at v o p e =
    constant_operation least o p at v (part least e).at (constant least s (part least e))

abbrev pub constant_factor_in : Scope (least).Reported → Pos → Result Value (least).Reported
    → Operator MulOp × Expr → Result Value (least).Reported
constant_factor_in s at v x = constant_operation_with s at v (mul_op x.0.op) x.0.pos x.1

abbrev pub constant_term_in : Scope (least).Reported → Pos → Result Value (least).Reported
    → Operator AddOp × Expr → Result Value (least).Reported
constant_term_in s at v x = constant_operation_with s at v (add_op x.0.op) x.0.pos x.1

abbrev pub constant_pick_in : Scope (least).Reported → Result Denoted (least).Reported → Selector
    → Result Denoted (least).Reported
constant_pick_in s d x = (picks least x).fixed s d

abbrev pub item_in : Scope (least).Reported → Result ℕ (least).Reported → Item
    → Result ℕ (least).Reported
item_in s so i = constants.with_item least s so (item least i)

abbrev pub factor_in : Scope (least).Reported → Pos → Result Computed (least).Reported
    → Operator MulOp × Expr → Result Computed (least).Reported
factor_in s at v x = factor least s at v (x.0, meanings_of least x.1)

abbrev pub term_in : Scope (least).Reported → Pos → Result Computed (least).Reported
    → Operator AddOp × Expr → Result Computed (least).Reported
term_in s at v x = term least s at v (x.0, meanings_of least x.1)

abbrev pub pick_in : Scope (least).Reported → Result Designated (Meaningless (least).Reported)
    → Selector → Result Designated (Meaningless (least).Reported)
pick_in s d x = (picks least x).picks s d

abbrev pub actual_in : Scope (least).Reported
    → List Formal × Result (List Argument) (least).Reported → Expr
    → List Formal × Result (List Argument) (least).Reported
actual_in s st x = with_actual least s st (meanings_of least x)

abbrev pub argument_meanings : Option (List Expr) → Option (List (Meant (least).Reported))
argument_meanings None = None
argument_meanings (Some es) = Some (map (meanings_of least) es)

abbrev pub use_with : Scope (least).Reported → Meant (least).Reported → Option (List Expr)
    → Result Designated (Meaningless (least).Reported)
use_with s d args = used_with least s d (argument_meanings args)

abbrev pub look_in : Scope (least).Reported → Result (Unit {0}) (least).Reported → Expr
    → Result (Unit {0}) (least).Reported
look_in s so x = with_look least s so (meanings_of least x)
