-- Values, arguments, calls and standard functions weigh no more than what they are made of.
use Rattle.std.proofs.Common.{◌≡◌, ℕ, ◌≤◌, Bool, true, false, List, Result, arith}
use Rattle.std.specs.Prelude.{not, cond}
use Rattle.m2_rule.specs.declared.rule.Rule.TheVariants as rule
use Rattle.m2_tree.specs.declared.pos.Pos.{Pos}
use Rattle.typed_tree.specs.declared.computed.Argument.{Argument}
use Rattle.typed_tree.specs.declared.computed.Argument.TheVariants as argument
use Rattle.typed_tree.specs.declared.computed.Call.TheVariants as call
use Rattle.typed_tree.specs.declared.computed.Place.{Place}
use Rattle.typed_tree.specs.declared.computed.TypedExpr.{TypedExpr}
use Rattle.typed_tree.specs.declared.computed.TypedExpr.TheVariants as expr
use Rattle.typed_tree.specs.declared.known_types.Types.{Types}
use Rattle.typed_tree.specs.declared.meaning.Standard.{Standard}
use Rattle.typed_tree.specs.declared.meaning.Value.{Value}
use Rattle.typed_tree.specs.declared.meaning.Value.TheVariants as constant
use Rattle.typed_tree.specs.declared.shape.Formal.{Formal}
use Rattle.typed_tree.specs.declared.shape.Scalar.{Scalar as Range}
use Rattle.typed_tree.specs.declared.types.TypeNo.{TypeNo}
use Rattle.typed_tree.specs.Types.{is_numeric, cardinal}
use Rattle.check_scope.specs.Elaborated.{Gathers}
use Rattle.check_value.specs.Classes.{class_at}
use Rattle.check_value.specs.Values.{given_as, function_result, loaded_as, variable_value, value_at_place}
use Rattle.check_value.specs.declared.class.Class.{Class}
use Rattle.check_value.specs.declared.class.Class.TheVariants as class
use Rattle.check_value.specs.declared.computed.Computed.{Computed}
use Rattle.check_value.specs.declared.computed.Computed.TheVariants as value
use Rattle.check_value.specs.declared.computed.Designated.{Designated}
use Rattle.check_value.specs.declared.computed.Designated.TheVariants as designated
use Rattle.check_value.specs.Actuals.{variable_passed, open_passed, text_argument, text_passed, open_value, whole_passed}
use Rattle.check_value.specs.Actuals.{simple_passed, passed_as, value_passed, actual}
use Rattle.check_value.specs.Callees.{callee_in_variable, callee_of, call_by}
use Rattle.check_value.specs.Functions.{unary_takes, unary_built, unary_at, bound_at, converted_value, conversion_at}
use Rattle.check_value.specs.Functions.{high_of}
use Rattle.check_value.specs.declared.callee.Callee.{Callee}
use Rattle.check_value.specs.declared.callee.Callee.TheVariants as callee
use Rattle.check_value.specs.declared.callee.Called.{Called}
use Rattle.check_value.specs.declared.callee.Called.TheVariants as called
use Rattle.check_value.specs.declared.standard.Unary.{Unary}
use Rattle.check_value.specs.declared.standard.Unary.TheVariants as unary
use Rattle.law_encoding.specs.Counted.{AtMost, fine}
use Rattle.law_encoding.proofs.Sums.{le_by}
use Rattle.law_encoding.proofs.Ways.{Way, ◌⊕⟨◌⟩◌, node, up, all_of, weight_typed, weight_place, weight_call}
use Rattle.law_encoding.proofs.Ways.{weight_passed, weight_value, weight_meant}
use Rattle.law_encoding.proofs.WaySums.{under, more, one_at_least, one_of, one_of_two, second_part, high_sum, both_most}
use Rattle.law_encoding.proofs.Results.{then_most, reported_most, where_most, any_most}
use Rattle.law_encoding.proofs.Operators.{of_value_most, suited_most}
use Rattle.law_encoding.proofs.Weighed.{argument_is, call_is, expr_is}

module _ (w : Way) where
  infixl 65 ◌⊕◌
  abbrev ◌⊕◌ : ℕ → ℕ → ℕ
  m ⊕ n = m ⊕⟨ w ⟩ n

  -- ---- callees

  abbrev pub weight_callee : Callee → ℕ
  weight_callee (callee.Module f) = node w
  weight_callee (callee.Nested f) = node w ⊕ up w f.up
  weight_callee (callee.Variable t d) = node w ⊕ weight_place w d

  abbrev pub weight_called : Called → ℕ
  weight_called (called.Routine h c) = weight_callee c
  weight_called (called.Standard f) = 0

  pub call_most : (c : Callee) (xs : List Argument)
      → weight_call w (call_by xs c) ≡ weight_callee c ⊕ all_of w (weight_passed w) xs
  call_most (callee.Module f) xs = call_is w _ (call.outs-Module f xs)
  call_most (callee.Nested f) xs = call_is w _ (call.outs-Nested f xs)
  call_most (callee.Variable t d) xs = call_is w _ (call.outs-Variable t d xs)

  module _ (g : Gathers) (types : Types) where
    -- ---- values

    loaded_as_most : (n : ℕ) (t : TypeNo) (d : Place) (c : Class) → node w ⊕ weight_place w d ≤ n
        → weight_value w (loaded_as t d c) ≤ n
    loaded_as_most n t d (class.Scalar s) p = le_by _ _ n (expr_is w _ (expr.outs-Load t d)) p
    loaded_as_most n t d class.Set p = le_by _ _ n (expr_is w _ (expr.outs-Load t d)) p
    loaded_as_most n t d class.Procedure p = le_by _ _ n (expr_is w _ (expr.outs-Load t d)) p
    loaded_as_most n t d class.Whole p = p

    given_as_most : (n : ℕ) (t : TypeNo) (e : TypedExpr) (c : Class) → weight_typed w e ≤ n
        → weight_value w (given_as t e c) ≤ n
    given_as_most n t e (class.Scalar s) p = p
    given_as_most n t e class.Set p = p
    given_as_most n t e class.Procedure p = p
    given_as_most n t e class.Whole p = omega arith

    pub given_most : (n : ℕ) (t : TypeNo) (e : TypedExpr) → weight_typed w e ≤ n
        → weight_value w (function_result types t e) ≤ n
    given_most n t e p = given_as_most n t e (class_at types t) p

    pub taken_most : (n : ℕ) (at : Pos) (d : Designated) → weight_meant w d ≤ n
        → AtMost (weight_value w) n (value_at_place g types at d)
    taken_most n at (designated.Value x) p = fine x p
    taken_most n at (designated.Variable t d) p =
        fine (variable_value types t d) (loaded_as_most n t d (class_at types t) p)
    taken_most n at (designated.Open t slot) p = fine value.Untaken (omega arith)
    taken_most n at (designated.Type t) p = reported_most g at rule.WrongType
    taken_most n at (designated.Procedure f) p = fine (value.Procedure f) (one_of_two w n p)
    taken_most n at (designated.Nested f) p = reported_most g at rule.NoProcedureValue
    taken_most n at (designated.Standard f) p = reported_most g at rule.NoProcedureValue
    taken_most n at (designated.Module k) p = reported_most g at rule.WrongType

    -- ---- arguments

    abbrev Passed_ : ℕ → Result Argument g.Reported → Type 0
    Passed_ n r = AtMost (weight_passed w) n r

    variable_most : (n : ℕ) (t : TypeNo) (at : Pos) (d : Designated) → weight_meant w d ≤ n
        → Passed_ (node w ⊕ n) (variable_passed g t at d)
    variable_most n t at (designated.Value x) p = reported_most g at rule.NoVariable
    variable_most n t at (designated.Variable u d) p =
        where_most g _ at rule.NoVariable (fine (argument.Place d)
        (under w _ _ n (argument_is w _ (argument.outs-Place d)) p))
    variable_most n t at (designated.Open u slot) p = reported_most g at rule.NoVariable
    variable_most n t at (designated.Type u) p = reported_most g at rule.NoVariable
    variable_most n t at (designated.Procedure f) p = reported_most g at rule.NoVariable
    variable_most n t at (designated.Nested f) p = reported_most g at rule.NoVariable
    variable_most n t at (designated.Standard f) p = reported_most g at rule.NoVariable
    variable_most n t at (designated.Module k) p = reported_most g at rule.NoVariable

    open_most : (n : ℕ) (t : TypeNo) (at : Pos) (d : Designated) → weight_meant w d ≤ n
        → Passed_ (node w ⊕ n) (open_passed g types t at d)
    open_most n t at (designated.Value x) p = reported_most g at rule.NoVariable
    open_most n t at (designated.Variable u d) p =
        where_most g _ at rule.NoVariable (fine (argument.Array u d)
        (under w _ _ n (argument_is w _ (argument.outs-Array u d)) p))
    open_most n t at (designated.Open u slot) p =
        where_most g _ at rule.NoVariable (fine (argument.Open slot)
        (under w _ _ n (argument_is w _ (argument.outs-Open slot)) p))
    open_most n t at (designated.Type u) p = reported_most g at rule.NoVariable
    open_most n t at (designated.Procedure f) p = reported_most g at rule.NoVariable
    open_most n t at (designated.Nested f) p = reported_most g at rule.NoVariable
    open_most n t at (designated.Standard f) p = reported_most g at rule.NoVariable
    open_most n t at (designated.Module k) p = reported_most g at rule.NoVariable

    text_argument_most : (n : ℕ) (t : TypeNo) (at : Pos) (v : Value) → Passed_ (node w ⊕ n) (text_argument g t at v)
    text_argument_most n t at (constant.Text text) =
        where_most g _ at rule.WrongArgument (fine (argument.Text text)
        (one_of w _ n (argument_is w _ (argument.outs-Text text))))
    text_argument_most n t at (constant.Number i) = reported_most g at rule.WrongArgument
    text_argument_most n t at (constant.Scalar s) = reported_most g at rule.WrongArgument
    text_argument_most n t at (constant.Set bits) = reported_most g at rule.WrongArgument

    text_most : (n : ℕ) (t : TypeNo) (at : Pos) (x : Computed) → Passed_ (node w ⊕ n) (text_passed g t at x)
    text_most n t at (value.Constant v) = text_argument_most n t at v
    text_most n t at (value.Scalar u b e) = reported_most g at rule.WrongArgument
    text_most n t at (value.Set e) = reported_most g at rule.WrongArgument
    text_most n t at (value.Routine u e) = reported_most g at rule.WrongArgument
    text_most n t at (value.Procedure f) = reported_most g at rule.WrongArgument
    text_most n t at (value.Whole u d) = reported_most g at rule.WrongArgument
    text_most n t at value.Untaken = reported_most g at rule.WrongArgument

    open_value_most : (n : ℕ) (t : TypeNo) (at : Pos) (d : Designated) → weight_meant w d ≤ n
        → Passed_ (node w ⊕ n) (open_value g types t at d)
    open_value_most n t at (designated.Value x) p = text_most n t at x
    open_value_most n t at (designated.Variable u d) p =
        where_most g _ at rule.WrongArgument (fine (argument.Array u d)
        (under w _ _ n (argument_is w _ (argument.outs-Array u d)) p))
    open_value_most n t at (designated.Open u slot) p =
        where_most g _ at rule.WrongArgument (fine (argument.Open slot)
        (under w _ _ n (argument_is w _ (argument.outs-Open slot)) p))
    open_value_most n t at (designated.Type u) p = reported_most g at rule.WrongType
    open_value_most n t at (designated.Procedure f) p = reported_most g at rule.WrongArgument
    open_value_most n t at (designated.Nested f) p = reported_most g at rule.NoProcedureValue
    open_value_most n t at (designated.Standard f) p = reported_most g at rule.NoProcedureValue
    open_value_most n t at (designated.Module k) p = reported_most g at rule.WrongType

    whole_most : (n : ℕ) (t : TypeNo) (at : Pos) (d : Designated) → weight_meant w d ≤ n
        → Passed_ (node w ⊕ n) (whole_passed g t at d)
    whole_most n t at (designated.Value x) p = reported_most g at rule.WrongArgument
    whole_most n t at (designated.Variable u d) p =
        where_most g _ at rule.WrongArgument (fine (argument.Place d)
        (under w _ _ n (argument_is w _ (argument.outs-Place d)) p))
    whole_most n t at (designated.Open u slot) p = reported_most g at rule.WrongArgument
    whole_most n t at (designated.Type u) p = reported_most g at rule.WrongType
    whole_most n t at (designated.Procedure f) p = reported_most g at rule.WrongArgument
    whole_most n t at (designated.Nested f) p = reported_most g at rule.NoProcedureValue
    whole_most n t at (designated.Standard f) p = reported_most g at rule.NoProcedureValue
    whole_most n t at (designated.Module k) p = reported_most g at rule.WrongType

    simple_most : (n : ℕ) (t : TypeNo) (at : Pos) (d : Designated) → weight_meant w d ≤ n
        → Passed_ (node w ⊕ n) (simple_passed g types t at d)
    simple_most n t at d p = then_most (taken_most n at d p) (λ x h. then_most
        (suited_most w g n rule.WrongArgument types t at x h)
        (λ e k. fine (argument.Value t e) (more w _ _ n (argument_is w _ (argument.outs-Value t e)) k)))

    passed_most : (n : ℕ) (t : TypeNo) (at : Pos) (d : Designated) (c : Class) → weight_meant w d ≤ n
        → Passed_ (node w ⊕ n) (passed_as g types t at d c)
    passed_most n t at d (class.Scalar s) p = simple_most n t at d p
    passed_most n t at d class.Set p = simple_most n t at d p
    passed_most n t at d class.Procedure p = simple_most n t at d p
    passed_most n t at d class.Whole p = whole_most n t at d p

    by_formal : (n : ℕ) (v q : Bool) (t : TypeNo) (at : Pos) (d : Designated) → weight_meant w d ≤ n
        → Passed_ (node w ⊕ n) (cond v (cond q (open_passed g types t at d) (variable_passed g t at d))
        (cond q (open_value g types t at d) (value_passed g types t at d)))
    by_formal n true true t at d p = open_most n t at d p
    by_formal n true false t at d p = variable_most n t at d p
    by_formal n false true t at d p = open_value_most n t at d p
    by_formal n false false t at d p = passed_most n t at d (class_at types t) p

    pub actual_most : (n : ℕ) (f : Formal) (at : Pos) (d : Designated) → weight_meant w d ≤ n
        → Passed_ (node w ⊕ n) (actual g types f at d)
    actual_most n f at d p = by_formal n f.is_var f.is_open f.of at d p

    -- ---- callees

    held_most : (n : ℕ) (at : Pos) (t : TypeNo) (d : Place) (c : Class) → node w ⊕ weight_place w d ≤ n
        → AtMost weight_called n (callee_in_variable g at t d c)
    held_most n at t d class.Procedure p = fine (called.Routine t (callee.Variable t d)) p
    held_most n at t d (class.Scalar s) p = reported_most g at rule.WrongType
    held_most n at t d class.Set p = reported_most g at rule.WrongType
    held_most n at t d class.Whole p = reported_most g at rule.WrongType

    pub callee_most : (n : ℕ) (at : Pos) (d : Designated) → weight_meant w d ≤ n
        → AtMost weight_called n (callee_of g types at d)
    callee_most n at (designated.Procedure f) p = fine (called.Routine f.heading (callee.Module f)) (one_of_two w n p)
    callee_most n at (designated.Nested f) p = fine (called.Routine f.heading (callee.Nested f)) p
    callee_most n at (designated.Variable t d) p = held_most n at t d (class_at types t) p
    callee_most n at (designated.Standard f) p = fine (called.Standard f) (omega arith)
    callee_most n at (designated.Value x) p = reported_most g at rule.WrongType
    callee_most n at (designated.Open t slot) p = reported_most g at rule.WrongType
    callee_most n at (designated.Type t) p = reported_most g at rule.WrongType
    callee_most n at (designated.Module k) p = reported_most g at rule.WrongType

    -- ---- standard functions

    unary_built_most : (n : ℕ) (u : Unary) (b : TypeNo) (e : TypedExpr) → weight_typed w e ≤ n
        → weight_value w (unary_built u b e) ≤ node w ⊕ n
    unary_built_most n unary.Abs b e p = more w _ _ n (expr_is w _ (expr.outs-Abs b e)) p
    unary_built_most n unary.Cap b e p = more w _ _ n (expr_is w _ (expr.outs-Cap e)) p
    unary_built_most n unary.Chr b e p = more w _ _ n (expr_is w _ (expr.outs-Chr e)) p
    unary_built_most n unary.Odd b e p = more w _ _ n (expr_is w _ (expr.outs-Odd e)) p
    unary_built_most n unary.Ord b e p = more w _ _ n (expr_is w _ (expr.outs-Ord e)) p

    pub unary_most : (n : ℕ) (f : Standard) (u : Unary) (at : Pos) (x : Computed) → weight_value w x ≤ n
        → AtMost (weight_value w) (node w ⊕ n) (unary_at g f u at x)
    unary_most n f u at (value.Constant v) p = of_value_most w g (node w ⊕ n) _ (one_at_least w n)
    unary_most n f u at (value.Scalar t b e) p = where_most g (not (unary_takes u b)) at rule.WrongArgument
        (fine (unary_built u b e) (unary_built_most n u b e p))
    unary_most n f u at (value.Set e) p = reported_most g at rule.WrongArgument
    unary_most n f u at (value.Routine t e) p = reported_most g at rule.WrongArgument
    unary_most n f u at (value.Procedure h) p = reported_most g at rule.WrongArgument
    unary_most n f u at (value.Whole t d) p = reported_most g at rule.WrongArgument
    unary_most n f u at value.Untaken p = reported_most g at rule.WrongArgument

    pub bound_most : (n : ℕ) (f : Standard) (x : Result (TypeNo × Range) g.Reported)
        → AtMost (weight_value w) (node w ⊕ n) (bound_at f x)
    bound_most n f x = then_most (any_most x) (λ p h. fine (value.Constant _) (one_at_least w n))

    converted_most : (n : ℕ) (t : TypeNo) (s : Range) (at : Pos) (x : Computed) → weight_value w x ≤ n
        → AtMost (weight_value w) (node w ⊕ n) (converted_value g t s at x)
    converted_most n t s at (value.Constant v) p = of_value_most w g (node w ⊕ n) _ (one_at_least w n)
    converted_most n t s at (value.Scalar u b e) p = where_most g (not (is_numeric b)) at rule.WrongArgument
        (fine (value.Scalar t s.base (expr.Val t e)) (more w _ _ n (expr_is w _ (expr.outs-Val t e)) p))
    converted_most n t s at (value.Set e) p = reported_most g at rule.WrongArgument
    converted_most n t s at (value.Routine u e) p = reported_most g at rule.WrongArgument
    converted_most n t s at (value.Procedure h) p = reported_most g at rule.WrongArgument
    converted_most n t s at (value.Whole u d) p = reported_most g at rule.WrongArgument
    converted_most n t s at value.Untaken p = reported_most g at rule.WrongArgument

    pub conversion_most : (n : ℕ) (to : Result (TypeNo × Range) g.Reported) (at : Pos) {x : Result Computed g.Reported}
        → AtMost (weight_value w) n x → AtMost (weight_value w) (node w ⊕ n) (conversion_at g to at x)
    conversion_most n to at p =
        then_most (both_most g w (any_most to) p) (λ v h. converted_most n v.0.0 v.0.1 at v.1 (second_part w _ n h))

    pub high_most : (n : ℕ) (at : Pos) (d : Designated) → weight_meant w d ≤ n
        → AtMost (weight_value w) (node w ⊕ n) (high_of g at d)
    high_most n at (designated.Open t slot) p =
        fine (value.Scalar cardinal cardinal (expr.High slot)) (high_sum w _ _ n (expr_is w _ (expr.outs-High slot)) p)
    high_most n at (designated.Value x) p = reported_most g at rule.WrongArgument
    high_most n at (designated.Variable t d) p = reported_most g at rule.WrongArgument
    high_most n at (designated.Type t) p = reported_most g at rule.WrongType
    high_most n at (designated.Procedure f) p = reported_most g at rule.WrongArgument
    high_most n at (designated.Nested f) p = reported_most g at rule.NoProcedureValue
    high_most n at (designated.Standard f) p = reported_most g at rule.NoProcedureValue
    high_most n at (designated.Module k) p = reported_most g at rule.WrongType
