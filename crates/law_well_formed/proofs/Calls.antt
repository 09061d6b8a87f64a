-- Values, arguments, calls and standard functions.
use Rattle.std.proofs.Common.{◌≡◌, ℕ, Bool, true, false, List, [], ◌∷◌, ◌++◌, Result, refl, sym, ap, subst, ◌∙◌}
use Rattle.std.specs.Prelude.{not, cond}
use Rattle.m2_rule.specs.declared.rule.Rule.TheVariants as rule
use Rattle.m2_tree.specs.declared.pos.Pos.{Pos}
use Rattle.typed_tree.specs.declared.computed.Argument.{Argument}
use Rattle.typed_tree.specs.declared.computed.Argument.TheVariants as argument
use Rattle.typed_tree.specs.declared.computed.Place.{Place}
use Rattle.typed_tree.specs.declared.computed.TypedExpr.{TypedExpr}
use Rattle.typed_tree.specs.declared.computed.TypedExpr.TheVariants as expr
use Rattle.typed_tree.specs.declared.known_types.Types.{Types}
use Rattle.typed_tree.specs.declared.meaning.Standard.{Standard}
use Rattle.typed_tree.specs.declared.meaning.Value.{Value}
use Rattle.typed_tree.specs.declared.meaning.Value.TheVariants as constant
use Rattle.typed_tree.specs.declared.shape.Formal.{Formal}
use Rattle.typed_tree.specs.declared.shape.Scalar.{Scalar as Range}
use Rattle.typed_tree.specs.declared.typed_module.TypedModule.{TypedModule}
use Rattle.typed_tree.specs.declared.types.TypeNo.{TypeNo}
use Rattle.typed_tree.specs.Types.{is_numeric, cardinal}
use Rattle.check_scope.specs.Elaborated.{Gathers}
use Rattle.check_value.specs.Classes.{class_at}
use Rattle.check_value.specs.Values.{given_as, function_result, loaded_as, variable_value, value_at_place}
use Rattle.check_value.specs.declared.class.Class.{Class}
use Rattle.check_value.specs.declared.class.Class.TheVariants as class
use Rattle.check_value.specs.declared.computed.Computed.{Computed}
use Rattle.check_value.specs.declared.computed.Computed.TheVariants as value
use Rattle.check_value.specs.declared.computed.Designated.{Designated}
use Rattle.check_value.specs.declared.computed.Designated.TheVariants as designated
use Rattle.check_value.specs.Actuals.{variable_passed, open_passed, text_argument, text_passed, open_value, whole_passed, simple_passed, passed_as, value_passed, actual}
use Rattle.check_value.specs.Callees.{callee_in_variable, callee_of, call_by}
use Rattle.check_value.specs.Functions.{unary_takes, unary_built, unary_at, bound_at, converted_value, conversion_at, high_of}
use Rattle.check_value.specs.declared.callee.Callee.{Callee}
use Rattle.check_value.specs.declared.callee.Callee.TheVariants as callee
use Rattle.check_value.specs.declared.callee.Called.{Called}
use Rattle.check_value.specs.declared.callee.Called.TheVariants as called
use Rattle.check_value.specs.declared.standard.Unary.{Unary}
use Rattle.check_value.specs.declared.standard.Unary.TheVariants as unary
use Rattle.layout_storage.specs.Frames.{formals_of}
use Rattle.def_scheme.specs.Exprs.{has_result}
use Rattle.law_modules.specs.WellFormed.{IsScalar, IsRoutine, IsProcedure, IsExpr, Load, Abs, Cap, Chr, Odd, Ord, Val, High, IsPlace, IsCall, OfModule, OfProcedure, OfVariable, AreArguments, no_arguments, more_arguments, IsArgument, Value as ValueOf, Actual, ActualArray, Open, Text}
use Rattle.law_well_formed.specs.Formed.{Holds, fine, FormedValue, FormedDesignated}
use Rattle.law_well_formed.proofs.Basics.{then_holds, reported_holds, where_holds, both_holds, any_holds, is_whole, Grows, scalar_kept}
use Rattle.law_well_formed.proofs.Operators.{of_value_formed, suited_formed}

module _ (g : Gathers) (m : TypedModule) (w : ℕ) (opens : ℕ → Bool) (types : Types) (grows : Grows types m.types) where
  -- ---- values

  loaded_as_formed : (t : TypeNo) (d : Place) (c : Class) → (is_whole c ≡ false → IsScalar m.types t) → IsPlace m w d
      → FormedValue m w (loaded_as t d c)
  loaded_as_formed t d (class.Scalar s) k p = Load t d (k refl) p
  loaded_as_formed t d class.Set k p = Load t d (k refl) p
  loaded_as_formed t d class.Procedure k p = Load t d (k refl) p
  loaded_as_formed t d class.Whole k p = p

  given_as_formed : (t : TypeNo) (e : TypedExpr) (c : Class) → IsExpr m w e → FormedValue m w (given_as t e c)
  given_as_formed t e (class.Scalar s) p = p
  given_as_formed t e class.Set p = p
  given_as_formed t e class.Procedure p = p
  given_as_formed t e class.Whole p = tt

  pub given_formed : (t : TypeNo) (e : TypedExpr) → IsExpr m w e → FormedValue m w (function_result types t e)
  given_formed t e p = given_as_formed t e (class_at types t) p

  pub taken_formed : (at : Pos) (d : Designated) → FormedDesignated m opens w d
      → Holds (FormedValue m w) (value_at_place g types at d)
  taken_formed at (designated.Value x) p = fine x p
  taken_formed at (designated.Variable t d) p =
      fine (variable_value types t d) (loaded_as_formed t d (class_at types t) (scalar_kept types m.types grows t) p)
  taken_formed at (designated.Open t slot) p = fine value.Untaken tt
  taken_formed at (designated.Type t) p = reported_holds g at rule.WrongType
  taken_formed at (designated.Procedure f) p = fine (value.Procedure f) p
  taken_formed at (designated.Nested f) p = reported_holds g at rule.NoProcedureValue
  taken_formed at (designated.Standard f) p = reported_holds g at rule.NoProcedureValue
  taken_formed at (designated.Module k) p = reported_holds g at rule.WrongType

  -- ---- arguments

  abbrev For : Bool → Result Argument g.Reported → Type 0
  For q r = Holds (λ x. IsArgument m w x q) r

  variable_formed : (t : TypeNo) (at : Pos) (d : Designated) → FormedDesignated m opens w d
      → For false (variable_passed g t at d)
  variable_formed t at (designated.Variable u d) p =
      where_holds g _ at rule.NoVariable (fine (argument.Place d) (Actual d p))
  variable_formed t at (designated.Value x) p = reported_holds g at rule.NoVariable
  variable_formed t at (designated.Open u slot) p = reported_holds g at rule.NoVariable
  variable_formed t at (designated.Type u) p = reported_holds g at rule.NoVariable
  variable_formed t at (designated.Procedure f) p = reported_holds g at rule.NoVariable
  variable_formed t at (designated.Nested f) p = reported_holds g at rule.NoVariable
  variable_formed t at (designated.Standard f) p = reported_holds g at rule.NoVariable
  variable_formed t at (designated.Module k) p = reported_holds g at rule.NoVariable

  open_formed : (t : TypeNo) (at : Pos) (d : Designated) → FormedDesignated m opens w d
      → For true (open_passed g types t at d)
  open_formed t at (designated.Variable u d) p =
      where_holds g _ at rule.NoVariable (fine (argument.Array u d) (ActualArray u d p))
  open_formed t at (designated.Open u slot) p =
      where_holds g _ at rule.NoVariable (fine (argument.Open slot) (Open slot))
  open_formed t at (designated.Value x) p = reported_holds g at rule.NoVariable
  open_formed t at (designated.Type u) p = reported_holds g at rule.NoVariable
  open_formed t at (designated.Procedure f) p = reported_holds g at rule.NoVariable
  open_formed t at (designated.Nested f) p = reported_holds g at rule.NoVariable
  open_formed t at (designated.Standard f) p = reported_holds g at rule.NoVariable
  open_formed t at (designated.Module k) p = reported_holds g at rule.NoVariable

  text_argument_formed : (t : TypeNo) (at : Pos) (v : Value) → For true (text_argument g t at v)
  text_argument_formed t at (constant.Text text) =
      where_holds g _ at rule.WrongArgument (fine (argument.Text text) (Text text))
  text_argument_formed t at (constant.Number n) = reported_holds g at rule.WrongArgument
  text_argument_formed t at (constant.Scalar s) = reported_holds g at rule.WrongArgument
  text_argument_formed t at (constant.Set bits) = reported_holds g at rule.WrongArgument

  text_formed : (t : TypeNo) (at : Pos) (x : Computed) → For true (text_passed g t at x)
  text_formed t at (value.Constant v) = text_argument_formed t at v
  text_formed t at (value.Scalar u b e) = reported_holds g at rule.WrongArgument
  text_formed t at (value.Set e) = reported_holds g at rule.WrongArgument
  text_formed t at (value.Routine u e) = reported_holds g at rule.WrongArgument
  text_formed t at (value.Procedure f) = reported_holds g at rule.WrongArgument
  text_formed t at (value.Whole u d) = reported_holds g at rule.WrongArgument
  text_formed t at value.Untaken = reported_holds g at rule.WrongArgument

  open_value_formed : (t : TypeNo) (at : Pos) (d : Designated) → FormedDesignated m opens w d
      → For true (open_value g types t at d)
  open_value_formed t at (designated.Variable u d) p =
      where_holds g _ at rule.WrongArgument (fine (argument.Array u d) (ActualArray u d p))
  open_value_formed t at (designated.Open u slot) p =
      where_holds g _ at rule.WrongArgument (fine (argument.Open slot) (Open slot))
  open_value_formed t at (designated.Value x) p = text_formed t at x
  open_value_formed t at (designated.Type u) p = reported_holds g at rule.WrongType
  open_value_formed t at (designated.Procedure f) p = reported_holds g at rule.WrongArgument
  open_value_formed t at (designated.Nested f) p = reported_holds g at rule.NoProcedureValue
  open_value_formed t at (designated.Standard f) p = reported_holds g at rule.NoProcedureValue
  open_value_formed t at (designated.Module k) p = reported_holds g at rule.WrongType

  whole_formed : (t : TypeNo) (at : Pos) (d : Designated) → FormedDesignated m opens w d
      → For false (whole_passed g t at d)
  whole_formed t at (designated.Variable u d) p =
      where_holds g _ at rule.WrongArgument (fine (argument.Place d) (Actual d p))
  whole_formed t at (designated.Value x) p = reported_holds g at rule.WrongArgument
  whole_formed t at (designated.Open u slot) p = reported_holds g at rule.WrongArgument
  whole_formed t at (designated.Type u) p = reported_holds g at rule.WrongType
  whole_formed t at (designated.Procedure f) p = reported_holds g at rule.WrongArgument
  whole_formed t at (designated.Nested f) p = reported_holds g at rule.NoProcedureValue
  whole_formed t at (designated.Standard f) p = reported_holds g at rule.NoProcedureValue
  whole_formed t at (designated.Module k) p = reported_holds g at rule.WrongType

  simple_formed : (t : TypeNo) (at : Pos) (d : Designated) → FormedDesignated m opens w d
      → For false (simple_passed g types t at d)
  simple_formed t at d p = then_holds (taken_formed at d p)
      (λ x h. then_holds (suited_formed m w g rule.WrongArgument types t at x h)
      (λ e k. fine (argument.Value t e) (ValueOf t e k)))

  passed_formed : (t : TypeNo) (at : Pos) (d : Designated) (c : Class) → FormedDesignated m opens w d
      → For false (passed_as g types t at d c)
  passed_formed t at d (class.Scalar s) p = simple_formed t at d p
  passed_formed t at d class.Set p = simple_formed t at d p
  passed_formed t at d class.Procedure p = simple_formed t at d p
  passed_formed t at d class.Whole p = whole_formed t at d p

  by_formal : (v q : Bool) (t : TypeNo) (at : Pos) (d : Designated) → FormedDesignated m opens w d
      → For q (cond v (cond q (open_passed g types t at d) (variable_passed g t at d))
      (cond q (open_value g types t at d) (value_passed g types t at d)))
  by_formal true true t at d p = open_formed t at d p
  by_formal true false t at d p = variable_formed t at d p
  by_formal false true t at d p = open_value_formed t at d p
  by_formal false false t at d p = passed_formed t at d (class_at types t) p

  pub actual_formed : (f : Formal) (at : Pos) (d : Designated) → FormedDesignated m opens w d
      → For f.is_open (actual g types f at d)
  actual_formed f at d p = by_formal f.is_var f.is_open f.of at d p

  pub arguments_more : (xs : List Argument) (fs : List Formal) (x : Argument) (f : Formal) → AreArguments m w xs fs
      → IsArgument m w x f.is_open → AreArguments m w (xs ++ x ∷ []) (fs ++ f ∷ [])
  arguments_more _ _ x f no_arguments k = more_arguments x [] f [] k no_arguments
  arguments_more _ _ x f (more_arguments y ys e es p ps) k =
      more_arguments y (ys ++ x ∷ []) e (es ++ f ∷ []) p (arguments_more ys es x f ps k)

  -- ---- callees

  -- what is called is there, and has this heading
  abbrev pub FormedCallee : TypeNo → Callee → Type 0
  FormedCallee h (callee.Module p) = IsProcedure m p × (p.heading ≡ h)
  FormedCallee h (callee.Nested p) = IsRoutine m.locals p.number p.heading × (p.heading ≡ h)
  FormedCallee h (callee.Variable t d) = IsScalar m.types t × IsPlace m w d × (t ≡ h)

  abbrev pub FormedCalled : Called → Type 0
  FormedCalled (called.Routine h c) = FormedCallee h c
  FormedCalled (called.Standard f) = Unit {0}

  held_formed : (at : Pos) (t : TypeNo) (d : Place) (c : Class) → (is_whole c ≡ false → IsScalar m.types t)
      → IsPlace m w d → Holds FormedCalled (callee_in_variable g at t d c)
  held_formed at t d class.Procedure k p = fine (called.Routine t (callee.Variable t d)) (k refl, p, refl)
  held_formed at t d (class.Scalar s) k p = reported_holds g at rule.WrongType
  held_formed at t d class.Set k p = reported_holds g at rule.WrongType
  held_formed at t d class.Whole k p = reported_holds g at rule.WrongType

  pub callee_formed : (at : Pos) (d : Designated) → FormedDesignated m opens w d
      → Holds FormedCalled (callee_of g types at d)
  callee_formed at (designated.Procedure f) p = fine (called.Routine f.heading (callee.Module f)) (p, refl)
  callee_formed at (designated.Nested f) p = fine (called.Routine f.heading (callee.Nested f)) (p, refl)
  callee_formed at (designated.Variable t d) p =
      held_formed at t d (class_at types t) (scalar_kept types m.types grows t) p
  callee_formed at (designated.Standard f) p = fine (called.Standard f) tt
  callee_formed at (designated.Value x) p = reported_holds g at rule.WrongType
  callee_formed at (designated.Open t slot) p = reported_holds g at rule.WrongType
  callee_formed at (designated.Type t) p = reported_holds g at rule.WrongType
  callee_formed at (designated.Module k) p = reported_holds g at rule.WrongType

  pub call_formed : (c : Callee) (h : TypeNo) (xs : List Argument) (r : Bool) → FormedCallee h c
      → has_result m.types h ≡ r → AreArguments m w xs (formals_of m.types h) → IsCall m w (call_by xs c) r
  call_formed (callee.Module p) h xs r k e args =
      OfModule p xs r k.0 (ap (λ (t : TypeNo). has_result m.types t) k.1 ∙ e)
      (subst (λ (t : TypeNo). AreArguments m w xs (formals_of m.types t)) (sym k.1) args)
  call_formed (callee.Nested p) h xs r k e args =
      OfProcedure p xs r k.0 (ap (λ (t : TypeNo). has_result m.types t) k.1 ∙ e)
      (subst (λ (t : TypeNo). AreArguments m w xs (formals_of m.types t)) (sym k.1) args)
  call_formed (callee.Variable t d) h xs r k e args =
      OfVariable t d xs r k.0 k.1 (ap (λ (t : TypeNo). has_result m.types t) k.2 ∙ e)
      (subst (λ (t : TypeNo). AreArguments m w xs (formals_of m.types t)) (sym k.2) args)

  -- ---- standard functions

  unary_built_formed : (u : Unary) (b : TypeNo) (e : TypedExpr) → IsExpr m w e → FormedValue m w (unary_built u b e)
  unary_built_formed unary.Abs b e p = Abs b e p
  unary_built_formed unary.Cap b e p = Cap e p
  unary_built_formed unary.Chr b e p = Chr e p
  unary_built_formed unary.Odd b e p = Odd e p
  unary_built_formed unary.Ord b e p = Ord e p

  pub unary_formed : (f : Standard) (u : Unary) (at : Pos) (x : Computed) → FormedValue m w x
      → Holds (FormedValue m w) (unary_at g f u at x)
  unary_formed f u at (value.Constant v) p = of_value_formed m w g _
  unary_formed f u at (value.Scalar t b e) p =
      where_holds g (not (unary_takes u b)) at rule.WrongArgument
      (fine (unary_built u b e) (unary_built_formed u b e p))
  unary_formed f u at (value.Set e) p = reported_holds g at rule.WrongArgument
  unary_formed f u at (value.Routine t e) p = reported_holds g at rule.WrongArgument
  unary_formed f u at (value.Procedure h) p = reported_holds g at rule.WrongArgument
  unary_formed f u at (value.Whole t d) p = reported_holds g at rule.WrongArgument
  unary_formed f u at value.Untaken p = reported_holds g at rule.WrongArgument

  pub bound_formed : (f : Standard) (x : Result (TypeNo × Range) g.Reported) → Holds (FormedValue m w) (bound_at f x)
  bound_formed f x = then_holds (any_holds x) (λ p h. fine (value.Constant _) tt)

  converted_formed : (t : TypeNo) (s : Range) (at : Pos) (x : Computed) → FormedValue m w x
      → Holds (FormedValue m w) (converted_value g t s at x)
  converted_formed t s at (value.Constant v) p = of_value_formed m w g _
  converted_formed t s at (value.Scalar u b e) p =
      where_holds g (not (is_numeric b)) at rule.WrongArgument (fine (value.Scalar t s.base (expr.Val t e)) (Val t e p))
  converted_formed t s at (value.Set e) p = reported_holds g at rule.WrongArgument
  converted_formed t s at (value.Routine u e) p = reported_holds g at rule.WrongArgument
  converted_formed t s at (value.Procedure h) p = reported_holds g at rule.WrongArgument
  converted_formed t s at (value.Whole u d) p = reported_holds g at rule.WrongArgument
  converted_formed t s at value.Untaken p = reported_holds g at rule.WrongArgument

  pub conversion_formed : (to : Result (TypeNo × Range) g.Reported) (at : Pos) {x : Result Computed g.Reported}
      → Holds (FormedValue m w) x → Holds (FormedValue m w) (conversion_at g to at x)
  conversion_formed to at p = then_holds (both_holds g (any_holds to) p)
      (λ v h. converted_formed v.0.0 v.0.1 at v.1 h.1)

  pub high_formed : (at : Pos) (d : Designated) → Holds (FormedValue m w) (high_of g at d)
  high_formed at (designated.Open t slot) = fine (value.Scalar cardinal cardinal (expr.High slot)) (High slot)
  high_formed at (designated.Value x) = reported_holds g at rule.WrongArgument
  high_formed at (designated.Variable t d) = reported_holds g at rule.WrongArgument
  high_formed at (designated.Type t) = reported_holds g at rule.WrongType
  high_formed at (designated.Procedure f) = reported_holds g at rule.WrongArgument
  high_formed at (designated.Nested f) = reported_holds g at rule.NoProcedureValue
  high_formed at (designated.Standard f) = reported_holds g at rule.NoProcedureValue
  high_formed at (designated.Module k) = reported_holds g at rule.WrongType
