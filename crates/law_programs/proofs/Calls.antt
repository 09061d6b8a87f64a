-- Values, arguments, calls and standard functions.
use Rattle.std.proofs.Common.{◌≡◌, ℕ, ◌≤◌, ◌^◌, ◌≤ℤ◌, ℤ, Bool, true, false, List, length, Option, Some, None, Result, refl, sym, ap, subst, ◌∙◌}
use Rattle.std.specs.Prelude.{not, cond, if◌then◌else◌}
use Rattle.m2_rule.specs.declared.rule.Rule.TheVariants as rule
use Rattle.m2_tree.specs.declared.pos.Pos.{Pos}
use Rattle.typed_tree.specs.declared.computed.Argument.{Argument}
use Rattle.typed_tree.specs.declared.computed.Argument.TheVariants as argument
use Rattle.typed_tree.specs.declared.computed.Call.{Call}
use Rattle.typed_tree.specs.declared.computed.Call.TheVariants as call
use Rattle.typed_tree.specs.declared.computed.Place.{Place}
use Rattle.typed_tree.specs.declared.computed.Slot.{Slot}
use Rattle.typed_tree.specs.declared.computed.TypedExpr.{TypedExpr}
use Rattle.typed_tree.specs.declared.computed.TypedExpr.TheVariants as expr
use Rattle.typed_tree.specs.declared.known_types.Types.{Types}
use Rattle.typed_tree.specs.declared.meaning.Standard.{Standard}
use Rattle.typed_tree.specs.declared.meaning.Standard.TheVariants.{Abs, Cap, Chr, High, Max, Min, Odd, Ord, Val, Inc, Dec, Incl, Excl, Halt, Put}
use Rattle.typed_tree.specs.declared.meaning.Value.{Value}
use Rattle.typed_tree.specs.declared.meaning.Value.TheVariants as constant
use Rattle.typed_tree.specs.declared.shape.Formal.{Formal}
use Rattle.typed_tree.specs.declared.shape.Scalar.{Scalar as Range}
use Rattle.typed_tree.specs.declared.typed_module.TypedModule.{TypedModule}
use Rattle.typed_tree.specs.declared.types.TypeNo.{TypeNo}
use Rattle.typed_tree.specs.Known.{scalar_at}
use Rattle.typed_tree.specs.Types.{are_same, is_numeric, integer, cardinal, boolean, char}
use Rattle.check_scope.specs.Elaborated.{Gathers}
use Rattle.check_const.specs.Numbers.{is_between}
use Rattle.check_const.specs.Standards.{whole_number, bound_of, converted_part}
use Rattle.check_const.specs.declared.operand.Ordinal.{Ordinal}
use Rattle.check_const.specs.Calls.{scalar_type, unary_of, bound_by}
use Rattle.check_value.specs.Classes.{class_at, array_at}
use Rattle.check_value.specs.Values.{given_as, function_result, loaded_as, variable_value, value_at_place}
use Rattle.check_value.specs.declared.class.Class.{Class}
use Rattle.check_value.specs.declared.class.Class.TheVariants as class
use Rattle.check_value.specs.declared.computed.Computed.{Computed}
use Rattle.check_value.specs.declared.computed.Computed.TheVariants as value
use Rattle.check_value.specs.declared.computed.Designated.{Designated}
use Rattle.check_value.specs.declared.computed.Designated.TheVariants as designated
use Rattle.check_value.specs.Actuals.{starts_at_zero, elements_suit_in, elements_suit, variable_passed, open_passed, text_argument, text_passed, open_value, whole_passed, simple_passed, passed_as, value_passed, actual}
use Rattle.check_value.specs.Callees.{callee_in_variable, callee_of, call_by}
use Rattle.check_value.specs.Functions.{unary_takes, unary_built, unary_at, type_named, bound_at, converted_value, conversion_at, high_of}
use Rattle.check_value.specs.declared.callee.Callee.{Callee}
use Rattle.check_value.specs.declared.callee.Callee.TheVariants as callee
use Rattle.check_value.specs.declared.callee.Called.{Called}
use Rattle.check_value.specs.declared.callee.Called.TheVariants as called
use Rattle.check_value.specs.declared.standard.Unary.{Unary}
use Rattle.check_value.specs.declared.standard.Unary.TheVariants as unary
use Rattle.layout_storage.specs.Shapes.{elements_of, tree}
use Rattle.layout_storage.specs.Types.{Ty, Callable, Cell, Array, Heading}
use Rattle.def_scheme.specs.Cells.{base_of}
use Rattle.law_memory.specs.Relation.{heading_at}
use Rattle.law_simulation.specs.Scene.{AreAmong}
use Rattle.law_simulation.specs.Passing.{Form, ByCopy, ByName, ByArray, value_form, form_of, forms_of, result_of}
use Rattle.law_simulation.specs.TreesTyped.{Context, IsNamed, IsInner}
use Rattle.law_well_formed.specs.Formed.{Holds, fine}
use Rattle.law_well_formed.proofs.Basics.{then_holds, reported_holds, where_holds, both_holds, Grows}
use Rattle.law_modules.specs.Ranges.{IsRange}
use Rattle.law_modules.proofs.Known.{range_at}
use Rattle.law_well_formed.specs.FormedRanges.{IsBased, ValueRanged}
use Rattle.law_well_formed.proofs.RangesTypes.{same_types, both_left}
use Rattle.law_well_formed.proofs.Subranges.{between_in, at_itself, number_between, based_at}
use Rattle.law_well_formed.proofs.Values.{unary_ranged}
use Rattle.law_programs.specs.Typing.{IsConstant, is_known, TypesTyped, ExprTyped, PlaceTyped, CallTyped, ArgumentTyped, ScalarTyped, ValueTyped, DesignatedTyped}
use Rattle.law_programs.proofs.Known.{IsRoutine, ClassIs, class_is, scalar_known, array_known, among_base, base_is, among_natural, HasCell, ranged_cell, bits_cell, routine_tree, has_base, has_range, IsArray, array_is, whole_copied}
use Rattle.law_programs.proofs.Words.{holds_both, unary_words, bound_word}
use Rattle.law_programs.proofs.Operators.{where_not, numeric_is, boolean_base, char_base, of_value_typed, scalar_typed, suited_typed, procedure_suited_typed}
use Rattle.law_programs.proofs.Constructs as made

module _ (x : Context) (ws : List Ty) (h : TypesTyped x.home.types) (g : Gathers) (opens : ℕ → Bool) (scope : Types)
    (grows : Grows scope x.home.types) where
  abbrev m : TypedModule
  m = x.home

  abbrev types : Types
  types = x.home.types

  abbrev Value_ : Result Computed g.Reported → Type 0
  Value_ r = Holds (ValueTyped x ws) r

  -- ---- values

  load_made : (t : TypeNo) (d : Place) → HasCell types t → PlaceTyped x ws d (tree types t)
      → ExprTyped x ws (expr.Load t d) t
  load_made t d c p = made.load_typed x ws t c.cell d c.is (subst (λ (u : Ty). PlaceTyped x ws d u) c.is.is p)

  loaded_typed : (t : TypeNo) (d : Place) (c : Class) → ClassIs types t c → PlaceTyped x ws d (tree types t)
      → ValueTyped x ws (loaded_as t d c)
  loaded_typed t d (class.Scalar s) e p =
      record {
        typed = load_made t d (ranged_cell types h t s e) p;
        based = has_base types h t s e;
        run =
            made.run_load m t d;
      }
  loaded_typed t d class.Set e p = record { of = t; typed = load_made t d (bits_cell types t e) p; word = e.none }
  loaded_typed t d class.Procedure e p = record {
    heading = e.heading;
    is = e.is;
    of = made.type_of_load m t d;
    word = e.none;
    typed = made.loaded_procedure_typed x ws t e.heading d (routine_tree types h t e)
        (subst (λ (u : Ty). PlaceTyped x ws d u) (routine_tree types h t e) p);
  }
  loaded_typed t d class.Whole e p = p

  call_made : (t : TypeNo) (c : Call) → HasCell types t → CallTyped x ws c (Some (tree types t))
      → ExprTyped x ws (expr.Call t c) t
  call_made t c k p = made.function_typed x ws t k.cell c p k.is

  given_as_typed : (t : TypeNo) (c : Call) (k : Class) → ClassIs types t k → CallTyped x ws c (Some (tree types t))
      → ValueTyped x ws (given_as t (expr.Call t c) k)
  given_as_typed t c (class.Scalar s) e p =
      record {
        typed = call_made t c (ranged_cell types h t s e) p;
        based = has_base types h t s e;
        run =
            made.run_call m t c;
      }
  given_as_typed t c class.Set e p = record { of = t; typed = call_made t c (bits_cell types t e) p; word = e.none }
  given_as_typed t c class.Procedure e p = record {
    heading = e.heading;
    is = e.is;
    of = made.type_of_call m t c;
    word = e.none;
    typed = made.given_procedure_typed x ws t e.heading c
        (subst (λ (u : Ty). CallTyped x ws c (Some u)) (routine_tree types h t e) p);
  }
  given_as_typed t c class.Whole e p = tt

  -- what a function gives
  pub given_typed : (t : TypeNo) (c : Call) → CallTyped x ws c (Some (tree types t))
      → ValueTyped x ws (function_result scope t (expr.Call t c))
  given_typed t c p = given_as_typed t c (class_at scope t) (class_is scope types grows t) p

  pub taken_typed : (at : Pos) (d : Designated) → DesignatedTyped x ws opens d → Value_ (value_at_place g scope at d)
  taken_typed at (designated.Value v) p = fine v p
  taken_typed at (designated.Variable t d) p =
      fine (variable_value scope t d) (loaded_typed t d (class_at scope t) (class_is scope types grows t) p)
  taken_typed at (designated.Open t slot) p = fine value.Untaken tt
  taken_typed at (designated.Type t) p = reported_holds g at rule.WrongType
  taken_typed at (designated.Procedure f) p = fine (value.Procedure f) p
  taken_typed at (designated.Nested f) p = reported_holds g at rule.NoProcedureValue
  taken_typed at (designated.Standard f) p = reported_holds g at rule.NoProcedureValue
  taken_typed at (designated.Module k) p = reported_holds g at rule.WrongType

  -- ---- arguments

  abbrev For : Form → Result Argument g.Reported → Type 0
  For f r = Holds (λ y. ArgumentTyped x ws y f) r

  same_place : (u t : TypeNo) (d : Place) → are_same u t ≡ true → PlaceTyped x ws d (tree types u)
      → PlaceTyped x ws d (tree types t)
  same_place u t d k p = subst (λ (z : TypeNo). PlaceTyped x ws d (tree types z)) (same_types u t k) p

  variable_typed : (t : TypeNo) (at : Pos) (d : Designated) → DesignatedTyped x ws opens d
      → For (ByName (tree types t)) (variable_passed g t at d)
  variable_typed t at (designated.Variable u d) p =
      where_not g (are_same u t) at rule.NoVariable
      (λ k. fine (argument.Place d) (made.name_typed x ws d (tree types t) (same_place u t d k p)))
  variable_typed t at (designated.Value v) p = reported_holds g at rule.NoVariable
  variable_typed t at (designated.Open u slot) p = reported_holds g at rule.NoVariable
  variable_typed t at (designated.Type u) p = reported_holds g at rule.NoVariable
  variable_typed t at (designated.Procedure f) p = reported_holds g at rule.NoVariable
  variable_typed t at (designated.Nested f) p = reported_holds g at rule.NoVariable
  variable_typed t at (designated.Standard f) p = reported_holds g at rule.NoVariable
  variable_typed t at (designated.Module k) p = reported_holds g at rule.NoVariable

  array_by : (v : Bool) (t u : TypeNo) (d : Place) (o : Option (TypeNo × TypeNo)) → array_at scope u ≡ o
      → elements_suit_in scope t o ≡ true → PlaceTyped x ws d (tree types u)
      → ArgumentTyped x ws (argument.Array u d) (ByArray v (tree types t))
  array_by v t u d None e k p = absurd cc
  array_by v t u d (Some a) e k p =
      let same : a.1 ≡ t = same_types a.1 t (both_left (are_same a.1 t) (starts_at_zero (scalar_at scope a.0)) k) in
      let i : IsArray types h u a.0 a.1 = array_is types h u a (array_known scope types grows u a e) in
      let r : IsRange a.0 i.range = range_at types h.ranged a.0 i.range i.at in
      made.array_typed x ws u i.range (tree types t) v d i.index r.narrow
      (i.elements ∙ ap (λ (z : TypeNo). Array (elements_of (Some i.range)) (tree types z)) same) p

  open_slot : (v : Bool) (t u : TypeNo) (slot : Slot) → are_same u t ≡ true
      → DesignatedTyped x ws opens (designated.Open u slot)
      → ArgumentTyped x ws (argument.Open slot) (ByArray v (tree types t))
  open_slot v t u slot k p = subst (λ (z : TypeNo). ArgumentTyped x ws (argument.Open slot) (ByArray v (tree types z)))
      (same_types u t k) (made.open_typed x ws slot v (tree types u) p)

  open_typed : (v : Bool) (t : TypeNo) (at : Pos) (d : Designated) → DesignatedTyped x ws opens d
      → For (ByArray v (tree types t)) (open_passed g scope t at d)
  open_typed v t at (designated.Variable u d) p =
      where_not g (elements_suit scope t u) at rule.NoVariable
      (λ k. fine (argument.Array u d) (array_by v t u d (array_at scope u) refl k p))
  open_typed v t at (designated.Open u slot) p =
      where_not g (are_same u t) at rule.NoVariable (λ k. fine (argument.Open slot) (open_slot v t u slot k p))
  open_typed v t at (designated.Value y) p = reported_holds g at rule.NoVariable
  open_typed v t at (designated.Type u) p = reported_holds g at rule.NoVariable
  open_typed v t at (designated.Procedure f) p = reported_holds g at rule.NoVariable
  open_typed v t at (designated.Nested f) p = reported_holds g at rule.NoVariable
  open_typed v t at (designated.Standard f) p = reported_holds g at rule.NoVariable
  open_typed v t at (designated.Module k) p = reported_holds g at rule.NoVariable

  module _ (room : length x.characters ≤ 2 ^ 32) where
    text_argument_typed : (t : TypeNo) (at : Pos) (v : Value) → IsConstant types v
        → For (ByArray false (tree types t)) (text_argument g t at v)
    text_argument_typed t at (constant.Text text) p =
        where_not g (are_same t char) at rule.WrongArgument
        (λ k. fine (argument.Text text) (subst
        (λ (z : TypeNo). ArgumentTyped x ws (argument.Text text) (ByArray false (tree types z)))
        (sym (same_types t char k)) (made.text_typed x ws text p.0 room)))
    text_argument_typed t at (constant.Number n) p = reported_holds g at rule.WrongArgument
    text_argument_typed t at (constant.Scalar s) p = reported_holds g at rule.WrongArgument
    text_argument_typed t at (constant.Set bits) p = reported_holds g at rule.WrongArgument

    text_typed : (t : TypeNo) (at : Pos) (v : Computed) → ValueTyped x ws v
        → For (ByArray false (tree types t)) (text_passed g t at v)
    text_typed t at (value.Constant v) p = text_argument_typed t at v p
    text_typed t at (value.Scalar u b e) p = reported_holds g at rule.WrongArgument
    text_typed t at (value.Set e) p = reported_holds g at rule.WrongArgument
    text_typed t at (value.Routine u e) p = reported_holds g at rule.WrongArgument
    text_typed t at (value.Procedure f) p = reported_holds g at rule.WrongArgument
    text_typed t at (value.Whole u d) p = reported_holds g at rule.WrongArgument
    text_typed t at value.Untaken p = reported_holds g at rule.WrongArgument

    open_value_typed : (t : TypeNo) (at : Pos) (d : Designated) → DesignatedTyped x ws opens d
        → For (ByArray false (tree types t)) (open_value g scope t at d)
    open_value_typed t at (designated.Variable u d) p =
        where_not g (elements_suit scope t u) at rule.WrongArgument
        (λ k. fine (argument.Array u d) (array_by false t u d (array_at scope u) refl k p))
    open_value_typed t at (designated.Open u slot) p =
        where_not g (are_same u t) at rule.WrongArgument (λ k. fine (argument.Open slot) (open_slot false t u slot k p))
    open_value_typed t at (designated.Value v) p = text_typed t at v p
    open_value_typed t at (designated.Type u) p = reported_holds g at rule.WrongType
    open_value_typed t at (designated.Procedure f) p = reported_holds g at rule.WrongArgument
    open_value_typed t at (designated.Nested f) p = reported_holds g at rule.NoProcedureValue
    open_value_typed t at (designated.Standard f) p = reported_holds g at rule.NoProcedureValue
    open_value_typed t at (designated.Module k) p = reported_holds g at rule.WrongType

    whole_typed : (t : TypeNo) (at : Pos) (d : Designated) → value_form (tree types t) ≡ ByCopy (tree types t)
        → DesignatedTyped x ws opens d → For (value_form (tree types t)) (whole_passed g t at d)
    whole_typed t at (designated.Variable u d) c p =
        where_not g (are_same u t) at rule.WrongArgument
        (λ k. fine (argument.Place d) (subst (λ (f : Form). ArgumentTyped x ws (argument.Place d) f) (sym c)
        (made.copy_typed x ws d (tree types t) (same_place u t d k p))))
    whole_typed t at (designated.Value v) c p = reported_holds g at rule.WrongArgument
    whole_typed t at (designated.Open u slot) c p = reported_holds g at rule.WrongArgument
    whole_typed t at (designated.Type u) c p = reported_holds g at rule.WrongType
    whole_typed t at (designated.Procedure f) c p = reported_holds g at rule.WrongArgument
    whole_typed t at (designated.Nested f) c p = reported_holds g at rule.NoProcedureValue
    whole_typed t at (designated.Standard f) c p = reported_holds g at rule.NoProcedureValue
    whole_typed t at (designated.Module k) c p = reported_holds g at rule.WrongType

    simple_typed : (t : TypeNo) (at : Pos) (d : Designated) → HasCell types t → DesignatedTyped x ws opens d
        → For (value_form (tree types t)) (simple_passed g scope t at d)
    simple_typed t at d c p =
        then_holds (taken_typed at d p) (λ v k.
        then_holds (suited_typed x ws h g scope grows rule.WrongArgument t at v k) (λ e j.
        fine (argument.Value t e) (subst (λ (f : Form). ArgumentTyped x ws (argument.Value t e) f)
        (sym (ap value_form c.is.is)) (made.value_typed x ws t j.of c.cell e j.typed c.is j.taken))))

    routine_typed : (t : TypeNo) (at : Pos) (d : Designated) (i : IsRoutine types t)
        → class_at scope t ≡ class.Procedure → DesignatedTyped x ws opens d
        → For (value_form (tree types t)) (simple_passed g scope t at d)
    routine_typed t at d i q p =
        then_holds (taken_typed at d p) (λ v k.
        then_holds (procedure_suited_typed x ws h g scope grows rule.WrongArgument t at v i q k) (λ e j.
        fine (argument.Value t e) (subst (λ (f : Form). ArgumentTyped x ws (argument.Value t e) f)
        (sym (ap value_form (routine_tree types h t i)))
        (made.procedure_actual_typed x ws t i.heading e j i.none (routine_tree types h t i)))))

    passed_typed : (t : TypeNo) (at : Pos) (d : Designated) (c : Class) → is_known scope t ≡ true → class_at scope t ≡ c
        → ClassIs types t c → DesignatedTyped x ws opens d
        → For (value_form (tree types t)) (passed_as g scope t at d c)
    passed_typed t at d (class.Scalar s) k q e p = simple_typed t at d (ranged_cell types h t s e) p
    passed_typed t at d class.Set k q e p = simple_typed t at d (bits_cell types t e) p
    passed_typed t at d class.Procedure k q e p = routine_typed t at d e q p
    passed_typed t at d class.Whole k q e p = whole_typed t at d (whole_copied types h scope grows t k q) p

    by_formal : (v q : Bool) (t : TypeNo) (at : Pos) (d : Designated) → is_known scope t ≡ true
        → DesignatedTyped x ws opens d
        → For (if q then ByArray v (tree types t) else (if v then ByName (tree types t) else value_form (tree types t)))
        (cond v (cond q (open_passed g scope t at d) (variable_passed g t at d))
        (cond q (open_value g scope t at d) (value_passed g scope t at d)))
    by_formal true true t at d k p = open_typed true t at d p
    by_formal true false t at d k p = variable_typed t at d p
    by_formal false true t at d k p = open_value_typed t at d p
    by_formal false false t at d k p = passed_typed t at d (class_at scope t) k refl (class_is scope types grows t) p

    pub actual_typed : (f : Formal) (at : Pos) (d : Designated) → is_known scope f.of ≡ true
        → DesignatedTyped x ws opens d → For (form_of types f) (actual g scope f at d)
    actual_typed f at d k p = by_formal f.is_var f.is_open f.of at d k p

  -- ---- callees

  -- what is called is there, and has this heading
  abbrev pub CalleeTyped : TypeNo → Callee → Type 0
  CalleeTyped t (callee.Module f) = IsNamed x f × (f.heading ≡ t)
  CalleeTyped t (callee.Nested f) = IsInner x f × (f.heading ≡ t)
  CalleeTyped t (callee.Variable u d) = PlaceTyped x ws d (tree types u) × IsRoutine types u × (u ≡ t)

  abbrev pub CalledTyped : Called → Type 0
  CalledTyped (called.Routine t c) = CalleeTyped t c
  CalledTyped (called.Standard f) = Unit {0}

  held_typed : (at : Pos) (t : TypeNo) (d : Place) (c : Class) → ClassIs types t c → PlaceTyped x ws d (tree types t)
      → Holds CalledTyped (callee_in_variable g at t d c)
  held_typed at t d class.Procedure i p = fine (called.Routine t (callee.Variable t d)) (p, i, refl)
  held_typed at t d (class.Scalar s) i p = reported_holds g at rule.WrongType
  held_typed at t d class.Set i p = reported_holds g at rule.WrongType
  held_typed at t d class.Whole i p = reported_holds g at rule.WrongType

  pub callee_typed : (at : Pos) (d : Designated) → DesignatedTyped x ws opens d
      → Holds CalledTyped (callee_of g scope at d)
  callee_typed at (designated.Procedure f) p = fine (called.Routine f.heading (callee.Module f)) (p, refl)
  callee_typed at (designated.Nested f) p = fine (called.Routine f.heading (callee.Nested f)) (p, refl)
  callee_typed at (designated.Variable t d) p = held_typed at t d (class_at scope t) (class_is scope types grows t) p
  callee_typed at (designated.Standard f) p = fine (called.Standard f) tt
  callee_typed at (designated.Value v) p = reported_holds g at rule.WrongType
  callee_typed at (designated.Open t slot) p = reported_holds g at rule.WrongType
  callee_typed at (designated.Type t) p = reported_holds g at rule.WrongType
  callee_typed at (designated.Module k) p = reported_holds g at rule.WrongType

  pub call_typed : (c : Callee) (t : TypeNo) (gs : List Argument) → CalleeTyped t c → (s : Heading)
      → heading_at types t ≡ Some s → made.ArgumentsTyped x ws gs (forms_of types t)
      → CallTyped x ws (call_by gs c) (result_of types t)
  call_typed (callee.Module f) t gs k s i p =
      subst (λ (u : TypeNo). CallTyped x ws (call.Module f gs) (result_of types u)) k.1
      (made.module_call_typed x ws f gs k.0 s (ap (heading_at types) k.1 ∙ i)
      (subst (λ (u : TypeNo). made.ArgumentsTyped x ws gs (forms_of types u)) (sym k.1) p))
  call_typed (callee.Nested f) t gs k s i p =
      subst (λ (u : TypeNo). CallTyped x ws (call.Nested f gs) (result_of types u)) k.1
      (made.nested_call_typed x ws f gs k.0 s (ap (heading_at types) k.1 ∙ i)
      (subst (λ (u : TypeNo). made.ArgumentsTyped x ws gs (forms_of types u)) (sym k.1) p))
  call_typed (callee.Variable u d) t gs k s i p =
      let tr : tree types u ≡ Cell (Callable k.1.heading) = routine_tree types h u k.1 in
      subst (λ (w : TypeNo). CallTyped x ws (call.Variable u d gs) (result_of types w)) k.2
      (made.variable_call_typed x ws u k.1.heading d gs k.1.is tr (subst (λ (w : Ty). PlaceTyped x ws d w) tr k.0)
      (subst (λ (w : TypeNo). made.ArgumentsTyped x ws gs (forms_of types w)) (sym k.2) p))

  -- ---- standard functions of one value

  unary_made : (u : Unary) (t b : TypeNo) (e : TypedExpr) → unary_takes u b ≡ true → ScalarTyped x ws t b e
      → ValueTyped x ws (unary_built u b e)
  unary_made unary.Abs t b e k p =
      let n = numeric_is x ws h b k in
      scalar_typed x ws h g b b (expr.Abs b e)
      (made.abs_typed x ws b t e p.typed (among_base types t b p.based)
      (λ q. among_natural types h.ranged b b n.base q) (has_range types b b n.base)) n.base (made.run_abs m b e)
  unary_made unary.Cap t b e k p = scalar_typed x ws h g char char (expr.Cap e)
      (made.cap_typed x ws t e p.typed (subst (λ (z : TypeNo). AreAmong types t z) (same_types b char k)
      (among_base types t b p.based))) (char_base x ws h) (made.run_cap m e)
  unary_made unary.Chr t b e k p = scalar_typed x ws h g char char (expr.Chr e) (made.chr_typed x ws t e p.typed)
      (char_base x ws h) (made.run_chr m e)
  unary_made unary.Odd t b e k p = scalar_typed x ws h g boolean boolean (expr.Odd e) (made.odd_typed x ws t e p.typed)
      (boolean_base x ws h) (made.run_odd m e)
  unary_made unary.Ord t b e k p =
      let same : base_of types t ≡ b = base_is types t b p.based in
      scalar_typed x ws h g cardinal cardinal (expr.Ord e)
      (made.ord_typed x ws t e p.typed (subst (λ (z : TypeNo). AreAmong types t z) (sym same)
      (among_base types t b p.based)) (λ q. among_natural types h.ranged t b p.based
      (ap (λ (z : TypeNo). are_same z integer) (sym same) ∙ q)))
      (has_base types h cardinal _ refl) (made.run_ord m e)

  pub unary_typed : (f : Standard) (u : Unary) (at : Pos) (v : Computed) → ValueTyped x ws v
      → Value_ (unary_at g f u at v)
  unary_typed f u at (value.Constant v) p =
      of_value_typed x ws h g (holds_both (unary_of g f at v) (unary_ranged g types f (fine (at, v) p.0))
      (unary_words g f at v))
  unary_typed f u at (value.Scalar t b e) p =
      where_not g (unary_takes u b) at rule.WrongArgument (λ k. fine (unary_built u b e) (unary_made u t b e k p))
  unary_typed f u at (value.Set e) p = reported_holds g at rule.WrongArgument
  unary_typed f u at (value.Routine t e) p = reported_holds g at rule.WrongArgument
  unary_typed f u at (value.Procedure q) p = reported_holds g at rule.WrongArgument
  unary_typed f u at (value.Whole t d) p = reported_holds g at rule.WrongArgument
  unary_typed f u at value.Untaken p = reported_holds g at rule.WrongArgument

  -- ---- standard functions of a type

  -- a type that is a scalar
  abbrev pub TypeIs : TypeNo × Range → Type 0
  TypeIs p = scalar_at types p.0 ≡ Some p.1

  scalar_is : (at : Pos) (t : TypeNo) (o : Option Range) → scalar_at scope t ≡ o → Holds TypeIs (scalar_type g at t o)
  scalar_is at t None e = reported_holds g at rule.NoType
  scalar_is at t (Some r) e = fine (t, r) (scalar_known scope types grows t r e)

  pub type_is : (at : Pos) (d : Designated) → Holds TypeIs (type_named g scope at d)
  type_is at (designated.Type t) = scalar_is at t (scalar_at scope t) refl
  type_is at (designated.Value v) = reported_holds g at rule.NoType
  type_is at (designated.Variable t d) = reported_holds g at rule.NoType
  type_is at (designated.Open t slot) = reported_holds g at rule.NoType
  type_is at (designated.Procedure f) = reported_holds g at rule.NoType
  type_is at (designated.Nested f) = reported_holds g at rule.NoType
  type_is at (designated.Standard f) = reported_holds g at rule.NoType
  type_is at (designated.Module k) = reported_holds g at rule.NoType

  number_constant : (t : TypeNo) (r : Range) (n : ℤ) → scalar_at types t ≡ Some r → r.low ≤ℤ n → n ≤ℤ r.high
      → ValueRanged types (bound_of t r n)
  number_constant t r n e l u =
      let b : IsBased types r = based_at types h.own h.others t r e in (
        record { range = r; at = e; own = refl; low = l; high = u },
        number_between types r.base r.base r.low n r.high
            b.low b.high l u,
      )

  least_constant : (t : TypeNo) (r : Range) → scalar_at types t ≡ Some r → ValueRanged types (bound_of t r r.low)
  least_constant t r e = number_constant t r r.low e (at_itself r.low)
      (let k : IsRange t r = range_at types h.ranged t r e in k.some)

  greatest_constant : (t : TypeNo) (r : Range) → scalar_at types t ≡ Some r → ValueRanged types (bound_of t r r.high)
  greatest_constant t r e = number_constant t r r.high e (let k : IsRange t r = range_at types h.ranged t r e in k.some)
      (at_itself r.high)

  bound_constant : (f : Standard) (t : TypeNo) (r : Range) → scalar_at types t ≡ Some r
      → ValueRanged types (bound_by f t r)
  bound_constant Min t r e = least_constant t r e
  bound_constant Abs t r e = greatest_constant t r e
  bound_constant Cap t r e = greatest_constant t r e
  bound_constant Chr t r e = greatest_constant t r e
  bound_constant High t r e = greatest_constant t r e
  bound_constant Max t r e = greatest_constant t r e
  bound_constant Odd t r e = greatest_constant t r e
  bound_constant Ord t r e = greatest_constant t r e
  bound_constant Val t r e = greatest_constant t r e
  bound_constant Inc t r e = greatest_constant t r e
  bound_constant Dec t r e = greatest_constant t r e
  bound_constant Incl t r e = greatest_constant t r e
  bound_constant Excl t r e = greatest_constant t r e
  bound_constant Halt t r e = greatest_constant t r e
  bound_constant Put t r e = greatest_constant t r e

  pub bound_typed : (f : Standard) {p : Result (TypeNo × Range) g.Reported} → Holds TypeIs p → Value_ (bound_at f p)
  bound_typed f p = then_holds p (λ t k. fine (value.Constant (bound_by f t.0 t.1))
      (bound_constant f t.0 t.1 k, bound_word g f t.0 t.1))

  converted_constant : (t : TypeNo) (r : Range) (at : Pos) (o : Option Ordinal) → scalar_at types t ≡ Some r
      → Holds (IsConstant types) (converted_part g t r at o)
  converted_constant t r at None e = reported_holds g at rule.WrongArgument
  converted_constant t r at (Some a) e = where_not g (is_between r.low a.number r.high) at rule.OutOfRange
      (λ k. let b = between_in r.low a.number r.high k in
      fine (bound_of t r a.number) (number_constant t r a.number e b.0 b.1, tt))

  converted_typed : (t : TypeNo) (r : Range) (at : Pos) (v : Computed) → scalar_at types t ≡ Some r → ValueTyped x ws v
      → Value_ (converted_value g t r at v)
  converted_typed t r at (value.Constant v) e p = of_value_typed x ws h g (converted_constant t r at (whole_number v) e)
  converted_typed t r at (value.Scalar u b f) e p =
      where_holds g (not (is_numeric b)) at rule.WrongArgument
      (fine (value.Scalar t r.base (expr.Val t f))
      (scalar_typed x ws h g t r.base (expr.Val t f)
      (made.val_typed x ws t u f p.typed (λ k. let z : None ≡ Some r = sym k ∙ e in cc z)) (has_base types h t r e)
      (made.run_val m t f)))
  converted_typed t r at (value.Set f) e p = reported_holds g at rule.WrongArgument
  converted_typed t r at (value.Routine u f) e p = reported_holds g at rule.WrongArgument
  converted_typed t r at (value.Procedure f) e p = reported_holds g at rule.WrongArgument
  converted_typed t r at (value.Whole u d) e p = reported_holds g at rule.WrongArgument
  converted_typed t r at value.Untaken e p = reported_holds g at rule.WrongArgument

  pub conversion_typed : {to : Result (TypeNo × Range) g.Reported} (at : Pos) {v : Result Computed g.Reported}
      → Holds TypeIs to → Value_ v → Value_ (conversion_at g to at v)
  conversion_typed at p q = then_holds (both_holds g p q) (λ v k. converted_typed v.0.0 v.0.1 at v.1 k.0 k.1)

  pub high_typed : (at : Pos) (d : Designated) → DesignatedTyped x ws opens d → Value_ (high_of g at d)
  high_typed at (designated.Open t slot) p =
      fine (value.Scalar cardinal cardinal (expr.High slot))
      (scalar_typed x ws h g cardinal cardinal (expr.High slot) (made.high_typed x ws slot (tree types t) p)
      (has_base types h cardinal _ refl) (made.run_high m slot))
  high_typed at (designated.Value v) p = reported_holds g at rule.WrongArgument
  high_typed at (designated.Variable t d) p = reported_holds g at rule.WrongArgument
  high_typed at (designated.Type t) p = reported_holds g at rule.WrongType
  high_typed at (designated.Procedure f) p = reported_holds g at rule.WrongArgument
  high_typed at (designated.Nested f) p = reported_holds g at rule.NoProcedureValue
  high_typed at (designated.Standard f) p = reported_holds g at rule.NoProcedureValue
  high_typed at (designated.Module k) p = reported_holds g at rule.WrongType
