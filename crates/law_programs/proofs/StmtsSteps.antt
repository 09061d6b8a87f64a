-- Statements without others inside, and what stands before and around others.
use Rattle.std.proofs.Common.{◌≡◌, ℕ, ℤ, pos, negsuc, ◌==◌, Bool, true, false, ◌&&◌, ◌||◌, cond, List, Option, Some, None, Result, Ok, Err, refl, sym, ap, subst, ◌∙◌, arith}
use Rattle.std.specs.Prelude.{◌≤ℤ◌, not, int_lt}
use Rattle.std.proofs.lemmas.Int.{ints}
use Rattle.m2_rule.specs.declared.rule.Rule.TheVariants as rule
use Rattle.m2_tree.specs.declared.pos.Pos.{Pos}
use Rattle.m2_tree.specs.declared.name.Ident.{Ident}
use Rattle.m2_tree.specs.declared.expr.Expr.{Expr}
use Rattle.typed_tree.specs.declared.computed.Place.{Place}
use Rattle.typed_tree.specs.declared.computed.Root.{Root}
use Rattle.typed_tree.specs.declared.computed.Root.TheVariants as root
use Rattle.typed_tree.specs.declared.computed.TypedExpr.{TypedExpr}
use Rattle.typed_tree.specs.declared.computed.TypedExpr.TheVariants as expr
use Rattle.typed_tree.specs.declared.known_types.Types.{Types}
use Rattle.typed_tree.specs.declared.meaning.LocalKind.{LocalKind}
use Rattle.typed_tree.specs.declared.meaning.LocalKind.TheVariants as kind
use Rattle.typed_tree.specs.declared.meaning.Meaning.{Meaning}
use Rattle.typed_tree.specs.declared.meaning.Meaning.TheVariants as meaning
use Rattle.typed_tree.specs.declared.statement.TypedStmt.{TypedStmt}
use Rattle.typed_tree.specs.declared.statement.TypedStmt.TheVariants as step
use Rattle.typed_tree.specs.declared.types.TypeNo.{TypeNo}
use Rattle.typed_tree.specs.Chains.{root_place}
use Rattle.typed_tree.specs.Types.{are_same, is_numeric, integer, cardinal, boolean}
use Rattle.check_scope.specs.Elaborated.{Gathers, reported_where, both, ◌▷◌}
use Rattle.check_scope.specs.declared.scope.Scope.{Scope}
use Rattle.check_const.specs.declared.operand.Operand.{Operand}
use Rattle.check_const.specs.declared.operand.Operand.TheVariants as operand
use Rattle.check_const.specs.declared.operand.Ordinal.{Ordinal}
use Rattle.check_const.specs.Operands.{operand_of, is_number}
use Rattle.check_const.specs.Numbers.{is_between, fits as number_fits}
use Rattle.check_const.specs.Standards.{scalar_part, if_number}
use Rattle.check_value.specs.Classes.{class_at}
use Rattle.check_value.specs.Sides.{side_of}
use Rattle.check_value.specs.Suits.{sort_suits, bases_suit, scalar_suited, value_suited}
use Rattle.check_value.specs.Values.{slot_of}
use Rattle.check_value.specs.declared.class.Class.{Class}
use Rattle.check_value.specs.declared.class.Class.TheVariants as class
use Rattle.check_value.specs.declared.computed.Computed.{Computed}
use Rattle.check_value.specs.declared.computed.Designated.{Designated}
use Rattle.check_value.specs.declared.computed.Designated.TheVariants as designated
use Rattle.check_value.specs.declared.side.Amount.{Amount}
use Rattle.check_value.specs.declared.side.Amount.TheVariants.{Known, Run}
use Rattle.check_value.specs.declared.side.Side.{Side}
use Rattle.check_value.specs.declared.side.Side.TheVariants as side
use Rattle.check_value.specs.Effects.{type_of_number}
use Rattle.check_expr.specs.Meanings.{Meant, meanings_of, value_of}
use Rattle.layout_storage.specs.Types.{Ty, Scalar, Cell}
use Rattle.layout_storage.specs.Shapes.{tree}
use Rattle.law_simulation.specs.Scene.{IsValue, AreAmong, IsCell}
use Rattle.law_simulation.specs.Frames.{Kept}
use Rattle.law_simulation.specs.Passing.{Result as Gives}
use Rattle.law_simulation.specs.TreesTyped.{Context}
use Rattle.law_simulation.specs.StmtsTyped.{IsControl, OfModule, OfFrame}
use Rattle.law_well_formed.specs.Formed.{Holds, fine, broken}
use Rattle.law_well_formed.proofs.Basics.{then_holds, reported_holds, both_holds, reported_beside_holds, sort_holds, any_holds}
use Rattle.law_well_formed.specs.FormedRanges.{ScopeRanged, fits}
use Rattle.law_well_formed.proofs.RangesTypes.{same_types, both_left}
use Rattle.law_well_formed.proofs.Subranges.{not_less, through, between_in, SortRanged, OperandRanged, operand_ranged, fits_number}
use Rattle.law_well_formed.proofs.Constants.{constants_ranged}
use Rattle.law_modules.specs.Ranges.{AreRanged}
use Rattle.law_modules.proofs.Known.{range_at}
use Rattle.law_programs.specs.Typing.{HasBase, kind_of, PlaceTyped, GivenTyped, ValueTyped, DesignatedTyped, MeaningTyped, IsTyped}
use Rattle.law_programs.proofs.Known.{ClassIs, class_is, routine_tree, ranged_cell, has_base, among_base, number_value}
use Rattle.law_programs.proofs.Constructs as made
use Rattle.law_programs.proofs.Operators.{where_not, AmountTyped, SideTyped, SomeTyped, side_typed, suited_typed, IsSuited, SuitsCell, SuitsProcedure, place_suited_typed}
use Rattle.check_stmt_parts.specs.Simple.{meant_if, exit_statement, given_back, return_statement, selector_amount, selector_of, case_selector, record_by, record_of}
use Rattle.check_stmt_parts.specs.Control.{controlled_as, control_variable, is_own, control_by, control_of, start_at, limit_number, limit_by, limit_at, is_zero, step_number, step_of, type_of, base_of, course, course_of, repeated_for}
use Rattle.check_stmt_parts.specs.declared.around.Around.{Around}
use Rattle.check_stmt_parts.specs.declared.control.Control.{Control}
use Rattle.check_stmt_parts.specs.declared.control.Course.{Course}
use Rattle.law_programs.specs.TypingStmts.{fits_step, StmtTyped, AreReturned}
use Rattle.law_programs.proofs.StmtsConstructs.{TestTyped, EachTyped, exit_typed, return_typed, give_typed, give_procedure_typed, for_typed}

-- ---- numbers of 32 bits

pub small : (types : Types) → AreRanged types → (sort : Option TypeNo) (n : ℤ) → SortRanged types sort n
    → (negsuc 2147483647 ≤ℤ n) × (n ≤ℤ pos 4294967295)
small types is None n p = p
small types is (Some t) n p = let r = range_at types is t p.range p.at in
    (through (negsuc 2147483647) p.range.low n r.low p.low, through n p.range.high (pos 4294967295) p.high r.high)

-- a number without a type is an INTEGER where it is negative
pub untyped_value : (types : Types) (sort : Option TypeNo) (n : ℤ) → SortRanged types sort n
    → IsValue types (type_of_number n sort) n
untyped_value types (Some t) n p = number_value types t t n p
untyped_value types None n p = by (int_lt n (pos 0)) refl where
  by : (b : Bool) → int_lt n (pos 0) ≡ b → IsValue types (cond b integer cardinal) n
  by true e = (p.0, grind (arith, e))
  by false e = (not_less n (pos 0) e, p.1)

module _ (g : Gathers) (x : Context) (ws : List Ty) (opens : ℕ → Bool) (s : Scope g.Reported)
    (h : IsTyped g x ws opens s) where
  abbrev types : Types
  types = x.home.types

  abbrev pub Value_ : Result Computed g.Reported → Type 0
  Value_ r = Holds (ValueTyped x ws) r

  abbrev pub Known_ : Meant g.Reported → Type 0
  Known_ y = Holds (DesignatedTyped x ws opens) (y.means s)

  -- ---- WITH

  abbrev pub RecordTyped : TypeNo × Place → Type 0
  RecordTyped r = PlaceTyped x ws r.1 (tree types r.0)

  record_by_typed : (at : Pos) (d : Designated) → DesignatedTyped x ws opens d
      → Holds RecordTyped (record_by g s.types at d)
  record_by_typed at (designated.Variable t d) p = where_not g _ at rule.WrongType (λ e. fine (t, d) p)
  record_by_typed at (designated.Value v) p = reported_holds g at rule.WrongType
  record_by_typed at (designated.Open t slot) p = reported_holds g at rule.WrongType
  record_by_typed at (designated.Type t) p = reported_holds g at rule.WrongType
  record_by_typed at (designated.Procedure f) p = reported_holds g at rule.WrongType
  record_by_typed at (designated.Nested f) p = reported_holds g at rule.WrongType
  record_by_typed at (designated.Standard f) p = reported_holds g at rule.WrongType
  record_by_typed at (designated.Module k) p = reported_holds g at rule.WrongType

  pub record_typed : (d : Meant g.Reported) → Known_ d → Holds RecordTyped (record_of g s d)
  record_typed d p = then_holds (sort_holds g d.fixed.at rule.WrongType p) (λ e k. record_by_typed d.fixed.at e k)

  -- ---- conditions

  boolean_only : (b : TypeNo) → bases_suit boolean b ≡ true → boolean ≡ b
  boolean_only b e = same_types boolean b (by (are_same boolean b) e) where
    by : (c : Bool) → (c || (is_numeric boolean && is_numeric b)) ≡ true → c ≡ true
    by true q = refl
    by false q = absurd cc

  test_amount : (at : Pos) (a : Amount) → AmountTyped x ws h.all a
      → Holds (λ e. TestTyped x ws e) (scalar_suited g rule.WrongType boolean
      (record { base = boolean; low = pos 0; high = pos 1 }) at (Some (side.Scalar a)))
  test_amount at (Known a) p =
      where_not g (sort_suits boolean a.sort) at rule.WrongType
      (λ e. where_not g (is_between (pos 0) a.number (pos 1)) at rule.OutOfRange (λ f.
      fine (expr.Constant boolean a.number) (record {
        of = boolean;
        typed = made.constant_typed x ws boolean a.number (between_in (pos 0) a.number (pos 1) f);
        among = λ v k. k;
      })))
  test_amount at (Run b e) p =
      where_not g (bases_suit boolean b) at rule.WrongType (λ q.
      fine e (record {
        of = p.of;
        typed = p.scalar.typed;
        among =
            subst (λ (t : TypeNo). AreAmong types p.of t) (sym (boolean_only b q))
            (among_base types p.of b p.scalar.based);
      }))

  test_side : (at : Pos) (o : Option Side) → SideTyped x ws h.all o
      → Holds (λ e. TestTyped x ws e) (scalar_suited g rule.WrongType boolean
      (record { base = boolean; low = pos 0; high = pos 1 }) at o)
  test_side at None p = reported_holds g at rule.WrongType
  test_side at (Some (side.Scalar a)) p = test_amount at a p
  test_side at (Some (side.Set e)) p = reported_holds g at rule.WrongType
  test_side at (Some (side.Routine t e)) p = reported_holds g at rule.WrongType
  test_side at (Some (side.Procedure f)) p = reported_holds g at rule.WrongType

  pub condition_typed : (at : Pos) {v : Result Computed g.Reported} → Value_ v
      → Holds (λ e. TestTyped x ws e) (v ▷ value_suited g rule.WrongType s.types boolean at)
  condition_typed at p = then_holds p (λ v k. test_side at (side_of v) (side_typed x ws h.all v k))

  -- ---- the selector of a CASE

  abbrev pub SelectorTyped : TypeNo × TypedExpr → Type 0
  SelectorTyped r = SomeTyped x ws h.all r.1

  selector_amount_typed : (a : Amount) → AmountTyped x ws h.all a → SelectorTyped (selector_amount a)
  selector_amount_typed (Known a) p = record {
    of = type_of_number a.number a.sort;
    typed =
        made.constant_typed x ws (type_of_number a.number a.sort) a.number (untyped_value types a.sort a.number p);
  }
  selector_amount_typed (Run b e) p = record { of = p.of; typed = p.scalar.typed }

  selector_typed : (at : Pos) (o : Option Side) → SideTyped x ws h.all o → Holds SelectorTyped (selector_of g at o)
  selector_typed at None p = reported_holds g at rule.WrongType
  selector_typed at (Some (side.Scalar a)) p = fine (selector_amount a) (selector_amount_typed a p)
  selector_typed at (Some (side.Set e)) p = reported_holds g at rule.WrongType
  selector_typed at (Some (side.Routine t e)) p = reported_holds g at rule.WrongType
  selector_typed at (Some (side.Procedure f)) p = reported_holds g at rule.WrongType

  pub selected_typed : (y : Meant g.Reported) → Value_ (value_of g s y) → Holds SelectorTyped (case_selector g s y)
  selected_typed y p = then_holds p (λ v k. selector_typed y.fixed.at (side_of v) (side_typed x ws h.all v k))

  -- ---- EXIT and RETURN

  module _ (result : Gives) where
    exited_as : (at : Pos) (looped : Bool)
        → Holds (StmtTyped x result ws looped) (reported_where g (not looped) at rule.LonelyExit (Ok step.Exit))
    exited_as at true = fine step.Exit (exit_typed x result ws)
    exited_as at false = reported_holds g at rule.LonelyExit

    pub exited_typed : (at : Pos) (a : Around g.Reported)
        → Holds (StmtTyped x result ws a.in_loop) (exit_statement g at a)
    exited_typed at a = exited_as at a.in_loop

    given_as : (looped : Bool) (t : TypeNo) (y : TypedExpr) → result ≡ Some (tree types t) → IsSuited x ws h.all t y
        → StmtTyped x result ws looped (step.Give t y)
    given_as looped t y e (SuitsCell c q) = give_typed x result ws looped t c.cell y e c.is q
    given_as looped t y e (SuitsProcedure i q) =
        give_procedure_typed x result ws looped t i.heading y
        (e ∙ ap (λ (u : Ty). Some u) (routine_tree types h.all t i)) i.none (routine_tree types h.all t i) q

    given_back_typed : (t : Result TypeNo g.Reported) (at : Pos) (looped : Bool) {v : Result Computed g.Reported}
        → AreReturned types (Some t) result → Value_ v
        → Holds (StmtTyped x result ws looped) (given_back g s.types t at v)
    given_back_typed (Ok t) at looped e (fine v k) =
        then_holds (place_suited_typed x ws h.all g s.types h.types rule.NotAssignable t at v k)
        (λ y q. fine (step.Give t y) (given_as looped t y e q))
    given_back_typed (Ok t) at looped e (broken z) = broken z
    given_back_typed (Err y) at looped e (fine v k) = broken y
    given_back_typed (Err y) at looped e (broken z) = broken (g.join y z)

    abbrev pub ValueIf : Option (Meant g.Reported) → Type 0
    ValueIf None = Unit {0}
    ValueIf (Some y) = Value_ (value_of g s y)

    pub returned_typed : (at : Pos) (looped : Bool) (o : Option (Result TypeNo g.Reported))
        (y : Option (Meant g.Reported)) → AreReturned types o result → ValueIf y
        → Holds (StmtTyped x result ws looped) (return_statement g s at o y)
    returned_typed at looped None None e p = fine step.Return (return_typed x result ws looped e)
    returned_typed at looped None (Some y) e p = reported_beside_holds g at rule.WrongReturn _
    returned_typed at looped (Some t) None e p = reported_holds g at rule.WrongReturn
    returned_typed at looped (Some t) (Some y) e p = given_back_typed t y.fixed.at looped e p

  -- ---- FOR: the control variable

  pub record ControlTyped (c : Control) : Type 0 where
    pub root : Root
    pub place : c.place ≡ root_place root
    pub cell : Scalar
    pub one : IsCell types c.of cell
    pub base : HasBase types c.of c.base
    pub control : IsControl x (root_place root) (Cell cell)

  controlled_as_typed : (at : Pos) (t : TypeNo) (r : Root) (c : Class) → ClassIs types t c
      → IsControl x (root_place r) (tree types t) → Holds ControlTyped (controlled_as g at t (root_place r) c)
  controlled_as_typed at t r (class.Scalar k) e p =
      let one = ranged_cell types h.all t k e in
      fine (record { of = t; base = k.base; place = root_place r })
      (record {
        root = r;
        place = refl;
        cell = one.cell;
        one = one.is;
        base = has_base types h.all t k e;
        control =
            subst (λ (u : Ty). IsControl x (root_place r) u) one.is.is p;
      })
  controlled_as_typed at t r class.Set e p = reported_holds g at rule.WrongControl
  controlled_as_typed at t r class.Procedure e p = reported_holds g at rule.WrongControl
  controlled_as_typed at t r class.Whole e p = reported_holds g at rule.WrongControl

  controlled_typed : (at : Pos) (t : TypeNo) (r : Root) → IsControl x (root_place r) (tree types t)
      → Holds ControlTyped (control_variable g s.types at t (root_place r))
  controlled_typed at t r p = controlled_as_typed at t r (class_at s.types t) (class_is s.types types h.types t) p

  own_kind : (t : TypeNo) (k : LocalKind) → is_own k ≡ true → kind_of types t k ≡ Kept (tree types t)
  own_kind t kind.Variable e = refl
  own_kind t kind.Value e = absurd cc
  own_kind t kind.Alias e = absurd cc
  own_kind t kind.Open e = absurd cc

  control_by_typed : (at : Pos) (y : Meaning) → MeaningTyped x ws opens s.level y
      → Holds ControlTyped (control_by g s at y)
  control_by_typed at (meaning.Constant v) p = reported_holds g at rule.WrongControl
  control_by_typed at (meaning.Type t n) p = reported_holds g at rule.WrongControl
  control_by_typed at (meaning.Variable v) p =
      where_not g (v.home == s.types.home) at rule.WrongControl
      (λ e. controlled_typed at v.of (root.Global v)
      (OfModule (root_place (root.Global v)) v (tree types v.of) refl refl p))
  control_by_typed at (meaning.Local v) p =
      where_not g (is_own v.kind && (v.level == s.level)) at rule.WrongControl (λ e.
      controlled_typed at v.of (root.Local (slot_of s.level v))
      (OfFrame (root_place (root.Local (slot_of s.level v))) (slot_of s.level v) (tree types v.of) refl refl
      (p ∙ ap (λ k. Some k) (own_kind v.of v.kind (both_left (is_own v.kind) (v.level == s.level) e)))))
  control_by_typed at (meaning.Field f) p = reported_holds g at rule.WrongControl
  control_by_typed at (meaning.Procedure f) p = reported_holds g at rule.WrongControl
  control_by_typed at (meaning.LocalProcedure f) p = reported_holds g at rule.WrongControl
  control_by_typed at meaning.Ahead p = reported_holds g at rule.Ahead
  control_by_typed at (meaning.Standard f) p = reported_holds g at rule.WrongControl
  control_by_typed at (meaning.Module k) p = reported_holds g at rule.WrongControl

  control_typed : (name : Ident) → Holds ControlTyped (control_of g s name)
  control_typed name = then_holds (sort_holds g name.pos rule.WrongControl (h.names name))
      (λ y p. control_by_typed name.pos y p)

  -- ---- FOR: the limit

  abbrev Some_ : TypedExpr → Type 0
  Some_ e = SomeTyped x ws h.all e

  limit_number_typed : (base : TypeNo) (at : Pos) (n : ℤ) (sort : Option TypeNo) → SortRanged types sort n
      → sort_suits base sort ≡ true → Holds Some_ (limit_number g base at n sort)
  limit_number_typed base at n None p q =
      where_not g (number_fits (Some base) n) at rule.OutOfRange
      (λ e. fine (expr.Constant base n) (record {
        of = base;
        typed = made.constant_typed x ws base n
            (number_value types base base n (fits_number types base n q e));
      }))
  limit_number_typed base at n (Some t) p q =
      fine (expr.Constant t n) (record { of = t; typed = made.constant_typed x ws t n (number_value types t t n p) })

  limit_by_typed : (base : TypeNo) (at : Pos) (o : Option Side) → SideTyped x ws h.all o
      → Holds Some_ (limit_by g base at o)
  limit_by_typed base at None p = reported_holds g at rule.NotAssignable
  limit_by_typed base at (Some (side.Scalar (Known a))) p =
      where_not g (sort_suits base a.sort) at rule.NotAssignable (λ e. limit_number_typed base at a.number a.sort p e)
  limit_by_typed base at (Some (side.Scalar (Run b e))) p =
      where_not g (bases_suit base b) at rule.NotAssignable (λ q. fine e (record { of = p.of; typed = p.scalar.typed }))
  limit_by_typed base at (Some (side.Set e)) p = reported_holds g at rule.NotAssignable
  limit_by_typed base at (Some (side.Routine t e)) p = reported_holds g at rule.NotAssignable
  limit_by_typed base at (Some (side.Procedure f)) p = reported_holds g at rule.NotAssignable

  limit_typed : (at : Pos) (base : Result TypeNo g.Reported) {v : Result Computed g.Reported} → Value_ v
      → Holds Some_ (limit_at g at base v)
  limit_typed at base p = then_holds (both_holds g (any_holds base) p)
      (λ v k. limit_by_typed v.0 at (side_of v.1) (side_typed x ws h.all v.1 k.1))

  -- ---- FOR: the step

  abbrev InWord : ℤ → Type 0
  InWord n = (negsuc 2147483647 ≤ℤ n) × (n ≤ℤ pos 4294967295)

  module _ (ranged : ScopeRanged s) where
    step_if : (at : Pos) (a : Ordinal) (b : Bool) → SortRanged s.types a.sort a.number
        → Holds InWord (step_number g at (cond b (Some a) None))
    step_if at a true p = by (is_zero a.number) where
      by : (c : Bool) → Holds InWord (reported_where g c at rule.ZeroStep (Ok a.number))
      by true = reported_holds g at rule.ZeroStep
      by false = fine a.number (small s.types ranged.types a.sort a.number p)
    step_if at a false p = reported_holds g at rule.WrongType

    step_part : (at : Pos) (o : Option Operand) → OperandRanged s.types o
        → Holds InWord (step_number g at (if_number (scalar_part o)))
    step_part at None p = reported_holds g at rule.WrongType
    step_part at (Some (operand.Set bits)) p = reported_holds g at rule.WrongType
    step_part at (Some (operand.Scalar a)) p = step_if at a (is_number a.sort) p

    step_constant : (e : Expr) → fits e ≡ true → Holds InWord (step_of g s (Some (meanings_of g e)))
    step_constant e f =
        then_holds (constants_ranged g s ranged e f)
        (λ v k. step_part (meanings_of g e).fixed.at (operand_of v) (operand_ranged s.types v k))

    pub step_typed : (o : Option Expr) → fits_step o ≡ true → Holds InWord (step_of g s (meant_if g o))
    step_typed None f = fine (pos 1) (omega (arith, ints), omega (arith, ints))
    step_typed (Some e) f = step_constant e f

    -- ---- FOR: all of it

    pub record CourseTyped (c : Course) : Type 0 where
      pub control : ControlTyped c.control
      pub start : GivenTyped x ws c.start c.control.of
      pub limit : Some_ c.limit
      pub by : InWord c.by

    start_typed : (at : Pos) (t : TypeNo) {v : Result Computed g.Reported} → Value_ v
        → Holds (λ e. GivenTyped x ws e t) (start_at g s.types at (Ok t) v)
    start_typed at t (fine v k) = suited_typed x ws h.all g s.types h.types rule.NotAssignable t at v k
    start_typed at t (broken e) = broken e

    course_is : (c : Control) → ControlTyped c → (d : Course) → d.control ≡ c → GivenTyped x ws d.start c.of
        → Some_ d.limit → InWord d.by → CourseTyped d
    course_is c k d e p q r = record {
      control = subst ControlTyped (sym e) k;
      start = subst (λ (y : Control). GivenTyped x ws d.start y.of) (sym e) p;
      limit = q;
      by = r;
    }

    same_control : (c : Control) → Holds {T = g.Reported} (λ (d : Control). d ≡ c) (Ok c)
    same_control c = fine c refl

    no_control : (e : g.Reported) → Holds {A = Control} (λ d. ⊥) (Err e)
    no_control e = broken e

    course_by : (at : Pos) {v : Result Control g.Reported} {a : Result Computed g.Reported}
        {l : Result TypedExpr g.Reported} {by : Result ℤ g.Reported} → Holds ControlTyped v → Value_ a → Holds Some_ l
        → Holds InWord by
        → Holds CourseTyped (course g v (start_at g s.types at (type_of v) a) l by)
    course_by at (fine c k) p q r =
        then_holds (both_holds g (both_holds g (same_control c) (start_typed at c.of p)) (both_holds g q r)) (λ v j.
        fine (record { control = v.0.0; start = v.0.1; limit = v.1.0; by = v.1.1 })
        (course_is c k (record { control = v.0.0; start = v.0.1; limit = v.1.0; by = v.1.1 }) j.0.0 j.0.1 j.1.0 j.1.1))
    course_by at {a = a} {l = l} {by = by} (broken e) p q r =
        then_holds (both_holds g (both_holds g (no_control e) (any_holds (start_at g s.types at (Err e) a)))
        (any_holds (both g l by))) (λ v j. absurd j.0.0)

    pub course_typed : (name : Ident) (start limit : Meant g.Reported) (by : Option Expr) → fits_step by ≡ true
        → Value_ (value_of g s start) → Value_ (value_of g s limit)
        → Holds CourseTyped (course_of g s name start limit (meant_if g by))
    course_typed name start limit by f p q =
        course_by start.fixed.at (control_typed name) p (limit_typed limit.fixed.at (base_of (control_of g s name)) q)
        (step_typed by f)

    for_of : (result : Gives) (looped : Bool) (c : Course) (body : List TypedStmt) → CourseTyped c
        → EachTyped x result ws looped body →
        StmtTyped x result ws looped (step.For c.control.place c.control.of c.start c.limit c.by body)
    for_of result looped c body k p =
        subst (λ (d : Place). StmtTyped x result ws looped (step.For d c.control.of c.start c.limit c.by body))
        (sym k.control.place)
        (for_typed x result ws looped k.control.root c.control.of k.limit.of k.control.cell c.start c.limit c.by body
        k.control.one (λ e. let z : None ≡ Some k.control.base.range = sym e ∙ k.control.base.at in cc z)
        k.control.control k.by.0 k.by.1 k.start k.limit.typed p)

    pub repeated_for_typed : (result : Gives) (looped : Bool) {c : Result Course g.Reported}
        {body : Result (List TypedStmt) g.Reported} → Holds CourseTyped c → Holds (EachTyped x result ws looped) body
        → Holds (StmtTyped x result ws looped) (repeated_for g c body)
    repeated_for_typed result looped p q =
        then_holds (both_holds g p q) (λ v k. fine
        (step.For v.0.control.place v.0.control.of v.0.start v.0.limit v.0.by v.1)
        (for_of result looped v.0 v.1 k.0 k.1))
