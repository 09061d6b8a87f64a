-- Statements without others inside, and what stands before and around others, weigh no more than what they are made of.
use Rattle.std.proofs.Common.{ℕ, ◌≤◌, ℤ, Bool, true, false, List, Option, Some, None, Result, Ok}
use Rattle.std.specs.Prelude.{not}
use Rattle.m2_rule.specs.declared.rule.Rule.TheVariants as rule
use Rattle.m2_tree.specs.declared.pos.Pos.{Pos}
use Rattle.m2_tree.specs.declared.name.Ident.{Ident}
use Rattle.typed_tree.specs.declared.computed.Place.{Place}
use Rattle.typed_tree.specs.declared.computed.Root.TheVariants as root
use Rattle.typed_tree.specs.declared.computed.TypedExpr.{TypedExpr}
use Rattle.typed_tree.specs.declared.computed.TypedExpr.TheVariants as expr
use Rattle.typed_tree.specs.declared.meaning.Meaning.{Meaning}
use Rattle.typed_tree.specs.declared.meaning.Meaning.TheVariants as meaning
use Rattle.typed_tree.specs.declared.statement.TypedStmt.{TypedStmt}
use Rattle.typed_tree.specs.declared.statement.TypedStmt.TheVariants as step
use Rattle.typed_tree.specs.declared.types.TypeNo.{TypeNo}
use Rattle.typed_tree.specs.Chains.{root_place}
use Rattle.typed_tree.specs.Types.{boolean}
use Rattle.check_scope.specs.Elaborated.{Gathers, reported_where}
use Rattle.check_scope.specs.declared.scope.Scope.{Scope}
use Rattle.check_value.specs.Classes.{class_at}
use Rattle.check_value.specs.Sides.{side_of}
use Rattle.check_value.specs.Suits.{sort_suits, bases_suit}
use Rattle.check_value.specs.Values.{slot_of}
use Rattle.check_value.specs.declared.class.Class.{Class}
use Rattle.check_value.specs.declared.class.Class.TheVariants as class
use Rattle.check_value.specs.declared.computed.Computed.{Computed}
use Rattle.check_value.specs.declared.computed.Designated.{Designated}
use Rattle.check_value.specs.declared.computed.Designated.TheVariants as designated
use Rattle.check_value.specs.declared.side.Amount.{Amount}
use Rattle.check_value.specs.declared.side.Amount.TheVariants.{Known, Run}
use Rattle.check_value.specs.declared.side.Side.{Side}
use Rattle.check_value.specs.declared.side.Side.TheVariants as side
use Rattle.check_expr.specs.Meanings.{Meant}
use Rattle.check_stmt_parts.specs.Simple.{exit_statement, given_back, return_statement, condition, selector_amount}
use Rattle.check_stmt_parts.specs.Simple.{selector_of, case_selector, record_by, record_of}
use Rattle.check_stmt_parts.specs.Control.{controlled_as, control_by, control_of, start_at}
use Rattle.check_stmt_parts.specs.Control.{limit_number, limit_by, limit_at, type_of, base_of, course_of, step_of}
use Rattle.check_stmt_parts.specs.Control.{repeated_for}
use Rattle.check_stmt_parts.specs.declared.around.Around.{Around}
use Rattle.check_stmt_parts.specs.declared.control.Control.{Control}
use Rattle.check_stmt_parts.specs.declared.control.Course.{Course}
use Rattle.law_encoding.specs.Counted.{AtMost, fine}
use Rattle.law_encoding.proofs.Sums.{le_trans, le_of}
use Rattle.law_encoding.proofs.Ways.{Way, ◌⊕⟨◌⟩◌, node, in_loop, control, weight_typed, weight_place, weight_step}
use Rattle.law_encoding.proofs.Ways.{weight_body, weight_value, weight_meant}
use Rattle.law_encoding.proofs.WaySums.{second_part, more, one_of, for_sum, both_most}
use Rattle.law_encoding.proofs.WayTrees.{IsNear, control_base, global_control, local_control}
use Rattle.law_encoding.proofs.Results.{then_most, reported_most, where_most, reported_beside_most, sort_most, any_most}
use Rattle.law_encoding.proofs.Operators.{weight_amount, weight_side, side_most, suited_most, rooted_weight}
use Rattle.law_encoding.proofs.Meanings.{FM, value_most}
use Rattle.law_encoding.proofs.Weighed.{expr_is, step_is}

module _ (w : Way) where
  infixl 65 ◌⊕◌
  abbrev ◌⊕◌ : ℕ → ℕ → ℕ
  m ⊕ n = m ⊕⟨ w ⟩ n

  module _ (g : Gathers) (s : Scope g.Reported) where
    abbrev Stmt_ : ℕ → Result TypedStmt g.Reported → Type 0
    Stmt_ n r = AtMost (weight_step w) n r

    abbrev Expr_ : ℕ → Result TypedExpr g.Reported → Type 0
    Expr_ n r = AtMost (weight_typed w) n r

    -- ---- WITH

    abbrev pub weight_record : TypeNo × Place → ℕ
    weight_record x = node w ⊕ weight_place w x.1

    record_by_most : (n : ℕ) (at : Pos) (d : Designated) → weight_meant w d ≤ n
        → AtMost weight_record n (record_by g s.types at d)
    record_by_most n at (designated.Variable t d) p = where_most g _ at rule.WrongType (fine (t, d) p)
    record_by_most n at (designated.Value x) p = reported_most g at rule.WrongType
    record_by_most n at (designated.Open t slot) p = reported_most g at rule.WrongType
    record_by_most n at (designated.Type t) p = reported_most g at rule.WrongType
    record_by_most n at (designated.Procedure f) p = reported_most g at rule.WrongType
    record_by_most n at (designated.Nested f) p = reported_most g at rule.WrongType
    record_by_most n at (designated.Standard f) p = reported_most g at rule.WrongType
    record_by_most n at (designated.Module k) p = reported_most g at rule.WrongType

    pub record_most : (n : ℕ) (d : Meant g.Reported) → FM w g s n d → AtMost weight_record n (record_of g s d)
    record_most n d p = then_most (sort_most g d.fixed.at rule.WrongType p) (λ e k. record_by_most n d.fixed.at e k)

    -- ---- conditions, EXIT and RETURN

    pub condition_most : (n : ℕ) (x : Meant g.Reported) → FM w g s n x → Expr_ n (condition g s x)
    condition_most n x p =
        then_most (value_most w g s n x p) (λ v k. suited_most w g n rule.WrongType s.types boolean x.fixed.at v k)

    exited_as : (at : Pos) (inside : Bool)
        → Stmt_ (node w) (reported_where g (not inside) at rule.LonelyExit (Ok step.Exit))
    exited_as at true = fine step.Exit (le_of _ (node w) (step_is w _ step.outs-Exit))
    exited_as at false = reported_most g at rule.LonelyExit

    pub exited_most : (at : Pos) (a : Around g.Reported) → Stmt_ (node w) (exit_statement g at a)
    exited_most at a = exited_as at a.in_loop

    given_back_most : (n : ℕ) (t : Result TypeNo g.Reported) (at : Pos) {x : Result Computed g.Reported}
        → AtMost (weight_value w) n x → Stmt_ (node w ⊕ n) (given_back g s.types t at x)
    given_back_most n t at p =
        then_most (both_most g w (any_most t) p)
        (λ v k. then_most (suited_most w g n rule.NotAssignable s.types v.0 at v.1 (second_part w _ n k))
        (λ e q. fine (step.Give v.0 e) (more w _ _ n (step_is w _ (step.outs-Give v.0 e)) q)))

    abbrev pub KnownIf : ℕ → Option (Meant g.Reported) → Type 0
    KnownIf n None = Unit {0}
    KnownIf n (Some x) = FM w g s n x

    pub returned_most : (n : ℕ) (at : Pos) (o : Option (Result TypeNo g.Reported)) (x : Option (Meant g.Reported))
        → KnownIf n x → Stmt_ (node w ⊕ n) (return_statement g s at o x)
    returned_most n at None None p = fine step.Return (one_of w _ n (step_is w _ step.outs-Return))
    returned_most n at None (Some x) p = reported_beside_most g at rule.WrongReturn _
    returned_most n at (Some t) None p = reported_most g at rule.WrongReturn
    returned_most n at (Some t) (Some x) p = given_back_most n t x.fixed.at (value_most w g s n x p)

    -- ---- the selector of a CASE

    abbrev pub weight_selected : TypeNo × TypedExpr → ℕ
    weight_selected x = weight_typed w x.1

    amount_most : (n : ℕ) (a : Amount) → weight_amount w a ≤ n → weight_selected (selector_amount a) ≤ n
    amount_most n (Known a) p = le_trans _ (node w) n (le_of _ (node w) (expr_is w _ (expr.outs-Constant _ a.number))) p
    amount_most n (Run b e) p = p

    selector_most : (n : ℕ) (at : Pos) (o : Option Side) → weight_side w o ≤ n
        → AtMost weight_selected n (selector_of g at o)
    selector_most n at None p = reported_most g at rule.WrongType
    selector_most n at (Some (side.Scalar a)) p = fine (selector_amount a) (amount_most n a p)
    selector_most n at (Some (side.Set e)) p = reported_most g at rule.WrongType
    selector_most n at (Some (side.Routine t e)) p = reported_most g at rule.WrongType
    selector_most n at (Some (side.Procedure f)) p = reported_most g at rule.WrongType

    pub selected_most : (n : ℕ) (x : Meant g.Reported) → FM w g s n x → AtMost weight_selected n (case_selector g s x)
    selected_most n x p = then_most (value_most w g s n x p) (λ v k. selector_most n x.fixed.at (side_of v)
        (le_trans _ _ n (side_most w v) k))

    -- ---- FOR

    abbrev weight_control : Control → ℕ
    weight_control c = control w (weight_place w c.place)

    controlled_as_most : (at : Pos) (t : TypeNo) (d : Place) (c : Class) → control w (weight_place w d) ≤ control_base w
        → AtMost weight_control (control_base w) (controlled_as g at t d c)
    controlled_as_most at t d (class.Scalar r) p = fine (record { of = t; base = r.base; place = d }) p
    controlled_as_most at t d class.Set p = reported_most g at rule.WrongControl
    controlled_as_most at t d class.Procedure p = reported_most g at rule.WrongControl
    controlled_as_most at t d class.Whole p = reported_most g at rule.WrongControl

    control_by_most : IsNear w s.level → (at : Pos) (x : Meaning)
        → AtMost weight_control (control_base w) (control_by g s at x)
    control_by_most near at (meaning.Constant v) = reported_most g at rule.WrongControl
    control_by_most near at (meaning.Type t n) = reported_most g at rule.WrongControl
    control_by_most near at (meaning.Variable v) = where_most g _ at rule.WrongControl
        (controlled_as_most at v.of (root_place (root.Global v)) (class_at s.types v.of)
        (global_control w _ (rooted_weight w (root.Global v))))
    control_by_most near at (meaning.Local v) = where_most g _ at rule.WrongControl
        (controlled_as_most at v.of (root_place (root.Local (slot_of s.level v))) (class_at s.types v.of)
        (local_control w s.level v.level _ near (rooted_weight w (root.Local (slot_of s.level v)))))
    control_by_most near at (meaning.Field f) = reported_most g at rule.WrongControl
    control_by_most near at (meaning.Procedure f) = reported_most g at rule.WrongControl
    control_by_most near at (meaning.LocalProcedure f) = reported_most g at rule.WrongControl
    control_by_most near at meaning.Ahead = reported_most g at rule.Ahead
    control_by_most near at (meaning.Standard f) = reported_most g at rule.WrongControl
    control_by_most near at (meaning.Module k) = reported_most g at rule.WrongControl

    control_most : IsNear w s.level → (name : Ident) → AtMost weight_control (control_base w) (control_of g s name)
    control_most near name =
        then_most (sort_most g name.pos rule.WrongControl (any_most _)) (λ x p. control_by_most near name.pos x)

    start_most : (n : ℕ) (at : Pos) (t : Result TypeNo g.Reported) {x : Result Computed g.Reported}
        → AtMost (weight_value w) n x → Expr_ n (start_at g s.types at t x)
    start_most n at t p = then_most (both_most g w (any_most t) p) (λ v k. suited_most w g n rule.NotAssignable s.types
        v.0 at v.1 (second_part w _ n k))

    limit_number_most : (n : ℕ) (base : TypeNo) (at : Pos) (i : ℤ) (o : Option TypeNo) → node w ≤ n
        → Expr_ n (limit_number g base at i o)
    limit_number_most n base at i None l = where_most g _ at rule.OutOfRange
        (fine (expr.Constant base i) (le_trans _ (node w) n (le_of _ (node w) (expr_is w _ (expr.outs-Constant base i)))
        l))
    limit_number_most n base at i (Some t) l =
        fine (expr.Constant t i) (le_trans _ (node w) n (le_of _ (node w) (expr_is w _ (expr.outs-Constant t i))) l)

    limit_by_most : (n : ℕ) (base : TypeNo) (at : Pos) (o : Option Side) → weight_side w o ≤ n
        → Expr_ n (limit_by g base at o)
    limit_by_most n base at None p = reported_most g at rule.NotAssignable
    limit_by_most n base at (Some (side.Scalar (Known a))) p = where_most g (not (sort_suits base a.sort)) at
        rule.NotAssignable (limit_number_most n base at a.number a.sort p)
    limit_by_most n base at (Some (side.Scalar (Run b e))) p =
        where_most g (not (bases_suit base b)) at rule.NotAssignable (fine e p)
    limit_by_most n base at (Some (side.Set e)) p = reported_most g at rule.NotAssignable
    limit_by_most n base at (Some (side.Routine t e)) p = reported_most g at rule.NotAssignable
    limit_by_most n base at (Some (side.Procedure f)) p = reported_most g at rule.NotAssignable

    limit_most : (n : ℕ) (at : Pos) (base : Result TypeNo g.Reported) {x : Result Computed g.Reported}
        → AtMost (weight_value w) n x → Expr_ n (limit_at g at base x)
    limit_most n at base p = then_most (both_most g w (any_most base) p) (λ v k. limit_by_most n v.0 at (side_of v.1)
        (le_trans _ _ n (side_most w v.1) (second_part w _ n k)))

    abbrev weight_course : Course → ℕ
    weight_course c = control w (weight_place w c.control.place) ⊕ weight_typed w c.start ⊕ (weight_typed w c.limit ⊕ 0)

    pub course_most : (n k : ℕ) (name : Ident) (start limit : Meant g.Reported) (by : Option (Meant g.Reported))
        → IsNear w s.level → FM w g s n start → FM w g s k limit
        → AtMost weight_course (control_base w ⊕ n ⊕ (k ⊕ 0)) (course_of g s name start limit by)
    course_most n k name start limit by near p q =
        then_most (both_most g w (both_most g w (control_most near name)
        (start_most n start.fixed.at (type_of (control_of g s name)) (value_most w g s n start p)))
        (both_most g w (limit_most k limit.fixed.at (base_of (control_of g s name)) (value_most w g s k limit q))
        (any_most (step_of g s by))))
        (λ v l. fine (record { control = v.0.0; start = v.0.1; limit = v.1.0; by = v.1.1 }) l)

    pub for_most : (n k b : ℕ) {c : Result Course g.Reported} {body : Result (List TypedStmt) g.Reported}
        → AtMost weight_course (control_base w ⊕ n ⊕ (k ⊕ 0)) c → AtMost (weight_body w) b body
        → Stmt_ (in_loop w (control_base w ⊕ n ⊕ k ⊕ b)) (repeated_for g c body)
    for_most n k b p q =
        then_most (both_most g w p q)
        (λ v l. fine (step.For v.0.control.place v.0.control.of v.0.start v.0.limit v.0.by v.1)
        (for_sum w _ _ _ _ _ (control_base w) n k b (step_is w _ (step.outs-For v.0.control.place v.0.control.of
        v.0.start
        v.0.limit
        v.0.by v.1)) l))
