-- Assignments, and calls as statements, weigh no more than what they are made of.
use Rattle.std.proofs.Common.{ℕ, ◌≤◌, pos, List, [], ◌∷◌, length, Option, Some, None, Result, arith}
use Rattle.m2_rule.specs.declared.rule.Rule.{Rule}
use Rattle.m2_rule.specs.declared.rule.Rule.TheVariants as rule
use Rattle.m2_tree.specs.declared.pos.Pos.{Pos}
use Rattle.typed_tree.specs.declared.computed.Place.{Place}
use Rattle.typed_tree.specs.declared.computed.TypedExpr.{TypedExpr}
use Rattle.typed_tree.specs.declared.computed.TypedExpr.TheVariants as expr
use Rattle.typed_tree.specs.declared.meaning.Standard.{Standard}
use Rattle.typed_tree.specs.declared.meaning.Standard.TheVariants.{Abs, Cap, Chr, High, Max, Min, Odd, Ord, Val, Inc}
use Rattle.typed_tree.specs.declared.meaning.Standard.TheVariants.{Dec, Incl, Excl, Halt, Put}
use Rattle.typed_tree.specs.declared.meaning.Value.{Value}
use Rattle.typed_tree.specs.declared.meaning.Value.TheVariants as constant
use Rattle.typed_tree.specs.declared.statement.Change.{Change}
use Rattle.typed_tree.specs.declared.statement.Change.TheVariants.{Increase, Decrease}
use Rattle.typed_tree.specs.declared.statement.Membership.{Membership}
use Rattle.typed_tree.specs.declared.statement.Membership.TheVariants.{Include, Exclude}
use Rattle.typed_tree.specs.declared.statement.TypedStmt.{TypedStmt}
use Rattle.typed_tree.specs.declared.statement.TypedStmt.TheVariants as step
use Rattle.typed_tree.specs.declared.types.TypeNo.{TypeNo}
use Rattle.typed_tree.specs.Types.{cardinal, char}
use Rattle.check_scope.specs.Elaborated.{Gathers}
use Rattle.check_scope.specs.declared.scope.Scope.{Scope}
use Rattle.check_const.specs.declared.operand.Ordinal.{Ordinal}
use Rattle.check_const.specs.Standards.{whole_number}
use Rattle.check_value.specs.Classes.{class_at, signature_at}
use Rattle.check_value.specs.Suits.{text_suited, whole_suited, of_expr, value_suited, suited_in, value_for_place}
use Rattle.check_value.specs.declared.class.Class.{Class}
use Rattle.check_value.specs.declared.class.Class.TheVariants as class
use Rattle.check_value.specs.declared.computed.Computed.{Computed}
use Rattle.check_value.specs.declared.computed.Computed.TheVariants as value
use Rattle.check_value.specs.declared.computed.Designated.{Designated}
use Rattle.check_value.specs.declared.computed.Designated.TheVariants as designated
use Rattle.check_value.specs.declared.places.Accepted.{Accepted}
use Rattle.check_value.specs.declared.places.Accepted.TheVariants as accepted
use Rattle.check_value.specs.Callees.{proper_of, call_by}
use Rattle.check_value.specs.Effects.{target_of, target_at, store_statement, assignment_to, assignment_of}
use Rattle.check_value.specs.Effects.{change_target_as, change_target, type_of_number, known_amount, amount, change_by}
use Rattle.check_value.specs.Effects.{set_as, set_variable, element_known, set_element, membership_of}
use Rattle.check_value.specs.declared.callee.Callee.{Callee}
use Rattle.check_value.specs.declared.callee.Called.{Called}
use Rattle.check_value.specs.declared.callee.Called.TheVariants as called
use Rattle.check_value.specs.declared.effect.Target.{Target}
use Rattle.check_value.specs.declared.effect.Target.TheVariants as target
use Rattle.check_expr.specs.Meanings.{Meant, formals_of, value_of, breaches_in_all}
use Rattle.check_expr.specs.Effects.{call_done, routine_done, change_target_in, change_statement, set_in, member_by}
use Rattle.check_expr.specs.Effects.{halt_statement, put_by, standard_done, callee_statement, call_statement}
use Rattle.typed_tree.specs.declared.computed.Argument.{Argument}
use Rattle.law_encoding.specs.Counted.{AtMost, fine}
use Rattle.law_encoding.proofs.Sums.{le_trans, le_of}
use Rattle.law_encoding.proofs.Ways.{Way, ◌⊕⟨◌⟩◌, node, arguments, weight_typed, weight_place, weight_step}
use Rattle.law_encoding.proofs.Ways.{weight_value, weight_meant}
use Rattle.law_encoding.proofs.WaySums.{one_of, one_sum, two_sum, put_sum, assign_sum, copy_sum, text_sum, change_sum}
use Rattle.law_encoding.proofs.WaySums.{done_sum, both_most}
use Rattle.law_encoding.proofs.Results.{then_most, at_more, reported_most, where_most, reported_beside_most, ahead_most}
use Rattle.law_encoding.proofs.Results.{sort_most, of_heading_most, any_most}
use Rattle.law_encoding.proofs.Operators.{suited_most}
use Rattle.law_encoding.proofs.Calls.{weight_callee, weight_called, call_most, callee_most}
use Rattle.law_encoding.proofs.Meanings.{FM, AllM, value_most, weight_list, actuals_most}
use Rattle.law_encoding.proofs.Weighed.{expr_is, step_is}

module _ (w : Way) where
  infixl 65 ◌⊕◌
  abbrev ◌⊕◌ : ℕ → ℕ → ℕ
  m ⊕ n = m ⊕⟨ w ⟩ n

  module _ (g : Gathers) (s : Scope g.Reported) where
    abbrev Stmt_ : ℕ → Result TypedStmt g.Reported → Type 0
    Stmt_ n r = AtMost (weight_step w) n r

    abbrev Expr_ : ℕ → Result TypedExpr g.Reported → Type 0
    Expr_ n r = AtMost (weight_typed w) n r

    -- ---- assignments

    abbrev weight_target : Target → ℕ
    weight_target (target.Variable t d) = node w ⊕ weight_place w d
    weight_target target.Open = 0

    target_of_most : (n : ℕ) (at : Pos) (d : Designated) → weight_meant w d ≤ n
        → AtMost weight_target n (target_of g at d)
    target_of_most n at (designated.Variable t d) p = fine (target.Variable t d) p
    target_of_most n at (designated.Open t slot) p = fine target.Open (omega arith)
    target_of_most n at (designated.Value x) p = reported_most g at rule.WrongType
    target_of_most n at (designated.Type t) p = reported_most g at rule.WrongType
    target_of_most n at (designated.Procedure f) p = reported_most g at rule.WrongType
    target_of_most n at (designated.Nested f) p = reported_most g at rule.WrongType
    target_of_most n at (designated.Standard f) p = reported_most g at rule.WrongType
    target_of_most n at (designated.Module k) p = reported_most g at rule.WrongType

    abbrev weight_accepted : Accepted → ℕ
    weight_accepted (accepted.Value e) = weight_typed w e
    weight_accepted (accepted.Whole d) = node w ⊕ weight_place w d
    weight_accepted (accepted.Text text) = 0

    text_accepted : (n : ℕ) (broken : Rule) (t : TypeNo) (at : Pos) (v : Value)
        → AtMost weight_accepted n (text_suited g broken s.types t at v)
    text_accepted n number t at (constant.Number i) = reported_most g at number
    text_accepted n number t at (constant.Scalar i) = reported_most g at number
    text_accepted n number t at (constant.Set bits) = reported_most g at number
    text_accepted n number t at (constant.Text text) =
        where_most g _ at number (fine (accepted.Text text) (omega arith))

    whole_accepted : (n : ℕ) (broken : Rule) (t : TypeNo) (at : Pos) (x : Computed) → weight_value w x ≤ n
        → AtMost weight_accepted n (whole_suited g broken s.types t at x)
    whole_accepted n number t at (value.Constant v) p = text_accepted n number t at v
    whole_accepted n number t at (value.Whole u d) p = where_most g _ at number (fine (accepted.Whole d) p)
    whole_accepted n number t at (value.Scalar u b e) p = reported_most g at number
    whole_accepted n number t at (value.Set e) p = reported_most g at number
    whole_accepted n number t at (value.Routine u e) p = reported_most g at number
    whole_accepted n number t at (value.Procedure f) p = reported_most g at number
    whole_accepted n number t at value.Untaken p = reported_most g at number

    value_accepted : (n : ℕ) (broken : Rule) (t : TypeNo) (at : Pos) (x : Computed) → weight_value w x ≤ n
        → AtMost weight_accepted n (of_expr (value_suited g broken s.types t at x))
    value_accepted n broken t at x p =
        then_most (suited_most w g n broken s.types t at x p) (λ e q. fine (accepted.Value e) q)

    accepted_in : (n : ℕ) (broken : Rule) (t : TypeNo) (at : Pos) (x : Computed) (c : Class) → weight_value w x ≤ n
        → AtMost weight_accepted n (suited_in g broken s.types t at x c)
    accepted_in n number t at x (class.Scalar r) p = value_accepted n number t at x p
    accepted_in n number t at x class.Set p = value_accepted n number t at x p
    accepted_in n number t at x class.Procedure p = value_accepted n number t at x p
    accepted_in n number t at x class.Whole p = whole_accepted n number t at x p

    accepted_most : (n : ℕ) (broken : Rule) (t : TypeNo) (at : Pos) (x : Computed) → weight_value w x ≤ n
        → AtMost weight_accepted n (value_for_place g broken s.types t at x)
    accepted_most n number t at x p = accepted_in n number t at x (class_at s.types t) p

    stored_most : (n k : ℕ) (t : TypeNo) (d : Place) (a : Accepted) → node w ⊕ weight_place w d ≤ n
        → weight_accepted a ≤ k → weight_step w (store_statement t d a) ≤ n ⊕ k
    stored_most n k t d (accepted.Value e) p q = assign_sum w _ _ _ n k (step_is w _ (step.outs-Assign d t e)) p q
    stored_most n k t d (accepted.Whole from) p q = copy_sum w _ _ _ n k (step_is w _ (step.outs-Copy d from t)) p q
    stored_most n k t d (accepted.Text text) p q = text_sum w _ _ n k (step_is w _ (step.outs-CopyText d t text)) p

    assigned_to_most : (n : ℕ) (a : Target) (at : Pos) (x : Computed) → weight_target a ⊕ weight_value w x ≤ n
        → Stmt_ n (assignment_to g s.types a at x)
    assigned_to_most n target.Open at x p = reported_most g at rule.NotAssignable
    assigned_to_most n (target.Variable t d) at x p =
        then_most (accepted_most (weight_value w x) rule.NotAssignable t at x (omega arith))
        (λ a k. fine (store_statement t d a) (le_trans _ _ n (stored_most (node w ⊕ weight_place w d) (weight_value w x)
        t d a (omega arith) k) p))

    pub assignment_most : (n k : ℕ) (d : Meant g.Reported) (at : Pos) (x : Meant g.Reported) → FM w g s n d
        → FM w g s k x
        → Stmt_ (n ⊕ k) (assignment_of g s.types (target_at g d.fixed.at (d.means s)) at (value_of g s x))
    assignment_most n k d at x p q =
        then_most (both_most g w (then_most (sort_most g d.fixed.at rule.WrongType p)
        (λ e l. target_of_most n d.fixed.at e l)) (value_most w g s k x q)) (λ v l. assigned_to_most (n ⊕ k) v.0 at v.1
        l)

    -- ---- INC and DEC

    abbrev weight_variable : TypeNo × Place → ℕ
    weight_variable v = node w ⊕ weight_place w v.1

    changed_as_most : (n : ℕ) (at : Pos) (t : TypeNo) (d : Place) (c : Class) → node w ⊕ weight_place w d ≤ n
        → AtMost weight_variable n (change_target_as g at t d c)
    changed_as_most n at t d (class.Scalar r) p = fine (t, d) p
    changed_as_most n at t d class.Set p = reported_most g at rule.NoVariable
    changed_as_most n at t d class.Procedure p = reported_most g at rule.NoVariable
    changed_as_most n at t d class.Whole p = reported_most g at rule.NoVariable

    changed_most : (n : ℕ) (at : Pos) (d : Designated) → weight_meant w d ≤ n
        → AtMost weight_variable n (change_target g s.types at d)
    changed_most n at (designated.Variable t d) p = changed_as_most n at t d (class_at s.types t) p
    changed_most n at (designated.Value x) p = reported_most g at rule.NoVariable
    changed_most n at (designated.Open t slot) p = reported_most g at rule.NoVariable
    changed_most n at (designated.Type t) p = reported_most g at rule.NoVariable
    changed_most n at (designated.Procedure f) p = reported_most g at rule.NoVariable
    changed_most n at (designated.Nested f) p = reported_most g at rule.NoVariable
    changed_most n at (designated.Standard f) p = reported_most g at rule.NoVariable
    changed_most n at (designated.Module k) p = reported_most g at rule.NoVariable

    known_amount_most : (n : ℕ) (at : Pos) (o : Option Ordinal) → node w ≤ n → Expr_ n (known_amount g at o)
    known_amount_most n at None l = reported_most g at rule.WrongArgument
    known_amount_most n at (Some a) l = fine (expr.Constant (type_of_number a.number a.sort) a.number)
        (le_trans _ (node w) n (le_of _ (node w) (expr_is w _ (expr.outs-Constant (type_of_number a.number a.sort)
        a.number))) l)

    amount_most : (n : ℕ) (at : Pos) (x : Computed) → weight_value w x ≤ n → Expr_ n (amount g at x)
    amount_most n at (value.Constant v) p = known_amount_most n at (whole_number v) p
    amount_most n at (value.Scalar t b e) p = where_most g _ at rule.WrongArgument (fine e p)
    amount_most n at (value.Set e) p = reported_most g at rule.WrongArgument
    amount_most n at (value.Routine t e) p = reported_most g at rule.WrongArgument
    amount_most n at (value.Procedure f) p = reported_most g at rule.WrongArgument
    amount_most n at (value.Whole t d) p = reported_most g at rule.WrongArgument
    amount_most n at value.Untaken p = reported_most g at rule.WrongArgument

    change_by_most : (n k : ℕ) (o : Change) {v : Result (TypeNo × Place) g.Reported} {e : Result TypedExpr g.Reported}
        → AtMost weight_variable n v → Expr_ k e → Stmt_ (node w ⊕ (n ⊕ k)) (change_by g o v e)
    change_by_most n k o p q = then_most (both_most g w p q) (λ v l. fine (step.Change o v.0.1 v.0.0 v.1)
        (change_sum w _ _ _ (n ⊕ k) (step_is w _ (step.outs-Change o v.0.1 v.0.0 v.1)) l))

    changed_in_most : (n : ℕ) (v : Meant g.Reported) → FM w g s n v → AtMost weight_variable n (change_target_in g s v)
    changed_in_most n v p = then_most (sort_most g v.fixed.at rule.NoVariable p) (λ d k. changed_most n v.fixed.at d k)

    changed_by_most : (k : ℕ) (ns : List ℕ) (at : Pos) (o : Change) (args : List (Meant g.Reported))
        → AllM w g s ns args → Stmt_ (node w ⊕ (k ⊕ arguments w ns)) (change_statement g s at o args)
    changed_by_most k ns at o [] all = reported_beside_most g at rule.ArgumentCount (breaches_in_all g s [])
    changed_by_most k [] at o (v ∷ []) all = absurd all
    changed_by_most k (n ∷ m ∷ ns) at o (v ∷ []) all = absurd all.1
    changed_by_most k (n ∷ []) at o (v ∷ []) all =
        at_more (one_sum w k n []) (change_by_most n (node w) o (changed_in_most n v all.0)
        (fine (expr.Constant cardinal (pos 1)) (le_of _ (node w) (expr_is w _ (expr.outs-Constant cardinal (pos 1))))))
    changed_by_most k [] at o (v ∷ x ∷ []) all = absurd all
    changed_by_most k (n ∷ []) at o (v ∷ x ∷ []) all = absurd all.1
    changed_by_most k (n ∷ m ∷ ns) at o (v ∷ x ∷ []) all =
        at_more (two_sum w k n m ns) (change_by_most n m o (changed_in_most n v all.0)
        (then_most (value_most w g s m x all.1.0) (λ y l. amount_most m x.fixed.at y l)))
    changed_by_most k ns at o (v ∷ n ∷ x ∷ xs) all = reported_beside_most g at rule.ArgumentCount _

    -- ---- INCL and EXCL

    abbrev weight_set : Place → ℕ
    weight_set d = node w ⊕ weight_place w d

    set_as_most : (n : ℕ) (at : Pos) (d : Place) (c : Class) → node w ⊕ weight_place w d ≤ n
        → AtMost weight_set n (set_as g at d c)
    set_as_most n at d class.Set p = fine d p
    set_as_most n at d (class.Scalar r) p = reported_most g at rule.NoVariable
    set_as_most n at d class.Procedure p = reported_most g at rule.NoVariable
    set_as_most n at d class.Whole p = reported_most g at rule.NoVariable

    set_variable_most : (n : ℕ) (at : Pos) (d : Designated) → weight_meant w d ≤ n
        → AtMost weight_set n (set_variable g s.types at d)
    set_variable_most n at (designated.Variable t d) p = set_as_most n at d (class_at s.types t) p
    set_variable_most n at (designated.Value x) p = reported_most g at rule.NoVariable
    set_variable_most n at (designated.Open t slot) p = reported_most g at rule.NoVariable
    set_variable_most n at (designated.Type t) p = reported_most g at rule.NoVariable
    set_variable_most n at (designated.Procedure f) p = reported_most g at rule.NoVariable
    set_variable_most n at (designated.Nested f) p = reported_most g at rule.NoVariable
    set_variable_most n at (designated.Standard f) p = reported_most g at rule.NoVariable
    set_variable_most n at (designated.Module k) p = reported_most g at rule.NoVariable

    element_known_most : (n : ℕ) (at : Pos) (o : Option Ordinal) → node w ≤ n → Expr_ n (element_known g at o)
    element_known_most n at None l = reported_most g at rule.WrongArgument
    element_known_most n at (Some a) l = where_most g _ at rule.OutOfRange
        (fine (expr.Constant (type_of_number a.number a.sort) a.number)
        (le_trans _ (node w) n (le_of _ (node w) (expr_is w _ (expr.outs-Constant (type_of_number a.number a.sort)
        a.number))) l))

    element_most : (n : ℕ) (at : Pos) (x : Computed) → weight_value w x ≤ n → Expr_ n (set_element g at x)
    element_most n at (value.Constant v) p = element_known_most n at (whole_number v) p
    element_most n at (value.Scalar t b e) p = where_most g _ at rule.WrongArgument (fine e p)
    element_most n at (value.Set e) p = reported_most g at rule.WrongArgument
    element_most n at (value.Routine t e) p = reported_most g at rule.WrongArgument
    element_most n at (value.Procedure f) p = reported_most g at rule.WrongArgument
    element_most n at (value.Whole t d) p = reported_most g at rule.WrongArgument
    element_most n at value.Untaken p = reported_most g at rule.WrongArgument

    membership_most : (n k : ℕ) (o : Membership) {d : Result Place g.Reported} {e : Result TypedExpr g.Reported}
        → AtMost weight_set n d → Expr_ k e → Stmt_ (node w ⊕ (n ⊕ k)) (membership_of g o d e)
    membership_most n k o p q = then_most (both_most g w p q) (λ v l. fine (step.Membership o v.0 v.1)
        (change_sum w _ _ _ (n ⊕ k) (step_is w _ (step.outs-Membership o v.0 v.1)) l))

    set_in_most : (n : ℕ) (v : Meant g.Reported) → FM w g s n v → AtMost weight_set n (set_in g s v)
    set_in_most n v p = then_most (sort_most g v.fixed.at rule.NoVariable p) (λ d k. set_variable_most n v.fixed.at d k)

    member_by_most : (k : ℕ) (ns : List ℕ) (at : Pos) (o : Membership) (args : List (Meant g.Reported))
        → AllM w g s ns args → Stmt_ (node w ⊕ (k ⊕ arguments w ns)) (member_by g s at o args)
    member_by_most k ns at o [] all = reported_beside_most g at rule.ArgumentCount (breaches_in_all g s [])
    member_by_most k ns at o (v ∷ []) all = reported_beside_most g at rule.ArgumentCount _
    member_by_most k [] at o (v ∷ x ∷ []) all = absurd all
    member_by_most k (n ∷ []) at o (v ∷ x ∷ []) all = absurd all.1
    member_by_most k (n ∷ m ∷ ns) at o (v ∷ x ∷ []) all =
        at_more (two_sum w k n m ns) (membership_most n m o (set_in_most n v all.0)
        (then_most (value_most w g s m x all.1.0) (λ y l. element_most m x.fixed.at y l)))
    member_by_most k ns at o (v ∷ n ∷ x ∷ xs) all = reported_beside_most g at rule.ArgumentCount _

    -- ---- HALT and Put

    halted_most : (n : ℕ) (at : Pos) (args : List (Meant g.Reported)) → Stmt_ (node w ⊕ n) (halt_statement g s at args)
    halted_most n at [] = fine step.Halt (one_of w _ n (step_is w _ step.outs-Halt))
    halted_most n at (x ∷ xs) = reported_beside_most g at rule.ArgumentCount _

    put_by_most : (k : ℕ) (ns : List ℕ) (at : Pos) (args : List (Meant g.Reported)) → AllM w g s ns args
        → Stmt_ (node w ⊕ (k ⊕ arguments w ns)) (put_by g s at args)
    put_by_most k ns at [] all = reported_beside_most g at rule.ArgumentCount (breaches_in_all g s [])
    put_by_most k [] at (x ∷ []) all = absurd all
    put_by_most k (n ∷ ns) at (x ∷ []) all =
        then_most (value_most w g s n x all.0) (λ v l. then_most (suited_most w g n rule.WrongArgument s.types char
        x.fixed.at v l) (λ e q. fine (step.Put e) (put_sum w _ _ k n ns (step_is w _ (step.outs-Put e)) q)))
    put_by_most k ns at (x ∷ y ∷ xs) all = reported_beside_most g at rule.ArgumentCount _

    standard_most : (k : ℕ) (ns : List ℕ) (at : Pos) (args : List (Meant g.Reported)) (f : Standard)
        → AllM w g s ns args → Stmt_ (node w ⊕ (k ⊕ arguments w ns)) (standard_done g s at args f)
    standard_most k ns at args Abs all = reported_beside_most g at rule.WrongType _
    standard_most k ns at args Cap all = reported_beside_most g at rule.WrongType _
    standard_most k ns at args Chr all = reported_beside_most g at rule.WrongType _
    standard_most k ns at args High all = reported_beside_most g at rule.WrongType _
    standard_most k ns at args Max all = reported_beside_most g at rule.WrongType _
    standard_most k ns at args Min all = reported_beside_most g at rule.WrongType _
    standard_most k ns at args Odd all = reported_beside_most g at rule.WrongType _
    standard_most k ns at args Ord all = reported_beside_most g at rule.WrongType _
    standard_most k ns at args Val all = reported_beside_most g at rule.WrongType _
    standard_most k ns at args Inc all = changed_by_most k ns at Increase args all
    standard_most k ns at args Dec all = changed_by_most k ns at Decrease args all
    standard_most k ns at args Incl all = member_by_most k ns at Include args all
    standard_most k ns at args Excl all = member_by_most k ns at Exclude args all
    standard_most k ns at args Halt all = halted_most (k ⊕ arguments w ns) at args
    standard_most k ns at args Put all = put_by_most k ns at args all

    -- ---- calls

    call_done_most : (k n : ℕ) (c : Callee) {args : Result (List Argument) g.Reported} → weight_callee w c ≤ k
        → AtMost (weight_list w g s) (0 ⊕ n) args → Stmt_ (node w ⊕ (k ⊕ n)) (call_done c args)
    call_done_most k n c l p = then_most p (λ xs q. fine (step.Call (call_by xs c))
        (done_sum w _ _ _ _ k n (step_is w _ (step.outs-Call (call_by xs c))) (call_most w c xs) l q))

    routine_most : (k : ℕ) (ns : List ℕ) (at : Pos) (t : TypeNo) (c : Callee) (args : List (Meant g.Reported))
        → weight_callee w c ≤ k → AllM w g s ns args
        → Stmt_ (node w ⊕ (k ⊕ arguments w ns)) (routine_done g s at t c args)
    routine_most k ns at t c args l all =
        ahead_most g (breaches_in_all g s args) (any_most (proper_of g at (signature_at s.types t) (length args)))
        (λ r h. call_done_most k (arguments w ns) c l (actuals_most w g s ns args (formals_of (signature_at s.types t))
        all))

    done_as_most : (k : ℕ) (ns : List ℕ) (at : Pos) (args : List (Meant g.Reported)) (x : Called)
        → weight_called w x ≤ k → AllM w g s ns args
        → Stmt_ (node w ⊕ (k ⊕ arguments w ns)) (callee_statement g s at args x)
    done_as_most k ns at args (called.Routine t c) p all = routine_most k ns at t c args p all
    done_as_most k ns at args (called.Standard f) p all = standard_most k ns at args f all

    pub done_most : (k : ℕ) (ns : List ℕ) (d : Meant g.Reported) (args : List (Meant g.Reported)) → FM w g s k d
        → AllM w g s ns args → Stmt_ (node w ⊕ (k ⊕ arguments w ns)) (call_statement g s d args)
    done_most k ns d args p all = ahead_most g (breaches_in_all g s args)
        (then_most (of_heading_most p) (λ e q. callee_most w g s.types k d.fixed.at e q))
        (λ x q. done_as_most k ns d.fixed.at args x q all)
