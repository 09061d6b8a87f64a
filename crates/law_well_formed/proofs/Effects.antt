-- Assignments, and calls as statements.
use Rattle.std.proofs.Common.{◌≡◌, ℕ, pos, ◌==◌, Bool, true, false, List, [], ◌∷◌, length, Option, Some, None, Result, Ok, refl, sym, ap, subst, ◌∙◌}
use Rattle.std.specs.Prelude.{not}
use Rattle.std.proofs.lemmas.Bool.{eqb-true}
use Rattle.m2_rule.specs.declared.rule.Rule.{Rule}
use Rattle.m2_rule.specs.declared.rule.Rule.TheVariants as rule
use Rattle.m2_tree.specs.declared.pos.Pos.{Pos}
use Rattle.typed_tree.specs.declared.computed.Place.{Place}
use Rattle.typed_tree.specs.declared.computed.TypedExpr.{TypedExpr}
use Rattle.typed_tree.specs.declared.computed.TypedExpr.TheVariants as expr
use Rattle.typed_tree.specs.declared.meaning.Standard.{Standard}
use Rattle.typed_tree.specs.declared.meaning.Standard.TheVariants.{Abs, Cap, Chr, High, Max, Min, Odd, Ord, Val, Inc, Dec, Incl, Excl, Halt, Put}
use Rattle.typed_tree.specs.declared.meaning.Value.{Value}
use Rattle.typed_tree.specs.declared.meaning.Value.TheVariants as constant
use Rattle.typed_tree.specs.declared.shape.Formal.{Formal}
use Rattle.typed_tree.specs.declared.shape.Signature.{Signature}
use Rattle.typed_tree.specs.declared.statement.Change.{Change}
use Rattle.typed_tree.specs.declared.statement.Change.TheVariants.{Increase, Decrease}
use Rattle.typed_tree.specs.declared.statement.Membership.{Membership}
use Rattle.typed_tree.specs.declared.statement.Membership.TheVariants.{Include, Exclude}
use Rattle.typed_tree.specs.declared.statement.TypedStmt.{TypedStmt}
use Rattle.typed_tree.specs.declared.statement.TypedStmt.TheVariants as step
use Rattle.typed_tree.specs.declared.typed_module.TypedModule.{TypedModule}
use Rattle.typed_tree.specs.declared.types.TypeNo.{TypeNo}
use Rattle.typed_tree.specs.Types.{cardinal, char}
use Rattle.check_scope.specs.Elaborated.{Gathers, reported_where, ahead}
use Rattle.check_scope.specs.declared.scope.Scope.{Scope}
use Rattle.check_const.specs.declared.operand.Ordinal.{Ordinal}
use Rattle.check_const.specs.Standards.{whole_number}
use Rattle.check_value.specs.Classes.{class_at, signature_at}
use Rattle.check_value.specs.Suits.{text_suited, whole_suited, of_expr, value_suited, suited_in, value_for_place}
use Rattle.check_value.specs.declared.class.Class.{Class}
use Rattle.check_value.specs.declared.class.Class.TheVariants as class
use Rattle.check_value.specs.declared.computed.Computed.{Computed}
use Rattle.check_value.specs.declared.computed.Computed.TheVariants as value
use Rattle.check_value.specs.declared.computed.Designated.{Designated}
use Rattle.check_value.specs.declared.computed.Designated.TheVariants as designated
use Rattle.check_value.specs.declared.places.Accepted.{Accepted}
use Rattle.check_value.specs.declared.places.Accepted.TheVariants as accepted
use Rattle.check_value.specs.Callees.{proper_with, proper_of, call_by}
use Rattle.check_value.specs.Effects.{target_of, target_at, store_statement, assignment_to, assignment_of, change_target_as, change_target, type_of_number, known_amount, amount, change_by, set_as, set_variable, element_known, set_element, membership_of}
use Rattle.check_value.specs.declared.callee.Callee.{Callee}
use Rattle.check_value.specs.declared.callee.Called.{Called}
use Rattle.check_value.specs.declared.callee.Called.TheVariants as called
use Rattle.check_value.specs.declared.effect.Target.{Target}
use Rattle.check_value.specs.declared.effect.Target.TheVariants as target
use Rattle.check_expr.specs.Meanings.{Meant, formals_of, value_of, breaches_in_all, actuals}
use Rattle.check_expr.specs.Effects.{call_done, routine_done, change_target_in, change_statement, set_in, member_by, halt_statement, put_by, standard_done, callee_statement, call_statement}
use Rattle.def_scheme.specs.Exprs.{is_there}
use Rattle.law_modules.specs.WellFormed.{IsScalar, IsExpr, Constant, IsPlace, AreArguments, IsStmt, Assign, Copy, CopyText, ProcedureCall, Put as PutOf, Changed, Member, Halt as HaltOf}
use Rattle.law_well_formed.specs.Formed.{Holds, fine, FormedValue, FormedDesignated, IsFormed}
use Rattle.law_well_formed.proofs.Basics.{then_holds, reported_holds, where_holds, both_holds, refused_holds, reported_beside_holds, ahead_holds, sort_holds, of_heading_holds, is_whole, scalar_kept, heading_kept}
use Rattle.law_well_formed.proofs.Operators.{suited_formed}
use Rattle.law_well_formed.proofs.Calls.{FormedCallee, FormedCalled, callee_formed, call_formed}
use Rattle.law_well_formed.proofs.Meanings.{FM, AllM, value_formed, actuals_formed}

module _ (g : Gathers) (m : TypedModule) (opens : ℕ → Bool) (w : ℕ) (s : Scope g.Reported) (h : IsFormed g m opens w s)
    (gives looped : Bool) where
  abbrev Stmt_ : Result TypedStmt g.Reported → Type 0
  Stmt_ r = Holds (IsStmt m gives w looped) r

  abbrev Expr_ : Result TypedExpr g.Reported → Type 0
  Expr_ r = Holds (IsExpr m w) r

  abbrev Known_ : Meant g.Reported → Type 0
  Known_ x = FM g m opens w s h x

  -- ---- assignments

  abbrev FormedTarget : Target → Type 0
  FormedTarget (target.Variable t d) = IsPlace m w d
  FormedTarget target.Open = Unit {0}

  target_of_formed : (at : Pos) (d : Designated) → FormedDesignated m opens w d → Holds FormedTarget (target_of g at d)
  target_of_formed at (designated.Variable t d) p = fine (target.Variable t d) p
  target_of_formed at (designated.Open t slot) p = fine target.Open tt
  target_of_formed at (designated.Value x) p = reported_holds g at rule.WrongType
  target_of_formed at (designated.Type t) p = reported_holds g at rule.WrongType
  target_of_formed at (designated.Procedure f) p = reported_holds g at rule.WrongType
  target_of_formed at (designated.Nested f) p = reported_holds g at rule.WrongType
  target_of_formed at (designated.Standard f) p = reported_holds g at rule.WrongType
  target_of_formed at (designated.Module k) p = reported_holds g at rule.WrongType

  abbrev FormedAccepted : TypeNo → Accepted → Type 0
  FormedAccepted t (accepted.Value e) = IsScalar m.types t × IsExpr m w e
  FormedAccepted t (accepted.Whole d) = IsPlace m w d
  FormedAccepted t (accepted.Text text) = Unit {0}

  text_accepted : (broken : Rule) (t : TypeNo) (at : Pos) (v : Value)
      → Holds (FormedAccepted t) (text_suited g broken s.types t at v)
  text_accepted number t at (constant.Number n) = reported_holds g at number
  text_accepted number t at (constant.Scalar n) = reported_holds g at number
  text_accepted number t at (constant.Set bits) = reported_holds g at number
  text_accepted number t at (constant.Text text) = where_holds g _ at number (fine (accepted.Text text) tt)

  whole_accepted : (broken : Rule) (t : TypeNo) (at : Pos) (x : Computed) → FormedValue m w x
      → Holds (FormedAccepted t) (whole_suited g broken s.types t at x)
  whole_accepted number t at (value.Constant v) p = text_accepted number t at v
  whole_accepted number t at (value.Whole u d) p = where_holds g _ at number (fine (accepted.Whole d) p)
  whole_accepted number t at (value.Scalar u b e) p = reported_holds g at number
  whole_accepted number t at (value.Set e) p = reported_holds g at number
  whole_accepted number t at (value.Routine u e) p = reported_holds g at number
  whole_accepted number t at (value.Procedure f) p = reported_holds g at number
  whole_accepted number t at value.Untaken p = reported_holds g at number

  value_accepted : (broken : Rule) (t : TypeNo) (at : Pos) (x : Computed) → FormedValue m w x → IsScalar m.types t
      → Holds (FormedAccepted t) (of_expr (value_suited g broken s.types t at x))
  value_accepted broken t at x p k = then_holds (suited_formed m w g broken s.types t at x p)
      (λ e q. fine (accepted.Value e) (k, q))

  accepted_in : (broken : Rule) (t : TypeNo) (at : Pos) (x : Computed) (c : Class)
      → (is_whole c ≡ false → IsScalar m.types t) → FormedValue m w x
      → Holds (FormedAccepted t) (suited_in g broken s.types t at x c)
  accepted_in number t at x (class.Scalar r) k p = value_accepted number t at x p (k refl)
  accepted_in number t at x class.Set k p = value_accepted number t at x p (k refl)
  accepted_in number t at x class.Procedure k p = value_accepted number t at x p (k refl)
  accepted_in number t at x class.Whole k p = whole_accepted number t at x p

  accepted_formed : (broken : Rule) (t : TypeNo) (at : Pos) (x : Computed) → FormedValue m w x
      → Holds (FormedAccepted t) (value_for_place g broken s.types t at x)
  accepted_formed number t at x p = accepted_in number t at x (class_at s.types t)
      (scalar_kept s.types m.types h.types t) p

  stored_formed : (t : TypeNo) (d : Place) (a : Accepted) → IsPlace m w d → FormedAccepted t a
      → IsStmt m gives w looped (store_statement t d a)
  stored_formed t d (accepted.Value e) p q = Assign w looped d t e q.0 p q.1
  stored_formed t d (accepted.Whole from) p q = Copy w looped d from t p q
  stored_formed t d (accepted.Text text) p q = CopyText w looped d t text p

  assigned_to_formed : (a : Target) (at : Pos) (x : Computed) → FormedTarget a → FormedValue m w x
      → Stmt_ (assignment_to g s.types a at x)
  assigned_to_formed target.Open at x p q = reported_holds g at rule.NotAssignable
  assigned_to_formed (target.Variable t d) at x p q =
      then_holds (accepted_formed rule.NotAssignable t at x q)
      (λ a k. fine (store_statement t d a) (stored_formed t d a p k))

  pub assignment_formed : (d : Meant g.Reported) (at : Pos) (x : Meant g.Reported) → Known_ d → Known_ x
      → Stmt_ (assignment_of g s.types (target_at g d.fixed.at (d.means s)) at (value_of g s x))
  assignment_formed d at x p q =
      then_holds (both_holds g (then_holds (sort_holds g d.fixed.at rule.WrongType p)
      (λ e k. target_of_formed d.fixed.at e k)) (value_formed g m opens w s h x q))
      (λ v k. assigned_to_formed v.0 at v.1 k.0 k.1)

  -- ---- INC and DEC

  abbrev FormedVariable : TypeNo × Place → Type 0
  FormedVariable v = IsScalar m.types v.0 × IsPlace m w v.1

  changed_as_formed : (at : Pos) (t : TypeNo) (d : Place) (c : Class) → (is_whole c ≡ false → IsScalar m.types t)
      → IsPlace m w d → Holds FormedVariable (change_target_as g at t d c)
  changed_as_formed at t d (class.Scalar r) k p = fine (t, d) (k refl, p)
  changed_as_formed at t d class.Set k p = reported_holds g at rule.NoVariable
  changed_as_formed at t d class.Procedure k p = reported_holds g at rule.NoVariable
  changed_as_formed at t d class.Whole k p = reported_holds g at rule.NoVariable

  changed_formed : (at : Pos) (d : Designated) → FormedDesignated m opens w d
      → Holds FormedVariable (change_target g s.types at d)
  changed_formed at (designated.Variable t d) p =
      changed_as_formed at t d (class_at s.types t) (scalar_kept s.types m.types h.types t) p
  changed_formed at (designated.Value x) p = reported_holds g at rule.NoVariable
  changed_formed at (designated.Open t slot) p = reported_holds g at rule.NoVariable
  changed_formed at (designated.Type t) p = reported_holds g at rule.NoVariable
  changed_formed at (designated.Procedure f) p = reported_holds g at rule.NoVariable
  changed_formed at (designated.Nested f) p = reported_holds g at rule.NoVariable
  changed_formed at (designated.Standard f) p = reported_holds g at rule.NoVariable
  changed_formed at (designated.Module k) p = reported_holds g at rule.NoVariable

  known_amount_formed : (at : Pos) (o : Option Ordinal) → Expr_ (known_amount g at o)
  known_amount_formed at None = reported_holds g at rule.WrongArgument
  known_amount_formed at (Some a) = fine (expr.Constant (type_of_number a.number a.sort) a.number)
      (Constant (type_of_number a.number a.sort) a.number)

  amount_formed : (at : Pos) (x : Computed) → FormedValue m w x → Expr_ (amount g at x)
  amount_formed at (value.Constant v) p = known_amount_formed at (whole_number v)
  amount_formed at (value.Scalar t b e) p = where_holds g _ at rule.WrongArgument (fine e p)
  amount_formed at (value.Set e) p = reported_holds g at rule.WrongArgument
  amount_formed at (value.Routine t e) p = reported_holds g at rule.WrongArgument
  amount_formed at (value.Procedure f) p = reported_holds g at rule.WrongArgument
  amount_formed at (value.Whole t d) p = reported_holds g at rule.WrongArgument
  amount_formed at value.Untaken p = reported_holds g at rule.WrongArgument

  change_by_formed : (o : Change) {v : Result (TypeNo × Place) g.Reported} {e : Result TypedExpr g.Reported}
      → Holds FormedVariable v → Expr_ e → Stmt_ (change_by g o v e)
  change_by_formed o p q = then_holds (both_holds g p q)
      (λ v k. fine (step.Change o v.0.1 v.0.0 v.1) (Changed w looped o v.0.1 v.0.0 v.1 k.0.0 k.0.1 k.1))

  changed_in_formed : (v : Meant g.Reported) → Known_ v → Holds FormedVariable (change_target_in g s v)
  changed_in_formed v p = then_holds (sort_holds g v.fixed.at rule.NoVariable p) (λ d k. changed_formed v.fixed.at d k)

  changed_by_formed : (at : Pos) (o : Change) (args : List (Meant g.Reported)) → AllM g m opens w s h args
      → Stmt_ (change_statement g s at o args)
  changed_by_formed at o [] all = reported_beside_holds g at rule.ArgumentCount (breaches_in_all g s [])
  changed_by_formed at o (v ∷ []) all = change_by_formed o (changed_in_formed v all.0)
      (fine (expr.Constant cardinal (pos 1)) (Constant cardinal (pos 1)))
  changed_by_formed at o (v ∷ n ∷ []) all =
      change_by_formed o (changed_in_formed v all.0)
      (then_holds (value_formed g m opens w s h n all.1.0) (λ x k. amount_formed n.fixed.at x k))
  changed_by_formed at o (v ∷ n ∷ x ∷ xs) all = reported_beside_holds g at rule.ArgumentCount _

  -- ---- INCL and EXCL

  set_as_formed : (at : Pos) (d : Place) (c : Class) → IsPlace m w d → Holds (IsPlace m w) (set_as g at d c)
  set_as_formed at d class.Set p = fine d p
  set_as_formed at d (class.Scalar r) p = reported_holds g at rule.NoVariable
  set_as_formed at d class.Procedure p = reported_holds g at rule.NoVariable
  set_as_formed at d class.Whole p = reported_holds g at rule.NoVariable

  set_variable_formed : (at : Pos) (d : Designated) → FormedDesignated m opens w d
      → Holds (IsPlace m w) (set_variable g s.types at d)
  set_variable_formed at (designated.Variable t d) p = set_as_formed at d (class_at s.types t) p
  set_variable_formed at (designated.Value x) p = reported_holds g at rule.NoVariable
  set_variable_formed at (designated.Open t slot) p = reported_holds g at rule.NoVariable
  set_variable_formed at (designated.Type t) p = reported_holds g at rule.NoVariable
  set_variable_formed at (designated.Procedure f) p = reported_holds g at rule.NoVariable
  set_variable_formed at (designated.Nested f) p = reported_holds g at rule.NoVariable
  set_variable_formed at (designated.Standard f) p = reported_holds g at rule.NoVariable
  set_variable_formed at (designated.Module k) p = reported_holds g at rule.NoVariable

  element_known_formed : (at : Pos) (o : Option Ordinal) → Expr_ (element_known g at o)
  element_known_formed at None = reported_holds g at rule.WrongArgument
  element_known_formed at (Some a) = where_holds g _ at rule.OutOfRange
      (fine (expr.Constant (type_of_number a.number a.sort) a.number)
      (Constant (type_of_number a.number a.sort) a.number))

  element_formed : (at : Pos) (x : Computed) → FormedValue m w x → Expr_ (set_element g at x)
  element_formed at (value.Constant v) p = element_known_formed at (whole_number v)
  element_formed at (value.Scalar t b e) p = where_holds g _ at rule.WrongArgument (fine e p)
  element_formed at (value.Set e) p = reported_holds g at rule.WrongArgument
  element_formed at (value.Routine t e) p = reported_holds g at rule.WrongArgument
  element_formed at (value.Procedure f) p = reported_holds g at rule.WrongArgument
  element_formed at (value.Whole t d) p = reported_holds g at rule.WrongArgument
  element_formed at value.Untaken p = reported_holds g at rule.WrongArgument

  membership_formed : (o : Membership) {d : Result Place g.Reported} {e : Result TypedExpr g.Reported}
      → Holds (IsPlace m w) d → Expr_ e → Stmt_ (membership_of g o d e)
  membership_formed o p q = then_holds (both_holds g p q)
      (λ v k. fine (step.Membership o v.0 v.1) (Member w looped o v.0 v.1 k.0 k.1))

  set_in_formed : (v : Meant g.Reported) → Known_ v → Holds (IsPlace m w) (set_in g s v)
  set_in_formed v p = then_holds (sort_holds g v.fixed.at rule.NoVariable p) (λ d k. set_variable_formed v.fixed.at d k)

  member_by_formed : (at : Pos) (o : Membership) (args : List (Meant g.Reported)) → AllM g m opens w s h args
      → Stmt_ (member_by g s at o args)
  member_by_formed at o [] all = reported_beside_holds g at rule.ArgumentCount (breaches_in_all g s [])
  member_by_formed at o (v ∷ []) all = reported_beside_holds g at rule.ArgumentCount _
  member_by_formed at o (v ∷ n ∷ []) all =
      membership_formed o (set_in_formed v all.0)
      (then_holds (value_formed g m opens w s h n all.1.0) (λ x k. element_formed n.fixed.at x k))
  member_by_formed at o (v ∷ n ∷ x ∷ xs) all = reported_beside_holds g at rule.ArgumentCount _

  -- ---- HALT and Put

  halted_formed : (at : Pos) (args : List (Meant g.Reported)) → Stmt_ (halt_statement g s at args)
  halted_formed at [] = fine step.Halt (HaltOf w looped)
  halted_formed at (x ∷ xs) = reported_beside_holds g at rule.ArgumentCount _

  put_by_formed : (at : Pos) (args : List (Meant g.Reported)) → AllM g m opens w s h args → Stmt_ (put_by g s at args)
  put_by_formed at [] all = reported_beside_holds g at rule.ArgumentCount (breaches_in_all g s [])
  put_by_formed at (x ∷ []) all = then_holds (value_formed g m opens w s h x all.0)
      (λ v k. then_holds (suited_formed m w g rule.WrongArgument s.types char x.fixed.at v k)
      (λ e q. fine (step.Put e) (PutOf w looped e q)))
  put_by_formed at (x ∷ y ∷ xs) all = reported_beside_holds g at rule.ArgumentCount _

  standard_formed : (at : Pos) (args : List (Meant g.Reported)) (f : Standard) → AllM g m opens w s h args
      → Stmt_ (standard_done g s at args f)
  standard_formed at args Abs all = reported_beside_holds g at rule.WrongType _
  standard_formed at args Cap all = reported_beside_holds g at rule.WrongType _
  standard_formed at args Chr all = reported_beside_holds g at rule.WrongType _
  standard_formed at args High all = reported_beside_holds g at rule.WrongType _
  standard_formed at args Max all = reported_beside_holds g at rule.WrongType _
  standard_formed at args Min all = reported_beside_holds g at rule.WrongType _
  standard_formed at args Odd all = reported_beside_holds g at rule.WrongType _
  standard_formed at args Ord all = reported_beside_holds g at rule.WrongType _
  standard_formed at args Val all = reported_beside_holds g at rule.WrongType _
  standard_formed at args Inc all = changed_by_formed at Increase args all
  standard_formed at args Dec all = changed_by_formed at Decrease args all
  standard_formed at args Incl all = member_by_formed at Include args all
  standard_formed at args Excl all = member_by_formed at Exclude args all
  standard_formed at args Halt all = halted_formed at args
  standard_formed at args Put all = put_by_formed at args all

  -- ---- calls

  module _ (at : Pos) (t : TypeNo) (c : Callee) (args : List (Meant g.Reported))
      (there : FormedCallee g m w opens s.types h.types t c) (all : AllM g m opens w s h args) where
    proper_call : (k : Signature) → signature_at s.types t ≡ Some k → k.result ≡ None → length k.formals ≡ length args
        → Stmt_ (call_done c (actuals g s k.formals args))
    proper_call k e q count =
        let heading = heading_kept s.types m.types h.types t k e in
        then_holds (actuals_formed g m opens w s h args k.formals count all) (λ xs p.
        fine (step.Call (call_by xs c)) (ProcedureCall w looped (call_by xs c)
        (call_formed g m w opens s.types h.types c t xs false there
        (heading.result ∙ ap (λ (o : Option TypeNo). is_there o) q)
        (subst (λ (fs : List Formal). AreArguments m w xs fs) (sym heading.formals) p))))

    by_count : (k : Signature) (q : Bool) → (length k.formals == length args) ≡ q → signature_at s.types t ≡ Some k
        → k.result ≡ None
        → Stmt_ (ahead g (reported_where g {A = Unit {0}} (not q) at rule.ArgumentCount (Ok (tt {0})))
        (breaches_in_all g s args) (λ fine. call_done c (actuals g s k.formals args)))
    by_count k true count e q = proper_call k e q (eqb-true (length k.formals) (length args) count)
    by_count k false count e q = refused_holds g _ (breaches_in_all g s args)

    by_result : (k : Signature) (o : Option TypeNo) → k.result ≡ o → signature_at s.types t ≡ Some k
        → Stmt_ (ahead g (proper_with g at (length k.formals) (length args) o) (breaches_in_all g s args)
        (λ fine. call_done c (actuals g s k.formals args)))
    by_result k None q e = by_count k (length k.formals == length args) refl e q
    by_result k (Some r) q e = refused_holds g _ (breaches_in_all g s args)

    by_signature : (o : Option Signature) → signature_at s.types t ≡ o
        → Stmt_ (ahead g (proper_of g at o (length args)) (breaches_in_all g s args)
        (λ fine. call_done c (actuals g s (formals_of o) args)))
    by_signature None e = refused_holds g _ (breaches_in_all g s args)
    by_signature (Some k) e = by_result k k.result refl e

    routine_formed : Stmt_ (routine_done g s at t c args)
    routine_formed = by_signature (signature_at s.types t) refl

  done_as_formed : (at : Pos) (args : List (Meant g.Reported)) (x : Called) → FormedCalled g m w opens s.types h.types x
      → AllM g m opens w s h args → Stmt_ (callee_statement g s at args x)
  done_as_formed at args (called.Routine t c) p all = routine_formed at t c args p all
  done_as_formed at args (called.Standard f) p all = standard_formed at args f all

  pub done_formed : (d : Meant g.Reported) (args : List (Meant g.Reported)) → Known_ d → AllM g m opens w s h args
      → Stmt_ (call_statement g s d args)
  done_formed d args p all = ahead_holds g (breaches_in_all g s args)
      (then_holds (of_heading_holds p) (λ e k. callee_formed g m w opens s.types h.types d.fixed.at e k))
      (λ x k. done_as_formed d.fixed.at args x k all)
