-- Statements without others inside, and what stands before and around others.
use Rattle.std.proofs.Common.{◌≡◌, ℕ, suc, ℤ, Bool, true, false, List, [], ◌∷◌, ◌++◌, length, Option, Some, None, Result, Ok, refl, sym, ap, subst, arith}
use Rattle.std.specs.Prelude.{not, slice_get}
use Rattle.std.specs.Option.{option_map}
use Rattle.m2_rule.specs.declared.rule.Rule.TheVariants as rule
use Rattle.m2_tree.specs.declared.pos.Pos.{Pos}
use Rattle.m2_tree.specs.declared.name.Ident.{Ident}
use Rattle.typed_tree.specs.declared.computed.Place.{Place}
use Rattle.typed_tree.specs.declared.computed.Root.TheVariants as root
use Rattle.typed_tree.specs.declared.computed.TypedExpr.{TypedExpr}
use Rattle.typed_tree.specs.declared.computed.TypedExpr.TheVariants as expr
use Rattle.typed_tree.specs.declared.known_types.Types.{Types}
use Rattle.typed_tree.specs.declared.meaning.Meaning.{Meaning}
use Rattle.typed_tree.specs.declared.meaning.Meaning.TheVariants as meaning
use Rattle.typed_tree.specs.declared.meaning.OpenedField.{OpenedField}
use Rattle.typed_tree.specs.declared.statement.TypedStmt.{TypedStmt}
use Rattle.typed_tree.specs.declared.statement.TypedStmt.TheVariants as step
use Rattle.typed_tree.specs.declared.typed_module.TypedModule.{TypedModule}
use Rattle.typed_tree.specs.declared.types.TypeNo.{TypeNo}
use Rattle.typed_tree.specs.Chains.{root_place}
use Rattle.typed_tree.specs.Names.{place_of}
use Rattle.typed_tree.specs.Types.{boolean}
use Rattle.check_scope.specs.declared.meaningless.Meaningless.{Meaningless}
use Rattle.check_scope.specs.Elaborated.{Gathers, reported_where}
use Rattle.check_scope.specs.Scopes.{or_outside, fields_at, field_among, field_numbered, field_in, open_field as opened_fields, means_or, means_as, sight_of}
use Rattle.check_scope.specs.declared.scope.OpenedRecord.{OpenedRecord}
use Rattle.check_scope.specs.declared.scope.Scope.{Scope}
use Rattle.check_value.specs.Classes.{class_at}
use Rattle.check_value.specs.Sides.{side_of}
use Rattle.check_value.specs.Suits.{sort_suits, bases_suit}
use Rattle.check_value.specs.Values.{slot_of}
use Rattle.check_value.specs.declared.class.Class.{Class}
use Rattle.check_value.specs.declared.class.Class.TheVariants as class
use Rattle.check_value.specs.declared.computed.Computed.{Computed}
use Rattle.check_value.specs.declared.computed.Designated.{Designated}
use Rattle.check_value.specs.declared.computed.Designated.TheVariants as designated
use Rattle.check_value.specs.declared.side.Amount.{Amount}
use Rattle.check_value.specs.declared.side.Amount.TheVariants.{Known, Run}
use Rattle.check_value.specs.declared.side.Side.{Side}
use Rattle.check_value.specs.declared.side.Side.TheVariants as side
use Rattle.check_expr.specs.Meanings.{Meant}
use Rattle.def_scheme.specs.Exprs.{is_there}
use Rattle.law_modules.specs.WellFormed.{IsScalar, IsExpr, Constant, IsPlace, IsStmt, Exit, Return, Give, For, AreStmts}
use Rattle.law_well_formed.specs.Formed.{Holds, fine, FormedMeaning, FormedValue, FormedDesignated, IsFormed}
use Rattle.law_well_formed.proofs.Basics.{then_holds, holds_weaker, reported_holds, where_holds, both_holds, reported_beside_holds, sort_holds, any_holds, is_whole, scalar_kept}
use Rattle.law_well_formed.proofs.Operators.{rooted_formed, side_formed, FormedSide, suited_formed}
use Rattle.law_well_formed.proofs.Meanings.{FM, value_formed}
use Rattle.check_stmt_parts.specs.Simple.{exit_statement, given_back, return_statement, condition, selector_amount, selector_of, case_selector, record_by, record_of, into_record}
use Rattle.check_stmt_parts.specs.Control.{controlled_as, control_variable, control_by, control_of, start_at, limit_number, limit_by, limit_at, type_of, base_of, course_of, step_of, repeated_for}
use Rattle.check_stmt_parts.specs.declared.around.Around.{Around}
use Rattle.check_stmt_parts.specs.declared.control.Control.{Control}
use Rattle.check_stmt_parts.specs.declared.control.Course.{Course}

-- ---- within a WITH

or_twice : {A : Type 0} (a b c : Option A) → or_outside (or_outside a b) c ≡ or_outside a (or_outside b c)
or_twice None b c = refl
or_twice (Some x) b c = refl

or_none : {A : Type 0} (a : Option A) → or_outside None a ≡ or_outside a None
or_none None = refl
or_none (Some x) = refl

opened_more : (types : Types) (name : List ℕ) (ws : List OpenedRecord) (r : OpenedRecord)
    → opened_fields types name (ws ++ r ∷ []) ≡ or_outside (field_in types name r) (opened_fields types name ws)
opened_more types name [] r = or_none (field_in types name r)
opened_more types name (x ∷ ws) r =
    subst (λ (o : Option OpenedField). or_outside o (field_in types name x)
    ≡ or_outside (field_in types name r) (or_outside (opened_fields types name ws) (field_in types name x)))
    (sym (opened_more types name ws r))
    (or_twice (field_in types name r) (opened_fields types name ws) (field_in types name x))

module _ (m : TypedModule) (opens : ℕ → Bool) (w : ℕ) where
  meaning_within : (x : Meaning) → FormedMeaning m opens w x → FormedMeaning m opens (suc w) x
  meaning_within (meaning.Constant v) p = tt
  meaning_within (meaning.Type t n) p = tt
  meaning_within (meaning.Variable v) p = p
  meaning_within (meaning.Local v) p = tt
  meaning_within (meaning.Field f) p = omega (arith, p)
  meaning_within (meaning.Procedure f) p = p
  meaning_within (meaning.LocalProcedure f) p = p
  meaning_within meaning.Ahead p = tt
  meaning_within (meaning.Standard f) p = tt
  meaning_within (meaning.Module k) p = p

-- the number of a field's record
abbrev number_of : Option OpenedField → ℕ
number_of None = 0
number_of (Some f) = f.with

mapped_with : (r : OpenedRecord) (n : ℕ) (o : Option (List ℕ × TypeNo)) (f : OpenedField)
    → option_map (λ e. record { with = r.number; whole = r.of; number = n; of = e.1 }) o ≡ Some f → f.with ≡ r.number
mapped_with r n None f e = absurd cc
mapped_with r n (Some x) f e = sym (ap (λ (o : Option OpenedField). number_of o) e)

numbered_with : (r : OpenedRecord) (fs : List (List ℕ × TypeNo)) (o : Option ℕ) (f : OpenedField)
    → field_numbered r fs o ≡ Some f → f.with ≡ r.number
numbered_with r fs None f e = absurd cc
numbered_with r fs (Some n) f e = mapped_with r n (slice_get fs n) f e

of_fields : (r : OpenedRecord) (name : List ℕ) (o : Option (List (List ℕ × TypeNo))) (f : OpenedField)
    → field_among r name o ≡ Some f → f.with ≡ r.number
of_fields r name None f e = absurd cc
of_fields r name (Some fs) f e = numbered_with r fs (place_of name fs) f e

module _ (g : Gathers) (m : TypedModule) (opens : ℕ → Bool) (w : ℕ) (s : Scope g.Reported) (h : IsFormed g m opens w s)
  where
    abbrev Stmt_ : (gives looped : Bool) → Result TypedStmt g.Reported → Type 0
    Stmt_ gives looped r = Holds (IsStmt m gives w looped) r

    abbrev Expr_ : Result TypedExpr g.Reported → Type 0
    Expr_ r = Holds (IsExpr m w) r

    abbrev Known_ : Meant g.Reported → Type 0
    Known_ x = FM g m opens w s h x

    -- ---- WITH

    inner_name : (r : OpenedRecord) → r.number ≡ w → (o : Option OpenedField) (inner : Option OpenedField)
        → ((f : OpenedField) → o ≡ Some f → f.with ≡ r.number) → (x : Result Meaning (Meaningless g.Reported))
        → Holds (FormedMeaning m opens w) (means_or inner x)
        → Holds (FormedMeaning m opens (suc w)) (means_or (or_outside o inner) x)
    inner_name r e None inner k x p = holds_weaker (meaning_within m opens w) p
    inner_name r e (Some f) inner k x p = fine (meaning.Field f)
        (let q : f.with ≡ r.number = k f refl in omega (arith, q, e))

    pub within_formed : (t : TypeNo) → length s.withs ≡ w → IsFormed g m opens (suc w) (into_record s t)
    within_formed t e =
        let r : OpenedRecord = record { number = length s.withs; of = t } in record {
          types = h.types;
          names = λ name.
              subst (λ (o : Option OpenedField). Holds (FormedMeaning m opens (suc w))
              (means_or o (means_as g name.pos (sight_of name.name s))))
              (sym (opened_more s.types name.name s.withs r))
              (inner_name r e (field_in s.types name.name r) (opened_fields s.types name.name s.withs)
              (of_fields r name.name (fields_at s.types t)) (means_as g name.pos (sight_of name.name s))
              (h.names name));
          members = λ k name q. holds_weaker (meaning_within m opens w) (h.members k name q);
        }

    abbrev FormedRecord : TypeNo × Place → Type 0
    FormedRecord x = IsPlace m w x.1

    record_by_formed : (at : Pos) (d : Designated) → FormedDesignated m opens w d
        → Holds FormedRecord (record_by g s.types at d)
    record_by_formed at (designated.Variable t d) p = where_holds g _ at rule.WrongType (fine (t, d) p)
    record_by_formed at (designated.Value x) p = reported_holds g at rule.WrongType
    record_by_formed at (designated.Open t slot) p = reported_holds g at rule.WrongType
    record_by_formed at (designated.Type t) p = reported_holds g at rule.WrongType
    record_by_formed at (designated.Procedure f) p = reported_holds g at rule.WrongType
    record_by_formed at (designated.Nested f) p = reported_holds g at rule.WrongType
    record_by_formed at (designated.Standard f) p = reported_holds g at rule.WrongType
    record_by_formed at (designated.Module k) p = reported_holds g at rule.WrongType

    pub record_formed : (d : Meant g.Reported) → Known_ d → Holds FormedRecord (record_of g s d)
    record_formed d p = then_holds (sort_holds g d.fixed.at rule.WrongType p) (λ e k. record_by_formed d.fixed.at e k)

    -- ---- conditions, EXIT and RETURN

    pub condition_formed : (x : Meant g.Reported) → Known_ x → Expr_ (condition g s x)
    condition_formed x p = then_holds (value_formed g m opens w s h x p)
        (λ v k. suited_formed m w g rule.WrongType s.types boolean x.fixed.at v k)

    exited_as : (at : Pos) (gives looped : Bool)
        → Stmt_ gives looped (reported_where g (not looped) at rule.LonelyExit (Ok step.Exit))
    exited_as at gives true = fine step.Exit (Exit w)
    exited_as at gives false = reported_holds g at rule.LonelyExit

    pub exited_formed : (at : Pos) (a : Around g.Reported) → Stmt_ (is_there a.gives) a.in_loop (exit_statement g at a)
    exited_formed at a = exited_as at (is_there a.gives) a.in_loop

    given_back_formed : (t : Result TypeNo g.Reported) (at : Pos) (looped : Bool) {x : Result Computed g.Reported}
        → Holds (FormedValue m w) x → Stmt_ true looped (given_back g s.types t at x)
    given_back_formed t at looped p = then_holds (both_holds g (any_holds t) p)
        (λ v k. then_holds (suited_formed m w g rule.NotAssignable s.types v.0 at v.1 k.1)
        (λ e q. fine (step.Give v.0 e) (Give w looped v.0 e refl q)))

    abbrev pub KnownIf : Option (Meant g.Reported) → Type 0
    KnownIf None = Unit {0}
    KnownIf (Some x) = Known_ x

    pub returned_formed : (at : Pos) (looped : Bool) (o : Option (Result TypeNo g.Reported))
        (x : Option (Meant g.Reported)) → KnownIf x → Stmt_ (is_there o) looped (return_statement g s at o x)
    returned_formed at looped None None p = fine step.Return (Return w looped refl)
    returned_formed at looped None (Some x) p = reported_beside_holds g at rule.WrongReturn _
    returned_formed at looped (Some t) None p = reported_holds g at rule.WrongReturn
    returned_formed at looped (Some t) (Some x) p =
        given_back_formed t x.fixed.at looped (value_formed g m opens w s h x p)

    -- ---- the selector of a CASE

    abbrev FormedSelector : TypeNo × TypedExpr → Type 0
    FormedSelector x = IsExpr m w x.1

    amount_formed : (a : Amount) → FormedSide m w (Some (side.Scalar a)) → FormedSelector (selector_amount a)
    amount_formed (Known a) p = Constant _ a.number
    amount_formed (Run b e) p = p

    selector_formed : (at : Pos) (o : Option Side) → FormedSide m w o → Holds FormedSelector (selector_of g at o)
    selector_formed at None p = reported_holds g at rule.WrongType
    selector_formed at (Some (side.Scalar a)) p = fine (selector_amount a) (amount_formed a p)
    selector_formed at (Some (side.Set e)) p = reported_holds g at rule.WrongType
    selector_formed at (Some (side.Routine t e)) p = reported_holds g at rule.WrongType
    selector_formed at (Some (side.Procedure f)) p = reported_holds g at rule.WrongType

    pub selected_formed : (x : Meant g.Reported) → Known_ x → Holds FormedSelector (case_selector g s x)
    selected_formed x p = then_holds (value_formed g m opens w s h x p)
        (λ v k. selector_formed x.fixed.at (side_of v) (side_formed m w v k))

    -- ---- FOR

    abbrev FormedControl : Control → Type 0
    FormedControl c = IsScalar m.types c.of × IsPlace m w c.place

    controlled_as_formed : (at : Pos) (t : TypeNo) (d : Place) (c : Class) → (is_whole c ≡ false → IsScalar m.types t)
        → IsPlace m w d → Holds FormedControl (controlled_as g at t d c)
    controlled_as_formed at t d (class.Scalar r) k p = fine (record { of = t; base = r.base; place = d }) (k refl, p)
    controlled_as_formed at t d class.Set k p = reported_holds g at rule.WrongControl
    controlled_as_formed at t d class.Procedure k p = reported_holds g at rule.WrongControl
    controlled_as_formed at t d class.Whole k p = reported_holds g at rule.WrongControl

    controlled_formed : (at : Pos) (t : TypeNo) (d : Place) → IsPlace m w d
        → Holds FormedControl (control_variable g s.types at t d)
    controlled_formed at t d p = controlled_as_formed at t d (class_at s.types t)
        (scalar_kept s.types m.types h.types t)
        p

    control_by_formed : (at : Pos) (x : Meaning) → FormedMeaning m opens w x → Holds FormedControl (control_by g s at x)
    control_by_formed at (meaning.Constant v) p = reported_holds g at rule.WrongControl
    control_by_formed at (meaning.Type t n) p = reported_holds g at rule.WrongControl
    control_by_formed at (meaning.Variable v) p =
        where_holds g _ at rule.WrongControl (controlled_formed at v.of (root_place (root.Global v))
        (rooted_formed m w (root.Global v) p))
    control_by_formed at (meaning.Local v) p =
        where_holds g _ at rule.WrongControl (controlled_formed at v.of (root_place (root.Local (slot_of s.level v)))
        (rooted_formed m w (root.Local (slot_of s.level v)) tt))
    control_by_formed at (meaning.Field f) p = reported_holds g at rule.WrongControl
    control_by_formed at (meaning.Procedure f) p = reported_holds g at rule.WrongControl
    control_by_formed at (meaning.LocalProcedure f) p = reported_holds g at rule.WrongControl
    control_by_formed at meaning.Ahead p = reported_holds g at rule.Ahead
    control_by_formed at (meaning.Standard f) p = reported_holds g at rule.WrongControl
    control_by_formed at (meaning.Module k) p = reported_holds g at rule.WrongControl

    control_formed : (name : Ident) → Holds FormedControl (control_of g s name)
    control_formed name = then_holds (sort_holds g name.pos rule.WrongControl (h.names name))
        (λ x p. control_by_formed name.pos x p)

    start_formed : (at : Pos) (t : Result TypeNo g.Reported) {x : Result Computed g.Reported}
        → Holds (FormedValue m w) x
        → Expr_ (start_at g s.types at t x)
    start_formed at t p = then_holds (both_holds g (any_holds t) p)
        (λ v k. suited_formed m w g rule.NotAssignable s.types v.0 at v.1 k.1)

    limit_number_formed : (base : TypeNo) (at : Pos) (n : ℤ) (o : Option TypeNo) → Expr_ (limit_number g base at n o)
    limit_number_formed base at n None = where_holds g _ at rule.OutOfRange
        (fine (expr.Constant base n) (Constant base n))
    limit_number_formed base at n (Some t) = fine (expr.Constant t n) (Constant t n)

    limit_by_formed : (base : TypeNo) (at : Pos) (o : Option Side) → FormedSide m w o → Expr_ (limit_by g base at o)
    limit_by_formed base at None p = reported_holds g at rule.NotAssignable
    limit_by_formed base at (Some (side.Scalar (Known a))) p =
        where_holds g (not (sort_suits base a.sort)) at rule.NotAssignable (limit_number_formed base at a.number a.sort)
    limit_by_formed base at (Some (side.Scalar (Run b e))) p =
        where_holds g (not (bases_suit base b)) at rule.NotAssignable (fine e p)
    limit_by_formed base at (Some (side.Set e)) p = reported_holds g at rule.NotAssignable
    limit_by_formed base at (Some (side.Routine t e)) p = reported_holds g at rule.NotAssignable
    limit_by_formed base at (Some (side.Procedure f)) p = reported_holds g at rule.NotAssignable

    limit_formed : (at : Pos) (base : Result TypeNo g.Reported) {x : Result Computed g.Reported}
        → Holds (FormedValue m w) x → Expr_ (limit_at g at base x)
    limit_formed at base p = then_holds (both_holds g (any_holds base) p)
        (λ v k. limit_by_formed v.0 at (side_of v.1) (side_formed m w v.1 k.1))

    abbrev FormedCourse : Course → Type 0
    FormedCourse c = FormedControl c.control × (IsExpr m w c.start × IsExpr m w c.limit)

    pub course_formed : (name : Ident) (start limit : Meant g.Reported) (by : Option (Meant g.Reported)) → Known_ start
        → Known_ limit → Holds FormedCourse (course_of g s name start limit by)
    course_formed name start limit by p q =
        then_holds (both_holds g (both_holds g (control_formed name)
        (start_formed start.fixed.at (type_of (control_of g s name)) (value_formed g m opens w s h start p)))
        (both_holds g (limit_formed limit.fixed.at (base_of (control_of g s name))
        (value_formed g m opens w s h limit q))
        (any_holds (step_of g s by))))
        (λ v k. fine (record { control = v.0.0; start = v.0.1; limit = v.1.0; by = v.1.1 }) (k.0.0, (k.0.1, k.1.0)))

    pub for_formed : (gives looped : Bool) {c : Result Course g.Reported} {body : Result (List TypedStmt) g.Reported}
        → Holds FormedCourse c → Holds (AreStmts m gives w looped) body → Stmt_ gives looped (repeated_for g c body)
    for_formed gives looped p q =
        then_holds (both_holds g p q) (λ v k. fine
        (step.For v.0.control.place v.0.control.of v.0.start v.0.limit v.0.by v.1)
        (For w looped v.0.control.place v.0.control.of v.0.start v.0.limit v.0.by v.1 k.0.0.0 k.0.0.1 k.0.1.0 k.0.1.1
        k.1))
