-- What stands before the statements of a FOR, as it stands in a typed tree.
use Rattle.std.proofs.Common.{◌≡◌, ℕ, ℤ, pos, Bool, true, false, not, Option, Some, None, Result, Ok, Err, refl, sym, ap, subst, ◌∙◌}
use Rattle.std.specs.Prelude.{◌&&◌, ◌==◌}
use Rattle.m2_rule.specs.declared.rule.Rule.TheVariants as rule
use Rattle.m2_tree.specs.declared.pos.Pos.{Pos}
use Rattle.m2_tree.specs.declared.name.Ident.{Ident}
use Rattle.m2_tree.specs.declared.expr.Expr.{Expr}
use Rattle.typed_tree.specs.declared.types.TypeNo.{TypeNo}
use Rattle.typed_tree.specs.declared.computed.Place.{Place}
use Rattle.typed_tree.specs.declared.computed.Root.TheVariants as root
use Rattle.typed_tree.specs.declared.computed.TypedExpr.{TypedExpr}
use Rattle.typed_tree.specs.declared.meaning.LocalKind.{LocalKind}
use Rattle.typed_tree.specs.declared.meaning.LocalKind.TheVariants as local
use Rattle.typed_tree.specs.declared.meaning.LocalVariable.{LocalVariable}
use Rattle.typed_tree.specs.declared.meaning.Meaning.{Meaning}
use Rattle.typed_tree.specs.declared.meaning.Meaning.TheVariants as meaning
use Rattle.typed_tree.specs.declared.shape.Scalar.{Scalar as Range}
use Rattle.typed_tree.specs.Chains.{root_place}
use Rattle.check_scope.specs.declared.scope.Scope.{Scope}
use Rattle.check_scope.specs.Scopes.{looked_up}
use Rattle.check_scope.specs.Elaborated.{Gathers, both, reported_where, ◌▷◌}
use Rattle.check_const.specs.declared.operand.Ordinal.{Ordinal}
use Rattle.check_const.specs.Sets.{ordinal_or_refusal}
use Rattle.check_const.specs.Standards.{whole_number}
use Rattle.check_value.specs.declared.class.Class.{Class}
use Rattle.check_value.specs.declared.class.Class.TheVariants as class
use Rattle.check_value.specs.declared.computed.Computed.{Computed}
use Rattle.check_value.specs.declared.side.Amount.{Amount as Sided}
use Rattle.check_value.specs.declared.side.Amount.TheVariants.{Known, Run}
use Rattle.check_value.specs.declared.side.Side.{Side}
use Rattle.check_value.specs.declared.side.Side.TheVariants as side
use Rattle.check_value.specs.Classes.{class_at}
use Rattle.check_value.specs.Values.{slot_of}
use Rattle.check_value.specs.Sides.{side_of, run_of}
use Rattle.check_expr.specs.Meanings.{meanings_of, value_of}
use Rattle.check_stmt_parts.specs.declared.control.Control.{Control}
use Rattle.check_stmt_parts.specs.declared.control.Course.{Course}
use Rattle.check_stmt_parts.specs.Simple.{meant_if}
use Rattle.check_stmt_parts.specs.Control.{controlled_as, control_variable, is_own, control_by, control_of, start_at, limit_number, limit_by, limit_at, step_number, step_of, type_of, base_of, course, course_of}
use Rattle.def_typing.specs.Amounts.{Amount, Constant, IsNumber, sort_of}
use Rattle.def_typing.specs.Operators.{Kind, Scalar, operand}
use Rattle.def_typing.specs.Things.{Standing}
use Rattle.def_typing.specs.Constants.{AConstant, Fixes}
use Rattle.def_typing.specs.Loops.{IsControl, IsWholeConstant, whole_constant}
use Rattle.law_typing.specs.Judging.{Judges}
use Rattle.law_typing.specs.Exact.{Knows, KnowsOwn}
use Rattle.law_typing.proofs.Combining.{Lawful}
use Rattle.law_typing.proofs.Elements.{IsOrdinal, is_ordinal, NumberOf, number_answers}
use Rattle.law_typing.proofs.Expressing.{exactly_fixed}
use Rattle.law_typing.proofs.Looping.{control_answers}
use Rattle.def_typed.specs.Named.{Named, Variable, named, named_by, local_named}
use Rattle.def_typed.specs.Coded.{At}
use Rattle.def_typed.specs.Expressions.{Gives}
use Rattle.def_typed.specs.Statements as rules
use Rattle.def_typed.specs.Statements.{Site, or_base, Limits, Steps, Controls}
use Rattle.law_typed.specs.Typed.{IsOne, Grasps}
use Rattle.law_typed.proofs.Meant.{IfMeant, meant, not_meant, if_as, if_also, if_then, if_both, if_right, if_where, if_sorted, if_equal, IsExactly, of_answers}
use Rattle.law_typed.proofs.Operators.{at_one}
use Rattle.law_typed.proofs.Values.{IsValue}
use Rattle.law_typed.proofs.Assigning.{value_so, yielded_at}
use Rattle.law_typed.proofs.Measuring.{amount_of, code_in, at_run, IsScalar, scalar_is}

whole_of : {k : Kind} {n : ℤ} → IsWholeConstant k n → (sort : Option TypeNo) × (k ≡ Scalar (Constant sort n))
    × IsNumber sort
whole_of (whole_constant {sort = sort} i) = (sort, refl, i)

of_whole : {k : Kind} (p : Option TypeNo × ℤ) → (k ≡ Scalar (Constant p.0 p.1)) → IsNumber p.0 → IsWholeConstant k p.1
of_whole p e i = subst (λ (k : Kind). IsWholeConstant k p.1) (sym e) (whole_constant i)

module _ (g : Gathers) (j : Judges g) (lawful : Lawful g j) (exports : ℕ → Ident → Standing) (w : Site)
    (s : Scope g.Reported) (knows : Knows g j w.spot.names exports s) (grasps : Grasps g w.senses s) where
  abbrev V : Expr → Computed → Type 0
  V = IsValue g j lawful w.spot.names exports w.senses s knows

  -- ---- the limit

  abbrev L : TypeNo → Expr → TypedExpr → Type 0
  L = Limits s.types exports w

  limit_one : {e : Expr} (base : TypeNo) (p : Sided) (x : TypedExpr) → IsScalar g j lawful exports w s knows grasps e p
      → x ≡ run_of (or_base base (sort_of (amount_of p))) p → IsOne (L base e) x
  limit_one {e = e} base p x i q = record { holds = rules.limits i.has i.scalar i.code at; alone = λ y m. alone m }
    where
      at : At (or_base base (sort_of (amount_of p))) (Scalar (amount_of p)) (code_in p) x
      at = subst (At (or_base base (sort_of (amount_of p))) (Scalar (amount_of p)) (code_in p)) (sym q)
          (at_run p (or_base base (sort_of (amount_of p))))

      alone : {y : TypedExpr} → L base e y → y ≡ x
      alone {y = y} (rules.limits {k = k} {a = a} {c = c} h o r z) = let u = i.same k a c h o r in
          at_one at (subst (λ (a : Amount). At (or_base base (sort_of a)) (Scalar a) (code_in p) y) u.0
          (subst (λ (c : Option TypedExpr). At (or_base base (sort_of a)) (Scalar a) c y) u.1 z))

  number_limit : {e : Expr} (base : TypeNo) (at : Pos) (n : ℤ) (sort : Option TypeNo)
      → IsScalar g j lawful exports w s knows grasps e (Known (record { sort = sort; number = n }))
      → IfMeant (IsOne (L base e)) (limit_number g base at n sort)
  number_limit base at n None i = if_where g _ at rule.OutOfRange (λ q. meant _ (limit_one base _ _ i refl))
  number_limit base at n (Some t) i = meant _ (limit_one base _ _ i refl)

  side_limit : {e : Expr} {v : Computed} (base : TypeNo) (at : Pos) (d : Option Side) → V e v → side_of v ≡ d
      → IfMeant (IsOne (L base e)) (limit_by g base at d)
  side_limit base at None i q = not_meant _
  side_limit base at (Some (side.Scalar (Known a))) i q =
      if_where g _ at rule.NotAssignable (λ z. number_limit base at a.number a.sort
      (scalar_is g j lawful exports w s knows grasps (Known a) i q))
  side_limit base at (Some (side.Scalar (Run b x))) i q =
      if_where g _ at rule.NotAssignable (λ z. meant _
      (limit_one base (Run b x) x (scalar_is g j lawful exports w s knows grasps (Run b x) i q) refl))
  side_limit base at (Some (side.Set x)) i q = not_meant _
  side_limit base at (Some (side.Routine t x)) i q = not_meant _
  side_limit base at (Some (side.Procedure p)) i q = not_meant _

  limit_so : (base : TypeNo) (at : Pos) (e : Expr)
      → IfMeant (IsOne (L base e)) (limit_at g at (Ok base) (value_of g s (meanings_of g e)))
  limit_so base at e = if_right g _ base (value_so g j lawful exports w s knows grasps e)
      (λ v i. side_limit base at (side_of v) i refl)

  -- ---- the start

  start_so : (t : TypeNo) (at : Pos) (e : Expr)
      → IfMeant (IsOne (Gives s.types w.spot.names exports w.senses t e))
      (start_at g s.types at (Ok t) (value_of g s (meanings_of g e)))
  start_so t at e = if_right g _ t (if_equal (value_of g s (meanings_of g e)))
      (λ v q. yielded_at g j lawful exports w s knows grasps rule.NotAssignable t at e v q)

  -- ---- the step

  abbrev F : Expr → Kind → Type 0
  F e k = Fixes s.types w.spot.names exports e (AConstant k)

  step_one : {e : Expr} (k : Kind) (a : Ordinal) → F e k → ((l : Kind) → F e l → l ≡ k)
      → IsExactly IsOrdinal (NumberOf k) a → IsOne (Steps s.types exports w (Some e)) a.number
  step_one {e = e} k a f one n = by n.kind n.is n.has n.one
    where
      by : (p : Option TypeNo × ℤ) → IsOrdinal a p → NumberOf k p → ((q : Option TypeNo × ℤ) → NumberOf k q → q ≡ p)
          → IsOne (Steps s.types exports w (Some e)) a.number
      by _ (is_ordinal _) h only = record {
        holds = rules.by_constant f (of_whole (a.sort, a.number) h.0 h.1);
        alone =
            λ m r. alone r;
      }
        where
          alone : {m : ℤ} → Steps s.types exports w (Some e) m → m ≡ a.number
          alone {m = m} (rules.by_constant {k = l} c i) = let z =
              whole_of (subst (λ (l : Kind). IsWholeConstant (operand l) m) (one l c) i) in
              ap (λ (q : Option TypeNo × ℤ). q.1) (only (z.0, m) (z.1, z.2))

  step_number_so : {e : Expr} (at : Pos) (k : Kind) → F e k → ((l : Kind) → F e l → l ≡ k) → (o : Option Ordinal)
      → IfMeant (IsExactly IsOrdinal (NumberOf k)) (ordinal_or_refusal g at o)
      → IfMeant (IsOne (Steps s.types exports w (Some e))) (step_number g at o)
  step_number_so at k f one None m = not_meant _
  step_number_so at k f one (Some a) (meant _ n) = if_where g _ at rule.ZeroStep (λ q. meant _ (step_one k a f one n))

  step_so : (by : Option Expr) → IfMeant (IsOne (Steps s.types exports w by)) (step_of g s (meant_if g by))
  step_so None = meant _ (record { holds = rules.by_one; alone = λ n r. alone r })
    where
      alone : {n : ℤ} → Steps s.types exports w None n → n ≡ pos 1
      alone rules.by_one = refl
  step_so (Some e) = if_then (of_answers g j (exactly_fixed g j lawful w.spot.names exports s knows e))
      (λ v i. step_number_so _ i.kind i.has i.one (whole_number v)
      (of_answers g j {O = λ f. ⊥} (number_answers g j lawful (λ f. ⊥) (meanings_of g e).fixed.at v i.kind i.is)))

  -- ---- the control variable

  abbrev Placed : Option Named → Control → Type 0
  Placed n c = n ≡ Some (Variable c.of c.place)

  class_placed : (at : Pos) (t : TypeNo) (p : Place) (c : Class)
      → IfMeant (Placed (Some (Variable t p))) (controlled_as g at t p c)
  class_placed at t p (class.Scalar r) = meant _ refl
  class_placed at t p class.Set = not_meant _
  class_placed at t p class.Procedure = not_meant _
  class_placed at t p class.Whole = not_meant _

  local_placed : (at : Pos) (v : LocalVariable) (k : LocalKind) (b : Bool)
      → IfMeant (Placed (Some (local_named s.level v k)))
      (reported_where g (not (is_own k && b)) at rule.WrongControl
      (control_variable g s.types at v.of (root_place (root.Local (slot_of s.level v)))))
  local_placed at v local.Variable true = class_placed at v.of _ (class_at s.types v.of)
  local_placed at v local.Variable false = not_meant _
  local_placed at v local.Value b = not_meant _
  local_placed at v local.Alias b = not_meant _
  local_placed at v local.Open b = not_meant _

  meaning_placed : (at : Pos) (m : Meaning) → IfMeant (Placed (named_by s.level m)) (control_by g s at m)
  meaning_placed at (meaning.Constant v) = not_meant _
  meaning_placed at (meaning.Type t n) = not_meant _
  meaning_placed at (meaning.Variable v) =
      if_where g (not (v.home == s.types.home)) at rule.WrongControl
      (λ q. class_placed at v.of _ (class_at s.types v.of))
  meaning_placed at (meaning.Local v) = local_placed at v v.kind (v.level == s.level)
  meaning_placed at (meaning.Field f) = not_meant _
  meaning_placed at (meaning.Procedure p) = not_meant _
  meaning_placed at (meaning.LocalProcedure p) = not_meant _
  meaning_placed at meaning.Ahead = not_meant _
  meaning_placed at (meaning.Standard f) = not_meant _
  meaning_placed at (meaning.Module k) = not_meant _

  placed : (name : Ident) → IfMeant (Placed (named w.senses.level (w.senses.of_names name))) (control_of g s name)
  placed name = if_then (if_sorted g name.pos rule.WrongControl (if_equal (looked_up g s name)))
      (λ m q. if_as (λ c h. ap (λ (l : ℕ). named l (w.senses.of_names name)) grasps.of_level
      ∙ (grasps.of_names name m q ∙ h)) (meaning_placed name.pos m))

  -- ---- all of it

  abbrev IsC : Ident → TypeNo → Range → Type 0
  IsC = IsControl s.types w.spot.names exports w.spot.own

  abbrev Ct : Ident → TypeNo → Place → Type 0
  Ct = Controls s.types exports w

  pub record IsControlled (name : Ident) (c : Control) : Type 0 where
    pub range : Range
    pub control : IsC name c.of range
    pub base : c.base ≡ range.base
    pub place : Ct name c.of c.place
    pub one : (t : TypeNo) (r : Range) → IsC name t r → (t ≡ c.of) × (r.base ≡ c.base)
    pub one_place : (t : TypeNo) (p : Place) → Ct name t p → p ≡ c.place

  module _ (owns : KnowsOwn g j w.spot.own s) where
    controlled : (name : Ident) → IfMeant (IsControlled name) (control_of g s name)
    controlled name = if_as (λ c p. by c p.0.kind p.0.is.0 p.0.is.1 p.0.has p.0.one p.1)
        (if_also (of_answers g j (control_answers g j lawful w.spot.names exports w.spot.own s knows owns name))
        (placed name))
      where
        by : (c : Control) (q : TypeNo × Range) → c.of ≡ q.0 → c.base ≡ q.1.base → IsC name q.0 q.1
            → ((r : TypeNo × Range) → IsC name r.0 r.1 → r ≡ q)
            → Placed (named w.senses.level (w.senses.of_names name)) c → IsControlled name c
        by c q of base has one n = record {
          range = q.1;
          control = subst (λ (t : TypeNo). IsC name t q.1) (sym of) has;
          base = base;
          place = rules.controls n;
          one = λ t r m. let e = one (t, r) m in
              (ap (λ (z : TypeNo × Range). z.0) e ∙ sym of, ap (λ (z : TypeNo × Range). z.1.base) e ∙ sym base);
          one_place = λ t p m. place m;
        }
          where
            place : {t : TypeNo} {p : Place} → Ct name t p → p ≡ c.place
            place (rules.controls h) = let e = sym n ∙ h in cc e

    pub record IsCourse (name : Ident) (start limit : Expr) (by : Option Expr) (c : Course) : Type 0 where
      pub control : IsControlled name c.control
      pub starts : IsOne (Gives s.types w.spot.names exports w.senses c.control.of start) c.start
      pub limits : IsOne (L c.control.base limit) c.limit
      pub steps : IsOne (Steps s.types exports w by) c.by

    refused_four : {A B C D E : Type 0} {Q : E → Type 0} (r : g.Reported) (b : Result B g.Reported)
        (cd : Result (C × D) g.Reported) (f : (A × B) × (C × D) → Result E g.Reported)
        → IfMeant Q (both g (both g (Err r) b) cd ▷ f)
    refused_four r (Ok b) (Ok c) f = not_meant _
    refused_four r (Ok b) (Err c) f = not_meant _
    refused_four r (Err b) (Ok c) f = not_meant _
    refused_four r (Err b) (Err c) f = not_meant _

    abbrev went : Expr → Expr → Option Expr → Result Control g.Reported → Result Course g.Reported
    went start limit by v = course g v (start_at g s.types (meanings_of g start).fixed.at (type_of v)
        (value_of g s (meanings_of g start)))
        (limit_at g (meanings_of g limit).fixed.at (base_of v) (value_of g s (meanings_of g limit)))
        (step_of g s (meant_if g by))

    course_by : (name : Ident) (start limit : Expr) (by : Option Expr) {v : Result Control g.Reported}
        → IfMeant (IsControlled name) v → IfMeant (IsCourse name start limit by) (went start limit by v)
    course_by name start limit by (meant c i) =
        if_then (if_both g (if_both g {P = λ d. d ≡ c} (meant c refl) (start_so c.of _ start))
        (if_both g (limit_so c.base _ limit) (step_so by))) (λ p q. meant _ (record {
          control = subst (IsControlled name) (sym q.0.0) i;
          starts = subst (λ (d : Control). IsOne (Gives s.types w.spot.names exports w.senses d.of start) p.0.1)
              (sym q.0.0)
              q.0.1;
          limits = subst (λ (d : Control). IsOne (L d.base limit) p.1.0) (sym q.0.0) q.1.0;
          steps = q.1.1;
        }))
    course_by name start limit by (not_meant r) = refused_four r _ _ _

    pub course_so : (name : Ident) (start limit : Expr) (by : Option Expr)
        → IfMeant (IsCourse name start limit by)
        (course_of g s name (meanings_of g start) (meanings_of g limit) (meant_if g by))
    course_so name start limit by = course_by name start limit by (controlled name)
