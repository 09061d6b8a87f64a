-- Scalars with the type that they have by themselves.
use Rattle.std.proofs.Common.{◌≡◌, ℕ, Bool, true, false, Option, Some, None, refl, sym, ap, subst, ◌∙◌}
use Rattle.std.specs.Prelude.{cond}
use Rattle.m2_rule.specs.declared.rule.Rule.TheVariants as rule
use Rattle.m2_tree.specs.declared.pos.Pos.{Pos}
use Rattle.m2_tree.specs.declared.name.Ident.{Ident}
use Rattle.m2_tree.specs.declared.expr.Expr.{Expr}
use Rattle.typed_tree.specs.declared.types.TypeNo.{TypeNo}
use Rattle.typed_tree.specs.declared.computed.TypedExpr.{TypedExpr}
use Rattle.typed_tree.specs.declared.meaning.Value.{Value as ConstantValue}
use Rattle.check_scope.specs.declared.scope.Scope.{Scope}
use Rattle.check_scope.specs.Elaborated.{Gathers}
use Rattle.check_const.specs.declared.operand.Ordinal.{Ordinal}
use Rattle.check_const.specs.declared.operand.Operand.{Operand}
use Rattle.check_const.specs.declared.operand.Operand.TheVariants as operands
use Rattle.check_const.specs.Operands.{operand_of, is_number}
use Rattle.check_const.specs.Standards.{scalar_part, if_number, whole_number}
use Rattle.check_value.specs.declared.computed.Computed.{Computed}
use Rattle.check_value.specs.declared.computed.Computed.TheVariants as computed
use Rattle.check_value.specs.declared.side.Amount.{Amount as Sided}
use Rattle.check_value.specs.declared.side.Amount.TheVariants.{Known, Run}
use Rattle.check_value.specs.declared.side.Side.{Side}
use Rattle.check_value.specs.declared.side.Side.TheVariants as side
use Rattle.check_value.specs.Sides.{side_of, constant_side, run_of}
use Rattle.check_value.specs.Effects.{known_amount, amount, element_known, set_element}
use Rattle.check_expr.specs.Meanings.{meanings_of}
use Rattle.check_stmt_parts.specs.Simple.{selector_amount, selector_of, case_selector}
use Rattle.def_typing.specs.Amounts.{Amount, Constant, Value}
use Rattle.def_typing.specs.Operators.{Kind, Scalar, operand}
use Rattle.def_typing.specs.Things.{Standing}
use Rattle.def_typing.specs.Cases.{SelectsIn, value_type}
use Rattle.def_typing.specs.Expressions.{Has}
use Rattle.law_typing.specs.Judging.{Judges}
use Rattle.law_typing.specs.Exact.{Knows}
use Rattle.law_typing.proofs.Combining.{Lawful}
use Rattle.law_typing.proofs.Selectors.{constant_in, one_base}
use Rattle.def_typed.specs.Coded as coded
use Rattle.def_typed.specs.Coded.{At}
use Rattle.def_typed.specs.Expressions.{HasCode}
use Rattle.def_typed.specs.Statements as rules
use Rattle.def_typed.specs.Statements.{Site, Measures}
use Rattle.law_typed.specs.Typed.{code_of, Grasps}
use Rattle.law_typed.proofs.Meant.{IfMeant, meant, not_meant, if_then, if_where}
use Rattle.law_typed.proofs.Operators.{SideIs, side_known, side_run, side_is, at_one}
use Rattle.law_typed.proofs.Values.{IsValue}
use Rattle.law_typed.proofs.Assigning.{value_so}

-- ---- scalars as operators see them

abbrev pub amount_of : Sided → Amount
amount_of (Known a) = Constant a.sort a.number
amount_of (Run b x) = Value b

abbrev pub code_in : Sided → Option TypedExpr
code_in (Known a) = None
code_in (Run b x) = Some x

side_scalar : {p : Sided} {k : Kind} {c : Option TypedExpr} → SideIs (Some (side.Scalar p)) k c
    → (k ≡ Scalar (amount_of p)) × (c ≡ code_in p)
side_scalar (side_known a) = (refl, refl)
side_scalar (side_run t x) = (refl, refl)

pub at_run : (p : Sided) (t : TypeNo) → At t (Scalar (amount_of p)) (code_in p) (run_of t p)
at_run (Known a) t = coded.constant
at_run (Run b x) t = coded.computed

selects : (p : Sided) → SelectsIn (amount_of p) (selector_amount p).0
selects (Known a) = constant_in a.number a.sort
selects (Run b x) = value_type

selected_at : (p : Sided) → At (selector_amount p).0 (Scalar (amount_of p)) (code_in p) (selector_amount p).1
selected_at (Known a) = coded.constant
selected_at (Run b x) = coded.computed

module _ (g : Gathers) (j : Judges g) (lawful : Lawful g j) (exports : ℕ → Ident → Standing) (w : Site)
    (s : Scope g.Reported) (knows : Knows g j w.spot.names exports s) (grasps : Grasps g w.senses s) where
  abbrev V : Expr → Computed → Type 0
  V = IsValue g j lawful w.spot.names exports w.senses s knows

  abbrev H : Expr → Kind → Type 0
  H = Has s.types w.spot.names exports

  abbrev HC : Expr → Kind → Option TypedExpr → Type 0
  HC = HasCode s.types w.spot.names exports w.senses

  abbrev M : Expr → TypeNo → TypedExpr → Type 0
  M = Measures s.types exports w

  -- what is known of a scalar
  pub record IsScalar (e : Expr) (p : Sided) : Type 0 where
    pub kind : Kind
    pub has : H e kind
    pub scalar : operand kind ≡ Scalar (amount_of p)
    pub code : HC e kind (code_in p)
    pub same : (k : Kind) (a : Amount) (c : Option TypedExpr) → H e k → operand k ≡ Scalar a → HC e k c
        → (a ≡ amount_of p) × (c ≡ code_in p)

  pub scalar_is : {e : Expr} {v : Computed} (p : Sided) → V e v → side_of v ≡ Some (side.Scalar p) → IsScalar e p
  scalar_is {e = e} {v = v} p i q = record {
    kind = i.kind;
    has = i.has;
    scalar = z.0;
    code =
        subst (HC e i.kind) z.1 i.code;
    same = λ k a c h o r. same h o r;
  }
    where
      z : (operand i.kind ≡ Scalar (amount_of p)) × (code_of v ≡ code_in p)
      z = side_scalar (subst (λ (d : Option Side). SideIs d (operand i.kind) (code_of v)) q (side_is i.is))

      same : {k : Kind} {a : Amount} {c : Option TypedExpr} → H e k → operand k ≡ Scalar a → HC e k c
          → (a ≡ amount_of p) × (c ≡ code_in p)
      same {k = k} {a = a} {c = c} h o r = let u : k ≡ i.kind = i.one k h in
          let y : Scalar a ≡ Scalar (amount_of p) = sym o ∙ (ap operand u ∙ z.0) in
          (cc y, i.alone c (subst (λ (k : Kind). HC e k c) u r) ∙ z.1)

  -- ---- by its own type

  pub record IsMeasured (e : Expr) (q : TypeNo × TypedExpr) : Type 0 where
    pub holds : M e q.0 q.1
    pub alone : (t : TypeNo) (x : TypedExpr) → M e t x → (t ≡ q.0) × (x ≡ q.1)

  measured_by : {e : Expr} (p : Sided) → IsScalar e p → IsMeasured e (selector_amount p)
  measured_by {e = e} p i = record {
    holds = rules.measures i.has i.scalar (selects p) i.code (selected_at p);
    alone =
        λ t x m. alone m;
  }
    where
      alone : {t : TypeNo} {x : TypedExpr} → M e t x → (t ≡ (selector_amount p).0) × (x ≡ (selector_amount p).1)
      alone {t = t} {x = x} (rules.measures {k = k} {a = a} {c = c} h o l r y) = let z = i.same k a c h o r in
          let u : t ≡ (selector_amount p).0 = one_base (selects p) (subst (λ (a : Amount). SelectsIn a t) z.0 l) in (
            u,
            at_one (selected_at p) (subst (λ (t : TypeNo). At t (Scalar (amount_of p)) (code_in p) x) u
                (subst (λ (a : Amount). At t (Scalar a) (code_in p) x) z.0
                (subst (λ (c : Option TypedExpr). At t (Scalar a) c x) z.1 y))),
          )

  abbrev pub Measuring : Expr → TypedExpr → Type 0
  Measuring e x = (t : TypeNo) × IsMeasured e (t, x)

  -- a constant, if it is a number
  number_of : (P : Ordinal → Type 0) (o : Option Operand) (h : (a : Ordinal) → o ≡ Some (operands.Scalar a) → P a)
      (Q : Option Ordinal → Type 0) → Q None → ((a : Ordinal) → P a → Q (Some a)) → Q (if_number (scalar_part o))
  number_of P None h Q n y = n
  number_of P (Some (operands.Set bits)) h Q n y = n
  number_of P (Some (operands.Scalar a)) h Q n y = by (is_number a.sort)
    where
      by : (b : Bool) → Q (cond b (Some a) None)
      by true = y a (h a refl)
      by false = n

  constant_measured : {e : Expr} (v : ConstantValue) → V e (computed.Constant v) → (Q : Option Ordinal → Type 0)
      → Q None → ((a : Ordinal) → IsMeasured e (selector_amount (Known a)) → Q (Some a)) → Q (whole_number v)
  constant_measured {e = e} v i Q n y = number_of (λ a. IsMeasured e (selector_amount (Known a))) (operand_of v)
      (λ a q. measured_by (Known a) (scalar_is (Known a) i (ap constant_side q))) Q n y

  pub amount_measured : {e : Expr} (at : Pos) (v : Computed) → V e v → IfMeant (Measuring e) (amount g at v)
  amount_measured {e = e} at (computed.Constant v) i =
      constant_measured v i (λ o. IfMeant (Measuring e) (known_amount g at o)) (not_meant _) (λ a m. meant _ (_, m))
  amount_measured at (computed.Scalar t b x) i =
      if_where g _ at rule.WrongArgument (λ q. meant _ (b, measured_by (Run b x) (scalar_is (Run b x) i refl)))
  amount_measured at (computed.Set x) i = not_meant _
  amount_measured at (computed.Routine t x) i = not_meant _
  amount_measured at (computed.Procedure p) i = not_meant _
  amount_measured at (computed.Whole t p) i = not_meant _
  amount_measured at computed.Untaken i = not_meant _

  pub element_measured : {e : Expr} (at : Pos) (v : Computed) → V e v → IfMeant (Measuring e) (set_element g at v)
  element_measured {e = e} at (computed.Constant v) i =
      constant_measured v i (λ o. IfMeant (Measuring e) (element_known g at o)) (not_meant _)
      (λ a m. if_where g _ at rule.OutOfRange (λ q. meant _ (_, m)))
  element_measured at (computed.Scalar t b x) i =
      if_where g _ at rule.WrongArgument (λ q. meant _ (b, measured_by (Run b x) (scalar_is (Run b x) i refl)))
  element_measured at (computed.Set x) i = not_meant _
  element_measured at (computed.Routine t x) i = not_meant _
  element_measured at (computed.Procedure p) i = not_meant _
  element_measured at (computed.Whole t p) i = not_meant _
  element_measured at computed.Untaken i = not_meant _

  side_measured : {e : Expr} {v : Computed} (at : Pos) (d : Option Side) → V e v → side_of v ≡ d
      → IfMeant (IsMeasured e) (selector_of g at d)
  side_measured at None i q = not_meant _
  side_measured at (Some (side.Scalar p)) i q = meant _ (measured_by p (scalar_is p i q))
  side_measured at (Some (side.Set x)) i q = not_meant _
  side_measured at (Some (side.Routine t x)) i q = not_meant _
  side_measured at (Some (side.Procedure p)) i q = not_meant _

  pub selector_measured : (e : Expr) → IfMeant (IsMeasured e) (case_selector g s (meanings_of g e))
  selector_measured e = if_then (value_so g j lawful exports w s knows grasps e)
      (λ v i. side_measured _ (side_of v) i refl)
