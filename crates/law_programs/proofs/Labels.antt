-- Labels of CASE: their bounds are numbers of 32 bits in order.
use Rattle.std.proofs.Common.{◌≡◌, ℕ, Bool, true, false, List, [], ◌∷◌, ◌++◌, Option, Some, None, Result, Ok, Err, refl, sym, ap, subst, ◌∙◌}
use Rattle.std.specs.Prelude.{◌≤ℤ◌, int_lt, if◌then◌else◌}
use Rattle.std.specs.List.{fold, list_all}
use Rattle.m2_rule.specs.declared.rule.Rule.TheVariants as rule
use Rattle.m2_tree.specs.declared.pos.Pos.{Pos}
use Rattle.m2_tree.specs.declared.expr.Expr.{Expr}
use Rattle.m2_tree.specs.declared.expr.Item.{Item, out-Item}
use Rattle.typed_tree.specs.declared.statement.Label.{Label}
use Rattle.typed_tree.specs.declared.known_types.Types.{Types}
use Rattle.typed_tree.specs.declared.types.TypeNo.{TypeNo}
use Rattle.typed_tree.specs.Types.{are_same, is_numeric}
use Rattle.check_scope.specs.declared.meaningless.Meaningless.{Meaningless}
use Rattle.check_scope.specs.declared.meaningless.Meaningless.TheVariants.{Broken, Headless}
use Rattle.check_scope.specs.Elaborated.{Gathers, report, reported_where, beside}
use Rattle.check_scope.specs.declared.scope.Scope.{Scope}
use Rattle.check_const.specs.declared.operand.Operand.{Operand}
use Rattle.check_const.specs.declared.operand.Operand.TheVariants as operand
use Rattle.check_const.specs.declared.operand.Ordinal.{Ordinal}
use Rattle.check_const.specs.Operands.{operand_of}
use Rattle.check_const.specs.Common.{common}
use Rattle.check_const.specs.Bounds.{fits_base, is_of_base, ordered_if}
use Rattle.check_value.specs.Classes.{class_at}
use Rattle.check_value.specs.declared.class.Class.{Class}
use Rattle.check_value.specs.declared.class.Class.TheVariants as class
use Rattle.check_value.specs.declared.computed.Computed.{Computed}
use Rattle.check_value.specs.declared.computed.Computed.TheVariants as value
use Rattle.check_value.specs.declared.computed.Designated.{Designated}
use Rattle.check_value.specs.declared.computed.Designated.TheVariants as designated
use Rattle.check_expr.specs.Meanings.{Meant, meanings_of}
use Rattle.layout_storage.specs.Types.{Ty}
use Rattle.law_simulation.specs.Scene.{IsLabel, AreLabels}
use Rattle.law_simulation.specs.TreesTyped.{Context}
use Rattle.law_well_formed.specs.Formed.{Holds, fine, broken}
use Rattle.law_well_formed.proofs.Basics.{then_holds, reported_holds, both_holds, any_holds}
use Rattle.law_well_formed.proofs.RangesTypes.{same_types, both_left, both_right}
use Rattle.law_well_formed.proofs.Subranges.{not_less, at_itself, beside_holds, SortRanged, OperandRanged, operand_ranged}
use Rattle.law_programs.specs.Typing.{ValueTyped, DesignatedTyped, IsTyped, ExpressionsAreTyped, fits_whole}
use Rattle.law_programs.proofs.Operators.{where_not}
use Rattle.check_stmt_parts.specs.Lists.{with_next}
use Rattle.check_stmt_parts.specs.Simple.{meant_if}
use Rattle.check_stmt_parts.specs.Ranges.{Range}
use Rattle.check_stmt_parts.specs.Labels.{Bound, of_type, no_constant, constant_bound, value_bound, variable_bound, bound_by, bound_in, bound_of, suits_base, bound_suits, Bounds, bounds_of, bounds_ordered, single, label_range, label_between, Labels, label_by, enter_label, with_label, item_label, with_item, labels_in}
use Rattle.law_programs.specs.TypingStmts.{fits_if, fits_label}
use Rattle.law_programs.proofs.StmtsSteps.{small}

-- ---- sorts of one base go together

record IsCommon (a b : Option TypeNo) : Type 0 where
  sort : Option TypeNo
  is : common a b ≡ Some sort

common_if : (t : TypeNo) → is_numeric t ≡ true → (if is_numeric t then Some (Some t) else None) ≡ Some (Some t)
common_if t e = ap (λ (b : Bool). if b then Some (Some t) else None) e

numeric_as : (t base : TypeNo) → are_same t base ≡ true → is_numeric base ≡ true → is_numeric t ≡ true
numeric_as t base e f = ap (λ (u : TypeNo). is_numeric u) (same_types t base e) ∙ f

same_through : (t u base : TypeNo) → are_same t base ≡ true → are_same u base ≡ true → are_same t u ≡ true
same_through t u base e f = ap (λ (v : TypeNo). are_same t v) (same_types u base f) ∙ e

common_base : (base : TypeNo) (a b : Option TypeNo) → is_of_base base a ≡ true → is_of_base base b ≡ true → IsCommon a b
common_base base None None e f = record { sort = None; is = refl }
common_base base None (Some t) e f = record { sort = Some t; is = common_if t (numeric_as t base f e) }
common_base base (Some t) None e f = record { sort = Some t; is = common_if t (numeric_as t base e f) }
common_base base (Some t) (Some u) e f =
    record { sort = Some t; is = ap (λ (b : Bool). if b then Some (Some t) else None) (same_through t u base e f) }

module _ (g : Gathers) (x : Context) (ws : List Ty) (opens : ℕ → Bool) (s : Scope g.Reported)
    (h : IsTyped g x ws opens s) where
  abbrev types : Types
  types = x.home.types

  abbrev IsInSort : Ordinal → Type 0
  IsInSort a = SortRanged types a.sort a.number

  abbrev InSort : Option Ordinal → Type 0
  InSort None = Unit {0}
  InSort (Some a) = IsInSort a

  -- ---- bounds

  constant_typed : (base : TypeNo) (at : Pos) (o : Option Operand) → OperandRanged types o
      → Holds InSort (constant_bound g (Some base) at o)
  constant_typed base at None p = reported_holds g at rule.WrongType
  constant_typed base at (Some (operand.Set bits)) p = reported_holds g at rule.WrongType
  constant_typed base at (Some (operand.Scalar a)) p = fine (Some a) p

  reported_label : (label : Pos) → Holds (λ (a : Option Ordinal). ⊥)
      (report g {A = Option Ordinal} label rule.WrongLabel)
  reported_label label = reported_holds g label rule.WrongLabel

  none_typed : (alike : Bool) (label at : Pos) → Holds InSort (no_constant g alike label at)
  none_typed alike label at = then_holds (both_holds g (any_holds (of_type g alike at)) (reported_label label))
      (λ v k. absurd k.1)

  value_typed : (base : TypeNo) (label at : Pos) (v : Computed) → ValueTyped x ws v
      → Holds InSort (value_bound g (Some base) label at v)
  value_typed base label at (value.Constant v) p = constant_typed base at (operand_of v) (operand_ranged types v p.0)
  value_typed base label at (value.Scalar t b e) p = none_typed (are_same b base) label at
  value_typed base label at (value.Set e) p = none_typed false label at
  value_typed base label at (value.Routine t e) p = none_typed false label at
  value_typed base label at (value.Procedure f) p = none_typed false label at
  value_typed base label at (value.Whole t d) p = none_typed false label at
  value_typed base label at value.Untaken p = none_typed false label at

  variable_typed : (base : TypeNo) (label at : Pos) (c : Class) → Holds InSort (variable_bound g (Some base) label at c)
  variable_typed base label at (class.Scalar k) = none_typed (are_same k.base base) label at
  variable_typed base label at class.Set = none_typed false label at
  variable_typed base label at class.Procedure = none_typed false label at
  variable_typed base label at class.Whole = none_typed false label at

  bound_by_typed : (base : TypeNo) (label at : Pos) (d : Designated) → DesignatedTyped x ws opens d
      → Holds InSort (bound_by g s.types (Some base) label at d)
  bound_by_typed base label at (designated.Value v) p = value_typed base label at v p
  bound_by_typed base label at (designated.Variable t d) p = variable_typed base label at (class_at s.types t)
  bound_by_typed base label at (designated.Open t slot) p = none_typed false label at
  bound_by_typed base label at (designated.Type t) p = none_typed false label at
  bound_by_typed base label at (designated.Procedure f) p = none_typed false label at
  bound_by_typed base label at (designated.Nested f) p = reported_holds g at rule.NoProcedureValue
  bound_by_typed base label at (designated.Standard f) p = reported_holds g at rule.NoProcedureValue
  bound_by_typed base label at (designated.Module k) p = none_typed false label at

  abbrev Known_ : Meant g.Reported → Type 0
  Known_ y = Holds (DesignatedTyped x ws opens) (y.means s)

  bound_in_typed : (base : TypeNo) (label at : Pos) {d : Result Designated (Meaningless g.Reported)}
      → Holds (DesignatedTyped x ws opens) d → Holds InSort (bound_in g s.types (Some base) label at d)
  bound_in_typed base label at (fine d k) = bound_by_typed base label at d k
  bound_in_typed base label at (broken (Broken e)) = broken e
  bound_in_typed base label at (broken (Headless true e)) = reported_holds g at rule.NoProcedureValue
  bound_in_typed base label at (broken (Headless false e)) = none_typed false label at

  bound_typed : (base : TypeNo) (label : Pos) (y : Meant g.Reported) → Known_ y
      → Holds InSort (bound_of g s (Some base) label y)
  bound_typed base label y p = bound_in_typed base label y.fixed.at p

  -- ---- labels

  abbrev AreBounds : Bounds → Type 0
  AreBounds None = Unit {0}
  AreBounds (Some b) = IsLabel (label_by b)

  label_of : (a b : Ordinal) → IsInSort a → IsInSort b → a.number ≤ℤ b.number → AreBounds (Some (a, b))
  label_of a b p q r = record {
    low = (small types h.all.ranged a.sort a.number p).0;
    order = r;
    high =
        (small types h.all.ranged b.sort b.number q).1;
  }

  single_typed : (base : TypeNo) (at : Pos) {a : Bound g.Reported} → Holds InSort a
      → Holds AreBounds (single g (Some base) at a)
  single_typed base at {a = a} p = then_holds (both_holds g p (any_holds (bound_suits g (Some base) at a)))
      (λ v k. fine (bounds_of v.0 v.0) (at_both v.0 k.0))
    where
      at_both : (o : Option Ordinal) → InSort o → AreBounds (bounds_of o o)
      at_both None q = tt
      at_both (Some o) q = label_of o o q q (at_itself o.number)

  suits_typed : (base : TypeNo) (at : Pos) (a : Ordinal)
      → Holds (λ u. is_of_base base a.sort ≡ true) (suits_base g (Some base) at a)
  suits_typed base at a = where_not g (is_of_base base a.sort) at rule.WrongType
      (λ e. then_any e (fits_base g at base a.sort a.number)) where
        then_any : {P : Type 0} → P → (r : Result (Unit {0}) g.Reported) → Holds (λ u. P) r
        then_any p (Ok u) = fine u p
        then_any p (Err e) = broken e

  abbrev Ordered : Ordinal → Ordinal → Option (Option TypeNo) → Type 0
  Ordered a b None = Unit {0}
  Ordered a b (Some sort) = a.number ≤ℤ b.number

  ordered_at : (a b : Ordinal) (o : Option (Option TypeNo)) (c : Option TypeNo) → o ≡ Some c → Ordered a b o
      → a.number ≤ℤ b.number
  ordered_at a b None c e p = absurd cc
  ordered_at a b (Some sort) c e p = p

  ordered_typed : (at : Pos) (a b : Ordinal) (o : Option (Option TypeNo))
      → Holds (λ u. Ordered a b o) (ordered_if g at a b o)
  ordered_typed at a b None = fine tt tt
  ordered_typed at a b (Some sort) = by (int_lt b.number a.number) refl where
    by : (q : Bool) → int_lt b.number a.number ≡ q
        → Holds (λ u. a.number ≤ℤ b.number) (reported_where g {A = Unit {0}} q at rule.EmptyRange (Ok (tt {0})))
    by true e = reported_holds g at rule.EmptyRange
    by false e = fine tt (not_less b.number a.number e)

  abbrev Third : TypeNo → Pos → Pos → Ordinal → Ordinal → Result (Unit {0}) g.Reported
  Third base at at' a b = beside g (beside g (suits_base g (Some base) at a) (suits_base g (Some base) at' b))
      (ordered_if g at a b (common a.sort b.sort))

  third_typed : (base : TypeNo) (at at' : Pos) (a b : Ordinal)
      → Holds (λ u. a.number ≤ℤ b.number) (Third base at at' a b)
  third_typed base at at' a b =
      weaker (λ k. let c = common_base base a.sort b.sort k.0.0 k.0.1 in
      ordered_at a b (common a.sort b.sort) c.sort c.is k.1)
      (beside_holds g (beside_holds g (suits_typed base at a) (suits_typed base at' b))
      (ordered_typed at a b (common a.sort b.sort)))
    where
      weaker : {P Q : Type 0} {r : Result (Unit {0}) g.Reported} → (P → Q) → Holds (λ u. P) r → Holds (λ u. Q) r
      weaker f (fine u p) = fine u (f p)
      weaker f (broken e) = broken e

  no_ordinal : (e : g.Reported) → Holds {A = Option Ordinal} (λ d. ⊥) (Err e)
  no_ordinal e = broken e

  two_bounds : (a b : Option Ordinal) → Holds {A = Option Ordinal × Option Ordinal} {T = g.Reported} (λ v. v ≡ (a, b))
      (Ok (a, b))
  two_bounds a b = fine (a, b) refl

  abbrev Besides : TypeNo → Pos → Pos → Bound g.Reported → Bound g.Reported → Result (Unit {0}) g.Reported
  Besides base at at' a b = beside g (beside g (bound_suits g (Some base) at a) (bound_suits g (Some base) at' b))
      (bounds_ordered g at a b)

  abbrev BoundsOf : Option Ordinal × Option Ordinal → Type 0
  BoundsOf z = AreBounds (bounds_of z.0 z.1)

  without_typed : (base : TypeNo) (at at' : Pos) (a b : Option Ordinal) → BoundsOf (a, b)
      → Holds AreBounds (label_range g (Some base) at (Ok a) at' (Ok b))
  without_typed base at at' a b p = then_holds
      (both_holds g (two_bounds a b) (any_holds (Besides base at at' (Ok a) (Ok b))))
      (λ v k. fine (bounds_of v.0.0 v.0.1) (subst BoundsOf (sym k.0) p))

  spanned_typed : (base : TypeNo) (at : Pos) {a : Bound g.Reported} (at' : Pos) {b : Bound g.Reported} → Holds InSort a
      → Holds InSort b → Holds AreBounds (label_range g (Some base) at a at' b)
  spanned_typed base at at' (fine (Some a) p) (fine (Some b) q) =
      then_holds (both_holds g (two_bounds (Some a) (Some b)) (third_typed base at at' a b)) (λ v k.
      fine (bounds_of v.0.0 v.0.1) (subst BoundsOf (sym k.0) (label_of a b p q k.1)))
  spanned_typed base at at' (fine (Some a) p) (fine None q) = without_typed base at at' (Some a) None tt
  spanned_typed base at at' (fine None p) (fine b q) = without_typed base at at' None b tt
  spanned_typed base at {a = a} at' {b = b} (fine k p) (broken e) =
      then_holds (both_holds g (both_holds g (any_holds a) (no_ordinal e)) (any_holds (Besides base at at' a b)))
      (λ v j. absurd j.0.1)
  spanned_typed base at {a = a} at' {b = b} (broken e) q =
      then_holds (both_holds g (both_holds g (no_ordinal e) (any_holds b)) (any_holds (Besides base at at' a b)))
      (λ v j. absurd j.0.0)

  abbrev KnownIf : Option (Meant g.Reported) → Type 0
  KnownIf None = Unit {0}
  KnownIf (Some y) = Known_ y

  between_typed : (base : TypeNo) (low : Meant g.Reported) (high : Option (Meant g.Reported)) → Known_ low
      → KnownIf high → Holds AreBounds (label_between g s (Some base) low high)
  between_typed base low None p q = single_typed base low.fixed.at (bound_typed base low.fixed.at low p)
  between_typed base low (Some high) p q =
      spanned_typed base low.fixed.at high.fixed.at (bound_typed base low.fixed.at low p)
      (bound_typed base low.fixed.at high q)

  -- ---- one after another

  labels_more : (ls : List Label) (l : Label) → AreLabels ls → IsLabel l → AreLabels (ls ++ l ∷ [])
  labels_more [] l p q = (q, tt)
  labels_more (y ∷ ls) l p q = (p.0, labels_more ls l p.1 q)

  next_label : {so : Result (List Label) g.Reported} {r : Result Label g.Reported} → Holds AreLabels so
      → Holds IsLabel r → Holds AreLabels (with_next g so r)
  next_label p q = then_holds (both_holds g p q) (λ v k. fine (v.0 ++ v.1 ∷ []) (labels_more v.0 v.1 k.0 k.1))

  with_typed : (at : Pos) (st : Labels g.Reported) {r : Result Bounds g.Reported} → Holds AreLabels st.1
      → Holds AreBounds r → Holds AreLabels (with_label g at st r).1
  with_typed at st p (fine None q) = p
  with_typed at st p (fine (Some b) q) = next_label p
      (where_not g (enter_label b st.0).1 at rule.WrongLabel (λ e. fine (label_by b) q))
  with_typed at st p (broken e) = next_label p (broken e)

  module _ (exprs : ExpressionsAreTyped g) where
    high_known : (o : Option Expr) → fits_if o ≡ true → KnownIf (meant_if g o)
    high_known None f = tt
    high_known (Some e) f = exprs x ws opens s h e f

    item_typed : (base : TypeNo) (i : Item) → fits_label i ≡ true → Holds AreBounds (item_label g s (Some base) i)
    item_typed base i f =
        between_typed base (meanings_of g (out-Item i).low) (meant_if g (out-Item i).high)
        (exprs x ws opens s h (out-Item i).low
        (both_left (fits_whole (out-Item i).low) (fits_if (out-Item i).high) f))
        (high_known (out-Item i).high (both_right (fits_whole (out-Item i).low) (fits_if (out-Item i).high) f))

    from_labels : (base : TypeNo) (is : List Item) (st : Labels g.Reported) → list_all fits_label is ≡ true
        → Holds AreLabels st.1 → Holds AreLabels (fold (with_item g s (Some base)) st is).1
    from_labels base [] st f p = p
    from_labels base (i ∷ is) st f p =
        from_labels base is (with_item g s (Some base) st i) (both_right (fits_label i) (list_all fits_label is) f)
        (with_typed (meanings_of g (out-Item i).low).fixed.at st p
        (item_typed base i (both_left (fits_label i) (list_all fits_label is) f)))

    pub labels_typed : (base : TypeNo) (ranges : List Range) (is : List Item) → list_all fits_label is ≡ true
        → Holds AreLabels (labels_in g s (Some base) ranges is).1
    labels_typed base ranges is f = from_labels base is (ranges, Ok []) f (fine [] tt)
