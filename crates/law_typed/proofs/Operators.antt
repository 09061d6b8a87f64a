-- Operators on values, as they stand in a typed tree.
use Rattle.std.proofs.Common.{◌≡◌, ℕ, pos, Bool, false, not, List, [], ◌∷◌, Option, Some, None, Result, Ok, Err, refl, sym, ap, subst, ◌∙◌}
use Rattle.std.specs.Prelude.{◌&&◌}
use Rattle.m2_rule.specs.declared.rule.Rule.TheVariants as rule
use Rattle.m2_tree.specs.declared.pos.Pos.{Pos}
use Rattle.m2_tree.specs.declared.expr.RelOp.TheVariants as rel
use Rattle.typed_tree.specs.declared.types.TypeNo.{TypeNo}
use Rattle.typed_tree.specs.declared.computed.Arithmetic.{Arithmetic}
use Rattle.typed_tree.specs.declared.computed.Comparison.{Comparison}
use Rattle.typed_tree.specs.declared.computed.Inclusion.{Inclusion}
use Rattle.typed_tree.specs.declared.computed.SetOperator.{SetOperator}
use Rattle.typed_tree.specs.declared.computed.Link.TheVariants as link
use Rattle.typed_tree.specs.declared.computed.TypedExpr.{TypedExpr}
use Rattle.typed_tree.specs.declared.computed.TypedExpr.TheVariants as expr
use Rattle.typed_tree.specs.declared.known_types.Types.{Types}
use Rattle.typed_tree.specs.declared.meaning.Procedure.{Procedure as ModuleProcedure}
use Rattle.typed_tree.specs.declared.meaning.Value.{Value as ConstantValue}
use Rattle.typed_tree.specs.declared.meaning.Value.TheVariants as value
use Rattle.typed_tree.specs.Chains.{link_operand}
use Rattle.typed_tree.specs.Types.{bitset, boolean}
use Rattle.check_scope.specs.Elaborated.{Gathers, report}
use Rattle.check_const.specs.declared.operand.Ordinal.{Ordinal}
use Rattle.check_const.specs.declared.operand.Operand.{Operand}
use Rattle.check_const.specs.declared.operator.BinaryOp.{BinaryOp}
use Rattle.check_const.specs.declared.operator.BinaryOp.TheVariants.{Plus, Minus, Times, Over, Div, Mod, And, Or, Relation}
use Rattle.check_const.specs.Operands.{is_number}
use Rattle.check_const.specs.Operate.{binary, takes}
use Rattle.check_value.specs.declared.computed.Computed.{Computed}
use Rattle.check_value.specs.declared.computed.Computed.TheVariants as computed
use Rattle.check_value.specs.declared.side.Amount.{Amount as Sided}
use Rattle.check_value.specs.declared.side.Amount.TheVariants.{Known, Run}
use Rattle.check_value.specs.declared.side.Side.{Side}
use Rattle.check_value.specs.declared.side.Side.TheVariants as side
use Rattle.check_value.specs.declared.operate.Step.{Step}
use Rattle.check_value.specs.declared.operate.Step.TheVariants as step
use Rattle.check_value.specs.declared.operate.SetStep.{SetStep}
use Rattle.check_value.specs.declared.operate.SetStep.TheVariants as set_step
use Rattle.check_value.specs.Sides as sides
use Rattle.check_value.specs.Sides.{side_of, known_of, run_of}
use Rattle.check_value.specs.Operations as elaborated
use Rattle.check_value.specs.Operations.{step_of, set_step_of, equality_of, is_in, between, by_known, operation_on, of_value}
use Rattle.def_typing.specs.Shapes.{Agree}
use Rattle.def_typing.specs.Amounts as k
use Rattle.def_typing.specs.Amounts.{Amount, Constant, Value, GoTogether}
use Rattle.def_typing.specs.Operators.{Kind, Scalar, Set, Text, Routine, Procedure, operand, AreRoutines, of_one_type, with_procedure, procedure_with}
use Rattle.law_typing.specs.Exact.{IsKind, kind_constant, kind_scalar, kind_set, kind_routine, kind_procedure, kind_whole, kind_untaken}
use Rattle.law_typing.proofs.Combining.{Decided, holds, fails_it, decided_as}
use Rattle.law_typing.proofs.Deciding.{TogetherIs, together, apart, common_is, truth_decided, same_decided}
use Rattle.law_typing.proofs.Shaping.{agree_decided}
use Rattle.def_typed.specs.Coded.{Calculates, Compares, Equates, Unites, Includes, At, constant, constant_set, computed as run, or_cardinal, Operates, calculation, conjunction, disjunction, scalar_comparison, set_operation, set_comparison, set_inclusion, membership, procedures}
use Rattle.def_typed.specs.Coded as coded
use Rattle.law_typed.specs.Typed.{IsOne, code_of}
use Rattle.law_typed.proofs.Meant.{IfMeant, meant, not_meant, if_then, if_where, if_reported, by_equal}

-- ---- operands with their code

pub data SideIs : Option Side → Kind → Option TypedExpr → Type 0 where
  side_known : (a : Ordinal) → SideIs (Some (side.Scalar (Known a))) (Scalar (Constant a.sort a.number)) None
  side_run : (t : TypeNo) (x : TypedExpr) → SideIs (Some (side.Scalar (Run t x))) (Scalar (Value t)) (Some x)
  side_bits : (bits : ℕ) → SideIs (Some (side.Set (expr.Constant bitset (pos bits)))) (Set (Some bits)) None
  side_set : (x : TypedExpr) → SideIs (Some (side.Set x)) (Set None) (Some x)
  side_routine : (t : TypeNo) (x : TypedExpr) → SideIs (Some (side.Routine t x)) (Routine t) (Some x)
  side_procedure : (p : ModuleProcedure) →
      SideIs (Some (side.Procedure p)) (Procedure p.heading) (Some (expr.Procedure p))
  no_side : {k : Kind} {c : Option TypedExpr} → SideIs None k c

text_side : (text : List ℕ) → SideIs (side_of (computed.Constant (value.Text text))) (operand (Text text)) None
text_side [] = no_side
text_side (c ∷ []) = side_known (record { sort = Some (record { home = _; number = _ }); number = pos c })
text_side (c ∷ d ∷ text) = no_side

pub side_is : {v : Computed} {k : Kind} → IsKind v k → SideIs (side_of v) (operand k) (code_of v)
side_is (kind_constant (value.Number n)) = side_known (record { sort = None; number = n })
side_is (kind_constant (value.Scalar s)) = side_known (record { sort = Some s.base; number = s.number })
side_is (kind_constant (value.Set bits)) = side_bits bits
side_is (kind_constant (value.Text text)) = text_side text
side_is (kind_scalar t base e) = side_run base e
side_is (kind_set e) = side_set e
side_is (kind_routine t e) = side_routine t e
side_is (kind_procedure p) = side_procedure p
side_is (kind_whole t d) = no_side
side_is kind_untaken = no_side

-- ---- code at a type

pub at_one : {t : TypeNo} {a : Kind} {c : Option TypedExpr} {x y : TypedExpr} → At t a c x → At t a c y → y ≡ x
at_one constant constant = refl
at_one constant_set constant_set = refl
at_one run run = refl

-- a scalar side, and a set
pub data ScalarIs : Sided → Amount → Option TypedExpr → Type 0 where
  is_known : (a : Ordinal) → ScalarIs (Known a) (Constant a.sort a.number) None
  is_run : (t : TypeNo) (x : TypedExpr) → ScalarIs (Run t x) (Value t) (Some x)

pub data SetIs : TypedExpr → Option ℕ → Option TypedExpr → Type 0 where
  is_bits : (bits : ℕ) → SetIs (expr.Constant bitset (pos bits)) (Some bits) None
  is_set : (x : TypedExpr) → SetIs x None (Some x)

pub scalar_at : {p : Sided} {a : Amount} {c : Option TypedExpr} (t : TypeNo) → ScalarIs p a c
    → At t (Scalar a) c (run_of t p)
scalar_at t (is_known a) = constant
scalar_at t (is_run u x) = run

pub set_at : {x : TypedExpr} {m : Option ℕ} {c : Option TypedExpr} → SetIs x m c → At bitset (Set m) c x
set_at (is_bits bits) = constant_set
set_at (is_set x) = run

pub sort_is : {p : Sided} {a : Amount} {c : Option TypedExpr} → ScalarIs p a c → sides.sort_of p ≡ k.sort_of a
sort_is (is_known a) = refl
sort_is (is_run t x) = refl

-- ---- which operator it is

calculates_one : {op : BinaryOp} {o q : Arithmetic} → Calculates op o → Calculates op q → q ≡ o
calculates_one coded.adds coded.adds = refl
calculates_one coded.subtracts coded.subtracts = refl
calculates_one coded.multiplies coded.multiplies = refl
calculates_one coded.divides coded.divides = refl
calculates_one coded.leaves coded.leaves = refl

compares_one : {op : BinaryOp} {o q : Comparison} → Compares op o → Compares op q → q ≡ o
compares_one coded.equal coded.equal = refl
compares_one coded.unequal coded.unequal = refl
compares_one coded.less coded.less = refl
compares_one coded.at_most coded.at_most = refl
compares_one coded.greater coded.greater = refl
compares_one coded.at_least coded.at_least = refl

equates_one : {op : BinaryOp} {o q : Comparison} → Equates op o → Equates op q → q ≡ o
equates_one coded.equates coded.equates = refl
equates_one coded.tells_apart coded.tells_apart = refl

unites_one : {op : BinaryOp} {o q : SetOperator} → Unites op o → Unites op q → q ≡ o
unites_one coded.union coded.union = refl
unites_one coded.difference coded.difference = refl
unites_one coded.intersection coded.intersection = refl
unites_one coded.symmetric_difference coded.symmetric_difference = refl

includes_one : {op : BinaryOp} {o q : Inclusion} → Includes op o → Includes op q → q ≡ o
includes_one coded.within coded.within = refl
includes_one coded.around coded.around = refl

-- what an operator is among scalars, and among sets
pub data Sort : Type 0 where
  Calculating : Sort
  Comparing : Sort
  Conjoining : Sort
  Disjoining : Sort
  Testing : Sort
  Other : Sort

abbrev sort_by : BinaryOp → Sort
sort_by Plus = Calculating
sort_by Minus = Calculating
sort_by Times = Calculating
sort_by Over = Other
sort_by Div = Calculating
sort_by Mod = Calculating
sort_by And = Conjoining
sort_by Or = Disjoining
sort_by (Relation rel.Equal) = Comparing
sort_by (Relation rel.Unequal) = Comparing
sort_by (Relation rel.Less) = Comparing
sort_by (Relation rel.AtMost) = Comparing
sort_by (Relation rel.Greater) = Comparing
sort_by (Relation rel.AtLeast) = Comparing
sort_by (Relation rel.In) = Testing

calculating : {op : BinaryOp} {o : Arithmetic} → Calculates op o → sort_by op ≡ Calculating
calculating coded.adds = refl
calculating coded.subtracts = refl
calculating coded.multiplies = refl
calculating coded.divides = refl
calculating coded.leaves = refl

comparing : {op : BinaryOp} {o : Comparison} → Compares op o → sort_by op ≡ Comparing
comparing coded.equal = refl
comparing coded.unequal = refl
comparing coded.less = refl
comparing coded.at_most = refl
comparing coded.greater = refl
comparing coded.at_least = refl

no_equates : {op : BinaryOp} {o : SetOperator} {q : Comparison} → Unites op o → Equates op q → ⊥
no_equates coded.union e = elim e [ ]
no_equates coded.difference e = elim e [ ]
no_equates coded.intersection e = elim e [ ]
no_equates coded.symmetric_difference e = elim e [ ]

no_includes : {op : BinaryOp} {o : SetOperator} {q : Inclusion} → Unites op o → Includes op q → ⊥
no_includes coded.union e = elim e [ ]
no_includes coded.difference e = elim e [ ]
no_includes coded.intersection e = elim e [ ]
no_includes coded.symmetric_difference e = elim e [ ]

no_inclusion : {op : BinaryOp} {o : Comparison} {q : Inclusion} → Equates op o → Includes op q → ⊥
no_inclusion coded.equates e = elim e [ ]
no_inclusion coded.tells_apart e = elim e [ ]

-- ---- one operation on scalars

at_same : {sort : Option TypeNo} {e : Amount} {c : Option TypedExpr} {s : Option TypeNo} {x z : TypedExpr}
    → At (or_cardinal sort) (Scalar e) c x → s ≡ sort → At (or_cardinal s) (Scalar e) c z → z ≡ x
at_same {e = e} {c = c} {z = z} h q l = at_one h (subst (λ (s : Option TypeNo). At (or_cardinal s) (Scalar e) c z) q l)

boolean_at : {sort : Option TypeNo} {e : Amount} {c : Option TypedExpr} {x : TypedExpr} → sort ≡ Some boolean
    → At (or_cardinal sort) (Scalar e) c x → At boolean (Scalar e) c x
boolean_at {e = e} {c = c} {x = x} t h = subst (λ (s : Option TypeNo). At (or_cardinal s) (Scalar e) c x) t h

module _ (types : Types) (op : BinaryOp) {a b : Amount} {sort : Option TypeNo}
    (unique : (s : Option TypeNo) → GoTogether (k.sort_of a) (k.sort_of b) s → s ≡ sort) where
  calculated_one : {c d : Option TypedExpr} {x y : TypedExpr} → At (or_cardinal sort) (Scalar a) c x
      → At (or_cardinal sort) (Scalar b) d y → {o : Arithmetic} → Calculates op o → (z : TypedExpr)
      → Operates types op (Scalar a) c (Scalar b) d z → z ≡ link_operand x (link.Arithmetic o (or_cardinal sort) y)
  calculated_one h m calc _ (calculation {sort = s} q w l r) = let e = unique s w in
      cc (e, calculates_one calc q, at_same h e l, at_same m e r)
  calculated_one h m calc _ (conjunction e l r) = absurd cc (calculating calc, ap sort_by e)
  calculated_one h m calc _ (disjunction e l r) = absurd cc (calculating calc, ap sort_by e)
  calculated_one h m calc _ (scalar_comparison q w l r) = absurd cc (calculating calc, comparing q)
  calculated_one h m calc _ (procedures q r) = elim r [ ]

  compared_one : {c d : Option TypedExpr} {x y : TypedExpr} → At (or_cardinal sort) (Scalar a) c x
      → At (or_cardinal sort) (Scalar b) d y → {o : Comparison} → Compares op o → (z : TypedExpr)
      → Operates types op (Scalar a) c (Scalar b) d z → z ≡ expr.Compare o x y
  compared_one h m calc _ (calculation q w l r) = absurd cc (comparing calc, calculating q)
  compared_one h m calc _ (conjunction e l r) = absurd cc (comparing calc, ap sort_by e)
  compared_one h m calc _ (disjunction e l r) = absurd cc (comparing calc, ap sort_by e)
  compared_one h m calc _ (scalar_comparison {sort = s} q w l r) = let e = unique s w in
      cc (compares_one calc q, at_same h e l, at_same m e r)
  compared_one h m calc _ (procedures q r) = elim r [ ]

  module _ (t : sort ≡ Some boolean) where
    conjoined_one : {c d : Option TypedExpr} {x y : TypedExpr} → At (or_cardinal sort) (Scalar a) c x
        → At (or_cardinal sort) (Scalar b) d y → op ≡ And → (z : TypedExpr)
        → Operates types op (Scalar a) c (Scalar b) d z → z ≡ link_operand x (link.And y)
    conjoined_one h m o _ (calculation q w l r) = absurd cc (ap sort_by o, calculating q)
    conjoined_one h m o _ (conjunction e l r) =
        cc (at_same {s = Some boolean} h (sym t) l, at_same {s = Some boolean} m (sym t) r)
    conjoined_one h m o _ (disjunction e l r) = absurd cc (ap sort_by o, ap sort_by e)
    conjoined_one h m o _ (scalar_comparison q w l r) = absurd cc (ap sort_by o, comparing q)
    conjoined_one h m o _ (procedures q r) = elim r [ ]

    disjoined_one : {c d : Option TypedExpr} {x y : TypedExpr} → At (or_cardinal sort) (Scalar a) c x
        → At (or_cardinal sort) (Scalar b) d y → op ≡ Or → (z : TypedExpr)
        → Operates types op (Scalar a) c (Scalar b) d z → z ≡ link_operand x (link.Or y)
    disjoined_one h m o _ (calculation q w l r) = absurd cc (ap sort_by o, calculating q)
    disjoined_one h m o _ (conjunction e l r) = absurd cc (ap sort_by o, ap sort_by e)
    disjoined_one h m o _ (disjunction e l r) =
        cc (at_same {s = Some boolean} h (sym t) l, at_same {s = Some boolean} m (sym t) r)
    disjoined_one h m o _ (scalar_comparison q w l r) = absurd cc (ap sort_by o, comparing q)
    disjoined_one h m o _ (procedures q r) = elim r [ ]

-- ---- answers

-- What is answered with code is coded so.
abbrev pub Coded : (TypedExpr → Type 0) → Computed → Type 0
Coded P v = (x : TypedExpr) → code_of v ≡ Some x → IsOne P x

pub one_by : {P : TypedExpr → Type 0} {x z : TypedExpr} → P x → ((y : TypedExpr) → P y → y ≡ x) → Some x ≡ Some z
    → IsOne P z
one_by {P = P} {x = x} {z = z} h u e = subst (IsOne P) (cc e) (record { holds = h; alone = u })

pub coded_as : {R : Type 0} {P : TypedExpr → Type 0} (v : Computed) (x : TypedExpr) → code_of v ≡ Some x → P x
    → ((y : TypedExpr) → P y → y ≡ x) → IfMeant {R = R} (Coded P) (Ok v)
coded_as v x q h u = meant v (λ z e. one_by h u (sym q ∙ e))

pub constant_coded : {R : Type 0} {P : TypedExpr → Type 0} (r : Result ConstantValue R) → IfMeant (Coded P) (of_value r)
constant_coded (Ok v) = meant (computed.Constant v) (λ z e. absurd cc)
constant_coded (Err r) = not_meant r

module _ (g : Gathers) (types : Types) (spot left right : Pos) where
  abbrev pub Operating : BinaryOp → Kind → Option TypedExpr → Kind → Option TypedExpr → Result Computed g.Reported
      → Type 0
  Operating op a c b d r = IfMeant (Coded (Operates types op a c b d)) r

  none : {op : BinaryOp} {a b : Kind} {c d : Option TypedExpr} → Operating op a c b d (report g spot rule.WrongType)
  none = if_reported g spot rule.WrongType

  -- ---- scalars

  module _ {p q : Sided} {a b : Amount} {c d : Option TypedExpr} (i : ScalarIs p a c) (m : ScalarIs q b d)
      (sort : Option TypeNo) (tog : GoTogether (k.sort_of a) (k.sort_of b) sort)
      (unique : (s : Option TypeNo) → GoTogether (k.sort_of a) (k.sort_of b) s → s ≡ sort) where
    abbrev Made : BinaryOp → Option Step → Type 0
    Made op z = Operating op (Scalar a) c (Scalar b) d (elaborated.step_or_refusal g spot sort p q z)

    calculation_coded : {op : BinaryOp} {o : Arithmetic} → Calculates op o → Made op (Some (step.Arithmetic o))
    calculation_coded {op = op} {o = o} calc =
        coded_as _ (link_operand (run_of (or_cardinal sort) p)
        (link.Arithmetic o (or_cardinal sort) (run_of (or_cardinal sort) q))) refl
        (calculation calc tog (scalar_at _ i) (scalar_at _ m))
        (calculated_one types op unique (scalar_at _ i) (scalar_at _ m) calc)

    comparison_coded : {op : BinaryOp} {o : Comparison} → Compares op o → Made op (Some (step.Compare o))
    comparison_coded {op = op} {o = o} comp =
        coded_as _ (expr.Compare o (run_of (or_cardinal sort) p) (run_of (or_cardinal sort) q)) refl
        (scalar_comparison comp tog (scalar_at _ i) (scalar_at _ m))
        (compared_one types op unique (scalar_at _ i) (scalar_at _ m) comp)

    conjunction_coded : sort ≡ Some boolean → Made And (Some step.And)
    conjunction_coded t = coded_as _ (link_operand (run_of (or_cardinal sort) p)
        (link.And (run_of (or_cardinal sort) q))) refl
        (conjunction refl (boolean_at t (scalar_at _ i)) (boolean_at t (scalar_at _ m)))
        (conjoined_one types And unique t (scalar_at _ i) (scalar_at _ m) refl)

    disjunction_coded : sort ≡ Some boolean → Made Or (Some step.Or)
    disjunction_coded t = coded_as _ (link_operand (run_of (or_cardinal sort) p)
        (link.Or (run_of (or_cardinal sort) q))) refl
        (disjunction refl (boolean_at t (scalar_at _ i)) (boolean_at t (scalar_at _ m)))
        (disjoined_one types Or unique t (scalar_at _ i) (scalar_at _ m) refl)

    truth_of : {b : Bool} → Decided (sort ≡ Some boolean) b → not b ≡ false → sort ≡ Some boolean
    truth_of (holds t) e = t
    truth_of (fails_it n) e = absurd cc

    by_operator : (op : BinaryOp) → not (takes op sort) ≡ false → Made op (step_of op)
    by_operator Plus t = calculation_coded coded.adds
    by_operator Minus t = calculation_coded coded.subtracts
    by_operator Times t = calculation_coded coded.multiplies
    by_operator Over t = none
    by_operator Div t = calculation_coded coded.divides
    by_operator Mod t = calculation_coded coded.leaves
    by_operator And t = conjunction_coded (truth_of (truth_decided sort) t)
    by_operator Or t = disjunction_coded (truth_of (truth_decided sort) t)
    by_operator (Relation rel.Equal) t = comparison_coded coded.equal
    by_operator (Relation rel.Unequal) t = comparison_coded coded.unequal
    by_operator (Relation rel.Less) t = comparison_coded coded.less
    by_operator (Relation rel.AtMost) t = comparison_coded coded.at_most
    by_operator (Relation rel.Greater) t = comparison_coded coded.greater
    by_operator (Relation rel.AtLeast) t = comparison_coded coded.at_least
    by_operator (Relation rel.In) t = none

    pub scalars_coded : (op : BinaryOp) → Operating op (Scalar a) c (Scalar b) d
        (elaborated.on_amounts g op spot left p right q (Some sort))
    scalars_coded op = if_then {P = λ u. not (takes op sort) ≡ false}
        (if_where g (not (takes op sort)) spot rule.WrongType (λ e. by_equal _ (λ u q. e))) (λ u e. by_operator op e)

  -- ---- sets

  module _ {x y : TypedExpr} {m n : Option ℕ} {c d : Option TypedExpr} (i : SetIs x m c) (h : SetIs y n d) where
    abbrev OnSets : BinaryOp → Option SetStep → Type 0
    OnSets op z = Operating op (Set m) c (Set n) d (elaborated.on_sets g spot x y z)

    united_one : {op : BinaryOp} {o : SetOperator} → Unites op o → (z : TypedExpr)
        → Operates types op (Set m) c (Set n) d z → z ≡ link_operand x (link.Combine o y)
    united_one = united (set_at i) (set_at h)
      where
        united : {c d : Option TypedExpr} {x y : TypedExpr} → At bitset (Set m) c x → At bitset (Set n) d y
            → {op : BinaryOp} {o : SetOperator} → Unites op o → (z : TypedExpr)
            → Operates types op (Set m) c (Set n) d z → z ≡ link_operand x (link.Combine o y)
        united a b u _ (set_operation q l r) = cc (unites_one u q, at_one a l, at_one b r)
        united a b u _ (set_comparison q l r) = absurd (no_equates u q)
        united a b u _ (set_inclusion q l r) = absurd (no_includes u q)
        united a b u _ (procedures q r) = elim r [ ]

    equated_one : {op : BinaryOp} {o : Comparison} → Equates op o → (z : TypedExpr)
        → Operates types op (Set m) c (Set n) d z → z ≡ expr.Compare o x y
    equated_one = equated (set_at i) (set_at h)
      where
        equated : {c d : Option TypedExpr} {x y : TypedExpr} → At bitset (Set m) c x → At bitset (Set n) d y
            → {op : BinaryOp} {o : Comparison} → Equates op o → (z : TypedExpr)
            → Operates types op (Set m) c (Set n) d z → z ≡ expr.Compare o x y
        equated a b u _ (set_operation q l r) = absurd (no_equates q u)
        equated a b u _ (set_comparison q l r) = cc (equates_one u q, at_one a l, at_one b r)
        equated a b u _ (set_inclusion q l r) = absurd (no_inclusion u q)
        equated a b u _ (procedures q r) = elim r [ ]

    included_one : {op : BinaryOp} {o : Inclusion} → Includes op o → (z : TypedExpr)
        → Operates types op (Set m) c (Set n) d z → z ≡ expr.Include o x y
    included_one = included (set_at i) (set_at h)
      where
        included : {c d : Option TypedExpr} {x y : TypedExpr} → At bitset (Set m) c x → At bitset (Set n) d y
            → {op : BinaryOp} {o : Inclusion} → Includes op o → (z : TypedExpr)
            → Operates types op (Set m) c (Set n) d z → z ≡ expr.Include o x y
        included a b u _ (set_operation q l r) = absurd (no_includes q u)
        included a b u _ (set_comparison q l r) = absurd (no_inclusion q u)
        included a b u _ (set_inclusion q l r) = cc (includes_one u q, at_one a l, at_one b r)
        included a b u _ (procedures q r) = elim r [ ]

    united_coded : {op : BinaryOp} {o : SetOperator} → Unites op o → OnSets op (Some (set_step.Combine o))
    united_coded u = coded_as _ _ refl (set_operation u (set_at i) (set_at h)) (united_one u)

    equated_coded : {op : BinaryOp} {o : Comparison} → Equates op o → OnSets op (Some (set_step.Compare o))
    equated_coded u = coded_as _ _ refl (set_comparison u (set_at i) (set_at h)) (equated_one u)

    included_coded : {op : BinaryOp} {o : Inclusion} → Includes op o → OnSets op (Some (set_step.Include o))
    included_coded u = coded_as _ _ refl (set_inclusion u (set_at i) (set_at h)) (included_one u)

    pub sets_coded : (op : BinaryOp) → OnSets op (set_step_of op)
    sets_coded Plus = united_coded coded.union
    sets_coded Minus = united_coded coded.difference
    sets_coded Times = united_coded coded.intersection
    sets_coded Over = united_coded coded.symmetric_difference
    sets_coded Div = none
    sets_coded Mod = none
    sets_coded And = none
    sets_coded Or = none
    sets_coded (Relation rel.Equal) = equated_coded coded.equates
    sets_coded (Relation rel.Unequal) = equated_coded coded.tells_apart
    sets_coded (Relation rel.Less) = none
    sets_coded (Relation rel.AtMost) = included_coded coded.within
    sets_coded (Relation rel.Greater) = none
    sets_coded (Relation rel.AtLeast) = included_coded coded.around
    sets_coded (Relation rel.In) = none

  -- ---- membership

  module _ {p : Sided} {a : Amount} {y : TypedExpr} {n : Option ℕ} {c d : Option TypedExpr} (i : ScalarIs p a c)
      (h : SetIs y n d) where
    element_at : At (or_cardinal (k.sort_of a)) (Scalar a) c (run_of (or_cardinal (sides.sort_of p)) p)
    element_at = subst (λ (t : Option TypeNo). At (or_cardinal t) (Scalar a) c
        (run_of (or_cardinal (sides.sort_of p)) p)) (sort_is i) (scalar_at (or_cardinal (sides.sort_of p)) i)

    member_one : (z : TypedExpr) → Operates types (Relation rel.In) (Scalar a) c (Set n) d z
        → z ≡ expr.In (run_of (or_cardinal (sides.sort_of p)) p) y
    member_one = members element_at (set_at h)
      where
        members : {c d : Option TypedExpr} {x y : TypedExpr} → At (or_cardinal (k.sort_of a)) (Scalar a) c x
            → At bitset (Set n) d y → (z : TypedExpr) → Operates types (Relation rel.In) (Scalar a) c (Set n) d z
            → z ≡ expr.In x y
        members l r _ (membership o u w) = cc (at_one l u, at_one r w)
        members l r _ (procedures q w) = elim w [ ]

    pub member_coded : (op : BinaryOp) → Operating op (Scalar a) c (Set n) d (elaborated.member g op spot left p y)
    member_coded Plus = none
    member_coded Minus = none
    member_coded Times = none
    member_coded Over = none
    member_coded Div = none
    member_coded Mod = none
    member_coded And = none
    member_coded Or = none
    member_coded (Relation rel.Equal) = none
    member_coded (Relation rel.Unequal) = none
    member_coded (Relation rel.Less) = none
    member_coded (Relation rel.AtMost) = none
    member_coded (Relation rel.Greater) = none
    member_coded (Relation rel.AtLeast) = none
    member_coded (Relation rel.In) = if_where g (not (is_in (Relation rel.In) && is_number (sides.sort_of p))) spot
        rule.WrongType
        (λ e. if_then {P = λ u. Unit {0}} (by_equal _ (λ u q. tt))
        (λ u t. coded_as _ _ refl (membership refl element_at (set_at h)) member_one))

  -- ---- procedures

  procedures_one : {op : BinaryOp} {o : Comparison} {a b : Kind} {x y : TypedExpr} → Equates op o
      → AreRoutines types a b → (z : TypedExpr) → Operates types op a (Some x) b (Some y) z → z ≡ expr.Compare o x y
  procedures_one u of_one_type _ (procedures q r) = cc (equates_one u q)
  procedures_one u (with_procedure s) _ (procedures q r) = cc (equates_one u q)
  procedures_one u (procedure_with s) _ (procedures q r) = cc (equates_one u q)

  procedures_coded : {a b : Kind} {fit : Bool} (x y : TypedExpr) (op : BinaryOp) → Decided (AreRoutines types a b) fit
      → Operating op a (Some x) b (Some y) (elaborated.on_procedures g spot fit x y (equality_of op))
  procedures_coded x y Plus f = none
  procedures_coded x y Minus f = none
  procedures_coded x y Times f = none
  procedures_coded x y Over f = none
  procedures_coded x y Div f = none
  procedures_coded x y Mod f = none
  procedures_coded x y And f = none
  procedures_coded x y Or f = none
  procedures_coded x y (Relation rel.Equal) (holds r) =
      coded_as _ _ refl (procedures coded.equates r) (procedures_one coded.equates r)
  procedures_coded x y (Relation rel.Equal) (fails_it n) = none
  procedures_coded x y (Relation rel.Unequal) (holds r) =
      coded_as _ _ refl (procedures coded.tells_apart r) (procedures_one coded.tells_apart r)
  procedures_coded x y (Relation rel.Unequal) (fails_it n) = none
  procedures_coded x y (Relation rel.Less) f = none
  procedures_coded x y (Relation rel.AtMost) f = none
  procedures_coded x y (Relation rel.Greater) f = none
  procedures_coded x y (Relation rel.AtLeast) f = none
  procedures_coded x y (Relation rel.In) f = none

  -- ---- all of them

  amounts_coded : {p q : Sided} {a b : Amount} {c d : Option TypedExpr} → ScalarIs p a c → ScalarIs q b d
      → (op : BinaryOp) {o : Option (Option TypeNo)} → TogetherIs (k.sort_of a) (k.sort_of b) o
      → Operating op (Scalar a) c (Scalar b) d (elaborated.on_amounts g op spot left p right q o)
  amounts_coded i m op (together sort w u) = scalars_coded i m sort w u op
  amounts_coded i m op (apart n) = none

  scalars_between : {p q : Sided} {a b : Amount} {c d : Option TypedExpr} → ScalarIs p a c → ScalarIs q b d
      → (op : BinaryOp) → Operating op (Scalar a) c (Scalar b) d
      (between g types op spot left (Some (side.Scalar p)) right (Some (side.Scalar q)))
  scalars_between (is_known a) (is_known b) op = amounts_coded (is_known a) (is_known b) op (common_is a.sort b.sort)
  scalars_between (is_known a) (is_run u y) op = amounts_coded (is_known a) (is_run u y) op (common_is a.sort (Some u))
  scalars_between (is_run t x) (is_known b) op = amounts_coded (is_run t x) (is_known b) op (common_is (Some t) b.sort)
  scalars_between (is_run t x) (is_run u y) op =
      amounts_coded (is_run t x) (is_run u y) op (common_is (Some t) (Some u))

  one_type : {t u : TypeNo} → AreRoutines types (Routine t) (Routine u) → t ≡ u
  one_type of_one_type = refl

  of_agree : {t h : TypeNo} → AreRoutines types (Routine t) (Procedure h) → Agree types t h
  of_agree (with_procedure a) = a

  of_agree_left : {t h : TypeNo} → AreRoutines types (Procedure h) (Routine t) → Agree types t h
  of_agree_left (procedure_with a) = a

  between_coded : (op : BinaryOp) {p q : Option Side} {a b : Kind} {c d : Option TypedExpr} → SideIs p a c
      → SideIs q b d → Operating op a c b d (between g types op spot left p right q)
  between_coded op (side_known a) (side_known b) = scalars_between (is_known a) (is_known b) op
  between_coded op (side_known a) (side_run u y) = scalars_between (is_known a) (is_run u y) op
  between_coded op (side_known a) (side_bits bits) = member_coded (is_known a) (is_bits bits) op
  between_coded op (side_known a) (side_set y) = member_coded (is_known a) (is_set y) op
  between_coded op (side_known a) (side_routine u y) = none
  between_coded op (side_known a) (side_procedure q) = none
  between_coded op (side_known a) no_side = none
  between_coded op (side_run t x) (side_known b) = scalars_between (is_run t x) (is_known b) op
  between_coded op (side_run t x) (side_run u y) = scalars_between (is_run t x) (is_run u y) op
  between_coded op (side_run t x) (side_bits bits) = member_coded (is_run t x) (is_bits bits) op
  between_coded op (side_run t x) (side_set y) = member_coded (is_run t x) (is_set y) op
  between_coded op (side_run t x) (side_routine u y) = none
  between_coded op (side_run t x) (side_procedure q) = none
  between_coded op (side_run t x) no_side = none
  between_coded op (side_bits bits) (side_known b) = none
  between_coded op (side_bits bits) (side_run u y) = none
  between_coded op (side_bits bits) (side_bits more) = sets_coded (is_bits bits) (is_bits more) op
  between_coded op (side_bits bits) (side_set y) = sets_coded (is_bits bits) (is_set y) op
  between_coded op (side_bits bits) (side_routine u y) = none
  between_coded op (side_bits bits) (side_procedure q) = none
  between_coded op (side_bits bits) no_side = none
  between_coded op (side_set x) (side_known b) = none
  between_coded op (side_set x) (side_run u y) = none
  between_coded op (side_set x) (side_bits bits) = sets_coded (is_set x) (is_bits bits) op
  between_coded op (side_set x) (side_set y) = sets_coded (is_set x) (is_set y) op
  between_coded op (side_set x) (side_routine u y) = none
  between_coded op (side_set x) (side_procedure q) = none
  between_coded op (side_set x) no_side = none
  between_coded op (side_routine t x) (side_known b) = none
  between_coded op (side_routine t x) (side_run u y) = none
  between_coded op (side_routine t x) (side_bits bits) = none
  between_coded op (side_routine t x) (side_set y) = none
  between_coded op (side_routine t x) (side_routine u y) =
      procedures_coded x y op (decided_as (λ e. subst (λ (u : TypeNo). AreRoutines types (Routine t) (Routine u)) e
      of_one_type) one_type (same_decided t u))
  between_coded op (side_routine t x) (side_procedure q) =
      procedures_coded x (expr.Procedure q) op (decided_as with_procedure of_agree (agree_decided types t q.heading))
  between_coded op (side_routine t x) no_side = none
  between_coded op (side_procedure p) (side_known b) = none
  between_coded op (side_procedure p) (side_run u y) = none
  between_coded op (side_procedure p) (side_bits bits) = none
  between_coded op (side_procedure p) (side_set y) = none
  between_coded op (side_procedure p) (side_routine u y) =
      procedures_coded (expr.Procedure p) y op
      (decided_as procedure_with of_agree_left (agree_decided types u p.heading))
  between_coded op (side_procedure p) (side_procedure q) = none
  between_coded op (side_procedure p) no_side = none
  between_coded op no_side s = none

  known_coded : (op : BinaryOp) (x y : Computed) (p q : Option Operand) {a b : Kind} {c d : Option TypedExpr}
      → SideIs (side_of x) a c → SideIs (side_of y) b d
      → Operating op a c b d (by_known g types op spot left x right y p q)
  known_coded op x y None q s t = between_coded op s t
  known_coded op x y (Some p) None s t = between_coded op s t
  known_coded op x y (Some p) (Some q) s t = constant_coded (binary g op spot left (Some p) right (Some q))

  -- what an operator makes of two values
  pub operated_coded : (op : BinaryOp) {x y : Computed} {a b : Kind} → IsKind x a → IsKind y b
      → Operating op (operand a) (code_of x) (operand b) (code_of y) (operation_on g types op spot left x right y)
  operated_coded op {x = x} {y = y} i m = known_coded op x y (known_of x) (known_of y) (side_is i) (side_is m)
