-- Operators on all values answer exactly.
use Rattle.std.proofs.Common.{◌≡◌, ℕ, ℤ, pos, Bool, true, false, not, List, [], ◌∷◌, Option, Some, None, Result, Ok, ◌⊎◌, inl, inr, refl, sym, ap, subst, ◌∙◌}
use Rattle.std.specs.Prelude.{◌&&◌}
use Rattle.m2_rule.specs.declared.rule.Rule.TheVariants as rule
use Rattle.m2_tree.specs.declared.pos.Pos.{Pos}
use Rattle.m2_tree.specs.declared.expr.RelOp.TheVariants as rel
use Rattle.typed_tree.specs.declared.types.TypeNo.{TypeNo}
use Rattle.typed_tree.specs.declared.computed.Comparison.{Comparison}
use Rattle.typed_tree.specs.declared.computed.Inclusion.{Inclusion}
use Rattle.typed_tree.specs.declared.computed.SetOperator.{SetOperator}
use Rattle.typed_tree.specs.declared.computed.TypedExpr.{TypedExpr}
use Rattle.typed_tree.specs.declared.known_types.Types.{Types}
use Rattle.typed_tree.specs.declared.meaning.Procedure.{Procedure as ModuleProcedure}
use Rattle.typed_tree.specs.declared.meaning.Value.{Value as ConstantValue}
use Rattle.typed_tree.specs.declared.meaning.Value.TheVariants as value
use Rattle.typed_tree.specs.Types.{are_same, boolean}
use Rattle.m2_rule.specs.declared.breach.Breach.{Breach}
use Rattle.check_scope.specs.Elaborated.{Gathers, report, reported_where, ◌▷◌}
use Rattle.check_const.specs.declared.operand.Ordinal.{Ordinal}
use Rattle.check_const.specs.declared.operand.Operand.{Operand}
use Rattle.check_const.specs.declared.operand.Operand.TheVariants as operands
use Rattle.check_const.specs.declared.operator.BinaryOp.{BinaryOp}
use Rattle.check_const.specs.declared.operator.BinaryOp.TheVariants.{Plus, Minus, Times, Over, Div, Mod, And, Or, Relation}
use Rattle.check_const.specs.Operands.{is_number, truth as constant_truth}
use Rattle.check_const.specs.Numbers.{is_between}
use Rattle.check_const.specs.Sets as sets
use Rattle.check_value.specs.declared.computed.Computed.{Computed}
use Rattle.check_value.specs.declared.computed.Computed.TheVariants as computed
use Rattle.check_value.specs.declared.side.Amount.{Amount as Sided}
use Rattle.check_value.specs.declared.side.Amount.TheVariants.{Known, Run}
use Rattle.check_value.specs.declared.side.Side.{Side}
use Rattle.check_value.specs.declared.side.Side.TheVariants as side
use Rattle.check_value.specs.declared.operate.SetStep.{SetStep}
use Rattle.check_value.specs.declared.operate.SetStep.TheVariants as set_step
use Rattle.check_value.specs.Sides.{side_of, known_of}
use Rattle.check_value.specs.Operations as elaborated
use Rattle.check_value.specs.Operations.{equality_of, set_step_of, is_in, on_procedures, between, by_known, operation_on, element_fits, of_value}
use Rattle.def_typing.specs.Shapes.{Agree}
use Rattle.def_typing.specs.Amounts as k
use Rattle.def_typing.specs.Amounts.{Amount, Constant, Value, IsNumber, Fits, IsComputed, Gives, truth}
use Rattle.def_typing.specs.Operators as rules
use Rattle.def_typing.specs.Operators.{◌!◌, Kind, Scalar, Set, Text, Routine, Procedure, Whole, Untaken, operand, Combines, Relates, IsCombining, IsSetRelation, IsMembership, IsElement, constant_element, some_element, IsEquality, AreRoutines, AreOperands, NotBoth, NotConstant, Makes, Overreaches, Misused}
use Rattle.law_typing.specs.Judging.{Judges, Answers, means, refuses}
use Rattle.law_typing.specs.Exact.{IsKind, kind_constant, kind_scalar, kind_set, kind_routine, kind_procedure, kind_whole, kind_untaken}
use Rattle.law_typing.proofs.Combining.{Lawful, Decided, holds, fails_it, decided_as, fine, declined, exact, Tests, where_checks, no_check, then_checked}
use Rattle.law_typing.proofs.Deciding.{same_decided, number_decided, within_decided, both_decided, common_is}
use Rattle.law_typing.proofs.Shaping.{agree_decided}
use Rattle.law_typing.proofs.Operating.{kind_of, IsScalar, Wrongly, unfit, overreaches, value_answers, constants_by, amounts_answer}

-- ---- operands as the elaboration sees them

pub data IsSide : Option Side → Kind → Type 0 where
  side_scalar : (p : Sided) → IsSide (Some (side.Scalar p)) (Scalar (kind_of p))
  side_set : (m : Option ℕ) (e : TypedExpr) → IsSide (Some (side.Set e)) (Set m)
  side_routine : (t : TypeNo) (e : TypedExpr) → IsSide (Some (side.Routine t e)) (Routine t)
  side_procedure : (p : ModuleProcedure) → IsSide (Some (side.Procedure p)) (Procedure p.heading)
  side_text : (text : List ℕ) → IsSide None (Text text)
  side_whole : (t : TypeNo) → IsSide None (Whole t)
  side_untaken : IsSide None Untaken

-- no constant that operators take
pub data NotKnown : Kind → Type 0 where
  unknown_scalar : {t : TypeNo} → NotKnown (Scalar (Value t))
  unknown_set : NotKnown (Set None)
  unknown_routine : {t : TypeNo} → NotKnown (Routine t)
  unknown_procedure : {t : TypeNo} → NotKnown (Procedure t)
  unknown_text : {text : List ℕ} → NotKnown (Text text)
  unknown_whole : {t : TypeNo} → NotKnown (Whole t)
  unknown_untaken : NotKnown Untaken

pub data IsKnown : Option Operand → Kind → Type 0 where
  known_scalar : (a : Ordinal) → IsKnown (Some (operands.Scalar a)) (Scalar (Constant a.sort a.number))
  known_set : (bits : ℕ) → IsKnown (Some (operands.Set bits)) (Set (Some bits))
  unknown : {k : Kind} → NotKnown k → IsKnown None k

text_side : (text : List ℕ) → IsSide (side_of (computed.Constant (value.Text text))) (operand (Text text))
text_side [] = side_text []
text_side (c ∷ []) = side_scalar (Known (record { sort = Some (record { home = _; number = _ }); number = pos c }))
text_side (c ∷ d ∷ text) = side_text (c ∷ d ∷ text)

pub side_is : {x : Computed} {k : Kind} → IsKind x k → IsSide (side_of x) (operand k)
side_is (kind_constant (value.Number n)) = side_scalar (Known (record { sort = None; number = n }))
side_is (kind_constant (value.Scalar s)) = side_scalar (Known (record { sort = Some s.base; number = s.number }))
side_is (kind_constant (value.Set bits)) = side_set (Some bits) _
side_is (kind_constant (value.Text text)) = text_side text
side_is (kind_scalar t base e) = side_scalar (Run base e)
side_is (kind_set e) = side_set None e
side_is (kind_routine t e) = side_routine t e
side_is (kind_procedure p) = side_procedure p
side_is (kind_whole t d) = side_whole t
side_is kind_untaken = side_untaken

text_known : (text : List ℕ) → IsKnown (known_of (computed.Constant (value.Text text))) (operand (Text text))
text_known [] = unknown unknown_text
text_known (c ∷ []) = known_scalar (record { sort = Some (record { home = _; number = _ }); number = pos c })
text_known (c ∷ d ∷ text) = unknown unknown_text

pub known_is : {x : Computed} {k : Kind} → IsKind x k → IsKnown (known_of x) (operand k)
known_is (kind_constant (value.Number n)) = known_scalar (record { sort = None; number = n })
known_is (kind_constant (value.Scalar s)) = known_scalar (record { sort = Some s.base; number = s.number })
known_is (kind_constant (value.Set bits)) = known_set bits
known_is (kind_constant (value.Text text)) = text_known text
known_is (kind_scalar t base e) = unknown unknown_scalar
known_is (kind_set e) = unknown unknown_set
known_is (kind_routine t e) = unknown unknown_routine
known_is (kind_procedure p) = unknown unknown_procedure
known_is (kind_whole t d) = unknown unknown_whole
known_is kind_untaken = unknown unknown_untaken

-- ---- which operators there are

pub data EqualityIs (op : BinaryOp) : Option Comparison → Type 0 where
  equality : (c : Comparison) → IsEquality op → EqualityIs op (Some c)
  no_equality : (IsEquality op → ⊥) → EqualityIs op None

equality_is : (op : BinaryOp) → EqualityIs op (equality_of op)
equality_is Plus = no_equality (λ e. elim e [ ])
equality_is Minus = no_equality (λ e. elim e [ ])
equality_is Times = no_equality (λ e. elim e [ ])
equality_is Over = no_equality (λ e. elim e [ ])
equality_is Div = no_equality (λ e. elim e [ ])
equality_is Mod = no_equality (λ e. elim e [ ])
equality_is And = no_equality (λ e. elim e [ ])
equality_is Or = no_equality (λ e. elim e [ ])
equality_is (Relation rel.Equal) = equality _ rules.by_equal
equality_is (Relation rel.Unequal) = equality _ rules.by_unequal
equality_is (Relation rel.Less) = no_equality (λ e. elim e [ ])
equality_is (Relation rel.AtMost) = no_equality (λ e. elim e [ ])
equality_is (Relation rel.Greater) = no_equality (λ e. elim e [ ])
equality_is (Relation rel.AtLeast) = no_equality (λ e. elim e [ ])
equality_is (Relation rel.In) = no_equality (λ e. elim e [ ])

pub data SetStepIs (op : BinaryOp) : Option SetStep → Type 0 where
  combining : (o : SetOperator) → IsCombining op → SetStepIs op (Some (set_step.Combine o))
  comparing : (c : Comparison) → IsSetRelation op → SetStepIs op (Some (set_step.Compare c))
  including : (i : Inclusion) → IsSetRelation op → SetStepIs op (Some (set_step.Include i))
  no_step : (IsCombining op → ⊥) → (IsSetRelation op → ⊥) → SetStepIs op None

set_step_is : (op : BinaryOp) → SetStepIs op (set_step_of op)
set_step_is Plus = combining _ rules.by_plus
set_step_is Minus = combining _ rules.by_minus
set_step_is Times = combining _ rules.by_times
set_step_is Over = combining _ rules.by_over
set_step_is Div = no_step (λ e. elim e [ ]) (λ e. elim e [ ])
set_step_is Mod = no_step (λ e. elim e [ ]) (λ e. elim e [ ])
set_step_is And = no_step (λ e. elim e [ ]) (λ e. elim e [ ])
set_step_is Or = no_step (λ e. elim e [ ]) (λ e. elim e [ ])
set_step_is (Relation rel.Equal) = comparing _ rules.by_equal
set_step_is (Relation rel.Unequal) = comparing _ rules.by_unequal
set_step_is (Relation rel.Less) = no_step (λ e. elim e [ ]) (λ e. elim e [ ])
set_step_is (Relation rel.AtMost) = including _ rules.by_at_most
set_step_is (Relation rel.Greater) = no_step (λ e. elim e [ ]) (λ e. elim e [ ])
set_step_is (Relation rel.AtLeast) = including _ rules.by_at_least
set_step_is (Relation rel.In) = no_step (λ e. elim e [ ]) (λ e. elim e [ ])

membership_decided : (op : BinaryOp) → Decided (IsMembership op) (is_in op)
membership_decided Plus = fails_it (λ e. elim e [ ])
membership_decided Minus = fails_it (λ e. elim e [ ])
membership_decided Times = fails_it (λ e. elim e [ ])
membership_decided Over = fails_it (λ e. elim e [ ])
membership_decided Div = fails_it (λ e. elim e [ ])
membership_decided Mod = fails_it (λ e. elim e [ ])
membership_decided And = fails_it (λ e. elim e [ ])
membership_decided Or = fails_it (λ e. elim e [ ])
membership_decided (Relation rel.Equal) = fails_it (λ e. elim e [ ])
membership_decided (Relation rel.Unequal) = fails_it (λ e. elim e [ ])
membership_decided (Relation rel.Less) = fails_it (λ e. elim e [ ])
membership_decided (Relation rel.AtMost) = fails_it (λ e. elim e [ ])
membership_decided (Relation rel.Greater) = fails_it (λ e. elim e [ ])
membership_decided (Relation rel.AtLeast) = fails_it (λ e. elim e [ ])
membership_decided (Relation rel.In) = holds rules.by_in

-- ---- what is made of sets

combines_one : {op : BinaryOp} {a b c d : ℕ} → Combines op a b c → Combines op a b d → d ≡ c
combines_one rules.union rules.union = refl
combines_one rules.difference rules.difference = refl
combines_one rules.intersection rules.intersection = refl
combines_one rules.symmetric_difference rules.symmetric_difference = refl

relates_one : {op : BinaryOp} {a b : ℕ} {v w : Bool} → Relates op a b v → Relates op a b w → w ≡ v
relates_one rules.equal_sets rules.equal_sets = refl
relates_one rules.unequal_sets rules.unequal_sets = refl
relates_one rules.within rules.within = refl
relates_one rules.around rules.around = refl

combines_only : {op : BinaryOp} {a b c : ℕ} {v : Bool} → Combines op a b c → Relates op a b v → ⊥
combines_only rules.union r = elim r [ ]
combines_only rules.difference r = elim r [ ]
combines_only rules.intersection r = elim r [ ]
combines_only rules.symmetric_difference r = elim r [ ]

is_combining : {op : BinaryOp} {a b c : ℕ} → Combines op a b c → IsCombining op
is_combining rules.union = rules.by_plus
is_combining rules.difference = rules.by_minus
is_combining rules.intersection = rules.by_times
is_combining rules.symmetric_difference = rules.by_over

is_relation : {op : BinaryOp} {a b : ℕ} {v : Bool} → Relates op a b v → IsSetRelation op
is_relation rules.equal_sets = rules.by_equal
is_relation rules.unequal_sets = rules.by_unequal
is_relation rules.within = rules.by_at_most
is_relation rules.around = rules.by_at_least

one_of_both : {op : BinaryOp} → IsCombining op → IsSetRelation op → ⊥
one_of_both rules.by_plus r = elim r [ ]
one_of_both rules.by_minus r = elim r [ ]
one_of_both rules.by_times r = elim r [ ]
one_of_both rules.by_over r = elim r [ ]

element_decided : (sort : Option TypeNo) (n : ℤ) → Decided (IsElement (Constant sort n)) (is_between (pos 0) n (pos 31))
element_decided sort n = decided_as constant_element within (within_decided (pos 0) n (pos 31))
  where
    within : IsElement (Constant sort n) → k.Within (pos 0) n (pos 31)
    within (constant_element w) = w

-- kinds that are no operands
pub data IsNothing : Kind → Type 0 where
  nothing_text : {text : List ℕ} → IsNothing (Text text)
  nothing_whole : {t : TypeNo} → IsNothing (Whole t)
  nothing_untaken : IsNothing Untaken

pub data IsProcedural : Kind → Type 0 where
  procedural_value : {t : TypeNo} → IsProcedural (Routine t)
  procedural : {t : TypeNo} → IsProcedural (Procedure t)

module _ (types : Types) (op : BinaryOp) where
  pub nothing_left : {a b : Kind} → IsNothing a → AreOperands types op a b → ⊥
  nothing_left nothing_text (rules.routines e r) = elim r [ ]
  nothing_left nothing_whole (rules.routines e r) = elim r [ ]
  nothing_left nothing_untaken (rules.routines e r) = elim r [ ]

  pub scalar_nothing : {a : Amount} {b : Kind} → IsNothing b → AreOperands types op (Scalar a) b → ⊥
  scalar_nothing nothing_text (rules.routines e r) = elim r [ ]
  scalar_nothing nothing_whole (rules.routines e r) = elim r [ ]
  scalar_nothing nothing_untaken (rules.routines e r) = elim r [ ]

  scalar_procedural : {a : Amount} {b : Kind} → IsProcedural b → AreOperands types op (Scalar a) b → ⊥
  scalar_procedural procedural_value (rules.routines e r) = elim r [ ]
  scalar_procedural procedural (rules.routines e r) = elim r [ ]

  pub set_nothing : {m : Option ℕ} {b : Kind} → IsNothing b → AreOperands types op (Set m) b → ⊥
  set_nothing nothing_text (rules.routines e r) = elim r [ ]
  set_nothing nothing_whole (rules.routines e r) = elim r [ ]
  set_nothing nothing_untaken (rules.routines e r) = elim r [ ]

  set_procedural : {m : Option ℕ} {b : Kind} → IsProcedural b → AreOperands types op (Set m) b → ⊥
  set_procedural procedural_value (rules.routines e r) = elim r [ ]
  set_procedural procedural (rules.routines e r) = elim r [ ]

  pub set_scalar : {m : Option ℕ} {b : Amount} → AreOperands types op (Set m) (Scalar b) → ⊥
  set_scalar (rules.routines e r) = elim r [ ]

  procedures_only : {a b : Kind} → IsProcedural a → AreOperands types op a b → IsEquality op × AreRoutines types a b
  procedures_only procedural_value (rules.routines e r) = (e, r)
  procedures_only procedural (rules.routines e r) = (e, r)

  scalars_only : {a b : Amount} → AreOperands types op (Scalar a) (Scalar b) → (sort : Option TypeNo) × Fits op a b sort
  scalars_only (rules.scalars {sort = sort} f) = (sort, f)
  scalars_only (rules.routines e r) = elim r [ ]

  sets_only : {m n : Option ℕ} → AreOperands types op (Set m) (Set n) → IsCombining op ⊎ IsSetRelation op
  sets_only (rules.combined c) = inl c
  sets_only (rules.related r) = inr r
  sets_only (rules.routines e r) = elim r [ ]

  members_only : {a : Amount} {m : Option ℕ} → AreOperands types op (Scalar a) (Set m) → IsMembership op
      × IsNumber (k.sort_of a)
  members_only (rules.member i n) = (i, n)
  members_only (rules.routines e r) = elim r [ ]

  operands_of : {a b c : Kind} → Makes types op a b c → AreOperands types op a b
  operands_of (rules.scalar (k.constant r i e n)) = rules.scalars r.fits
  operands_of (rules.scalar (k.decided r s)) = rules.scalars r.fits
  operands_of (rules.scalar (k.computed r c y)) = rules.scalars r.fits
  operands_of (rules.constant_set c) = rules.combined (is_combining c)
  operands_of (rules.constant_relation r) = rules.related (is_relation r)
  operands_of (rules.constant_member i n e) = rules.member i n
  operands_of (rules.set c n) = rules.combined c
  operands_of (rules.relation r n) = rules.related r
  operands_of (rules.member i n e c) = rules.member i n
  operands_of (rules.routines e r) = rules.routines e r

  overreaching : {spot left right : Pos} {a b : Amount} {f : Breach} → Overreaches op spot left right a b f
      → AreOperands types op (Scalar a) (Scalar b)
  overreaching (rules.divisor h d e) = rules.scalars h
  overreaching (rules.left_number h e) = rules.scalars h
  overreaching (rules.right_number h e) = rules.scalars h
  overreaching (rules.out_of_range p q r i e n) = rules.scalars r.fits

  -- ---- inversions

  scalars_make : {a b : Amount} {c : Kind} → Makes types op (Scalar a) (Scalar b) c → (d : Amount) × Gives op a b d
      × (c ≡ Scalar d)
  scalars_make (rules.scalar {c = d} m) = (d, m, refl)
  scalars_make (rules.routines e r) = elim r [ ]

  constant_sets_make : {a b : ℕ} {c : Kind} → Makes types op (Set (Some a)) (Set (Some b)) c
      → ((d : ℕ) × Combines op a b d × (c ≡ Set (Some d))) ⊎ ((v : Bool) × Relates op a b v × (c ≡ Scalar (truth v)))
  constant_sets_make (rules.constant_set {c = d} m) = inl (d, m, refl)
  constant_sets_make (rules.constant_relation {v = v} m) = inr (v, m, refl)
  constant_sets_make (rules.set c n) = elim n [ ]
  constant_sets_make (rules.relation c n) = elim n [ ]
  constant_sets_make (rules.routines e r) = elim r [ ]

  sets_make : {m n : Option ℕ} {c : Kind} → NotBoth m n → Makes types op (Set m) (Set n) c
      → (IsCombining op × (c ≡ Set None)) ⊎ (IsSetRelation op × (c ≡ Scalar (Value boolean)))
  sets_make n (rules.constant_set m) = elim n [ ]
  sets_make n (rules.constant_relation m) = elim n [ ]
  sets_make n (rules.set c m) = inl (c, refl)
  sets_make n (rules.relation c m) = inr (c, refl)
  sets_make n (rules.routines e r) = elim r [ ]

  constant_member_makes : {sort : Option TypeNo} {x : ℤ} {b : ℕ} {c : Kind}
      → Makes types op (Scalar (Constant sort x)) (Set (Some b)) c → IsElement (Constant sort x)
      × (c ≡ Scalar (truth (sets.has b x)))
  constant_member_makes (rules.constant_member i n e) = (e, refl)
  constant_member_makes (rules.member i n e c) = elim c [ ]
  constant_member_makes (rules.routines e r) = elim r [ ]

  member_makes : {a : Amount} {m : Option ℕ} {c : Kind} → NotConstant a m → Makes types op (Scalar a) (Set m) c
      → IsElement a × (c ≡ Scalar (Value boolean))
  member_makes n (rules.constant_member i q e) = elim n [ ]
  member_makes n (rules.member i q e c) = (e, refl)
  member_makes n (rules.routines e r) = elim r [ ]

  procedures_make : {a b c : Kind} → IsProcedural a → Makes types op a b c → c ≡ Scalar (Value boolean)
  procedures_make procedural_value (rules.routines e r) = refl
  procedures_make procedural (rules.routines e r) = refl

  module _ (spot left right : Pos) where
    scalars_misused : {a b : Amount} (f : Breach) → Misused types op spot left right (Scalar a) (Scalar b) f
        → Wrongly op spot left right a b f
    scalars_misused _ (rules.unfit n) = unfit (λ s h. n (rules.scalars h))
    scalars_misused f (rules.overreaches o) = overreaches o

    wrongly_used : {a b : Amount} (f : Breach) → Wrongly op spot left right a b f
        → Misused types op spot left right (Scalar a) (Scalar b) f
    wrongly_used _ (unfit n) = rules.unfit (λ o. let x = scalars_only o in n x.0 x.1)
    wrongly_used f (overreaches o) = rules.overreaches o

    only_unfit : {a b : Kind} (f : Breach) → (AreOperands types op a b → ⊥) → Misused types op spot left right a b f
        → f ≡ spot ! rule.WrongType
    only_unfit _ n (rules.unfit m) = refl
    only_unfit f n (rules.overreaches o) = absurd (n (overreaching o))
    only_unfit _ n (rules.no_element i q e) = absurd (n (rules.member i q))

    sets_misused : {m n : Option ℕ} {f : Breach} → Misused types op spot left right (Set m) (Set n) f
        → AreOperands types op (Set m) (Set n) → ⊥
    sets_misused (rules.unfit n) o = n o

    procedures_misused : {a b : Kind} {f : Breach} → IsProcedural a → Misused types op spot left right a b f
        → AreOperands types op a b → ⊥
    procedures_misused procedural_value (rules.unfit n) o = n o
    procedures_misused procedural (rules.unfit n) o = n o

    member_misused : {a : Amount} {m : Option ℕ} (f : Breach) → IsMembership op → IsNumber (k.sort_of a)
        → Misused types op spot left right (Scalar a) (Set m) f → (IsElement a → ⊥) × (f ≡ left ! rule.OutOfRange)
    member_misused _ i n (rules.unfit q) = absurd (q (rules.member i n))
    member_misused _ i n (rules.no_element j q e) = (e, refl)

-- ---- answers

module _ (g : Gathers) (j : Judges g) (lawful : Lawful g j) (O : Breach → Type 0) (types : Types) (op : BinaryOp)
    (spot left right : Pos) where
  abbrev pub Joins : Kind → Kind → Result Computed g.Reported → Type 0
  Joins a b r = Answers g j O IsKind (Makes types op a b) (Misused types op spot left right a b) r

  pub no_joining : {a b : Kind} → (AreOperands types op a b → ⊥) → Joins a b (report g spot rule.WrongType)
  no_joining n = declined g j lawful O spot rule.WrongType (λ c m. n (operands_of types op m)) (rules.unfit n)
      (λ f m. only_unfit types op spot left right f n m)

  pub scalars_join : {a b : Amount} {r : Result Computed g.Reported}
      → Answers g j O IsScalar (Gives op a b) (Wrongly op spot left right a b) r → Joins (Scalar a) (Scalar b) r
  scalars_join (means v c i m u n) = means v (Scalar c) i (rules.scalar m)
      (λ d x. let y = scalars_make types op x in y.2 ∙ ap Scalar (u y.0 y.1))
      (λ f x. n f (scalars_misused types op spot left right f x))
  scalars_join (refuses r a n) = refuses r
      (record {
        only = λ f m. elim (a.only f m)
            [ inl w ↦ inl (wrongly_used types op spot left right f w) | inr o ↦ inr o ];
        each =
            λ f m. a.each f (scalars_misused types op spot left right f m);
      })
      (λ c x. let y = scalars_make types op x in n y.0 y.1)

  -- constant sets
  combined_join : {a b c : ℕ} → Combines op a b c
      → Joins (Set (Some a)) (Set (Some b)) (Ok (computed.Constant (value.Set c)))
  combined_join {a = a} {b = b} {c = c} m =
      means _ (Set (Some c)) (kind_constant (value.Set c)) (rules.constant_set m)
      (λ d x. one (constant_sets_make types op x))
      (λ f x. sets_misused types op spot left right x (rules.combined (is_combining m)))
    where
      one : {d : Kind} → ((e : ℕ) × Combines op a b e × (d ≡ Set (Some e)))
          ⊎ ((v : Bool) × Relates op a b v × (d ≡ Scalar (truth v))) → d ≡ Set (Some c)
      one (inl (e, n, q)) = q ∙ ap (λ (x : ℕ). Set (Some x)) (combines_one m n)
      one (inr (v, r, q)) = absurd (combines_only m r)

  related_join : {a b : ℕ} {v : Bool} → Relates op a b v
      → Joins (Set (Some a)) (Set (Some b)) (Ok (computed.Constant (constant_truth v)))
  related_join {a = a} {b = b} {v = v} m =
      means _ (Scalar (truth v)) (kind_constant (constant_truth v)) (rules.constant_relation m)
      (λ d x. one (constant_sets_make types op x))
      (λ f x. sets_misused types op spot left right x (rules.related (is_relation m)))
    where
      one : {d : Kind} → ((e : ℕ) × Combines op a b e × (d ≡ Set (Some e)))
          ⊎ ((w : Bool) × Relates op a b w × (d ≡ Scalar (truth w))) → d ≡ Scalar (truth v)
      one (inl (e, n, q)) = absurd (combines_only n m)
      one (inr (w, r, q)) = q ∙ ap (λ (x : Bool). Scalar (truth x)) (relates_one m r)

  no_sets_join : {m n : Option ℕ} → (IsCombining op → ⊥) → (IsSetRelation op → ⊥)
      → Joins (Set m) (Set n) (report g spot rule.WrongType)
  no_sets_join c r = no_joining (λ o. elim (sets_only types op o) [ inl x ↦ c x | inr x ↦ r x ])

  -- computed sets
  sets_join : {m n : Option ℕ} (x y : TypedExpr) (o : Option SetStep) → NotBoth m n → SetStepIs op o
      → Joins (Set m) (Set n) (elaborated.on_sets g spot x y o)
  sets_join x y _ n (combining o c) = means _ (Set None) (kind_set _) (rules.set c n)
      (λ d z. elim (sets_make types op n z) [ inl q ↦ q.1 | inr q ↦ absurd (one_of_both c q.0) ])
      (λ f z. sets_misused types op spot left right z (rules.combined c))
  sets_join x y _ n (comparing o r) = means _ (Scalar (Value boolean)) (kind_scalar boolean boolean _)
      (rules.relation r n) (λ d z. elim (sets_make types op n z) [ inl q ↦ absurd (one_of_both q.0 r) | inr q ↦ q.1 ])
      (λ f z. sets_misused types op spot left right z (rules.related r))
  sets_join x y _ n (including o r) = means _ (Scalar (Value boolean)) (kind_scalar boolean boolean _)
      (rules.relation r n) (λ d z. elim (sets_make types op n z) [ inl q ↦ absurd (one_of_both q.0 r) | inr q ↦ q.1 ])
      (λ f z. sets_misused types op spot left right z (rules.related r))
  sets_join x y _ n (no_step c r) = no_sets_join c r

  -- membership
  element_tests : (p : Sided) → Tests g j lawful O (IsElement (kind_of p))
      (λ f. (IsElement (kind_of p) → ⊥) × (f ≡ left ! rule.OutOfRange)) (element_fits g left p)
  element_tests (Known a) = where_checks g j lawful O tt (is_between (pos 0) a.number (pos 31)) left rule.OutOfRange
      (element_decided a.sort a.number)
  element_tests (Run b e) = no_check g j lawful O tt some_element (λ f x. x.0 some_element)

  element_misused : {a : Amount} {m : Option ℕ} {f : Breach} → IsMembership op × IsNumber (k.sort_of a)
      → (IsElement a → ⊥) × (f ≡ left ! rule.OutOfRange) → Misused types op spot left right (Scalar a) (Set m) f
  element_misused {a = a} {m = m} w x = subst (Misused types op spot left right (Scalar a) (Set m)) (sym x.1)
      (rules.no_element w.0 w.1 x.0)

  -- from the two tests, and what is made then
  member_by : {a : Amount} {m : Option ℕ} {r : Result (Unit {0}) g.Reported} {v : Computed} {c : Kind} (b : Bool)
      → Decided (IsMembership op × IsNumber (k.sort_of a)) b
      → Tests g j lawful O (IsElement a) (λ f. (IsElement a → ⊥) × (f ≡ left ! rule.OutOfRange)) r
      → IsKind v c → (IsMembership op → IsNumber (k.sort_of a) → IsElement a → Makes types op (Scalar a) (Set m) c)
      → ((d : Kind) → Makes types op (Scalar a) (Set m) d → IsElement a × (d ≡ c))
      → Joins (Scalar a) (Set m) (reported_where g (not b) spot rule.WrongType (r ▷ λ u. Ok v))
  member_by {a = a} {m = m} {v = v} {c = c} _ (holds w) t i made only =
      exact g j lawful O {N = Makes types op (Scalar a) (Set m)}
      {B = λ f. ((IsElement a → ⊥) × (f ≡ left ! rule.OutOfRange)) ⊎ (IsElement a × ⊥)}
      {C = Misused types op spot left right (Scalar a) (Set m)}
      (λ d x. subst (Makes types op (Scalar a) (Set m)) (sym x.1) (made w.0 w.1 x.0)) only
      (λ f x. elim x [ inl y ↦ element_misused w y | inr y ↦ absurd y.1 ])
      (λ f x. inl (member_misused types op spot left right f w.0 w.1 x))
      (then_checked g j lawful O t (λ u e. fine g j lawful O v c i))
  member_by _ (fails_it n) t i made only = no_joining (λ o. n (members_only types op o))

  member_joins : {m : Option ℕ} (p : Sided) (s : TypedExpr) → NotConstant (kind_of p) m
      → Joins (Scalar (kind_of p)) (Set m) (elaborated.member g op spot left p s)
  member_joins (Known a) s n = member_by (is_in op && is_number a.sort)
      (both_decided (membership_decided op) (number_decided a.sort)) (element_tests (Known a))
      (kind_scalar boolean boolean _) (λ i q e. rules.member i q e n) (λ d. member_makes types op n)
  member_joins (Run b e) s n = member_by (is_in op && is_number (Some b))
      (both_decided (membership_decided op) (number_decided (Some b))) (element_tests (Run b e))
      (kind_scalar boolean boolean _) (λ i q e. rules.member i q e n) (λ d. member_makes types op n)

  -- a constant element and a constant set
  tests_first : (b c : Bool) (v : ConstantValue)
      → (reported_where g (not b) spot rule.WrongType
      (reported_where g (not c) left rule.OutOfRange (Ok tt) ▷ λ (u : Unit {0}). Ok (computed.Constant v)))
      ≡ of_value (reported_where g (not b) spot rule.WrongType (reported_where g (not c) left rule.OutOfRange (Ok v)))
  tests_first true true v = refl
  tests_first true false v = refl
  tests_first false c v = refl

  pub constant_member_joins : (a : Ordinal) (bits : ℕ)
      → Joins (Scalar (Constant a.sort a.number)) (Set (Some bits)) (of_value (sets.member g op spot left a bits))
  constant_member_joins a bits = by_op op refl
    where
      not_in : (IsMembership op → ⊥) → Joins (Scalar (Constant a.sort a.number)) (Set (Some bits))
          (report g spot rule.WrongType)
      not_in n = no_joining (λ o. n (members_only types op o).0)

      is_member : IsMembership op → Joins (Scalar (Constant a.sort a.number)) (Set (Some bits))
          (of_value (sets.membership_value g spot left a bits))
      is_member i = subst (Joins (Scalar (Constant a.sort a.number)) (Set (Some bits)))
          (tests_first (is_number a.sort) (is_between (pos 0) a.number (pos 31))
          (constant_truth (sets.has bits a.number)))
          (member_by (is_number a.sort) (decided_as (λ n. (i, n)) (λ x. x.1) (number_decided a.sort))
          (element_tests (Known a)) (kind_constant (constant_truth (sets.has bits a.number)))
          (λ i q e. rules.constant_member i q e) (λ d. constant_member_makes types op))

      by_op : (o : BinaryOp) → op ≡ o → Joins (Scalar (Constant a.sort a.number)) (Set (Some bits))
          (of_value (sets.member g o spot left a bits))
      by_op Plus e = not_in (λ i. elim (subst IsMembership e i) [ ])
      by_op Minus e = not_in (λ i. elim (subst IsMembership e i) [ ])
      by_op Times e = not_in (λ i. elim (subst IsMembership e i) [ ])
      by_op Over e = not_in (λ i. elim (subst IsMembership e i) [ ])
      by_op Div e = not_in (λ i. elim (subst IsMembership e i) [ ])
      by_op Mod e = not_in (λ i. elim (subst IsMembership e i) [ ])
      by_op And e = not_in (λ i. elim (subst IsMembership e i) [ ])
      by_op Or e = not_in (λ i. elim (subst IsMembership e i) [ ])
      by_op (Relation rel.Equal) e = not_in (λ i. elim (subst IsMembership e i) [ ])
      by_op (Relation rel.Unequal) e = not_in (λ i. elim (subst IsMembership e i) [ ])
      by_op (Relation rel.Less) e = not_in (λ i. elim (subst IsMembership e i) [ ])
      by_op (Relation rel.AtMost) e = not_in (λ i. elim (subst IsMembership e i) [ ])
      by_op (Relation rel.Greater) e = not_in (λ i. elim (subst IsMembership e i) [ ])
      by_op (Relation rel.AtLeast) e = not_in (λ i. elim (subst IsMembership e i) [ ])
      by_op (Relation rel.In) e = is_member (subst IsMembership (sym e) rules.by_in)

  pub constant_sets_join : (a b : ℕ) → Joins (Set (Some a)) (Set (Some b)) (of_value (sets.on_sets g op spot a b))
  constant_sets_join a b = by_op op refl
    where
      neither : (IsCombining op → ⊥) → (IsSetRelation op → ⊥)
          → Joins (Set (Some a)) (Set (Some b)) (report g spot rule.WrongType)
      neither c r = no_sets_join c r

      combining_by : {o : BinaryOp} {c : ℕ} → op ≡ o → Combines o a b c
          → Joins (Set (Some a)) (Set (Some b)) (Ok (computed.Constant (value.Set c)))
      combining_by {c = c} e m = combined_join (subst (λ (o : BinaryOp). Combines o a b c) (sym e) m)

      relating_by : {o : BinaryOp} {v : Bool} → op ≡ o → Relates o a b v
          → Joins (Set (Some a)) (Set (Some b)) (Ok (computed.Constant (constant_truth v)))
      relating_by {v = v} e m = related_join (subst (λ (o : BinaryOp). Relates o a b v) (sym e) m)

      by_op : (o : BinaryOp) → op ≡ o → Joins (Set (Some a)) (Set (Some b)) (of_value (sets.on_sets g o spot a b))
      by_op Plus e = combining_by e rules.union
      by_op Minus e = combining_by e rules.difference
      by_op Times e = combining_by e rules.intersection
      by_op Over e = combining_by e rules.symmetric_difference
      by_op Div e = neither (λ i. elim (subst IsCombining e i) [ ]) (λ i. elim (subst IsSetRelation e i) [ ])
      by_op Mod e = neither (λ i. elim (subst IsCombining e i) [ ]) (λ i. elim (subst IsSetRelation e i) [ ])
      by_op And e = neither (λ i. elim (subst IsCombining e i) [ ]) (λ i. elim (subst IsSetRelation e i) [ ])
      by_op Or e = neither (λ i. elim (subst IsCombining e i) [ ]) (λ i. elim (subst IsSetRelation e i) [ ])
      by_op (Relation rel.Equal) e = relating_by e rules.equal_sets
      by_op (Relation rel.Unequal) e = relating_by e rules.unequal_sets
      by_op (Relation rel.Less) e = neither (λ i. elim (subst IsCombining e i) [ ])
          (λ i. elim (subst IsSetRelation e i) [ ])
      by_op (Relation rel.AtMost) e = relating_by e rules.within
      by_op (Relation rel.Greater) e = neither (λ i. elim (subst IsCombining e i) [ ])
          (λ i. elim (subst IsSetRelation e i) [ ])
      by_op (Relation rel.AtLeast) e = relating_by e rules.around
      by_op (Relation rel.In) e = neither (λ i. elim (subst IsCombining e i) [ ])
          (λ i. elim (subst IsSetRelation e i) [ ])

  -- procedures
  procedures_join : {a b : Kind} {fit : Bool} (x y : TypedExpr) (c : Option Comparison) → IsProcedural a
      → EqualityIs op c → Decided (AreRoutines types a b) fit → Joins a b (on_procedures g spot fit x y c)
  procedures_join x y _ p (equality c e) (holds r) =
      means _ (Scalar (Value boolean)) (kind_scalar boolean boolean _) (rules.routines e r)
      (λ d m. procedures_make types op p m) (λ f m. procedures_misused types op spot left right p m
      (rules.routines e r))
  procedures_join x y _ p (equality c e) (fails_it n) = no_joining (λ o. n (procedures_only types op p o).1)
  procedures_join x y _ p (no_equality n) d = no_joining (λ o. n (procedures_only types op p o).0)

  no_partner : {a b : Kind} → IsProcedural a → (AreRoutines types a b → ⊥) → Joins a b (report g spot rule.WrongType)
  no_partner p n = no_joining (λ o. n (procedures_only types op p o).1)

  -- ---- values of which one is no constant

  one_type : {t u : TypeNo} → AreRoutines types (Routine t) (Routine u) → t ≡ u
  one_type rules.of_one_type = refl

  of_agree : {t h : TypeNo} → AreRoutines types (Routine t) (Procedure h) → Agree types t h
  of_agree (rules.with_procedure a) = a

  of_agree_left : {t h : TypeNo} → AreRoutines types (Procedure h) (Routine t) → Agree types t h
  of_agree_left (rules.procedure_with a) = a

  routines_decided : (t u : TypeNo) → Decided (AreRoutines types (Routine t) (Routine u)) (are_same t u)
  routines_decided t u = decided_as (λ e. subst (λ (u : TypeNo). AreRoutines types (Routine t) (Routine u)) e
      rules.of_one_type) one_type (same_decided t u)

  abbrev Apart : Kind → Kind → Type 0
  Apart a b = NotKnown a ⊎ NotKnown b

  scalars_between : (p q : Sided) → Apart (Scalar (kind_of p)) (Scalar (kind_of q))
      → Joins (Scalar (kind_of p)) (Scalar (kind_of q))
      (between g types op spot left (Some (side.Scalar p)) right (Some (side.Scalar q)))
  scalars_between (Known a) (Known b) (inl n) = elim n [ ]
  scalars_between (Known a) (Known b) (inr n) = elim n [ ]
  scalars_between (Known a) (Run u e) n =
      scalars_join (amounts_answer g j lawful O op spot left right (Known a) (Run u e) _ k.right_computed
      (common_is a.sort (Some u)))
  scalars_between (Run t d) (Known b) n =
      scalars_join (amounts_answer g j lawful O op spot left right (Run t d) (Known b) _ k.left_computed
      (common_is (Some t) b.sort))
  scalars_between (Run t d) (Run u e) n =
      scalars_join (amounts_answer g j lawful O op spot left right (Run t d) (Run u e) _ k.left_computed
      (common_is (Some t) (Some u)))

  apart_member : (p : Sided) (m : Option ℕ) → Apart (Scalar (kind_of p)) (Set m) → NotConstant (kind_of p) m
  apart_member p None n = rules.set_computed
  apart_member (Run t e) (Some b) n = rules.element_computed
  apart_member (Known a) (Some b) (inl n) = elim n [ ]
  apart_member (Known a) (Some b) (inr n) = elim n [ ]

  apart_sets : (m n : Option ℕ) → Apart (Set m) (Set n) → NotBoth m n
  apart_sets None n a = rules.first_computed
  apart_sets (Some b) None a = rules.second_computed
  apart_sets (Some b) (Some c) (inl n) = elim n [ ]
  apart_sets (Some b) (Some c) (inr n) = elim n [ ]

  procedural_apart : {a b : Kind} → IsNothing b → AreRoutines types a b → ⊥
  procedural_apart nothing_text r = elim r [ ]
  procedural_apart nothing_whole r = elim r [ ]
  procedural_apart nothing_untaken r = elim r [ ]

  between_answers : {p q : Option Side} {a b : Kind} → Apart a b → IsSide p a → IsSide q b
      → Joins a b (between g types op spot left p right q)
  between_answers n (side_text text) y = no_joining (nothing_left types op nothing_text)
  between_answers n (side_whole t) y = no_joining (nothing_left types op nothing_whole)
  between_answers n side_untaken y = no_joining (nothing_left types op nothing_untaken)
  between_answers n (side_scalar p) (side_scalar q) = scalars_between p q n
  between_answers n (side_scalar p) (side_set m e) = member_joins p e (apart_member p m n)
  between_answers n (side_scalar p) (side_routine t e) = no_joining (scalar_procedural types op procedural_value)
  between_answers n (side_scalar p) (side_procedure q) = no_joining (scalar_procedural types op procedural)
  between_answers n (side_scalar p) (side_text text) = no_joining (scalar_nothing types op nothing_text)
  between_answers n (side_scalar p) (side_whole t) = no_joining (scalar_nothing types op nothing_whole)
  between_answers n (side_scalar p) side_untaken = no_joining (scalar_nothing types op nothing_untaken)
  between_answers n (side_set m e) (side_scalar q) = no_joining (set_scalar types op)
  between_answers n (side_set m e) (side_set q d) = sets_join e d _ (apart_sets m q n) (set_step_is op)
  between_answers n (side_set m e) (side_routine t d) = no_joining (set_procedural types op procedural_value)
  between_answers n (side_set m e) (side_procedure q) = no_joining (set_procedural types op procedural)
  between_answers n (side_set m e) (side_text text) = no_joining (set_nothing types op nothing_text)
  between_answers n (side_set m e) (side_whole t) = no_joining (set_nothing types op nothing_whole)
  between_answers n (side_set m e) side_untaken = no_joining (set_nothing types op nothing_untaken)
  between_answers n (side_routine t e) (side_routine u d) =
      procedures_join e d _ procedural_value (equality_is op) (routines_decided t u)
  between_answers n (side_routine t e) (side_procedure q) =
      procedures_join e _ _ procedural_value (equality_is op)
      (decided_as rules.with_procedure of_agree (agree_decided types t q.heading))
  between_answers n (side_routine t e) (side_scalar q) = no_partner procedural_value (λ r. elim r [ ])
  between_answers n (side_routine t e) (side_set m d) = no_partner procedural_value (λ r. elim r [ ])
  between_answers n (side_routine t e) (side_text text) = no_partner procedural_value (procedural_apart nothing_text)
  between_answers n (side_routine t e) (side_whole u) = no_partner procedural_value (procedural_apart nothing_whole)
  between_answers n (side_routine t e) side_untaken = no_partner procedural_value (procedural_apart nothing_untaken)
  between_answers n (side_procedure p) (side_routine u d) =
      procedures_join _ d _ procedural (equality_is op)
      (decided_as rules.procedure_with of_agree_left (agree_decided types u p.heading))
  between_answers n (side_procedure p) (side_procedure q) = no_partner procedural (λ r. elim r [ ])
  between_answers n (side_procedure p) (side_scalar q) = no_partner procedural (λ r. elim r [ ])
  between_answers n (side_procedure p) (side_set m d) = no_partner procedural (λ r. elim r [ ])
  between_answers n (side_procedure p) (side_text text) = no_partner procedural (procedural_apart nothing_text)
  between_answers n (side_procedure p) (side_whole u) = no_partner procedural (procedural_apart nothing_whole)
  between_answers n (side_procedure p) side_untaken = no_partner procedural (procedural_apart nothing_untaken)

  -- ---- all values

  by_known_answers : (x y : Computed) {p q : Option Operand} {a b : Kind} → IsKnown p a → IsKnown q b
      → IsSide (side_of x) a → IsSide (side_of y) b → Joins a b (by_known g types op spot left x right y p q)
  by_known_answers x y (unknown n) m s t = between_answers (inl n) s t
  by_known_answers x y (known_scalar a) (unknown n) s t = between_answers (inr n) s t
  by_known_answers x y (known_set a) (unknown n) s t = between_answers (inr n) s t
  by_known_answers x y (known_scalar a) (known_scalar b) s t =
      scalars_join (value_answers g j lawful O
      (constants_by g j lawful O op spot left right a b _ (common_is a.sort b.sort)))
  by_known_answers x y (known_scalar a) (known_set b) s t = constant_member_joins a b
  by_known_answers x y (known_set a) (known_scalar b) s t = no_joining (set_scalar types op)
  by_known_answers x y (known_set a) (known_set b) s t = constant_sets_join a b

  -- what an operator makes of two operands
  pub operated_answers : {x y : Computed} {a b : Kind} → IsKind x a → IsKind y b
      → Joins (operand a) (operand b) (operation_on g types op spot left x right y)
  operated_answers {x = x} {y = y} i m = by_known_answers x y (known_is i) (known_is m) (side_is i) (side_is m)
