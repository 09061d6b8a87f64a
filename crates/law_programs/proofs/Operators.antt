-- Operators, components and what places take.
use Rattle.std.proofs.Common.{◌≡◌, ◌⊎◌, inl, inr, ⊎_elim, ℕ, zero, suc, ◌≤ℤ◌, ℤ, pos, Bool, true, false, List, [], ◌∷◌, map, Option, Some, None, Result, Ok, refl, sym, ap, subst, ◌∙◌, arith}
use Rattle.std.proofs.lemmas.Int.{ints}
use Rattle.std.specs.Prelude.{not, ◌&&◌, ◌||◌, slice_get, if◌then◌else◌}
use Rattle.std.specs.Option.{option_map, is_some}
use Rattle.m2_rule.specs.declared.rule.Rule.{Rule}
use Rattle.m2_rule.specs.declared.rule.Rule.TheVariants as rule
use Rattle.m2_tree.specs.declared.pos.Pos.{Pos}
use Rattle.m2_tree.specs.declared.name.Ident.{Ident}
use Rattle.m2_tree.specs.declared.expr.RelOp.{RelOp}
use Rattle.m2_tree.specs.declared.expr.RelOp.TheVariants as rel
use Rattle.m2_tree.specs.declared.expr.Sign.{Sign}
use Rattle.m2_tree.specs.declared.expr.Sign.TheVariants as sign
use Rattle.typed_tree.specs.declared.computed.Arithmetic.TheVariants as arithmetic
use Rattle.typed_tree.specs.declared.computed.Comparison.{Comparison}
use Rattle.typed_tree.specs.declared.computed.Component.TheVariants as part
use Rattle.typed_tree.specs.declared.computed.Link.{Link}
use Rattle.typed_tree.specs.declared.computed.Link.TheVariants as link
use Rattle.typed_tree.specs.declared.computed.Place.{Place}
use Rattle.typed_tree.specs.declared.computed.TypedExpr.{TypedExpr}
use Rattle.typed_tree.specs.declared.computed.TypedExpr.TheVariants as expr
use Rattle.typed_tree.specs.declared.known_types.Types.{Types}
use Rattle.typed_tree.specs.declared.meaning.Procedure.{Procedure}
use Rattle.typed_tree.specs.declared.meaning.Value.{Value}
use Rattle.typed_tree.specs.declared.shape.Formal.{Formal}
use Rattle.typed_tree.specs.declared.shape.Scalar.{Scalar as Range}
use Rattle.typed_tree.specs.declared.shape.Signature.{Signature}
use Rattle.typed_tree.specs.declared.typed_module.TypedModule.{TypedModule}
use Rattle.typed_tree.specs.declared.types.TypeNo.{TypeNo}
use Rattle.typed_tree.specs.Chains.{link_operand, behind}
use Rattle.typed_tree.specs.Known.{scalar_at}
use Rattle.typed_tree.specs.Names.{place_of}
use Rattle.typed_tree.specs.Types.{are_same, is_integer, is_numeric, integer, cardinal, boolean, char, bitset}
use Rattle.check_scope.specs.Elaborated.{Gathers, reported_where, ◌▷◌}
use Rattle.check_scope.specs.Scopes.{fields_shape, fields_at}
use Rattle.check_const.specs.Common.{common}
use Rattle.check_const.specs.Numbers.{is_between, fits}
use Rattle.check_const.specs.Operands.{operand_of, is_number}
use Rattle.check_const.specs.Operate.{takes, is_misfit, binary}
use Rattle.check_const.specs.declared.operand.Ordinal.{Ordinal}
use Rattle.check_const.specs.declared.operand.Operand.{Operand}
use Rattle.check_const.specs.declared.operand.Operand.TheVariants as operand
use Rattle.check_const.specs.declared.operator.BinaryOp.{BinaryOp}
use Rattle.check_const.specs.declared.operator.BinaryOp.TheVariants.{Plus, Minus, Times, Over, Div, Mod, And, Or, Relation}
use Rattle.check_value.specs.Agreement.{is_alike, formal_agrees, formals_agree, result_agrees, signatures_agree, headings_agree}
use Rattle.check_value.specs.Classes.{class_at, signature_at, array_at}
use Rattle.check_value.specs.Sides.{known_of, constant_side, side_of, sort_of, or_cardinal, run_of}
use Rattle.check_value.specs.Signs.{signed_scalar, signed_value, with_sign, negated_value, negation}
use Rattle.check_value.specs.Operations.{of_value, truth_of, step_of, set_step_of, relation_step, equality_of, is_in, fitting_of, divisor_of, fitting_both, step_or_refusal, on_amounts, element_fits, member, set_built, on_sets, on_procedures, with_scalar, set_in, with_set, partner_of, routine_of, with_partner, between, constant_result, by_known, operation_between}
use Rattle.check_value.specs.Selection.{typed_field, field_named, record_field, field, array_indexed, indices, index_type, element_of_array, element_at_index}
use Rattle.check_value.specs.Suits.{scalar_suited, set_suited, procedure_suited, value_in, value_suited}
use Rattle.check_value.specs.declared.class.Class.{Class}
use Rattle.check_value.specs.declared.class.Class.TheVariants as class
use Rattle.check_value.specs.declared.computed.Computed.{Computed}
use Rattle.check_value.specs.declared.computed.Computed.TheVariants as value
use Rattle.check_value.specs.declared.computed.Designated.{Designated}
use Rattle.check_value.specs.declared.computed.Designated.TheVariants as designated
use Rattle.check_value.specs.declared.operate.SetStep.{SetStep}
use Rattle.check_value.specs.declared.operate.SetStep.TheVariants as set_step
use Rattle.check_value.specs.declared.select.Subscripted.{Subscripted}
use Rattle.check_value.specs.declared.select.Subscripted.TheVariants as indexes
use Rattle.check_value.specs.declared.side.Amount.{Amount}
use Rattle.check_value.specs.declared.side.Amount.TheVariants.{Known, Run}
use Rattle.check_value.specs.declared.side.Side.{Side}
use Rattle.check_value.specs.declared.side.Side.TheVariants as side
use Rattle.layout_storage.specs.Shapes.{Trees, tree_in, passing_of, result_tree, heading_tree, known_trees, tree}
use Rattle.layout_storage.specs.Types.{Passing, ByValue, ByName, AsOpen, Ty, Heading, Function, Takes, row, component}
use Rattle.law_memory.specs.Relation.{heading_at}
use Rattle.law_simulation.specs.Scene.{IsValue, AreAmong}
use Rattle.law_simulation.specs.Frames.{Open, kind_at}
use Rattle.law_simulation.specs.TreesTyped.{Context, IsNamed}
use Rattle.law_well_formed.specs.Formed.{Holds, fine, broken}
use Rattle.law_well_formed.proofs.Basics.{then_holds, holds_weaker, reported_holds, where_holds, both_holds, any_holds, Grows}
use Rattle.law_well_formed.specs.FormedRanges.{IsNumber, ValueRanged}
use Rattle.law_well_formed.proofs.RangesTypes.{same_types, both_left, both_right}
use Rattle.law_well_formed.proofs.Subranges.{between_in, test_holds, beside_holds, SortRanged, OperandRanged, operand_ranged, fits_number}
use Rattle.law_well_formed.proofs.Values.{combined_ranged, signed_ranged, negated_ranged}
use Rattle.law_programs.specs.Typing.{IsWord, IsConstant, HasBase, TypesTyped, ExprTyped, ProcedureTyped, PlaceTyped, GivenTyped, ScalarTyped, WordTyped, RoutineTyped, ValueTyped, DesignatedTyped}
use Rattle.law_programs.proofs.Known.{IsRoutine, ClassIs, MadeSo, class_is, signature_known, array_known, fields_known, within_range, number_value, among_itself, among_words, among_base, free_among, HasCell, ranged_cell, bits_cell, has_base, IsArray, array_is, record_is, heading_is, heading_by_signature}
use Rattle.law_programs.proofs.Known as known
use Rattle.law_programs.proofs.Words.{Small, OperandWord, operand_word, holds_both, binary_words, signed_words, negated_words}
use Rattle.law_programs.proofs.Constructs as made

-- ---- tests

pub where_not : (g : Gathers) {A : Type 0} {P : A → Type 0} (b : Bool) (at : Pos) (n : Rule) {r : Result A g.Reported}
    → (b ≡ true → Holds P r) → Holds P (reported_where g (not b) at n r)
where_not g true at n k = k refl
where_not g false at n k = broken _

not_so : (g : Gathers) (b : Bool) (at : Pos) (n : Rule)
    → Holds (λ x. b ≡ true) (reported_where g {A = Unit {0}} (not b) at n (Ok tt))
not_so g b at n = where_not g b at n (λ e. fine tt e)

one_type : (t u : TypeNo) → Some t ≡ Some u → t ≡ u
one_type t u e = cc

either_numeric : (t : TypeNo) → is_numeric t ≡ true → (t ≡ integer) ⊎ (t ≡ cardinal)
either_numeric t e = by (is_integer t) (are_same t cardinal) refl refl e where
  by : (a b : Bool) → is_integer t ≡ a → are_same t cardinal ≡ b → (a || b) ≡ true → (t ≡ integer) ⊎ (t ≡ cardinal)
  by true b p q f = inl (same_types t integer p)
  by false true p q f = inr (same_types t cardinal q)
  by false false p q f = absurd cc

-- ---- the type of two operands

-- a number without a type, or one of the type
abbrev Goes : TypeNo → Option TypeNo → Type 0
Goes w s = ((s ≡ None) × (is_numeric w ≡ true)) ⊎ (s ≡ Some w)

common_left : (s z : Option TypeNo) (w : TypeNo) → common s z ≡ Some (Some w) → Goes w s
common_left None None w e = absurd cc
common_left None (Some t) w e = by (is_numeric t) refl e where
  by : (b : Bool) → is_numeric t ≡ b → (if b then Some (Some t) else None) ≡ Some (Some w) → Goes w None
  by true f g = let same : t ≡ w = cc in inl (refl, ap is_numeric (sym same) ∙ f)
  by false f g = absurd cc
common_left (Some t) None w e = by (is_numeric t) e where
  by : (b : Bool) → (if b then Some (Some t) else None) ≡ Some (Some w) → Goes w (Some t)
  by true g = inr cc
  by false g = absurd cc
common_left (Some t) (Some u) w e = by (are_same t u) e where
  by : (b : Bool) → (if b then Some (Some t) else None) ≡ Some (Some w) → Goes w (Some t)
  by true g = inr cc
  by false g = absurd cc

common_right : (s z : Option TypeNo) (w : TypeNo) → common s z ≡ Some (Some w) → Goes w z
common_right None None w e = absurd cc
common_right None (Some t) w e = by (is_numeric t) e where
  by : (b : Bool) → (if b then Some (Some t) else None) ≡ Some (Some w) → Goes w (Some t)
  by true g = inr cc
  by false g = absurd cc
common_right (Some t) None w e = by (is_numeric t) refl e where
  by : (b : Bool) → is_numeric t ≡ b → (if b then Some (Some t) else None) ≡ Some (Some w) → Goes w None
  by true f g = let same : t ≡ w = cc in inl (refl, ap is_numeric (sym same) ∙ f)
  by false f g = absurd cc
common_right (Some t) (Some u) w e = by (are_same t u) refl e where
  by : (b : Bool) → are_same t u ≡ b → (if b then Some (Some t) else None) ≡ Some (Some w) → Goes w (Some u)
  by true f g = let same : t ≡ w = cc in inr (ap (λ (k : TypeNo). Some k) (sym (same_types t u f) ∙ same))
  by false f g = absurd cc

abbrev Sorted : Option TypeNo → Type 0
Sorted s = is_some s ≡ true

common_some : (s z : Option TypeNo) → Sorted s ⊎ Sorted z → common s z ≡ Some None → ⊥
common_some None None (inl p) e = cc p
common_some None None (inr p) e = cc p
common_some None (Some t) p e = by (is_numeric t) e where
  by : (b : Bool) → (if b then Some (Some t) else None) ≡ Some None → ⊥
  by true g = cc g
  by false g = cc g
common_some (Some t) None p e = by (is_numeric t) e where
  by : (b : Bool) → (if b then Some (Some t) else None) ≡ Some None → ⊥
  by true g = cc g
  by false g = cc g
common_some (Some t) (Some u) p e = by (are_same t u) e where
  by : (b : Bool) → (if b then Some (Some t) else None) ≡ Some None → ⊥
  by true g = cc g
  by false g = cc g

-- ---- headings that agree are the same

alike_same : (a b : Bool) → is_alike a b ≡ true → a ≡ b
alike_same true true e = refl
alike_same true false e = absurd cc
alike_same false true e = absurd cc
alike_same false false e = refl

passing_same : (f y : Formal) → f.is_var ≡ y.is_var → f.is_open ≡ y.is_open → passing_of f ≡ passing_of y
passing_same f y v o = ap (λ (b : Bool). if b then AsOpen f.is_var else (if f.is_var then ByName else ByValue)) o
    ∙ ap (λ (b : Bool). if y.is_open then AsOpen b else (if b then ByName else ByValue)) v

result_same : (ts : Trees) (r q : Option TypeNo) → result_agrees r q ≡ true → result_tree ts r ≡ result_tree ts q
result_same ts None None e = refl
result_same ts None (Some u) e = absurd cc
result_same ts (Some t) None e = absurd cc
result_same ts (Some t) (Some u) e = ap (λ (w : TypeNo). Function (tree_in ts w)) (same_types t u e)

heading_same : (ts : Trees) (fs ys : List Formal) (r q : Option TypeNo) → formals_agree fs ys ≡ true
    → result_agrees r q ≡ true → heading_tree ts fs r ≡ heading_tree ts ys q
heading_same ts [] [] r q e k = result_same ts r q k
heading_same ts [] (y ∷ ys) r q e k = absurd cc
heading_same ts (f ∷ fs) [] r q e k = absurd cc
heading_same ts (f ∷ fs) (y ∷ ys) r q e k =
    let one : formal_agrees f y ≡ true = both_left (formal_agrees f y) (formals_agree fs ys) e in
    let kinds : (is_alike f.is_var y.is_var && is_alike f.is_open y.is_open) ≡ true =
    both_left (is_alike f.is_var y.is_var && is_alike f.is_open y.is_open) (are_same f.of y.of) one in
    let var : f.is_var ≡ y.is_var = alike_same f.is_var y.is_var
    (both_left (is_alike f.is_var y.is_var) (is_alike f.is_open y.is_open) kinds) in
    let open' : f.is_open ≡ y.is_open = alike_same f.is_open y.is_open
    (both_right (is_alike f.is_var y.is_var) (is_alike f.is_open y.is_open) kinds) in
    let of : f.of ≡ y.of = same_types f.of y.of
    (both_right (is_alike f.is_var y.is_var && is_alike f.is_open y.is_open) (are_same f.of y.of) one) in
    ap (λ (p : Passing). Takes p (tree_in ts f.of) (heading_tree ts fs r)) (passing_same f y var open')
    ∙ ap (λ (t : TypeNo). Takes (passing_of y) (tree_in ts t) (heading_tree ts fs r)) of
    ∙ ap (λ (h : Heading). Takes (passing_of y) (tree_in ts y.of) h)
    (heading_same ts fs ys r q (both_right (formal_agrees f y) (formals_agree fs ys) e) k)

-- two signatures that are there, with one heading
record AreOne (a b : Option Signature) : Type 0 where
  first : Signature
  second : Signature
  is : a ≡ Some first
  other : b ≡ Some second
  same : (ts : Trees) → heading_tree ts first.formals first.result ≡ heading_tree ts second.formals second.result

agree_one : (a b : Option Signature) → signatures_agree a b ≡ true → AreOne a b
agree_one None b e = absurd cc
agree_one (Some h) None e = absurd cc
agree_one (Some h) (Some k) e = record {
  first = h;
  second = k;
  is = refl;
  other = refl;
  same = λ ts. heading_same ts h.formals k.formals h.result k.result
      (both_left (formals_agree h.formals k.formals) (result_agrees h.result k.result) e)
      (both_right (formals_agree h.formals k.formals) (result_agrees h.result k.result) e);
}

-- ---- fields of a record

field_in_row : (f : TypeNo → Ty) (fs : List (List ℕ × TypeNo)) (n : ℕ) (e : List ℕ × TypeNo) → slice_get fs n ≡ Some e
    → component (row (map (λ (y : List ℕ × TypeNo). f y.1) fs)) (n ∷ []) ≡ Some (f e.1)
unfolding component
field_in_row f [] n e q = absurd cc
field_in_row f (y ∷ fs) zero e q = let same : y ≡ e = cc in ap (λ (z : List ℕ × TypeNo). Some (f z.1)) same
field_in_row f (y ∷ fs) (suc n) e q = field_in_row f fs n e q

module _ (x : Context) (ws : List Ty) (h : TypesTyped x.home.types) where
  abbrev m : TypedModule
  m = x.home

  abbrev types : Types
  types = x.home.types

  -- ---- bases

  integer_base : HasBase types integer integer
  integer_base = has_base types h integer _ refl

  cardinal_base : HasBase types cardinal cardinal
  cardinal_base = has_base types h cardinal _ refl

  pub boolean_base : HasBase types boolean boolean
  boolean_base = has_base types h boolean _ refl

  pub char_base : HasBase types char char
  char_base = has_base types h char _ refl

  -- INTEGER and CARDINAL compute in themselves, and have 0
  pub record IsNumeric (w : TypeNo) : Type 0 where
    pub base : HasBase types w w
    pub nought : IsValue types w (pos 0)

  pub numeric_is : (w : TypeNo) → is_numeric w ≡ true → IsNumeric w
  numeric_is w e = ⊎_elim
      (λ (k : w ≡ integer). subst IsNumeric (sym k)
      (record { base = integer_base; nought = (omega (arith, ints), omega (arith, ints)) }))
      (λ (k : w ≡ cardinal). subst IsNumeric (sym k)
      (record { base = cardinal_base; nought = (omega (arith, ints), omega (arith, ints)) }))
      (either_numeric w e)

  pub base_ranged : (w b : TypeNo) → HasBase types w b → scalar_at types w ≡ None → ⊥
  base_ranged w b k = known.has_range types w b k

  -- ---- sides

  -- a value of a base type
  pub record RunTyped (b : TypeNo) (e : TypedExpr) : Type 0 where
    pub of : TypeNo
    pub scalar : ScalarTyped x ws of b e

  abbrev pub AmountTyped : Amount → Type 0
  AmountTyped (Known a) = SortRanged types a.sort a.number
  AmountTyped (Run b e) = RunTyped b e

  abbrev pub SideTyped : Option Side → Type 0
  SideTyped None = Unit {0}
  SideTyped (Some (side.Scalar a)) = AmountTyped a
  SideTyped (Some (side.Set e)) = WordTyped x ws e
  SideTyped (Some (side.Routine t e)) = RoutineTyped x ws t e
  SideTyped (Some (side.Procedure f)) = IsNamed x f

  set_constant : (bits : ℕ) → Small bits → WordTyped x ws (expr.Constant bitset (pos bits))
  set_constant bits p = record {
    of = bitset;
    typed =
        made.constant_typed x ws bitset (pos bits) (omega (arith, ints), omega (arith, ints, p));
    word = refl;
  }

  constant_typed : (o : Option Operand) → OperandRanged types o → OperandWord o → SideTyped (constant_side o)
  constant_typed None p q = tt
  constant_typed (Some (operand.Scalar a)) p q = p
  constant_typed (Some (operand.Set bits)) p q = set_constant bits q

  pub side_typed : (v : Computed) → ValueTyped x ws v → SideTyped (side_of v)
  side_typed (value.Constant v) p = constant_typed (operand_of v) (operand_ranged types v p.0) (operand_word v p.1)
  side_typed (value.Scalar t b e) p = record { of = t; scalar = p }
  side_typed (value.Set e) p = p
  side_typed (value.Routine t e) p = p
  side_typed (value.Procedure f) p = p
  side_typed (value.Whole t d) p = tt
  side_typed value.Untaken p = tt

  -- an expression of some type, the values of which are values of this one
  pub record AmongTyped (w : TypeNo) (e : TypedExpr) : Type 0 where
    pub of : TypeNo
    pub typed : ExprTyped x ws e of
    pub among : AreAmong types of w

  -- one of some type
  pub record SomeTyped (e : TypedExpr) : Type 0 where
    pub of : TypeNo
    pub typed : ExprTyped x ws e of

  abbrev FitsAmount : Option TypeNo → Amount → Type 0
  FitsAmount sort (Known a) = is_misfit sort a.sort a.number ≡ false
  FitsAmount sort (Run b e) = Unit {0}

  fit_number : (w : TypeNo) (n : ℤ) → is_numeric w ≡ true → not (fits (Some w) n) ≡ false → IsNumber types w w n
  fit_number w n i e = fits_number types w n i (back (fits (Some w) n) e) where
    back : (b : Bool) → not b ≡ false → b ≡ true
    back true e = refl
    back false e = absurd cc

  known_among : (w : TypeNo) (s : Option TypeNo) (n : ℤ) → SortRanged types s n → Goes w s
      → is_misfit (Some w) s n ≡ false → IsValue types w n
  known_among w None n p (inl q) e = number_value types w w n (fit_number w n q.1 e)
  known_among w None n p (inr q) e = absurd cc
  known_among w (Some t) n p (inl q) e = absurd (let z : Some t ≡ None = q.0 in cc z)
  known_among w (Some t) n p (inr q) e = number_value types w w n
      (subst (λ (k : TypeNo). IsNumber types k k n) (one_type t w q) p)

  amount_among : (w : TypeNo) (a : Amount) → AmountTyped a → Goes w (sort_of a) → FitsAmount (Some w) a
      → AmongTyped w (run_of w a)
  amount_among w (Known a) p q e = record {
    of = w;
    typed =
        made.constant_typed x ws w a.number (known_among w a.sort a.number p q e);
    among = among_itself types w w refl;
  }
  amount_among w (Run b e) p (inl q) f = absurd (let z : Some b ≡ None = q.0 in cc z)
  amount_among w (Run b e) p (inr q) f = record {
    of = p.of;
    typed = p.scalar.typed;
    among =
        subst (λ (k : TypeNo). AreAmong types p.of k) (one_type b w q) (among_base types p.of b p.scalar.based);
  }

  -- a value for a place: of a type with a cell for numbers, or of a procedure type
  pub data IsSuited (t : TypeNo) (e : TypedExpr) : Type 0 where
    SuitsCell : HasCell types t → GivenTyped x ws e t → IsSuited t e
    SuitsProcedure : (i : IsRoutine types t) → ProcedureTyped x ws e i.heading → IsSuited t e

  module _ (g : Gathers) where
    abbrev pub Value_ : Result Computed g.Reported → Type 0
    Value_ r = Holds (ValueTyped x ws) r

    pub of_value_typed : {v : Result Value g.Reported} → Holds (IsConstant types) v → Value_ (of_value v)
    of_value_typed p = then_holds p (λ v k. fine (value.Constant v) k)

    pub scalar_typed : (t b : TypeNo) (e : TypedExpr) → ExprTyped x ws e t → HasBase types t b → made.IsRun m e
        → ValueTyped x ws (value.Scalar t b e)
    scalar_typed t b e p k r = record { typed = p; based = k; run = r }

    truth_typed : (e : TypedExpr) → ExprTyped x ws e boolean → made.IsRun m e → ValueTyped x ws (truth_of e)
    truth_typed e p r = scalar_typed boolean boolean e p boolean_base r

    -- ---- signs

    signed_scalar_typed : (o : Sign) (at : Pos) (t b : TypeNo) (e : TypedExpr) → ScalarTyped x ws t b e
        → Value_ (signed_scalar g o at b e)
    signed_scalar_typed sign.Plus at t b e p =
        where_not g (is_numeric b) at rule.WrongType
        (λ k. fine (value.Scalar b b (expr.Plus b e))
        (scalar_typed b b (expr.Plus b e) (made.plus_typed x ws b t e p.typed (among_base types t b p.based))
        (numeric_is b k).base (made.run_plus m b e)))
    signed_scalar_typed sign.Minus at t b e p =
        where_not g (is_integer b) at rule.WrongType
        (λ k. fine (value.Scalar b b (expr.Negate e))
        (subst (λ (w : TypeNo). ValueTyped x ws (value.Scalar w w (expr.Negate e))) (sym (same_types b integer k))
        (scalar_typed integer integer (expr.Negate e) (made.negate_typed x ws t e p.typed) integer_base
        (made.run_negate m e))))

    constants : {v : Result Value g.Reported} → Holds (ValueRanged types) v → Holds IsWord v
        → Holds (IsConstant types) v
    constants {v} p q = holds_both v p q

    signed_value_typed : (o : Sign) (at : Pos) (v : Computed) → ValueTyped x ws v → Value_ (signed_value g o at v)
    signed_value_typed o at (value.Constant v) p =
        of_value_typed (constants (signed_ranged g types o at (fine v p.0)) (signed_words g o at (operand_of v)))
    signed_value_typed o at (value.Scalar t b e) p = signed_scalar_typed o at t b e p
    signed_value_typed o at (value.Set e) p = reported_holds g at rule.WrongType
    signed_value_typed o at (value.Routine t e) p = reported_holds g at rule.WrongType
    signed_value_typed o at (value.Procedure f) p = reported_holds g at rule.WrongType
    signed_value_typed o at (value.Whole t d) p = reported_holds g at rule.WrongType
    signed_value_typed o at value.Untaken p = reported_holds g at rule.WrongType

    pub signed_typed : (o : Sign) (at : Pos) {v : Result Computed g.Reported} → Value_ v → Value_ (with_sign g o at v)
    signed_typed o at p = then_holds p (λ v k. signed_value_typed o at v k)

    negated_value_typed : (at : Pos) (v : Computed) → ValueTyped x ws v → Value_ (negated_value g at v)
    negated_value_typed at (value.Constant v) p =
        of_value_typed (constants (negated_ranged g types at (Ok v)) (negated_words g at (operand_of v)))
    negated_value_typed at (value.Scalar t b e) p =
        where_not g (are_same b boolean) at rule.WrongType
        (λ k. fine (truth_of (expr.Not e)) (truth_typed (expr.Not e)
        (made.not_typed x ws t e p.typed (subst (λ (w : TypeNo). AreAmong types t w) (same_types b boolean k)
        (among_base types t b p.based))) (made.run_not m e)))
    negated_value_typed at (value.Set e) p = reported_holds g at rule.WrongType
    negated_value_typed at (value.Routine t e) p = reported_holds g at rule.WrongType
    negated_value_typed at (value.Procedure f) p = reported_holds g at rule.WrongType
    negated_value_typed at (value.Whole t d) p = reported_holds g at rule.WrongType
    negated_value_typed at value.Untaken p = reported_holds g at rule.WrongType

    pub negated_typed : (at : Pos) {v : Result Computed g.Reported} → Value_ v → Value_ (negation g at v)
    negated_typed at p = then_holds p (λ v k. negated_value_typed at v k)

    -- ---- operators on scalars

    module _ (w : TypeNo) (e f : TypedExpr) (p : AmongTyped w e) (q : AmongTyped w f) where
      arithmetic_typed : (l : Link) → IsNumeric w → made.LinkTyped x ws p.of l w
          → ValueTyped x ws (value.Scalar w w (link_operand e l))
      arithmetic_typed l n k = scalar_typed w w (link_operand e l) (made.linked_typed x ws e l p.of w p.typed k) n.base
          (made.run_linked m e l)

      compared_typed : (o : Comparison) → ValueTyped x ws (truth_of (expr.Compare o e f))
      compared_typed o = truth_typed (expr.Compare o e f) (made.compare_typed x ws p.of q.of o e f p.typed q.typed)
          (made.run_compare m o e f)

      sum_made : is_numeric w ≡ true → ValueTyped x ws
          (value.Scalar w w (link_operand e (link.Arithmetic arithmetic.Add w f)))
      sum_made k = let n = numeric_is w k in
          arithmetic_typed (link.Arithmetic arithmetic.Add w f) n
          (made.sum_typed x ws p.of q.of w f q.typed (base_ranged w w n.base))

      difference_made : is_numeric w ≡ true →
          ValueTyped x ws (value.Scalar w w (link_operand e (link.Arithmetic arithmetic.Subtract w f)))
      difference_made k = let n = numeric_is w k in
          arithmetic_typed (link.Arithmetic arithmetic.Subtract w f) n
          (made.difference_typed x ws p.of q.of w f q.typed (base_ranged w w n.base))

      product_made : is_numeric w ≡ true → ValueTyped x ws
          (value.Scalar w w (link_operand e (link.Arithmetic arithmetic.Multiply w f)))
      product_made k = let n = numeric_is w k in
          arithmetic_typed (link.Arithmetic arithmetic.Multiply w f) n
          (made.product_typed x ws p.of q.of w f q.typed (base_ranged w w n.base))

      quotient_made : is_numeric w ≡ true → ValueTyped x ws
          (value.Scalar w w (link_operand e (link.Arithmetic arithmetic.Divide w f)))
      quotient_made k = let n = numeric_is w k in
          arithmetic_typed (link.Arithmetic arithmetic.Divide w f) n
          (made.quotient_typed x ws p.of q.of w f q.typed p.among n.nought)

      remainder_made : is_numeric w ≡ true →
          ValueTyped x ws (value.Scalar w w (link_operand e (link.Arithmetic arithmetic.Remainder w f)))
      remainder_made k = let n = numeric_is w k in
          arithmetic_typed (link.Arithmetic arithmetic.Remainder w f) n
          (made.remainder_typed x ws p.of q.of w f q.typed q.among n.nought)

      truth_among : (u : TypeNo) → are_same w boolean ≡ true → AreAmong types u w → AreAmong types u boolean
      truth_among u k a = subst (λ (z : TypeNo). AreAmong types u z) (same_types w boolean k) a

      and_made : are_same w boolean ≡ true → ValueTyped x ws (truth_of (link_operand e (link.And f)))
      and_made k = truth_typed (link_operand e (link.And f))
          (made.linked_typed x ws e (link.And f) p.of boolean p.typed
          (made.and_typed x ws p.of q.of f q.typed (truth_among p.of k p.among) (truth_among q.of k q.among)))
          (made.run_linked m e (link.And f))

      or_made : are_same w boolean ≡ true → ValueTyped x ws (truth_of (link_operand e (link.Or f)))
      or_made k = truth_typed (link_operand e (link.Or f))
          (made.linked_typed x ws e (link.Or f) p.of boolean p.typed
          (made.or_typed x ws p.of q.of f q.typed (truth_among p.of k p.among) (truth_among q.of k q.among)))
          (made.run_linked m e (link.Or f))

    relation_typed : (at : Pos) (w : TypeNo) (a b : Amount) (r : RelOp) → AmongTyped w (run_of w a)
        → AmongTyped w (run_of w b) → Value_ (step_or_refusal g at (Some w) a b (relation_step r))
    relation_typed at w a b rel.Equal p q = fine _ (compared_typed w (run_of w a) (run_of w b) p q _)
    relation_typed at w a b rel.Unequal p q = fine _ (compared_typed w (run_of w a) (run_of w b) p q _)
    relation_typed at w a b rel.Less p q = fine _ (compared_typed w (run_of w a) (run_of w b) p q _)
    relation_typed at w a b rel.AtMost p q = fine _ (compared_typed w (run_of w a) (run_of w b) p q _)
    relation_typed at w a b rel.Greater p q = fine _ (compared_typed w (run_of w a) (run_of w b) p q _)
    relation_typed at w a b rel.AtLeast p q = fine _ (compared_typed w (run_of w a) (run_of w b) p q _)
    relation_typed at w a b rel.In p q = reported_holds g at rule.WrongType

    stepped_typed : (op : BinaryOp) (at : Pos) (w : TypeNo) (a b : Amount) → takes op (Some w) ≡ true
        → AmongTyped w (run_of w a) → AmongTyped w (run_of w b)
        → Value_ (step_or_refusal g at (Some w) a b (step_of op))
    stepped_typed Plus at w a b k p q = fine _ (sum_made w (run_of w a) (run_of w b) p q k)
    stepped_typed Minus at w a b k p q = fine _ (difference_made w (run_of w a) (run_of w b) p q k)
    stepped_typed Times at w a b k p q = fine _ (product_made w (run_of w a) (run_of w b) p q k)
    stepped_typed Over at w a b k p q = reported_holds g at rule.WrongType
    stepped_typed Div at w a b k p q = fine _ (quotient_made w (run_of w a) (run_of w b) p q k)
    stepped_typed Mod at w a b k p q = fine _ (remainder_made w (run_of w a) (run_of w b) p q k)
    stepped_typed And at w a b k p q = fine _ (and_made w (run_of w a) (run_of w b) p q k)
    stepped_typed Or at w a b k p q = fine _ (or_made w (run_of w a) (run_of w b) p q k)
    stepped_typed (Relation r) at w a b k p q = relation_typed at w a b r p q

    fits_typed : (sort : Option TypeNo) (at : Pos) (a : Amount)
        → Holds (λ y. FitsAmount sort a) (fitting_of g sort at a)
    fits_typed sort at (Known a) = test_holds g (is_misfit sort a.sort a.number) at rule.OutOfRange
    fits_typed sort at (Run b e) = fine tt tt

    both_fit : (op : BinaryOp) (spot : Pos) (sort : Option TypeNo) (at : Pos) (a : Amount) (at' : Pos) (b : Amount)
        → Holds (λ y. (takes op sort ≡ true) × FitsAmount sort a × FitsAmount sort b)
        (fitting_both g op spot sort at a at' b)
    both_fit op spot sort at a at' b =
        where_not g (takes op sort) spot rule.WrongType (λ k.
        holds_weaker (λ y j. (k, j.1.0, j.1.1))
        (beside_holds g {P = Unit {0}} {Q = FitsAmount sort a × FitsAmount sort b}
        (any_holds (divisor_of g op spot b)) (beside_holds g (fits_typed sort at a) (fits_typed sort at' b))))

    amounts_typed : (op : BinaryOp) (spot at : Pos) (a : Amount) (at' : Pos) (b : Amount) (o : Option (Option TypeNo))
        → common (sort_of a) (sort_of b) ≡ o → Sorted (sort_of a) ⊎ Sorted (sort_of b) → AmountTyped a → AmountTyped b
        → Value_ (on_amounts g op spot at a at' b o)
    amounts_typed op spot at a at' b None e s p q = reported_holds g spot rule.WrongType
    amounts_typed op spot at a at' b (Some None) e s p q = absurd (common_some (sort_of a) (sort_of b) s e)
    amounts_typed op spot at a at' b (Some (Some w)) e s p q =
        then_holds (both_fit op spot (Some w) at a at' b) (λ f k.
        stepped_typed op spot w a b k.0 (amount_among w a p (common_left (sort_of a) (sort_of b) w e) k.1)
        (amount_among w b q (common_right (sort_of a) (sort_of b) w e) k.2))

    -- ---- elements of sets

    abbrev InSet : Amount → Type 0
    InSet (Known a) = is_between (pos 0) a.number (pos 31) ≡ true
    InSet (Run b e) = Unit {0}

    in_set : (at : Pos) (a : Amount) → Holds (λ y. InSet a) (element_fits g at a)
    in_set at (Known a) = not_so g (is_between (pos 0) a.number (pos 31)) at rule.OutOfRange
    in_set at (Run b e) = fine tt tt

    element_constant : (s : Option TypeNo) (n : ℤ) → SortRanged types s n → is_between (pos 0) n (pos 31) ≡ true
        → IsValue types (or_cardinal s) n
    element_constant None n p k = let b = between_in (pos 0) n (pos 31) k in within n b.0 b.1 where
      within : (n : ℤ) → pos 0 ≤ℤ n → n ≤ℤ pos 31 → IsValue types cardinal n
      within n l u = (l, omega (arith, ints, u))
    element_constant (Some t) n p k = number_value types t t n p

    element_some : (a : Amount) → AmountTyped a → InSet a → SomeTyped (run_of (or_cardinal (sort_of a)) a)
    element_some (Known a) p k = record {
      of = or_cardinal a.sort;
      typed =
          made.constant_typed x ws (or_cardinal a.sort) a.number (element_constant a.sort a.number p k);
    }
    element_some (Run b e) p k = record { of = p.of; typed = p.scalar.typed }

    word_among : (e : TypedExpr) (k : WordTyped x ws e) → AreAmong types k.of bitset
    word_among e k = among_words types k.of bitset k.word refl

    member_made : (e f : TypedExpr) → SomeTyped e → WordTyped x ws f → ValueTyped x ws (truth_of (expr.In e f))
    member_made e f p q = truth_typed (expr.In e f) (made.in_typed x ws p.of q.of e f p.typed q.typed (word_among f q))
        (made.run_in m e f)

    member_typed : (op : BinaryOp) (spot at : Pos) (a : Amount) (s : TypedExpr) → AmountTyped a → WordTyped x ws s
        → Value_ (member g op spot at a s)
    member_typed op spot at a s p q =
        where_holds g (not (is_in op && is_number (sort_of a))) spot rule.WrongType
        (then_holds (in_set at a) (λ f k. fine (truth_of (expr.In (run_of (or_cardinal (sort_of a)) a) s))
        (member_made (run_of (or_cardinal (sort_of a)) a) s (element_some a p k) q)))

    set_made_typed : (e f : TypedExpr) (o : SetStep) → WordTyped x ws e → WordTyped x ws f
        → ValueTyped x ws (set_built e f o)
    set_made_typed e f (set_step.Combine o) p q = record {
      of = bitset;
      typed = made.linked_typed x ws e (link.Combine o f) p.of bitset p.typed
          (made.combine_typed x ws p.of q.of o f q.typed (word_among e p) (word_among f q));
      word = refl;
    }
    set_made_typed e f (set_step.Compare c) p q =
        truth_typed (expr.Compare c e f) (made.compare_typed x ws p.of q.of c e f p.typed q.typed)
        (made.run_compare m c e f)
    set_made_typed e f (set_step.Include i) p q =
        truth_typed (expr.Include i e f) (made.include_typed x ws p.of q.of i e f p.typed (word_among e p) q.typed
        (word_among f q)) (made.run_include m i e f)

    sets_typed : (at : Pos) (e f : TypedExpr) (o : Option SetStep) → WordTyped x ws e → WordTyped x ws f
        → Value_ (on_sets g at e f o)
    sets_typed at e f None p q = reported_holds g at rule.WrongType
    sets_typed at e f (Some o) p q = fine (set_built e f o) (set_made_typed e f o p q)

    with_set_typed : (op : BinaryOp) (spot : Pos) (e : TypedExpr) (y : Option Side) → WordTyped x ws e → SideTyped y
        → Value_ (with_set g op spot e (set_in y))
    with_set_typed op spot e None p q = reported_holds g spot rule.WrongType
    with_set_typed op spot e (Some (side.Scalar b)) p q = reported_holds g spot rule.WrongType
    with_set_typed op spot e (Some (side.Set s)) p q = sets_typed spot e s (set_step_of op) p q
    with_set_typed op spot e (Some (side.Routine t f)) p q = reported_holds g spot rule.WrongType
    with_set_typed op spot e (Some (side.Procedure f)) p q = reported_holds g spot rule.WrongType

    -- ---- scalars, on either side

    abbrev SideSorted : Option Side → Type 0
    SideSorted None = Unit {0}
    SideSorted (Some (side.Scalar a)) = Sorted (sort_of a)
    SideSorted (Some (side.Set e)) = Unit {0}
    SideSorted (Some (side.Routine t e)) = Unit {0}
    SideSorted (Some (side.Procedure f)) = Unit {0}

    with_scalar_typed : (op : BinaryOp) (spot at : Pos) (a : Amount) (at' : Pos) (y : Option Side) → Sorted (sort_of a)
        ⊎ SideSorted y → AmountTyped a → SideTyped y → Value_ (with_scalar g op spot at a at' y)
    with_scalar_typed op spot at a at' None s p q = reported_holds g spot rule.WrongType
    with_scalar_typed op spot at a at' (Some (side.Scalar b)) s p q =
        amounts_typed op spot at a at' b (common (sort_of a) (sort_of b)) refl s p q
    with_scalar_typed op spot at a at' (Some (side.Set e)) s p q = member_typed op spot at a e p q
    with_scalar_typed op spot at a at' (Some (side.Routine t e)) s p q = reported_holds g spot rule.WrongType
    with_scalar_typed op spot at a at' (Some (side.Procedure f)) s p q = reported_holds g spot rule.WrongType

    operand_sorted : (v : Value) → operand_of v ≡ None → SideSorted (constant_side (operand_of v))
    operand_sorted v e = subst (λ (o : Option Operand). SideSorted (constant_side o)) (sym e) tt

    side_sorted : (v : Computed) → known_of v ≡ None → SideSorted (side_of v)
    side_sorted (value.Constant v) e = operand_sorted v e
    side_sorted (value.Scalar t b f) e = refl
    side_sorted (value.Set f) e = tt
    side_sorted (value.Routine t f) e = tt
    side_sorted (value.Procedure f) e = tt
    side_sorted (value.Whole t d) e = tt
    side_sorted value.Untaken e = tt

    -- ---- procedures

    abbrev PairTyped : TypedExpr → Option (Bool × TypedExpr) → Type 0
    PairTyped e None = Unit {0}
    PairTyped e (Some p) = p.0 ≡ true → SomeTyped e × SomeTyped p.1

    procedures_typed : (at : Pos) (fit : Bool) (e f : TypedExpr) (o : Option Comparison)
        → (fit ≡ true → SomeTyped e × SomeTyped f) → Value_ (on_procedures g at fit e f o)
    procedures_typed at fit e f None k = reported_holds g at rule.WrongType
    procedures_typed at fit e f (Some c) k =
        where_not g fit at rule.WrongType (λ q. let p = k q in
        fine (truth_of (expr.Compare c e f))
        (truth_typed (expr.Compare c e f) (made.compare_typed x ws p.0.of p.1.of c e f p.0.typed p.1.typed)
        (made.run_compare m c e f)))

    partner_typed : (at : Pos) (e : TypedExpr) (c : Option Comparison) (o : Option (Bool × TypedExpr)) → PairTyped e o
        → Value_ (with_partner g at e c o)
    partner_typed at e c None p = reported_holds g at rule.WrongType
    partner_typed at e c (Some o) p = procedures_typed at o.0 e o.1 c p

    -- ---- what is made of two constants

    -- it is a constant with this operand
    record IsOperand (v : Computed) (a : Operand) : Type 0 where
      shown : Value
      means : v ≡ value.Constant shown
      is : operand_of shown ≡ Some a

    operand_is : (v : Computed) (a : Operand) → known_of v ≡ Some a → IsOperand v a
    operand_is (value.Constant v) a e = record { shown = v; means = refl; is = e }
    operand_is (value.Scalar t b f) a e = absurd cc
    operand_is (value.Set f) a e = absurd cc
    operand_is (value.Routine t f) a e = absurd cc
    operand_is (value.Procedure f) a e = absurd cc
    operand_is (value.Whole t d) a e = absurd cc
    operand_is value.Untaken a e = absurd cc

    folded_typed : (op : BinaryOp) (spot at : Pos) (v : Computed) (a : Operand) (at' : Pos) (u : Computed) (b : Operand)
        → known_of v ≡ Some a → known_of u ≡ Some b → ValueTyped x ws v → ValueTyped x ws u
        → Value_ (constant_result g op spot at a at' b)
    folded_typed op spot at v a at' u b e f p q =
        let i : IsOperand v a = operand_is v a e in
        let j : IsOperand u b = operand_is u b f in
        let c : IsConstant types i.shown = subst (ValueTyped x ws) i.means p in
        let d : IsConstant types j.shown = subst (ValueTyped x ws) j.means q in
        subst (λ (o : Option Operand). Value_ (of_value (binary g op spot at o at' (Some b)))) i.is
        (subst (λ (o : Option Operand). Value_ (of_value (binary g op spot at (operand_of i.shown) at' o))) j.is
        (of_value_typed (constants (combined_ranged g types op spot at (Ok i.shown) at' (Ok j.shown))
        (binary_words g op spot at (operand_of i.shown) at' (operand_of j.shown) (operand_word i.shown c.1)
        (operand_word j.shown d.1)))))

    -- ---- in a scope, the types of which are those of the module

    module _ (scope : Types) (grows : Grows scope types) where
      -- a procedure whose heading is there
      named_some : (f : Procedure) (h : Signature) → IsNamed x f → signature_at scope f.heading ≡ Some h
          → SomeTyped (expr.Procedure f)
      named_some f h k i =
          let made_so = signature_known scope types grows f.heading h i in
          record {
            of = f.heading;
            typed = made.routine_expr_typed x ws f.heading _ (expr.Procedure f) (made.type_of_procedure m f)
                (heading_is types f.heading h made_so)
                (made.procedure_typed x ws f _ k (heading_by_signature types f.heading h made_so));
          }

      routine_some : (t : TypeNo) (e : TypedExpr) → RoutineTyped x ws t e → SomeTyped e
      routine_some t e p = record { of = t; typed = made.routine_expr_typed x ws t p.heading e p.of p.word p.typed }

      partner_pair : (t : TypeNo) (e : TypedExpr) (y : Option Side) → RoutineTyped x ws t e → SideTyped y
          → PairTyped e (partner_of scope t y)
      partner_pair t e None p q = tt
      partner_pair t e (Some (side.Scalar b)) p q = tt
      partner_pair t e (Some (side.Set s)) p q = tt
      partner_pair t e (Some (side.Routine u f)) p q = λ k. (routine_some t e p, routine_some u f q)
      partner_pair t e (Some (side.Procedure f)) p q = λ k. let j =
          agree_one (signature_at scope t) (signature_at scope f.heading) k in
          (routine_some t e p, named_some f j.second q j.other)

      routine_pair : (f : Procedure) (y : Option Side) → IsNamed x f → SideTyped y
          → PairTyped (expr.Procedure f) (routine_of scope f y)
      routine_pair f None p q = tt
      routine_pair f (Some (side.Scalar b)) p q = tt
      routine_pair f (Some (side.Set s)) p q = tt
      routine_pair f (Some (side.Routine u e)) p q = λ k. let j =
          agree_one (signature_at scope u) (signature_at scope f.heading) k in
          (named_some f j.second p j.other, routine_some u e q)
      routine_pair f (Some (side.Procedure h)) p q = tt

      between_typed : (op : BinaryOp) (spot at : Pos) (v : Option Side) (at' : Pos) (y : Option Side) → SideSorted v
          ⊎ SideSorted y → SideTyped v → SideTyped y → Value_ (between g scope op spot at v at' y)
      between_typed op spot at None at' y s p q = reported_holds g spot rule.WrongType
      between_typed op spot at (Some (side.Scalar a)) at' y s p q = with_scalar_typed op spot at a at' y s p q
      between_typed op spot at (Some (side.Set e)) at' y s p q = with_set_typed op spot e y p q
      between_typed op spot at (Some (side.Routine t e)) at' y s p q =
          partner_typed spot e (equality_of op) (partner_of scope t y) (partner_pair t e y p q)
      between_typed op spot at (Some (side.Procedure f)) at' y s p q =
          partner_typed spot (expr.Procedure f) (equality_of op) (routine_of scope f y) (routine_pair f y p q)

      by_known_typed : (op : BinaryOp) (spot at : Pos) (v : Computed) (at' : Pos) (u : Computed) (a b : Option Operand)
          → known_of v ≡ a → known_of u ≡ b → ValueTyped x ws v → ValueTyped x ws u
          → Value_ (by_known g scope op spot at v at' u a b)
      by_known_typed op spot at v at' u None b e f p q =
          between_typed op spot at (side_of v) at' (side_of u) (inl (side_sorted v e)) (side_typed v p) (side_typed u q)
      by_known_typed op spot at v at' u (Some a) None e f p q =
          between_typed op spot at (side_of v) at' (side_of u) (inr (side_sorted u f)) (side_typed v p) (side_typed u q)
      by_known_typed op spot at v at' u (Some a) (Some b) e f p q = folded_typed op spot at v a at' u b e f p q

      pub combined_typed : (op : BinaryOp) (spot at : Pos) {v : Result Computed g.Reported} (at' : Pos)
          {u : Result Computed g.Reported} → Value_ v → Value_ u → Value_ (operation_between g scope op spot at v at' u)
      combined_typed op spot at at' p q = then_holds (both_holds g p q)
          (λ v k. by_known_typed op spot at v.0 at' v.1 (known_of v.0) (known_of v.1) refl refl k.0 k.1)

      -- ---- what places take

      abbrev pub Given_ : TypeNo → Result TypedExpr g.Reported → Type 0
      Given_ t r = Holds (λ e. GivenTyped x ws e t) r

      -- a value of a type is taken as one of this type
      given_among : (t u : TypeNo) (e : TypedExpr) → ExprTyped x ws e u → AreAmong types u t → GivenTyped x ws e t
      given_among t u e p k = record { of = u; typed = p; taken = record { free = λ q. inl k; unranged = λ q. k } }

      known_given : (t : TypeNo) (s : Range) (a : Ordinal) → scalar_at types t ≡ Some s
          → is_between s.low a.number s.high ≡ true → GivenTyped x ws (expr.Constant t a.number) t
      known_given t s a e k =
          let b = between_in s.low a.number s.high k in
          given_among t t (expr.Constant t a.number)
          (made.constant_typed x ws t a.number (within_range types t s a.number e b.0 b.1))
          (among_itself types t t refl)

      run_given : (t : TypeNo) (s : Range) (b : TypeNo) (e : TypedExpr) → scalar_at types t ≡ Some s → RunTyped b e
          → GivenTyped x ws e t
      run_given t s b e i p = record {
        of = p.of;
        typed = p.scalar.typed;
        taken = record {
          free = λ q. inl (free_among types t p.of b _ p.scalar.based p.scalar.run q);
          unranged = λ q. absurd (let z : None ≡ Some s = sym q ∙ i in cc z);
        };
      }

      scalar_given : (which : Rule) (t : TypeNo) (s : Range) (at : Pos) (v : Option Side) → scalar_at types t ≡ Some s
          → SideTyped v → Given_ t (scalar_suited g which t s at v)
      scalar_given number t s at None e p = reported_holds g at number
      scalar_given number t s at (Some (side.Scalar (Known a))) e p =
          where_holds g _ at number (where_not g (is_between s.low a.number s.high) at rule.OutOfRange
          (λ k. fine (expr.Constant t a.number) (known_given t s a e k)))
      scalar_given number t s at (Some (side.Scalar (Run b f))) e p =
          where_holds g _ at number (fine f (run_given t s b f e p))
      scalar_given number t s at (Some (side.Set f)) e p = reported_holds g at number
      scalar_given number t s at (Some (side.Routine u f)) e p = reported_holds g at number
      scalar_given number t s at (Some (side.Procedure f)) e p = reported_holds g at number

      set_given : (which : Rule) (t : TypeNo) (at : Pos) (v : Option Side) → scalar_at types t ≡ None → SideTyped v
          → Given_ t (set_suited g which at v)
      set_given number t at None e p = reported_holds g at number
      set_given number t at (Some (side.Scalar a)) e p = reported_holds g at number
      set_given number t at (Some (side.Set f)) e p =
          fine f (given_among t p.of f p.typed (among_words types p.of t p.word e))
      set_given number t at (Some (side.Routine u f)) e p = reported_holds g at number
      set_given number t at (Some (side.Procedure f)) e p = reported_holds g at number

      -- a value of a procedure type, with its heading
      abbrev pub Procedure_ : Heading → Result TypedExpr g.Reported → Type 0
      Procedure_ k r = Holds (λ e. ProcedureTyped x ws e k) r

      one_heading : (a b : Heading) → Some a ≡ Some b → a ≡ b
      one_heading a b e = cc

      procedure_given : (which : Rule) (t : TypeNo) (at : Pos) (v : Option Side) (i : IsRoutine types t) → SideTyped v
          → Procedure_ i.heading (procedure_suited g which scope t at v)
      procedure_given number t at None e p = reported_holds g at number
      procedure_given number t at (Some (side.Scalar a)) e p = reported_holds g at number
      procedure_given number t at (Some (side.Set f)) e p = reported_holds g at number
      procedure_given number t at (Some (side.Routine u f)) e p =
          where_not g (are_same u t) at number (λ k.
          let same : p.heading ≡ e.heading = one_heading p.heading e.heading
          (sym p.is ∙ ap (heading_at types) (same_types u t k) ∙ e.is) in
          fine f (subst (λ (j : Heading). ProcedureTyped x ws f j) same p.typed))
      procedure_given number t at (Some (side.Procedure f)) e p =
          where_not g (headings_agree scope t f.heading) at number (λ k.
          let j = agree_one (signature_at scope t) (signature_at scope f.heading) k in
          let one = heading_by_signature types t j.first (signature_known scope types grows t j.first j.is) in
          let two = heading_by_signature types f.heading j.second
          (signature_known scope types grows f.heading j.second j.other) in
          fine (expr.Procedure f) (made.procedure_typed x ws f e.heading p
          (two ∙ ap (λ (z : Heading). Some z) (sym (j.same (known_trees types))) ∙ sym one ∙ e.is)))

      -- and as one of its own type, the values of which are the same numbers
      routine_given : (which : Rule) (t : TypeNo) (at : Pos) (v : Option Side) → scalar_at types t ≡ None → SideTyped v
          → Given_ t (procedure_suited g which scope t at v)
      unfolding routine_some named_some
      routine_given number t at None e p = reported_holds g at number
      routine_given number t at (Some (side.Scalar a)) e p = reported_holds g at number
      routine_given number t at (Some (side.Set f)) e p = reported_holds g at number
      routine_given number t at (Some (side.Routine u f)) e p =
          where_not g (are_same u t) at number
          (λ k. fine f (given_among t u f (routine_some u f p).typed (among_words types u t p.word e)))
      routine_given number t at (Some (side.Procedure f)) e p =
          where_not g (headings_agree scope t f.heading) at number (λ k.
          let j = agree_one (signature_at scope t) (signature_at scope f.heading) k in
          fine (expr.Procedure f) (given_among t f.heading (expr.Procedure f) (named_some f j.second p j.other).typed
          (among_words types f.heading t (heading_is types f.heading j.second
          (signature_known scope types grows f.heading j.second j.other)) e)))

      value_given : (which : Rule) (t : TypeNo) (at : Pos) (v : Option Side) (c : Class) → ClassIs types t c
          → SideTyped v → Given_ t (value_in g which scope t at v c)
      value_given which t at v (class.Scalar s) e p = scalar_given which t s at v e p
      value_given which t at v class.Set e p = set_given which t at v e.none p
      value_given which t at v class.Procedure e p = routine_given which t at v e.none p
      value_given which t at v class.Whole e p = reported_holds g at which

      pub suited_typed : (which : Rule) (t : TypeNo) (at : Pos) (v : Computed) → ValueTyped x ws v
          → Given_ t (value_suited g which scope t at v)
      suited_typed which t at v p = value_given which t at (side_of v) (class_at scope t) (class_is scope types grows t)
          (side_typed v p)

      place_suited : (which : Rule) (t : TypeNo) (at : Pos) (v : Option Side) (c : Class) → ClassIs types t c
          → SideTyped v → Holds (IsSuited t) (value_in g which scope t at v c)
      place_suited which t at v (class.Scalar s) e p =
          holds_weaker (λ f k. SuitsCell (ranged_cell types h t s e) k) (scalar_given which t s at v e p)
      place_suited which t at v class.Set e p =
          holds_weaker (λ f k. SuitsCell (bits_cell types t e) k) (set_given which t at v e.none p)
      place_suited which t at v class.Procedure e p =
          holds_weaker (λ f k. SuitsProcedure e k) (procedure_given which t at v e p)
      place_suited which t at v class.Whole e p = reported_holds g at which

      pub place_suited_typed : (which : Rule) (t : TypeNo) (at : Pos) (v : Computed) → ValueTyped x ws v
          → Holds (IsSuited t) (value_suited g which scope t at v)
      place_suited_typed which t at v p = place_suited which t at (side_of v) (class_at scope t)
          (class_is scope types grows t) (side_typed v p)

      pub procedure_suited_typed : (which : Rule) (t : TypeNo) (at : Pos) (v : Computed) (i : IsRoutine types t)
          → class_at scope t ≡ class.Procedure → ValueTyped x ws v
          → Procedure_ i.heading (value_suited g which scope t at v)
      procedure_suited_typed which t at v i q p =
          subst (λ (c : Class). Procedure_ i.heading (value_in g which scope t at (side_of v) c)) (sym q)
          (procedure_given which t at (side_of v) i (side_typed v p))

      -- ---- components

      module _ (opens : ℕ → Bool) where
        abbrev Designated_ : Result Designated g.Reported → Type 0
        Designated_ r = Holds (DesignatedTyped x ws opens) r

        -- the component of the record with this number is of this type
        abbrev IsField : TypeNo → ℕ × TypeNo → Type 0
        IsField t f = component (tree types t) (f.0 ∷ []) ≡ Some (tree types f.1)

        field_found : (t : TypeNo) (fs : List (List ℕ × TypeNo)) (n : ℕ) (at : Pos) (o : Option (List ℕ × TypeNo))
            → MadeSo types t fields_shape fs → slice_get fs n ≡ o
            → Holds (IsField t) (field_named g at (option_map (λ (e : List ℕ × TypeNo). (n, e.1)) o))
        field_found t fs n at None k q = reported_holds g at rule.Undeclared
        field_found t fs n at (Some e) k q = fine (n, e.1)
            (ap (λ (u : Ty). component u (n ∷ [])) (record_is types h t fs k) ∙ field_in_row (tree types) fs n e q)

        field_at : (t : TypeNo) (fs : List (List ℕ × TypeNo)) (at : Pos) (o : Option ℕ) → MadeSo types t fields_shape fs
            → Holds (IsField t) (field_named g at (typed_field fs o))
        field_at t fs at None k = reported_holds g at rule.Undeclared
        field_at t fs at (Some n) k = field_found t fs n at (slice_get fs n) k refl

        fields_by : (t : TypeNo) (at : Pos) (name : Ident) (o : Option (List (List ℕ × TypeNo))) → fields_at scope t ≡ o
            → Holds (IsField t) (record_field g at name o)
        fields_by t at name None e = reported_holds g at rule.WrongType
        fields_by t at name (Some fs) e = field_at t fs name.pos (place_of name.name fs)
            (fields_known scope types grows t fs e)

        pub field_typed : (at : Pos) (name : Ident) (d : Designated) → DesignatedTyped x ws opens d
            → Designated_ (field g scope at name d)
        field_typed at name (designated.Variable t d) p =
            then_holds (fields_by t at name (fields_at scope t) refl)
            (λ f k. fine (designated.Variable f.1 (behind d (part.Field t f.0)))
            (made.behind_typed x ws d (part.Field t f.0) (tree types t) (tree types f.1) p
            (made.field_typed x ws t f.0 (tree types f.1) k)))
        field_typed at name (designated.Value v) p = reported_holds g at rule.WrongType
        field_typed at name (designated.Open t slot) p = reported_holds g at rule.WrongType
        field_typed at name (designated.Type t) p = reported_holds g at rule.WrongType
        field_typed at name (designated.Procedure f) p = reported_holds g at rule.WrongType
        field_typed at name (designated.Nested f) p = reported_holds g at rule.WrongType
        field_typed at name (designated.Standard f) p = reported_holds g at rule.WrongType
        field_typed at name (designated.Module k) p = reported_holds g at rule.WrongType

        abbrev SubscriptedTyped : Subscripted → Type 0
        SubscriptedTyped (indexes.Array t i e d) = PlaceTyped x ws d (tree types t) × IsArray types h t i e
        SubscriptedTyped (indexes.Open t slot) = kind_at x.kinds slot ≡ Some (Open (tree types t))

        array_typed : (at : Pos) (t : TypeNo) (d : Place) (o : Option (TypeNo × TypeNo)) → array_at scope t ≡ o
            → PlaceTyped x ws d (tree types t) → Holds SubscriptedTyped (array_indexed g at t d o)
        array_typed at t d None e p = reported_holds g at rule.WrongType
        array_typed at t d (Some a) e p = fine (indexes.Array t a.0 a.1 d)
            (p, array_is types h t a (array_known scope types grows t a e))

        indices_typed : (at : Pos) (d : Designated) → DesignatedTyped x ws opens d
            → Holds SubscriptedTyped (indices g scope at d)
        indices_typed at (designated.Variable t d) p = array_typed at t d (array_at scope t) refl p
        indices_typed at (designated.Open t slot) p = fine (indexes.Open t slot) p
        indices_typed at (designated.Value v) p = reported_holds g at rule.WrongType
        indices_typed at (designated.Type t) p = reported_holds g at rule.WrongType
        indices_typed at (designated.Procedure f) p = reported_holds g at rule.WrongType
        indices_typed at (designated.Nested f) p = reported_holds g at rule.WrongType
        indices_typed at (designated.Standard f) p = reported_holds g at rule.WrongType
        indices_typed at (designated.Module k) p = reported_holds g at rule.WrongType

        picked_typed : (t : TypeNo) (e : TypedExpr) (a : Subscripted) → GivenTyped x ws e t → SubscriptedTyped a
            → DesignatedTyped x ws opens (element_of_array e a)
        picked_typed t e (indexes.Array u i z d) p q =
            made.behind_typed x ws d (part.Element u e) (tree types u) (tree types z) q.0
            (made.element_typed x ws u p.of q.1.range (tree types z) e q.1.index q.1.elements p.typed)
        picked_typed t e (indexes.Open u slot) p q = made.open_element_typed x ws slot u p.of e q p.typed

        pub indexed_typed : (at : Pos) {d : Result Designated g.Reported} (at' : Pos) {v : Result Computed g.Reported}
            → Designated_ d → Value_ v → Designated_ (element_at_index g scope (d ▷ indices g scope at) at' v)
        indexed_typed at at' p q =
            then_holds (both_holds g (then_holds p (λ d k. indices_typed at d k)) q)
            (λ v k. then_holds (suited_typed rule.NotAssignable (index_type v.0) at' v.1 k.1)
            (λ e j. fine (element_of_array e v.0) (picked_typed (index_type v.0) e v.0 j k.0)))
