-- Calls of standard procedures as statements answer exactly.
use Rattle.std.proofs.Common.{◌≡◌, ℕ, suc, ℤ, pos, Bool, not, cond, List, [], ◌∷◌, length, Option, Some, None, Result, Ok, ◌⊎◌, inl, inr, refl, sym, subst, ◌∙◌}
use Rattle.std.specs.Prelude.{map}
use Rattle.m2_rule.specs.declared.breach.Breach.{Breach}
use Rattle.m2_rule.specs.declared.rule.Rule.{Rule}
use Rattle.m2_rule.specs.declared.rule.Rule.TheVariants as rule
use Rattle.m2_tree.specs.declared.pos.Pos.{Pos}
use Rattle.m2_tree.specs.declared.name.Ident.{Ident}
use Rattle.m2_tree.specs.declared.expr.Expr.{Expr}
use Rattle.typed_tree.specs.declared.types.TypeNo.{TypeNo}
use Rattle.typed_tree.specs.declared.computed.Place.{Place}
use Rattle.typed_tree.specs.declared.computed.TypedExpr.{TypedExpr}
use Rattle.typed_tree.specs.declared.computed.TypedExpr.TheVariants as expr
use Rattle.typed_tree.specs.declared.statement.Change.{Change}
use Rattle.typed_tree.specs.declared.statement.Change.TheVariants.{Increase, Decrease}
use Rattle.typed_tree.specs.declared.statement.Membership.{Membership}
use Rattle.typed_tree.specs.declared.statement.Membership.TheVariants.{Include, Exclude}
use Rattle.typed_tree.specs.declared.statement.TypedStmt.{TypedStmt}
use Rattle.typed_tree.specs.declared.statement.TypedStmt.TheVariants as statement
use Rattle.typed_tree.specs.declared.meaning.Standard.{Standard}
use Rattle.typed_tree.specs.declared.meaning.Standard.TheVariants.{Abs, Cap, Chr, High, Max, Min, Odd, Ord, Val, Inc, Dec, Incl, Excl, Halt, Put}
use Rattle.typed_tree.specs.declared.shape.Scalar.{Scalar as Range}
use Rattle.typed_tree.specs.declared.shape.Shape.{Shape}
use Rattle.typed_tree.specs.declared.shape.Shape.TheVariants as shape
use Rattle.typed_tree.specs.declared.known_types.Types.{Types}
use Rattle.typed_tree.specs.Types.{is_numeric, cardinal, char}
use Rattle.check_scope.specs.declared.scope.Scope.{Scope}
use Rattle.check_scope.specs.Elaborated.{Gathers, report, reported_where, reported_beside, of_sort, ◌▷◌}
use Rattle.check_const.specs.declared.operand.Operand.{Operand}
use Rattle.check_const.specs.declared.operand.Ordinal.{Ordinal}
use Rattle.check_const.specs.Operands.{is_number}
use Rattle.check_const.specs.Numbers.{is_between}
use Rattle.check_const.specs.Standards.{scalar_part, if_number}
use Rattle.check_value.specs.declared.class.Class.{Class}
use Rattle.check_value.specs.declared.computed.Computed.{Computed}
use Rattle.check_value.specs.declared.computed.Designated.{Designated}
use Rattle.check_value.specs.Effects.{change_target_as, change_target, known_amount, amount, change_by, set_as, set_variable, element_known, set_element, put}
use Rattle.check_expr.specs.Meanings.{meanings_of, value_of, breaches_in_all, wrong_count}
use Rattle.check_expr.specs.Effects.{change_target_in, change_statement, set_in, member_by, halt_statement, put_by, function_done, standard_done}
use Rattle.def_typing.specs.Shapes.{shape_at, IsMade}
use Rattle.def_typing.specs.Amounts.{Constant, Value, IsNumber, Within}
use Rattle.def_typing.specs.Operators.{◌!◌, Kind, Scalar, IsElement, constant_element, some_element, operand}
use Rattle.def_typing.specs.Things.{Thing, AVariable, AStandard, Standing, IsAssignable, Misassigned}
use Rattle.def_typing.specs.Functions.{MayConvert}
use Rattle.def_typing.specs.Parts.{first, Among, here, later}
use Rattle.def_typing.specs.Expressions.{broken, mistaken}
use Rattle.def_typing.specs.Actions as rules
use Rattle.def_typing.specs.Actions.{IsCounting, by_inc, by_dec, IsSetting, by_incl, by_excl, HasCount, inc_by_one, inc_by, dec_by_one, dec_by, to_include, to_exclude, to_halt, to_put, MayChange, a_scalar, a_set, InSet, IsAmount, a_number, an_element, Misamounts, no_number, no_element, TakesVariable, by_one, by_number, of_set, TakesAmount, of_counting, of_setting, TakesValue, an_amount, of_put, IsProper, proper, standard, Acts, acts, counts, changes, halts, puts, Misacts}
use Rattle.law_typing.specs.Judging.{Judges, Answers}
use Rattle.law_typing.specs.Exact.{IsKind, kind_constant, kind_scalar, kind_set, kind_routine, kind_procedure, kind_whole, kind_untaken, IsThing, thing_value, thing_variable, thing_open, thing_type, thing_procedure, thing_nested, thing_standard, thing_module}
use Rattle.law_typing.proofs.Combining.{Lawful, Decided, holds, fails_it, exact, declined_beside, Checks, passes, stopped, map_checks, both_checks, then_check, sort_checks}
use Rattle.law_typing.proofs.Deciding.{number_decided, within_decided}
use Rattle.law_typing.proofs.Placing.{value_suits}
use Rattle.law_typing.proofs.Places.{at_is}
use Rattle.law_typing.proofs.Shaping.{class_of, class_is, one_made}
use Rattle.law_typing.proofs.Singles.{IsConstantOperand, constant_scalar, constant_set, constant_text, constant_is}
use Rattle.law_typing.proofs.Elements.{checks_answer}
use Rattle.law_typing.proofs.Finding.{Elsewhere, StandsFor, HasKind, IsBroken, IsBrokenValue, IsFound, AnyBroken, valued, look_tells}

-- ---- the procedures

apart : {p : Standard} → IsCounting p → IsSetting p → ⊥
apart by_inc i = elim i [ ]
apart by_dec i = elim i [ ]

counting_one : {p : Standard} → IsCounting p → HasCount p 1
counting_one by_inc = inc_by_one
counting_one by_dec = dec_by_one

counting_two : {p : Standard} → IsCounting p → HasCount p 2
counting_two by_inc = inc_by
counting_two by_dec = dec_by

setting_two : {p : Standard} → IsSetting p → HasCount p 2
setting_two by_incl = to_include
setting_two by_excl = to_exclude

variable_count : {p : Standard} {xs : List Expr} {x : Expr} → TakesVariable p xs x → HasCount p (length xs)
variable_count (by_one i) = counting_one i
variable_count (by_number i) = counting_two i
variable_count (of_set i) = setting_two i

amount_count : {p : Standard} {xs : List Expr} {x : Expr} → TakesAmount p xs x → HasCount p (length xs)
amount_count (of_counting i) = counting_two i
amount_count (of_setting i) = setting_two i

value_count : {p : Standard} {xs : List Expr} {x : Expr} → TakesValue p xs x → HasCount p (length xs)
value_count (an_amount t) = amount_count t
value_count of_put = to_put

-- ---- the arguments

module _ (types : Types) where
  scalar_change : {p : Standard} {t : TypeNo} → IsCounting p → MayChange types p (AVariable t) → (r : Range)
      × IsMade types t (shape.Scalar r)
  scalar_change i (a_scalar {r = r} c m) = (r, m)
  scalar_change i (a_set c m) = absurd (apart i c)

  set_change : {p : Standard} {t : TypeNo} → IsSetting p → MayChange types p (AVariable t) → IsMade types t shape.Set
  set_change i (a_scalar c m) = absurd (apart c i)
  set_change i (a_set c m) = m

  changes_two : {p : Standard} {x : Thing} → MayChange types p x → HasCount p 2
  changes_two (a_scalar i m) = counting_two i
  changes_two (a_set i m) = setting_two i

module _ (g : Gathers) (j : Judges g) (lawful : Lawful g j) (O : Breach → Type 0) (types : Types) (p : Standard)
    (at : Pos) where
  -- ---- the variable

  abbrev NoChange : Thing → Breach → Type 0
  NoChange x f = (MayChange types p x → ⊥) × (f ≡ at ! rule.NoVariable)

  abbrev ChangesSo : {A : Type 0} → Thing → Result A g.Reported → Type 0
  ChangesSo x r = Checks g j lawful O (MayChange types p x) (NoChange x) r

  pub unchanged : {A : Type 0} {x : Thing} → (MayChange types p x → ⊥)
      → ChangesSo {A = A} x (report g at rule.NoVariable)
  unchanged n = stopped g j lawful O at rule.NoVariable n (n, refl) (λ f z. z.1)

  pub may_change : {A : Type 0} {x : Thing} (a : A) → MayChange types p x → ChangesSo x (Ok a)
  may_change a m = passes a m (λ f z. z.0 m)

  no_scalar : {t : TypeNo} {z : Shape} → IsCounting p → IsMade types t z → ((r : Range) → z ≡ shape.Scalar r → ⊥)
      → MayChange types p (AVariable t) → ⊥
  no_scalar {t = t} i e n m = let q = scalar_change types i m in n q.0 (one_made types t e q.1)

  no_shape : (t : TypeNo) {z : Shape} → shape_at types t ≡ None → IsMade types t z → ⊥
  no_shape t e m = let q = sym e ∙ m in absurd cc

  scalar_by : (i : IsCounting p) (t : TypeNo) (d : Place) (z : Option Shape) → shape_at types t ≡ z
      → ChangesSo (AVariable t) (change_target_as g at t d (class_of z))
  scalar_by i t d None e = unchanged (λ m. no_shape t e (scalar_change types i m).1)
  scalar_by i t d (Some (shape.Scalar r)) e = may_change (t, d) (a_scalar i e)
  scalar_by i t d (Some shape.Set) e = unchanged (no_scalar i e (λ r q. absurd cc))
  scalar_by i t d (Some (shape.Array k u)) e = unchanged (no_scalar i e (λ r q. absurd cc))
  scalar_by i t d (Some (shape.Record fs)) e = unchanged (no_scalar i e (λ r q. absurd cc))
  scalar_by i t d (Some (shape.Procedure h)) e = unchanged (no_scalar i e (λ r q. absurd cc))
  scalar_by i t d (Some (shape.Open u)) e = unchanged (no_scalar i e (λ r q. absurd cc))

  pub changed_checks : IsCounting p → (a : Designated) (x : Thing) → IsThing a x
      → ChangesSo x (change_target g types at a)
  changed_checks i _ _ (thing_variable t d) =
      subst (λ (c : Class). ChangesSo (AVariable t) (change_target_as g at t d c)) (sym (class_is types t))
      (scalar_by i t d (shape_at types t) refl)
  changed_checks i _ _ (thing_value k) = unchanged (λ m. elim m [ ])
  changed_checks i _ _ (thing_open t d) = unchanged (λ m. elim m [ ])
  changed_checks i _ _ (thing_type t) = unchanged (λ m. elim m [ ])
  changed_checks i _ _ (thing_procedure q) = unchanged (λ m. elim m [ ])
  changed_checks i _ _ (thing_nested q) = unchanged (λ m. elim m [ ])
  changed_checks i _ _ (thing_standard q) = unchanged (λ m. elim m [ ])
  changed_checks i _ _ (thing_module k) = unchanged (λ m. elim m [ ])

  no_set : {t : TypeNo} {z : Shape} → IsSetting p → IsMade types t z → (z ≡ shape.Set → ⊥)
      → MayChange types p (AVariable t) → ⊥
  no_set {t = t} i e n m = n (one_made types t e (set_change types i m))

  set_by : (i : IsSetting p) (t : TypeNo) (d : Place) (z : Option Shape) → shape_at types t ≡ z
      → ChangesSo (AVariable t) (set_as g at d (class_of z))
  set_by i t d None e = unchanged (λ m. no_shape t e (set_change types i m))
  set_by i t d (Some shape.Set) e = may_change d (a_set i e)
  set_by i t d (Some (shape.Scalar r)) e = unchanged (no_set i e (λ q. absurd cc))
  set_by i t d (Some (shape.Array k u)) e = unchanged (no_set i e (λ q. absurd cc))
  set_by i t d (Some (shape.Record fs)) e = unchanged (no_set i e (λ q. absurd cc))
  set_by i t d (Some (shape.Procedure h)) e = unchanged (no_set i e (λ q. absurd cc))
  set_by i t d (Some (shape.Open u)) e = unchanged (no_set i e (λ q. absurd cc))

  pub set_checks : IsSetting p → (a : Designated) (x : Thing) → IsThing a x → ChangesSo x (set_variable g types at a)
  set_checks i _ _ (thing_variable t d) =
      subst (λ (c : Class). ChangesSo (AVariable t) (set_as g at d c)) (sym (class_is types t))
      (set_by i t d (shape_at types t) refl)
  set_checks i _ _ (thing_value k) = unchanged (λ m. elim m [ ])
  set_checks i _ _ (thing_open t d) = unchanged (λ m. elim m [ ])
  set_checks i _ _ (thing_type t) = unchanged (λ m. elim m [ ])
  set_checks i _ _ (thing_procedure q) = unchanged (λ m. elim m [ ])
  set_checks i _ _ (thing_nested q) = unchanged (λ m. elim m [ ])
  set_checks i _ _ (thing_standard q) = unchanged (λ m. elim m [ ])
  set_checks i _ _ (thing_module k) = unchanged (λ m. elim m [ ])

  -- ---- the second argument

  abbrev AmountSo : Kind → Result TypedExpr g.Reported → Type 0
  AmountSo k r = Checks g j lawful O (IsAmount p k) (λ f. Misamounts p at k f) r

  is_number_of : {k : Kind} → IsAmount p k → MayConvert k
  is_number_of (a_number i m) = m
  is_number_of (an_element i m s) = m

  in_set_of : {k : Kind} → IsSetting p → IsAmount p k → InSet k
  in_set_of i (a_number c m) = absurd (apart c i)
  in_set_of i (an_element c m s) = s

  no_amount : {k : Kind} → (MayConvert k → ⊥) → AmountSo k (report g at rule.WrongArgument)
  no_amount {k = k} n = stopped g j lawful O at rule.WrongArgument (λ m. n (is_number_of m)) (no_number n)
      (λ f z. one z)
    where
      one : {f : Breach} → Misamounts p at k f → f ≡ at ! rule.WrongArgument
      one (no_number m) = refl
      one (no_element i m s) = absurd (n m)

  fit : {k : Kind} (e : TypedExpr) → MayConvert k → IsAmount p k → (IsSetting p → InSet k) → AmountSo k (Ok e)
  fit {k = k} e m a s = passes e a (λ f z. none z)
    where
      none : {f : Breach} → Misamounts p at k f → ⊥
      none (no_number n) = n m
      none (no_element i q n) = n (s i)

  -- INC and DEC
  amount_by : (a : Ordinal) (b : Bool) → IsCounting p → Decided (IsNumber a.sort) b
      → AmountSo (Scalar (Constant a.sort a.number)) (known_amount g at (cond b (Some a) None))
  amount_by a _ i (holds m) = fit _ m (a_number i m) (λ c. absurd (apart i c))
  amount_by a _ i (fails_it n) = no_amount n

  amount_known : {q : Option Operand} {c : Kind} → IsCounting p → IsConstantOperand q c
      → AmountSo c (known_amount g at (if_number (scalar_part q)))
  amount_known i (constant_scalar a) = amount_by a (is_number a.sort) i (number_decided a.sort)
  amount_known i (constant_set bits) = no_amount (λ m. m)
  amount_known i (constant_text text) = no_amount (λ m. m)

  amount_run : (b : TypeNo) (e : TypedExpr) (c : Bool) → IsCounting p → Decided (IsNumber (Some b)) c
      → AmountSo (Scalar (Value b)) (reported_where g (not c) at rule.WrongArgument (Ok e))
  amount_run b e _ i (holds m) = fit e m (a_number i m) (λ c. absurd (apart i c))
  amount_run b e _ i (fails_it n) = no_amount n

  pub amount_checks : {x : Computed} {k : Kind} → IsCounting p → IsKind x k → AmountSo (operand k) (amount g at x)
  amount_checks i (kind_constant v) = amount_known i (constant_is v)
  amount_checks i (kind_scalar t b e) = amount_run b e (is_numeric b) i (number_decided (Some b))
  amount_checks i (kind_set e) = no_amount (λ m. m)
  amount_checks i (kind_routine t e) = no_amount (λ m. m)
  amount_checks i (kind_procedure q) = no_amount (λ m. m)
  amount_checks i (kind_whole t d) = no_amount (λ m. m)
  amount_checks i kind_untaken = no_amount (λ m. m)

  -- INCL and EXCL
  out_of_set : {k : Kind} → IsSetting p → MayConvert k → (InSet k → ⊥) → AmountSo k (report g at rule.OutOfRange)
  out_of_set {k = k} i m n = stopped g j lawful O at rule.OutOfRange (λ a. n (in_set_of i a)) (no_element i m n)
      (λ f z. one z)
    where
      one : {f : Breach} → Misamounts p at k f → f ≡ at ! rule.OutOfRange
      one (no_number q) = absurd (q m)
      one (no_element c q s) = refl

  is_within : {sort : Option TypeNo} {n : ℤ} → IsElement (Constant sort n) → Within (pos 0) n (pos 31)
  is_within (constant_element w) = w

  within_by : (a : Ordinal) (e : TypedExpr) (b : Bool) → IsSetting p → IsNumber a.sort
      → Decided (Within (pos 0) a.number (pos 31)) b
      → AmountSo (Scalar (Constant a.sort a.number)) (reported_where g (not b) at rule.OutOfRange (Ok e))
  within_by a e _ i m (holds w) = fit e m (an_element i m (constant_element w)) (λ c. constant_element w)
  within_by a e _ i m (fails_it n) = out_of_set i m (λ s. n (is_within s))

  element_by : (a : Ordinal) (b : Bool) → IsSetting p → Decided (IsNumber a.sort) b
      → AmountSo (Scalar (Constant a.sort a.number)) (element_known g at (cond b (Some a) None))
  element_by a _ i (holds m) = within_by a _ (is_between (pos 0) a.number (pos 31)) i m
      (within_decided (pos 0) a.number (pos 31))
  element_by a _ i (fails_it n) = no_amount n

  known_element : {q : Option Operand} {c : Kind} → IsSetting p → IsConstantOperand q c
      → AmountSo c (element_known g at (if_number (scalar_part q)))
  known_element i (constant_scalar a) = element_by a (is_number a.sort) i (number_decided a.sort)
  known_element i (constant_set bits) = no_amount (λ m. m)
  known_element i (constant_text text) = no_amount (λ m. m)

  element_run : (b : TypeNo) (e : TypedExpr) (c : Bool) → IsSetting p → Decided (IsNumber (Some b)) c
      → AmountSo (Scalar (Value b)) (reported_where g (not c) at rule.WrongArgument (Ok e))
  element_run b e _ i (holds m) = fit e m (an_element i m some_element) (λ c. some_element)
  element_run b e _ i (fails_it n) = no_amount n

  pub element_checks : {x : Computed} {k : Kind} → IsSetting p → IsKind x k → AmountSo (operand k) (set_element g at x)
  element_checks i (kind_constant v) = known_element i (constant_is v)
  element_checks i (kind_scalar t b e) = element_run b e (is_numeric b) i (number_decided (Some b))
  element_checks i (kind_set e) = no_amount (λ m. m)
  element_checks i (kind_routine t e) = no_amount (λ m. m)
  element_checks i (kind_procedure q) = no_amount (λ m. m)
  element_checks i (kind_whole t d) = no_amount (λ m. m)
  element_checks i kind_untaken = no_amount (λ m. m)

-- ---- calls of them

module _ (g : Gathers) (j : Judges g) (lawful : Lawful g j) (names : Ident → Standing) (exports : ℕ → Ident → Standing)
    (s : Scope g.Reported) where
  abbrev E : Breach → Type 0
  E = Elsewhere g j lawful names exports s

  abbrev S : Expr → Thing → Type 0
  S = StandsFor g j lawful names exports s

  abbrev H : Expr → Kind → Type 0
  H = HasKind g j lawful names exports s

  abbrev B : Expr → Breach → Type 0
  B = IsBroken g j lawful names exports s

  abbrev V : Expr → Breach → Type 0
  V = IsBrokenValue g j lawful names exports s

  abbrev Found : Expr → Type 0
  Found = IsFound g j lawful names exports s

  abbrev Any : List Expr → Breach → Type 0
  Any = AnyBroken g j lawful names exports s

  abbrev A : Thing → List Expr → Type 0
  A = Acts s.types names exports

  abbrev M : Pos → Thing → List Expr → Breach → Type 0
  M = Misacts s.types names exports

  -- what a call answers, with what is broken in its arguments
  abbrev pub ActsSo : Pos → Thing → List Expr → Result TypedStmt g.Reported → Type 0
  ActsSo at x xs r = Answers g j E {A = TypedStmt} {K = Unit {0}} (λ a u. Unit {0}) (λ u. A x xs)
      (λ f. M at x xs f ⊎ Any xs f) r

  pub refused_action : {x : Thing} {xs : List Expr} (at : Pos) (refused : Rule) → (A x xs → ⊥)
      → M at x xs (at ! refused) → ((f : Breach) → M at x xs f → f ≡ at ! refused) → ((y : Expr) → Among y xs → Found y)
      → ActsSo at x xs (reported_beside g at refused (breaches_in_all g s (map (meanings_of g) xs)))
  refused_action {x = x} {xs = xs} at refused n m only h =
      exact g j lawful E {M = λ u. ⊥} (λ k c. absurd c) (λ k c. n c)
      (λ f b. elim b [ inl e ↦ inl (subst (M at x xs) (sym e) m) | inr a ↦ inr a ])
      (λ f b. elim b [ inl q ↦ inl (only f q) | inr a ↦ inr a ])
      (declined_beside g j lawful E at refused (λ u c. c) (look_tells g j lawful names exports s xs h))

  -- ---- the count of arguments

  standard_count : {p : Standard} {n : ℕ} → IsProper s.types (AStandard p) n → HasCount p n
  standard_count (proper h e) = elim h [ ]
  standard_count (standard c) = c

  acts_count : {p : Standard} {xs : List Expr} → A (AStandard p) xs → HasCount p (length xs)
  acts_count (acts h e a) = elim h [ ]
  acts_count (counts i m c) = counting_one i
  acts_count (changes m c h a) = changes_two s.types c
  acts_count halts = to_halt
  acts_count (puts h a) = to_put

  miscounts : {p : Standard} {xs : List Expr} (at : Pos) (f : Breach) → (HasCount p (length xs) → ⊥)
      → M at (AStandard p) xs f → ((n : ℕ) → HasCount p n → ⊥)
      ⊎ ((n : ℕ) × HasCount p n × (f ≡ at ! rule.ArgumentCount))
  miscounts at _ q (rules.no_procedure h m) = inl (λ n c. m n (standard c))
  miscounts at _ q (rules.wrong_count {n = n} i m) = inr (n, standard_count i, refl)
  miscounts at f q (rules.mispassed h r c b m z) = elim h [ ]
  miscounts at _ q (rules.no_variable t m z) = absurd (q (variable_count t))
  miscounts at f q (rules.no_value t m z) = absurd (q (value_count t))
  miscounts at f q (rules.misamounts t m z) = absurd (q (amount_count t))
  miscounts at f q (rules.no_character m z) = absurd (q to_put)

  count_only : {p : Standard} {xs : List Expr} {n : ℕ} (at : Pos) (f : Breach) → HasCount p n
      → (HasCount p (length xs) → ⊥) → M at (AStandard p) xs f → f ≡ at ! rule.ArgumentCount
  count_only {n = n} at f c q m = elim (miscounts at f q m) [ inl h ↦ absurd (h n c) | inr h ↦ h.2 ]

  -- another count
  miscounted_action : {p : Standard} {xs : List Expr} {n : ℕ} (at : Pos) → HasCount p n → (HasCount p (length xs) → ⊥)
      → ((y : Expr) → Among y xs → Found y) → ActsSo at (AStandard p) xs (wrong_count g s at (map (meanings_of g) xs))
  miscounted_action at c q h = refused_action at rule.ArgumentCount (λ a. q (acts_count a))
      (rules.wrong_count (standard c) (λ i. q (standard_count i))) (λ f m. count_only at f c q m) h

  function_only : {p : Standard} {xs : List Expr} (at : Pos) (f : Breach) → ((n : ℕ) → HasCount p n → ⊥)
      → M at (AStandard p) xs f → f ≡ at ! rule.WrongType
  function_only at _ q (rules.no_procedure h m) = refl
  function_only at _ q (rules.wrong_count {n = n} i m) = absurd (q n (standard_count i))
  function_only at f q (rules.mispassed h r c b m z) = elim h [ ]
  function_only {xs = xs} at _ q (rules.no_variable t m z) = absurd (q (length xs) (variable_count t))
  function_only {xs = xs} at f q (rules.no_value t m z) = absurd (q (length xs) (value_count t))
  function_only {xs = xs} at f q (rules.misamounts t m z) = absurd (q (length xs) (amount_count t))
  function_only at f q (rules.no_character m z) = absurd (q 1 to_put)

  -- functions are no statements
  function_action : {p : Standard} {xs : List Expr} (at : Pos) → ((n : ℕ) → HasCount p n → ⊥)
      → ((y : Expr) → Among y xs → Found y) → ActsSo at (AStandard p) xs (function_done g s at (map (meanings_of g) xs))
  function_action {xs = xs} at q h = refused_action at rule.WrongType (λ a. q (length xs) (acts_count a))
      (rules.no_procedure (λ b e. absurd cc) (λ n i. q n (standard_count i))) (λ f m. function_only at f q m) h

  -- ---- the arguments

  abbrev Variable : Standard → Expr → Type 0
  Variable p v = (x : Thing) × S v x × MayChange s.types p x

  abbrev VariableFails : Standard → Expr → Breach → Type 0
  VariableFails p v f = B v f ⊎ ((x : Thing) × S v x × ((MayChange s.types p x → ⊥) × (f ≡ first v ! rule.NoVariable)))

  abbrev Amount : Standard → Expr → Type 0
  Amount p e = (k : Kind) × H e k × IsAmount p (operand k)

  abbrev AmountFails : Standard → Expr → Breach → Type 0
  AmountFails p e f = V e f ⊎ ((k : Kind) × H e k × Misamounts p (first e) (operand k) f)

  counted_variable : {p : Standard} {v : Expr} → IsCounting p → Found v
      → Checks g j lawful E {A = TypeNo × Place} (Variable p v) (VariableFails p v)
      (change_target_in g s (meanings_of g v))
  counted_variable {p = p} {v = v} c h = subst
      (λ (at : Pos). Checks g j lawful E {A = TypeNo × Place} (Variable p v) (VariableFails p v)
      (of_sort g at rule.NoVariable ((meanings_of g v).means s) ▷ change_target g s.types at)) (sym (at_is g v))
      (sort_checks g j lawful E (first v) rule.NoVariable h (changed_checks g j lawful E s.types p (first v) c)
      (λ b. unchanged g j lawful E s.types p (first v) (λ m. elim m [ ])))

  set_variable_checks : {p : Standard} {v : Expr} → IsSetting p → Found v
      → Checks g j lawful E {A = Place} (Variable p v) (VariableFails p v) (set_in g s (meanings_of g v))
  set_variable_checks {p = p} {v = v} c h =
      subst (λ (at : Pos). Checks g j lawful E {A = Place} (Variable p v) (VariableFails p v)
      (of_sort g at rule.NoVariable ((meanings_of g v).means s) ▷ set_variable g s.types at)) (sym (at_is g v))
      (sort_checks g j lawful E (first v) rule.NoVariable h (set_checks g j lawful E s.types p (first v) c)
      (λ b. unchanged g j lawful E s.types p (first v) (λ m. elim m [ ])))

  amount_of : {p : Standard} {e : Expr} → IsCounting p → Found e
      → Checks g j lawful E {A = TypedExpr} (Amount p e) (AmountFails p e)
      (value_of g s (meanings_of g e) ▷ amount g (meanings_of g e).fixed.at)
  amount_of {p = p} {e = e} c h = subst (λ (at : Pos). Checks g j lawful E {A = TypedExpr} (Amount p e)
      (AmountFails p e) (value_of g s (meanings_of g e) ▷ amount g at)) (sym (at_is g e))
      (then_check g j lawful E {P = λ k. IsAmount p (operand k)} {D = λ k f. Misamounts p (first e) (operand k) f}
      (valued g j lawful names exports s h) (λ v k q. amount_checks g j lawful E s.types p (first e) c q))

  element_of : {p : Standard} {e : Expr} → IsSetting p → Found e
      → Checks g j lawful E {A = TypedExpr} (Amount p e) (AmountFails p e)
      (value_of g s (meanings_of g e) ▷ set_element g (meanings_of g e).fixed.at)
  element_of {p = p} {e = e} c h = subst (λ (at : Pos). Checks g j lawful E {A = TypedExpr} (Amount p e)
      (AmountFails p e) (value_of g s (meanings_of g e) ▷ set_element g at)) (sym (at_is g e))
      (then_check g j lawful E {P = λ k. IsAmount p (operand k)} {D = λ k f. Misamounts p (first e) (operand k) f}
      (valued g j lawful names exports s h) (λ v k q. element_checks g j lawful E s.types p (first e) c q))

  -- ---- INC and DEC by 1

  one_out : {p : Standard} {v : Expr} → A (AStandard p) (v ∷ []) → IsCounting p → Variable p v
  one_out (acts h e a) i = elim h [ ]
  one_out (counts {x = x} c m z) i = (x, m, z)
  one_out (puts h a) i = elim i [ ]

  one_in : {p : Standard} {v : Expr} (at : Pos) (f : Breach) → IsCounting p → VariableFails p v f ⊎ ⊥
      → M at (AStandard p) (v ∷ []) f ⊎ Any (v ∷ []) f
  one_in {v = v} at f i (inl (inl b)) = inr (v, here, b)
  one_in {p = p} {v = v} at f i (inl (inr (x, m, (n, e)))) =
      inl (subst (M at (AStandard p) (v ∷ [])) (sym e) (rules.no_variable (by_one i) m n))
  one_in at f i (inr b) = absurd b

  one_fails : {p : Standard} {v : Expr} (at : Pos) (f : Breach) → IsCounting p → M at (AStandard p) (v ∷ []) f
      → VariableFails p v f ⊎ ⊥
  one_fails at _ i (rules.no_procedure h m) = absurd (m 1 (standard (counting_one i)))
  one_fails at _ i (rules.wrong_count q m) = absurd (m (standard (counting_one i)))
  one_fails at f i (rules.mispassed h r c b m z) = elim h [ ]
  one_fails at _ i (rules.no_variable {x = x} (by_one c) m z) = inl (inr (x, m, (z, refl)))
  one_fails at f i (rules.no_value (an_amount t) m z) = elim t [ ]
  one_fails at f i (rules.no_value of_put m z) = elim i [ ]
  one_fails at f i (rules.misamounts t m z) = elim t [ ]
  one_fails at f i (rules.no_character m z) = elim i [ ]

  any_one : {v : Expr} (f : Breach) → Any (v ∷ []) f → B v f
  any_one f (v, here, b) = b
  any_one f (v, later m, b) = elim m [ ]

  one_action : {p : Standard} {v : Expr} (at : Pos) (o : Change) → IsCounting p → Found v
      → ActsSo at (AStandard p) (v ∷ []) (change_by g o (change_target_in g s (meanings_of g v))
      (Ok (expr.Constant cardinal (pos 1))))
  one_action {p = p} {v = v} at o c h = exact g j lawful E {M = λ u. Variable p v × Unit {0}}
      {B = λ f. VariableFails p v f ⊎ ⊥} (λ u z. counts c z.0.1 z.0.2) (λ u z. (one_out z c, tt))
      (λ f z. one_in at f c z)
      (λ f z. elim z [ inl m ↦ one_fails at f c m | inr a ↦ inl (inl (any_one f a)) ])
      (checks_answer g j lawful E (map_checks g j lawful E
      (λ (q : (TypeNo × Place) × TypedExpr). statement.Change o q.0.1 q.0.0 q.1)
      (both_checks g j lawful E (counted_variable c h) (passes (expr.Constant cardinal (pos 1)) tt (λ f b. b)))))

  -- ---- with a second argument

  two_out : {p : Standard} {v e : Expr} → A (AStandard p) (v ∷ e ∷ []) → Variable p v × Amount p e
  two_out (acts h e a) = elim h [ ]
  two_out (changes {x = x} {k = k} m z h a) = ((x, m, z), (k, h, a))

  two_fails : {p : Standard} {v e : Expr} (at : Pos) (f : Breach) → HasCount p 2 → M at (AStandard p) (v ∷ e ∷ []) f
      → VariableFails p v f ⊎ AmountFails p e f
  two_fails at _ i (rules.no_procedure h m) = absurd (m 2 (standard i))
  two_fails at _ i (rules.wrong_count q m) = absurd (m (standard i))
  two_fails at f i (rules.mispassed h r c b m z) = elim h [ ]
  two_fails at _ i (rules.no_variable {x = x} (by_number c) m z) = inl (inr (x, m, (z, refl)))
  two_fails at _ i (rules.no_variable {x = x} (of_set c) m z) = inl (inr (x, m, (z, refl)))
  two_fails at f i (rules.no_value (an_amount (of_counting c)) m z) = inr (inl (mistaken m z))
  two_fails at f i (rules.no_value (an_amount (of_setting c)) m z) = inr (inl (mistaken m z))
  two_fails at f i (rules.misamounts {k = k} (of_counting c) m z) = inr (inr (k, m, z))
  two_fails at f i (rules.misamounts {k = k} (of_setting c) m z) = inr (inr (k, m, z))

  two_in : {p : Standard} {v e : Expr} (at : Pos) (f : Breach) → TakesVariable p (v ∷ e ∷ []) v
      → TakesAmount p (v ∷ e ∷ []) e → VariableFails p v f ⊎ AmountFails p e f → M at (AStandard p) (v ∷ e ∷ []) f
      ⊎ Any (v ∷ e ∷ []) f
  two_in {v = v} at f i t (inl (inl b)) = inr (v, here, b)
  two_in {p = p} {v = v} {e = e} at f i t (inl (inr (x, m, (n, q)))) =
      inl (subst (M at (AStandard p) (v ∷ e ∷ [])) (sym q) (rules.no_variable i m n))
  two_in {e = e} at f i t (inr (inl (broken b))) = inr (e, later here, b)
  two_in at f i t (inr (inl (mistaken m z))) = inl (rules.no_value (an_amount t) m z)
  two_in at f i t (inr (inr (k, m, z))) = inl (rules.misamounts t m z)

  any_two : {p : Standard} {v e : Expr} (f : Breach) → Any (v ∷ e ∷ []) f → VariableFails p v f ⊎ AmountFails p e f
  any_two f (v, here, b) = inl (inl b)
  any_two f (e, later here, b) = inr (inl (broken b))
  any_two f (e, later (later m), b) = elim m [ ]

  two_action : {p : Standard} {v e : Expr} {r : Result TypedStmt g.Reported} (at : Pos) → HasCount p 2
      → TakesVariable p (v ∷ e ∷ []) v → TakesAmount p (v ∷ e ∷ []) e
      → Checks g j lawful E (Variable p v × Amount p e) (λ f. VariableFails p v f ⊎ AmountFails p e f) r
      → ActsSo at (AStandard p) (v ∷ e ∷ []) r
  two_action {p = p} {v = v} {e = e} at c i t h =
      exact g j lawful E {M = λ u. Variable p v × Amount p e} {B = λ f. VariableFails p v f ⊎ AmountFails p e f}
      (λ u z. changes z.0.1 z.0.2 z.1.1 z.1.2) (λ u z. two_out z) (λ f z. two_in at f i t z)
      (λ f z. elim z [ inl m ↦ two_fails at f c m | inr a ↦ any_two f a ]) (checks_answer g j lawful E h)

  change_action : {p : Standard} (at : Pos) (o : Change) (xs : List Expr) → IsCounting p
      → ((y : Expr) → Among y xs → Found y) →
      ActsSo at (AStandard p) xs (change_statement g s at o (map (meanings_of g) xs))
  change_action at o [] c h = miscounted_action at (counting_one c) (λ q. no_zero c q) h
    where
      no_zero : {p : Standard} → IsCounting p → HasCount p 0 → ⊥
      no_zero by_inc q = elim q [ ]
      no_zero by_dec q = elim q [ ]
  change_action at o (v ∷ []) c h = one_action at o c (h v here)
  change_action at o (v ∷ e ∷ []) c h = two_action at (counting_two c) (by_number c) (of_counting c)
      (map_checks g j lawful E (λ (q : (TypeNo × Place) × TypedExpr). statement.Change o q.0.1 q.0.0 q.1)
      (both_checks g j lawful E (counted_variable c (h v here)) (amount_of c (h e (later here)))))
  change_action at o (v ∷ e ∷ x ∷ xs) c h = miscounted_action at (counting_one c) (λ q. too_many c q) h
    where
      too_many : {p : Standard} {n : ℕ} → IsCounting p → HasCount p (suc (suc (suc n))) → ⊥
      too_many by_inc q = elim q [ ]
      too_many by_dec q = elim q [ ]

  set_action : {p : Standard} (at : Pos) (o : Membership) (xs : List Expr) → IsSetting p
      → ((y : Expr) → Among y xs → Found y) → ActsSo at (AStandard p) xs (member_by g s at o (map (meanings_of g) xs))
  set_action at o [] c h = miscounted_action at (setting_two c) (λ q. no_zero c q) h
    where
      no_zero : {p : Standard} → IsSetting p → HasCount p 0 → ⊥
      no_zero by_incl q = elim q [ ]
      no_zero by_excl q = elim q [ ]
  set_action at o (v ∷ []) c h = miscounted_action at (setting_two c) (λ q. no_one c q) h
    where
      no_one : {p : Standard} → IsSetting p → HasCount p 1 → ⊥
      no_one by_incl q = elim q [ ]
      no_one by_excl q = elim q [ ]
  set_action at o (v ∷ e ∷ []) c h = two_action at (setting_two c) (of_set c) (of_setting c)
      (map_checks g j lawful E (λ (q : Place × TypedExpr). statement.Membership o q.0 q.1)
      (both_checks g j lawful E (set_variable_checks c (h v here)) (element_of c (h e (later here)))))
  set_action at o (v ∷ e ∷ x ∷ xs) c h = miscounted_action at (setting_two c) (λ q. too_many c q) h
    where
      too_many : {p : Standard} {n : ℕ} → IsSetting p → HasCount p (suc (suc (suc n))) → ⊥
      too_many by_incl q = elim q [ ]
      too_many by_excl q = elim q [ ]

  -- ---- HALT and Put

  no_halt : (at : Pos) (f : Breach) → M at (AStandard Halt) [] f → ⊥
  no_halt at _ (rules.no_procedure h m) = m 0 (standard to_halt)
  no_halt at _ (rules.wrong_count i m) = m (standard to_halt)
  no_halt at f (rules.mispassed h r c b m z) = elim h [ ]
  no_halt at _ (rules.no_variable t m z) = elim t [ ]
  no_halt at f (rules.no_value (an_amount t) m z) = elim t [ ]
  no_halt at f (rules.misamounts t m z) = elim t [ ]

  halt_action : (at : Pos) (xs : List Expr) → ((y : Expr) → Among y xs → Found y)
      → ActsSo at (AStandard Halt) xs (halt_statement g s at (map (meanings_of g) xs))
  halt_action at [] h = checks_answer g j lawful E
      (passes statement.Halt halts (λ f z. elim z [ inl m ↦ no_halt at f m | inr a ↦ elim a.1 [ ] ]))
  halt_action at (x ∷ xs) h = miscounted_action at to_halt (λ q. elim q [ ]) h

  abbrev PutOf : Expr → Type 0
  PutOf e = (k : Kind) × H e k × IsAssignable s.types char (operand k)

  abbrev PutFails : Expr → Breach → Type 0
  PutFails e f = V e f ⊎ ((k : Kind) × H e k × Misassigned s.types char (first e) rule.WrongArgument (operand k) f)

  put_out : {e : Expr} → A (AStandard Put) (e ∷ []) → PutOf e
  put_out (acts h e a) = elim h [ ]
  put_out (counts i m c) = elim i [ ]
  put_out (puts {k = k} h a) = (k, h, a)

  put_fails : {e : Expr} (at : Pos) (f : Breach) → M at (AStandard Put) (e ∷ []) f → PutFails e f
  put_fails at _ (rules.no_procedure h m) = absurd (m 1 (standard to_put))
  put_fails at _ (rules.wrong_count i m) = absurd (m (standard to_put))
  put_fails at f (rules.mispassed h r c b m z) = elim h [ ]
  put_fails at _ (rules.no_variable (by_one i) m z) = elim i [ ]
  put_fails at f (rules.no_value (an_amount t) m z) = elim t [ ]
  put_fails at f (rules.no_value of_put m z) = inl (mistaken m z)
  put_fails at f (rules.misamounts t m z) = elim t [ ]
  put_fails at f (rules.no_character {k = k} m z) = inr (k, m, z)

  put_in : {e : Expr} (at : Pos) (f : Breach) → PutFails e f → M at (AStandard Put) (e ∷ []) f ⊎ Any (e ∷ []) f
  put_in {e = e} at f (inl (broken b)) = inr (e, here, b)
  put_in at f (inl (mistaken m z)) = inl (rules.no_value of_put m z)
  put_in at f (inr (k, m, z)) = inl (rules.no_character m z)

  put_action : (at : Pos) (xs : List Expr) → ((y : Expr) → Among y xs → Found y)
      → ActsSo at (AStandard Put) xs (put_by g s at (map (meanings_of g) xs))
  put_action at [] h = miscounted_action at to_put (λ q. elim q [ ]) h
  put_action at (e ∷ []) h = subst (λ (p : Pos). ActsSo at (AStandard Put) (e ∷ [])
      (value_of g s (meanings_of g e) ▷ put g s.types p)) (sym (at_is g e))
      (exact g j lawful E {M = λ u. PutOf e} {B = PutFails e} (λ u z. puts z.1 z.2) (λ u z. put_out z)
      (λ f z. put_in at f z) (λ f z. elim z [ inl m ↦ put_fails at f m | inr a ↦ inl (broken (any_one f a)) ])
      (checks_answer g j lawful E (then_check g j lawful E {P = λ k. IsAssignable s.types char (operand k)}
      {D = λ k f. Misassigned s.types char (first e) rule.WrongArgument (operand k) f}
      (valued g j lawful names exports s (h e here))
      (λ v k q. map_checks g j lawful E (λ x. statement.Put x)
      (value_suits s.types char g j lawful E rule.WrongArgument (first e) q)))))
  put_action at (e ∷ x ∷ xs) h = miscounted_action at to_put (λ q. elim q [ ]) h

  -- ---- all of them

  pub standard_acts : (p : Standard) (at : Pos) (xs : List Expr) → ((y : Expr) → Among y xs → Found y)
      → ActsSo at (AStandard p) xs (standard_done g s at (map (meanings_of g) xs) p)
  standard_acts Abs at xs h = function_action at (λ n c. elim c [ ]) h
  standard_acts Cap at xs h = function_action at (λ n c. elim c [ ]) h
  standard_acts Chr at xs h = function_action at (λ n c. elim c [ ]) h
  standard_acts High at xs h = function_action at (λ n c. elim c [ ]) h
  standard_acts Max at xs h = function_action at (λ n c. elim c [ ]) h
  standard_acts Min at xs h = function_action at (λ n c. elim c [ ]) h
  standard_acts Odd at xs h = function_action at (λ n c. elim c [ ]) h
  standard_acts Ord at xs h = function_action at (λ n c. elim c [ ]) h
  standard_acts Val at xs h = function_action at (λ n c. elim c [ ]) h
  standard_acts Inc at xs h = change_action at Increase xs by_inc h
  standard_acts Dec at xs h = change_action at Decrease xs by_dec h
  standard_acts Incl at xs h = set_action at Include xs by_incl h
  standard_acts Excl at xs h = set_action at Exclude xs by_excl h
  standard_acts Halt at xs h = halt_action at xs h
  standard_acts Put at xs h = put_action at xs h
