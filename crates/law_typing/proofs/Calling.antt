-- Calls in expressions answer exactly.
use Rattle.std.proofs.Common.{◌≡◌, ℕ, ℤ, List, [], ◌∷◌, length, Option, Some, None, Result, Ok, ◌⊎◌, inl, inr, refl, sym, ap, subst, ◌∙◌, arith}
use Rattle.std.specs.Prelude.{map}
use Rattle.m2_rule.specs.declared.rule.Rule.{Rule}
use Rattle.m2_rule.specs.declared.rule.Rule.TheVariants as rule
use Rattle.m2_tree.specs.declared.pos.Pos.{Pos}
use Rattle.m2_tree.specs.declared.name.Ident.{Ident}
use Rattle.m2_tree.specs.declared.expr.Expr.{Expr}
use Rattle.typed_tree.specs.declared.types.TypeNo.{TypeNo}
use Rattle.typed_tree.specs.declared.meaning.Standard.{Standard}
use Rattle.typed_tree.specs.declared.meaning.Standard.TheVariants.{Abs, Cap, Chr, High, Max, Min, Odd, Ord, Val, Inc, Dec, Incl, Excl, Halt, Put}
use Rattle.typed_tree.specs.declared.shape.Scalar.{Scalar as Range}
use Rattle.typed_tree.specs.declared.shape.Shape.{Shape}
use Rattle.typed_tree.specs.declared.shape.Shape.TheVariants as shape
use Rattle.typed_tree.specs.Types.{cardinal}
use Rattle.m2_rule.specs.declared.breach.Breach.{Breach}
use Rattle.check_scope.specs.declared.scope.Scope.{Scope}
use Rattle.check_scope.specs.Elaborated.{Gathers, report, reported_beside, of_sort, of_sort_of_value, ◌▷◌}
use Rattle.check_const.specs.Calls.{bound_by, scalar_type}
use Rattle.check_value.specs.declared.computed.Computed.{Computed}
use Rattle.check_value.specs.declared.computed.Computed.TheVariants as computed
use Rattle.check_value.specs.declared.computed.Designated.{Designated}
use Rattle.check_value.specs.declared.callee.Called.TheVariants as called
use Rattle.check_value.specs.declared.standard.Unary.{Unary}
use Rattle.check_value.specs.Functions.{type_named, bound_at, conversion_at, converted_value, high_of, unary_at}
use Rattle.check_expr.specs.Meanings as meanings
use Rattle.check_expr.specs.Meanings.{meanings_of, value_of, wrong_count, breaches_in_all, with_actual, actuals, call_given, formals_of, routine_called, scalar_named, callee_value, call_in_expression}
use Rattle.def_typing.specs.Shapes.{shape_at, IsMade}
use Rattle.def_typing.specs.Amounts.{Constant, Value}
use Rattle.def_typing.specs.Operators.{◌!◌, Kind, Scalar, operand, Misapplied}
use Rattle.def_typing.specs.Things.{Thing, AnOpenArray, AType, AStandard, Standing, Mistaken}
use Rattle.def_typing.specs.Functions as functions
use Rattle.def_typing.specs.Functions.{TakesOne, abs_takes, cap_takes, chr_takes, odd_takes, ord_takes, MayApply, Applies, applied, NamesScalar, names_scalar, BoundOf, greatest, smallest, MayConvert, Converts, arity, IsOfOne, of_abs, of_cap, of_chr, of_odd, of_ord, TakesValue, TakesType, IsFunctionOf, declared, standard}
use Rattle.def_typing.specs.Parts.{first, Among, here, later}
use Rattle.def_typing.specs.Expressions.{Beside, beside, behind, Stands, Has, Calls, ArePassed, no_more, one_more, Miscalled, BrokenAsValue, broken, mistaken}
use Rattle.def_typing.specs.Expressions as rules
use Rattle.law_typing.specs.Judging.{Judges, Answers, means}
use Rattle.law_typing.specs.Exact.{IsKind, kind_constant, kind_scalar, IsThing, thing_value, thing_variable, thing_open, thing_type, thing_procedure, thing_nested, thing_standard, thing_module}
use Rattle.law_typing.proofs.Combining.{Lawful, declined, exact, both_answer, then_answer, declined_beside, sort_answers, sort_value_answers}
use Rattle.law_typing.proofs.Deciding.{some_same}
use Rattle.law_typing.proofs.Places.{at_is}
use Rattle.law_typing.proofs.Shaping.{scalar_of, scalar_is, one_made}
use Rattle.law_typing.proofs.Singles.{UnaryIs, is_abs, is_cap, is_chr, is_odd, is_ord, one_answers, converted_answers}
use Rattle.law_typing.proofs.Finding.{Elsewhere, StandsFor, HasKind, IsBroken, IsBrokenValue, IsFound, IsValued, AnyBroken, valued, look_tells}

-- ---- standard functions and their arguments

pub of_one_arity : {p : Standard} → IsOfOne p → arity p ≡ Some 1
of_one_arity of_abs = refl
of_one_arity of_cap = refl
of_one_arity of_chr = refl
of_one_arity of_odd = refl
of_one_arity of_ord = refl

pub value_arity : {p : Standard} {xs : List Expr} {x : Expr} → TakesValue p xs x → arity p ≡ Some (length xs)
value_arity (functions.of_one i) = of_one_arity i
value_arity functions.to_convert = refl

pub type_arity : {p : Standard} {xs : List Expr} {x : Expr} → TakesType p xs x → arity p ≡ Some (length xs)
type_arity functions.of_max = refl
type_arity functions.of_min = refl
type_arity functions.of_conversion = refl

pub bound_arity : {p : Standard} {r : Range} {n : ℤ} → BoundOf r p n → arity p ≡ Some 1
bound_arity greatest = refl
bound_arity smallest = refl

takes_one : {p : Standard} {sort : Option TypeNo} → TakesOne p sort → IsOfOne p
takes_one (abs_takes n) = of_abs
takes_one cap_takes = of_cap
takes_one (chr_takes n) = of_chr
takes_one (odd_takes n) = of_odd
takes_one ord_takes = of_ord

pub applies_one : {p : Standard} {a k : Kind} → Applies p a k → IsOfOne p
applies_one (applied t c) = takes_one t

pub unary_one : {p : Standard} {u : Unary} → UnaryIs p u → IsOfOne p
unary_one is_abs = of_abs
unary_one is_cap = of_cap
unary_one is_chr = of_chr
unary_one is_odd = of_odd
unary_one is_ord = of_ord

pub not_bound : {p : Standard} {u : Unary} {r : Range} {n : ℤ} → UnaryIs p u → BoundOf r p n → ⊥
not_bound w greatest = elim w [ ]
not_bound w smallest = elim w [ ]

-- MAX and MIN
pub data IsBound : Standard → Type 0 where
  bound_max : IsBound Max
  bound_min : IsBound Min

pub bound_one : {p : Standard} → IsBound p → arity p ≡ Some 1
bound_one bound_max = refl
bound_one bound_min = refl

pub bound_not_one : {p : Standard} → IsBound p → IsOfOne p → ⊥
bound_not_one bound_max i = elim i [ ]
bound_not_one bound_min i = elim i [ ]

module _ (g : Gathers) (j : Judges g) (lawful : Lawful g j) (names : Ident → Standing) (exports : ℕ → Ident → Standing)
    (s : Scope g.Reported) where
  abbrev E : Breach → Type 0
  E = Elsewhere g j lawful names exports s

  abbrev S : Expr → Thing → Type 0
  S = StandsFor g j lawful names exports s

  abbrev H : Expr → Kind → Type 0
  H = HasKind g j lawful names exports s

  abbrev B : Expr → Breach → Type 0
  B = IsBroken g j lawful names exports s

  abbrev V : Expr → Breach → Type 0
  V = IsBrokenValue g j lawful names exports s

  abbrev Found : Expr → Type 0
  Found = IsFound g j lawful names exports s

  abbrev Valued : Expr → Type 0
  Valued = IsValued g j lawful names exports s

  abbrev Any : List Expr → Breach → Type 0
  Any = AnyBroken g j lawful names exports s

  abbrev C : Thing → List Expr → Kind → Type 0
  C = Calls s.types names exports

  abbrev M : Pos → Thing → List Expr → Breach → Type 0
  M = Miscalled s.types names exports

  -- what a call answers, with what is broken in its arguments
  abbrev pub CallsSo : Pos → Thing → List Expr → Result Computed g.Reported → Type 0
  CallsSo at x xs r = Answers g j E IsKind (C x xs) (λ f. M at x xs f ⊎ Any xs f) r

  -- ---- standard functions: the count of arguments

  standard_calls : {p : Standard} {xs : List Expr} {k : Kind} → C (AStandard p) xs k → arity p ≡ Some (length xs)
  standard_calls (rules.of_function h e a) = elim h [ ]
  standard_calls (rules.of_one h a) = of_one_arity (applies_one a)
  standard_calls (rules.of_type h n b) = bound_arity b
  standard_calls (rules.converted h n m c) = refl
  standard_calls (rules.greatest_index h) = refl

  standard_function : {p : Standard} {n : ℕ} → IsFunctionOf s.types (AStandard p) n → arity p ≡ Some n
  standard_function (declared h e) = elim h [ ]
  standard_function (standard e) = e

  -- a call that is refused, with what is broken in the arguments
  pub refused_call : {x : Thing} {xs : List Expr} (at : Pos) (refused : Rule) → ((k : Kind) → C x xs k → ⊥)
      → M at x xs (at ! refused) → ((f : Breach) → M at x xs f → f ≡ at ! refused) → ((y : Expr) → Among y xs → Found y)
      → CallsSo at x xs (reported_beside g at refused (breaches_in_all g s (map (meanings_of g) xs)))
  refused_call {x = x} {xs = xs} at refused n m only h =
      exact g j lawful E (λ k c. c) (λ k c. c)
      (λ f b. elim b [ inl e ↦ inl (subst (M at x xs) (sym e) m) | inr a ↦ inr a ])
      (λ f b. elim b [ inl q ↦ inl (only f q) | inr a ↦ inr a ])
      (declined_beside g j lawful E at refused n (look_tells g j lawful names exports s xs h))

  count_only : {p : Standard} {xs : List Expr} {n : ℕ} (at : Pos) (f : Breach) → arity p ≡ Some n → (n ≡ length xs → ⊥)
      → M at (AStandard p) xs f → f ≡ at ! rule.ArgumentCount
  count_only {n = n} at _ e q (rules.no_function h m) = absurd (m n (standard e))
  count_only at _ e q (rules.wrong_count i m) = refl
  count_only at f e q (rules.mispassed h r c b m z) = elim h [ ]
  count_only at f e q (rules.no_value t m z) = absurd (q (some_same _ _ (sym e ∙ value_arity t)))
  count_only at f e q (rules.misapplied i m z) = absurd (q (some_same _ _ (sym e ∙ of_one_arity i)))
  count_only at _ e q (rules.no_type t m z) = absurd (q (some_same _ _ (sym e ∙ type_arity t)))
  count_only at f e q (rules.misconverted m z h w) = absurd (q (some_same _ _ (sym e)))
  count_only at f e q (rules.no_array m z) = absurd (q (some_same _ _ (sym e)))
  count_only at _ e q (rules.no_open_array m z w) = absurd (q (some_same _ _ (sym e)))

  miscounted_calls : {p : Standard} {xs : List Expr} {n : ℕ} (at : Pos) → arity p ≡ Some n → (n ≡ length xs → ⊥)
      → ((y : Expr) → Among y xs → Found y) → CallsSo at (AStandard p) xs (wrong_count g s at (map (meanings_of g) xs))
  miscounted_calls at e q h = refused_call at rule.ArgumentCount (λ k c. q (some_same _ _ (sym e ∙ standard_calls c)))
      (rules.wrong_count (standard e) q) (λ f m. count_only at f e q m) h

  proper_only : {p : Standard} {xs : List Expr} (at : Pos) (f : Breach) → arity p ≡ None → M at (AStandard p) xs f
      → f ≡ at ! rule.WrongType
  proper_only at _ e (rules.no_function h m) = refl
  proper_only at _ e (rules.wrong_count i m) = let z = sym e ∙ standard_function i in absurd cc
  proper_only at f e (rules.mispassed h r c b m z) = elim h [ ]
  proper_only at f e (rules.no_value t m z) = let w = sym e ∙ value_arity t in absurd cc
  proper_only at f e (rules.misapplied i m z) = let w = sym e ∙ of_one_arity i in absurd cc
  proper_only at _ e (rules.no_type t m z) = let w = sym e ∙ type_arity t in absurd cc
  proper_only at f e (rules.misconverted m z h w) = absurd cc
  proper_only at f e (rules.no_array m z) = absurd cc
  proper_only at _ e (rules.no_open_array m z w) = absurd cc

  proper_calls : {p : Standard} {xs : List Expr} (at : Pos) → arity p ≡ None → ((y : Expr) → Among y xs → Found y)
      → CallsSo at (AStandard p) xs (reported_beside g at rule.WrongType (breaches_in_all g s (map (meanings_of g) xs)))
  proper_calls at e h = refused_call at rule.WrongType (λ k c. let z = sym e ∙ standard_calls c in absurd cc)
      (rules.no_function (λ b q. absurd cc) (λ n i. let z = sym e ∙ standard_function i in absurd cc))
      (λ f m. proper_only at f e m) h

  -- ---- functions of one value

  one_calls : {p : Standard} {u : Unary} {x : Expr} {l : Kind} → UnaryIs p u → C (AStandard p) (x ∷ []) l → (k : Kind)
      × H x k × Applies p (operand k) l
  one_calls w (rules.of_function h e a) = elim h [ ]
  one_calls w (rules.of_one {a = a} m q) = (a, m, q)
  one_calls w (rules.of_type h n b) = absurd (not_bound w b)
  one_calls w (rules.greatest_index h) = elim w [ ]

  abbrev OneFails : Standard → Expr → Breach → Type 0
  OneFails p x f = V x f ⊎ ((k : Kind) × H x k
      × Misapplied (MayApply p (operand k)) (Applies p (operand k)) (first x) rule.WrongArgument f)

  one_fails : {p : Standard} {u : Unary} {x : Expr} (at : Pos) (f : Breach) → UnaryIs p u
      → M at (AStandard p) (x ∷ []) f → OneFails p x f
  one_fails at _ w (rules.no_function h m) = absurd (m 1 (standard (of_one_arity (unary_one w))))
  one_fails at _ w (rules.wrong_count i m) =
      absurd (m (some_same _ _ (sym (standard_function i) ∙ of_one_arity (unary_one w))))
  one_fails at f w (rules.mispassed h r c b m z) = elim h [ ]
  one_fails at f w (rules.no_value t m z) = inl (value_of_one w t m z)
    where
      value_of_one : {p : Standard} {u : Unary} {x e : Expr} {y : Thing} → UnaryIs p u → TakesValue p (x ∷ []) e → S e y
          → Mistaken (first e) y f → V x f
      value_of_one w (functions.of_one i) m z = mistaken m z
  one_fails at f w (rules.misapplied {k = k} i m z) = inr (k, m, z)
  one_fails at _ w (rules.no_type t m z) = absurd (no_type_of_one w t)
    where
      no_type_of_one : {p : Standard} {u : Unary} {xs : List Expr} {e : Expr} → UnaryIs p u → TakesType p xs e → ⊥
      no_type_of_one w functions.of_max = elim w [ ]
      no_type_of_one w functions.of_min = elim w [ ]
      no_type_of_one w functions.of_conversion = elim w [ ]
  one_fails at f w (rules.no_array m z) = elim w [ ]
  one_fails at _ w (rules.no_open_array m z q) = elim w [ ]

  fails_one : {p : Standard} {u : Unary} {x : Expr} (at : Pos) (f : Breach) → UnaryIs p u → OneFails p x f
      → M at (AStandard p) (x ∷ []) f ⊎ Any (x ∷ []) f
  fails_one {x = x} at f w (inl (broken b)) = inr (x, here, b)
  fails_one at f w (inl (mistaken m z)) = inl (rules.no_value (functions.of_one (unary_one w)) m z)
  fails_one at f w (inr (k, m, z)) = inl (rules.misapplied (unary_one w) m z)

  any_one : {x : Expr} (f : Breach) → Any (x ∷ []) f → B x f
  any_one f (x, here, b) = b
  any_one f (x, later m, b) = elim m [ ]

  one_called : {p : Standard} {u : Unary} {x : Expr} (at : Pos) → UnaryIs p u → Found x
      → CallsSo at (AStandard p) (x ∷ []) (value_of g s (meanings_of g x) ▷ unary_at g p u (meanings_of g x).fixed.at)
  one_called {p = p} {u = u} {x = x} at w h =
      subst (λ (q : Pos). CallsSo at (AStandard p) (x ∷ []) (value_of g s (meanings_of g x) ▷ unary_at g p u q))
      (sym (at_is g x))
      (exact g j lawful E {M = λ l. (k : Kind) × H x k × Applies p (operand k) l} (λ k m. rules.of_one m.1 m.2)
      (λ k m. one_calls w m) (λ f b. fails_one at f w b)
      (λ f b. elim b [ inl m ↦ one_fails at f w m | inr a ↦ inl (broken (any_one f a)) ])
      (then_answer g j lawful E {N = λ k l. Applies p (operand k) l}
      {D = λ k f. Misapplied (MayApply p (operand k)) (Applies p (operand k)) (first x) rule.WrongArgument f}
      (valued g j lawful names exports s h) (λ v k q. one_answers g j lawful E (first x) w q)))

  -- by the number of arguments
  unary_calls : {p : Standard} {u : Unary} (at : Pos) (xs : List Expr) → UnaryIs p u
      → ((y : Expr) → Among y xs → Found y) →
      CallsSo at (AStandard p) xs (meanings.unary g s at p u (map (meanings_of g) xs))
  unary_calls at [] w h = miscounted_calls at (of_one_arity (unary_one w)) (λ e. absurd cc) h
  unary_calls at (x ∷ []) w h = one_called at w (h x here)
  unary_calls at (x ∷ y ∷ xs) w h = miscounted_calls at (of_one_arity (unary_one w)) (λ e. omega (arith, e)) h

  -- ---- functions of types

  abbrev pub NoScalar : Pos → Thing → Breach → Type 0
  NoScalar at y f = ((r : Range) → NamesScalar s.types y r → ⊥) × (f ≡ at ! rule.NoType)

  abbrev pub IsOfRange : TypeNo × Range → Range → Type 0
  IsOfRange p r = p.1 ≡ r

  abbrev pub ScalarSo : Pos → Thing → Result (TypeNo × Range) g.Reported → Type 0
  ScalarSo at y r = Answers g j E IsOfRange (NamesScalar s.types y) (NoScalar at y) r

  no_scalar : {y : Thing} (at : Pos) → ((r : Range) → NamesScalar s.types y r → ⊥)
      → ScalarSo at y (report g at rule.NoType)
  no_scalar at n = declined g j lawful E at rule.NoType n (n, refl) (λ f z. z.1)

  abbrev range_in : Range → Shape → Range
  range_in r (shape.Scalar q) = q
  range_in r other = r

  pub one_range : {t : TypeNo} {r q : Range} → IsMade s.types t (shape.Scalar r) → NamesScalar s.types (AType t) q
      → q ≡ r
  one_range {t = t} {r = r} m (names_scalar n) = ap (range_in r) (one_made s.types t n m)

  not_scalar : {t : TypeNo} (z : Option Shape) → shape_at s.types t ≡ z → ((r : Range) → z ≡ Some (shape.Scalar r) → ⊥)
      → (q : Range) → NamesScalar s.types (AType t) q → ⊥
  not_scalar z e n q (names_scalar m) = n q (sym e ∙ m)

  pub scalar_by : (at : Pos) (t : TypeNo) (z : Option Shape) → shape_at s.types t ≡ z
      → ScalarSo at (AType t) (scalar_type g at t (scalar_of z))
  scalar_by at t None e = no_scalar at (not_scalar None e (λ r q. absurd cc))
  scalar_by at t (Some (shape.Scalar r)) e =
      means (t, r) r refl (names_scalar e) (λ q n. one_range e n) (λ f z. z.0 r (names_scalar e))
  scalar_by at t (Some shape.Set) e = no_scalar at (not_scalar _ e (λ r q. absurd cc))
  scalar_by at t (Some (shape.Array i u)) e = no_scalar at (not_scalar _ e (λ r q. absurd cc))
  scalar_by at t (Some (shape.Record fs)) e = no_scalar at (not_scalar _ e (λ r q. absurd cc))
  scalar_by at t (Some (shape.Procedure h)) e = no_scalar at (not_scalar _ e (λ r q. absurd cc))
  scalar_by at t (Some (shape.Open u)) e = no_scalar at (not_scalar _ e (λ r q. absurd cc))

  type_answers : (at : Pos) (a : Designated) (y : Thing) → IsThing a y → ScalarSo at y (type_named g s.types at a)
  type_answers at _ _ (thing_type t) = subst (λ (r : Option Range). ScalarSo at (AType t) (scalar_type g at t r))
      (sym (scalar_is s.types t)) (scalar_by at t (shape_at s.types t) refl)
  type_answers at _ _ (thing_value i) = no_scalar at (λ r n. elim n [ ])
  type_answers at _ _ (thing_variable t d) = no_scalar at (λ r n. elim n [ ])
  type_answers at _ _ (thing_open t d) = no_scalar at (λ r n. elim n [ ])
  type_answers at _ _ (thing_procedure p) = no_scalar at (λ r n. elim n [ ])
  type_answers at _ _ (thing_nested p) = no_scalar at (λ r n. elim n [ ])
  type_answers at _ _ (thing_standard p) = no_scalar at (λ r n. elim n [ ])
  type_answers at _ _ (thing_module k) = no_scalar at (λ r n. elim n [ ])

  abbrev pub NamesIt : Expr → Range → Type 0
  NamesIt x r = (y : Thing) × S x y × NamesScalar s.types y r

  abbrev pub NameFails : Expr → Breach → Type 0
  NameFails x f = B x f ⊎ ((y : Thing) × S x y × NoScalar (first x) y f)

  pub scalar_answers : {x : Expr} → Found x
      → Answers g j E IsOfRange (NamesIt x) (NameFails x) (scalar_named g s (meanings_of g x))
  scalar_answers {x = x} h = subst (λ (at : Pos). Answers g j E IsOfRange (NamesIt x) (NameFails x)
      (of_sort g at rule.NoType ((meanings_of g x).means s) ▷ type_named g s.types at)) (sym (at_is g x))
      (sort_answers g j lawful E (first x) rule.NoType h (type_answers (first x))
      (λ b. no_scalar (first x) (λ r n. elim n [ ])))

  -- MAX and MIN
  abbrev pub BoundedBy : Standard → Range → Kind → Type 0
  BoundedBy p r l = (n : ℤ) × BoundOf r p n × (l ≡ Scalar (Constant (Some r.base) n))

  pub bounded_by : {p : Standard} (q : TypeNo × Range) (r : Range) → IsBound p → IsOfRange q r
      → Answers g j E IsKind (BoundedBy p r) (λ f. ⊥) (Ok (computed.Constant (bound_by p q.0 q.1)))
  bounded_by q r bound_max e = subst (λ (x : Range). Answers g j E IsKind (BoundedBy Max x) (λ f. ⊥)
      (Ok (computed.Constant (bound_by Max q.0 q.1)))) e
      (means _ (Scalar (Constant (Some q.1.base) q.1.high)) (kind_constant (bound_by Max q.0 q.1))
      (q.1.high, greatest, refl) (λ l m. one m) (λ f b. b))
    where
      one : {l : Kind} → BoundedBy Max q.1 l → l ≡ Scalar (Constant (Some q.1.base) q.1.high)
      one (n, greatest, e) = e
  bounded_by q r bound_min e = subst (λ (x : Range). Answers g j E IsKind (BoundedBy Min x) (λ f. ⊥)
      (Ok (computed.Constant (bound_by Min q.0 q.1)))) e
      (means _ (Scalar (Constant (Some q.1.base) q.1.low)) (kind_constant (bound_by Min q.0 q.1))
      (q.1.low, smallest, refl) (λ l m. one m) (λ f b. b))
    where
      one : {l : Kind} → BoundedBy Min q.1 l → l ≡ Scalar (Constant (Some q.1.base) q.1.low)
      one (n, smallest, e) = e

  bound_calls_by : {p : Standard} {x : Expr} {l : Kind} → IsBound p → C (AStandard p) (x ∷ []) l → (r : Range)
      × NamesIt x r × BoundedBy p r l
  bound_calls_by w (rules.of_function h e a) = elim h [ ]
  bound_calls_by w (rules.of_one m a) = absurd (bound_not_one w (applies_one a))
  bound_calls_by w (rules.of_type {x = y} {r = r} {n = n} h m b) = (r, (y, h, m), (n, b, refl))
  bound_calls_by w (rules.greatest_index h) = elim w [ ]

  calls_bound : {p : Standard} {x : Expr} (l : Kind) → (r : Range) × NamesIt x r × BoundedBy p r l
      → C (AStandard p) (x ∷ []) l
  calls_bound {p = p} {x = x} l (r, (y, h, m), (n, b, e)) =
      subst (C (AStandard p) (x ∷ [])) (sym e) (rules.of_type h m b)

  type_of_bound : {p : Standard} {x : Expr} → IsBound p → TakesType p (x ∷ []) x
  type_of_bound bound_max = functions.of_max
  type_of_bound bound_min = functions.of_min

  bound_fails : {p : Standard} {x : Expr} (at : Pos) (f : Breach) → IsBound p → M at (AStandard p) (x ∷ []) f
      → NameFails x f
  bound_fails at _ w (rules.no_function h m) = absurd (m 1 (standard (bound_one w)))
  bound_fails at _ w (rules.wrong_count i m) = absurd (m (some_same _ _ (sym (standard_function i) ∙ bound_one w)))
  bound_fails at f w (rules.mispassed h r c b m z) = elim h [ ]
  bound_fails at f w (rules.no_value t m z) = absurd (no_value_of w t)
    where
      no_value_of : {p : Standard} {x e : Expr} → IsBound p → TakesValue p (x ∷ []) e → ⊥
      no_value_of bound_max (functions.of_one i) = elim i [ ]
      no_value_of bound_min (functions.of_one i) = elim i [ ]
  bound_fails at f w (rules.misapplied i m z) = absurd (bound_not_one w i)
  bound_fails at _ w (rules.no_type t m z) = named w t m z
    where
      named : {p : Standard} {x e : Expr} {y : Thing} → IsBound p → TakesType p (x ∷ []) e → S e y
          → ((r : Range) → NamesScalar s.types y r → ⊥) → NameFails x (first e ! rule.NoType)
      named w functions.of_max m z = inr (_, m, (z, refl))
      named w functions.of_min m z = inr (_, m, (z, refl))
  bound_fails at f w (rules.no_array m z) = elim w [ ]
  bound_fails at _ w (rules.no_open_array m z q) = elim w [ ]

  fails_bound : {p : Standard} {x : Expr} (at : Pos) (f : Breach) → IsBound p → NameFails x f
      → M at (AStandard p) (x ∷ []) f ⊎ Any (x ∷ []) f
  fails_bound {x = x} at f w (inl b) = inr (x, here, b)
  fails_bound {p = p} {x = x} at f w (inr (y, m, (z, e))) =
      inl (subst (M at (AStandard p) (x ∷ [])) (sym e) (rules.no_type (type_of_bound w) m z))

  bound_called : {p : Standard} {x : Expr} (at : Pos) → IsBound p → Found x
      → CallsSo at (AStandard p) (x ∷ []) (bound_at p (scalar_named g s (meanings_of g x)))
  bound_called {p = p} {x = x} at w h = exact g j lawful E {M = λ l. (r : Range) × NamesIt x r × BoundedBy p r l}
      {B = λ f. NameFails x f ⊎ ((r : Range) × NamesIt x r × ⊥)} calls_bound (λ l m. bound_calls_by w m)
      (λ f b. elim b [ inl c ↦ fails_bound at f w c | inr c ↦ absurd c.2 ])
      (λ f b. elim b [ inl m ↦ inl (bound_fails at f w m) | inr a ↦ inl (inl (any_one f a)) ])
      (then_answer g j lawful E {N = BoundedBy p} {D = λ r f. ⊥} (scalar_answers h) (λ q r e. bounded_by q r w e))

  bound_calls : {p : Standard} (at : Pos) (xs : List Expr) → IsBound p → ((y : Expr) → Among y xs → Found y)
      → CallsSo at (AStandard p) xs (meanings.bound g s at p (map (meanings_of g) xs))
  bound_calls at [] w h = miscounted_calls at (bound_one w) (λ e. absurd cc) h
  bound_calls at (x ∷ []) w h = bound_called at w (h x here)
  bound_calls at (x ∷ y ∷ xs) w h = miscounted_calls at (bound_one w) (λ e. omega (arith, e)) h

  -- VAL
  abbrev ConvertFails : Expr → Range × Kind → Breach → Type 0
  ConvertFails x p f = Misapplied (MayConvert (operand p.1)) (Converts p.0 (operand p.1)) (first x) rule.WrongArgument f

  abbrev ValFails : Expr → Expr → Breach → Type 0
  ValFails t x f = (NameFails t f ⊎ V x f) ⊎ ((p : Range × Kind) × (NamesIt t p.0 × H x p.1) × ConvertFails x p f)

  abbrev ValOf : Expr → Expr → Kind → Type 0
  ValOf t x l = (p : Range × Kind) × (NamesIt t p.0 × H x p.1) × Converts p.0 (operand p.1) l

  val_calls_by : {t x : Expr} {l : Kind} → C (AStandard Val) (t ∷ x ∷ []) l → ValOf t x l
  val_calls_by (rules.of_function h e a) = elim h [ ]
  val_calls_by (rules.converted {x = y} {r = r} {a = a} m n h c) = ((r, a), ((y, m, n), h), c)

  calls_val : {t x : Expr} (l : Kind) → ValOf t x l → C (AStandard Val) (t ∷ x ∷ []) l
  calls_val l (p, ((y, m, n), h), c) = rules.converted m n h c

  val_fails : {t x : Expr} (at : Pos) (f : Breach) → M at (AStandard Val) (t ∷ x ∷ []) f → ValFails t x f
  val_fails at _ (rules.no_function h m) = absurd (m 2 (standard refl))
  val_fails at _ (rules.wrong_count i m) = absurd (m (some_same _ _ (sym (standard_function i))))
  val_fails at f (rules.mispassed h r c b m z) = elim h [ ]
  val_fails at f (rules.no_value functions.to_convert m z) = inl (inr (mistaken m z))
  val_fails at _ (rules.no_type functions.of_conversion m z) = inl (inl (inr (_, m, (z, refl))))
  val_fails at f (rules.misconverted {x = y} {r = r} {k = k} m n h z) = inr ((r, k), ((y, m, n), h), z)

  fails_val : {t x : Expr} (at : Pos) (f : Breach) → ValFails t x f → M at (AStandard Val) (t ∷ x ∷ []) f
      ⊎ Any (t ∷ x ∷ []) f
  fails_val {t = t} at f (inl (inl (inl b))) = inr (t, here, b)
  fails_val {t = t} {x = x} at f (inl (inl (inr (y, m, (z, e))))) =
      inl (subst (M at (AStandard Val) (t ∷ x ∷ [])) (sym e) (rules.no_type functions.of_conversion m z))
  fails_val {x = x} at f (inl (inr (broken b))) = inr (x, later here, b)
  fails_val at f (inl (inr (mistaken m z))) = inl (rules.no_value functions.to_convert m z)
  fails_val at f (inr (p, ((y, m, n), h), z)) = inl (rules.misconverted m n h z)

  any_val : {t x : Expr} (f : Breach) → Any (t ∷ x ∷ []) f → ValFails t x f
  any_val f (t, here, b) = inl (inl (inl b))
  any_val f (x, later here, b) = inl (inr (broken b))
  any_val f (x, later (later m), b) = elim m [ ]

  val_called : {t x : Expr} (at : Pos) → Found t → Found x
      → CallsSo at (AStandard Val) (t ∷ x ∷ [])
      (conversion_at g (scalar_named g s (meanings_of g t)) (meanings_of g x).fixed.at (value_of g s (meanings_of g x)))
  val_called {t = t} {x = x} at h q = subst
      (λ (p : Pos). CallsSo at (AStandard Val) (t ∷ x ∷ [])
      (conversion_at g (scalar_named g s (meanings_of g t)) p (value_of g s (meanings_of g x)))) (sym (at_is g x))
      (exact g j lawful E calls_val (λ l m. val_calls_by m) (fails_val at)
      (λ f b. elim b [ inl m ↦ val_fails at f m | inr a ↦ any_val f a ])
      (then_answer g j lawful E {N = λ p l. Converts p.0 (operand p.1) l} {D = ConvertFails x}
      (both_answer g j lawful E (scalar_answers h) (valued g j lawful names exports s q))
      (λ v p w. subst (λ (r : Range). Answers g j E IsKind (Converts r (operand p.1)) (ConvertFails x (r, p.1))
      (converted_value g v.0.0 v.0.1 (first x) v.1)) w.0
      (converted_answers g j lawful E (first x) v.0.0 v.0.1 w.1))))

  val_calls : (at : Pos) (xs : List Expr) → ((y : Expr) → Among y xs → Found y)
      → CallsSo at (AStandard Val) xs (meanings.conversion g s at (map (meanings_of g) xs))
  val_calls at [] h = miscounted_calls {p = Val} at refl (λ e. absurd cc) h
  val_calls at (t ∷ []) h = miscounted_calls {p = Val} at refl (λ e. omega (arith, e)) h
  val_calls at (t ∷ x ∷ []) h = val_called at (h t here) (h x (later here))
  val_calls at (t ∷ x ∷ y ∷ xs) h = miscounted_calls {p = Val} at refl (λ e. omega (arith, e)) h

  -- HIGH
  abbrev HighOf : Thing → Kind → Type 0
  HighOf y l = (t : TypeNo) × (y ≡ AnOpenArray t) × (l ≡ Scalar (Value cardinal))

  abbrev HighFails : Pos → Thing → Breach → Type 0
  HighFails at y f = Mistaken at y f ⊎ (((t : TypeNo) → y ≡ AnOpenArray t → ⊥) × ((h : Breach) → Mistaken at y h → ⊥)
      × (f ≡ at ! rule.WrongArgument))

  abbrev HighSo : Pos → Thing → Result Computed g.Reported → Type 0
  HighSo at y r = Answers g j E IsKind (HighOf y) (HighFails at y) r

  no_high : {y : Thing} (at : Pos) → ((t : TypeNo) → y ≡ AnOpenArray t → ⊥) → ((h : Breach) → Mistaken at y h → ⊥)
      → HighSo at y (report g at rule.WrongArgument)
  no_high at n m = declined g j lawful E at rule.WrongArgument (λ l z. n z.0 z.1) (inr (n, m, refl))
      (λ f z. elim z [ inl q ↦ absurd (m f q) | inr q ↦ q.2 ])

  mistaken_high : {y : Thing} (at : Pos) (refused : Rule) → ((t : TypeNo) → y ≡ AnOpenArray t → ⊥)
      → Mistaken at y (at ! refused) → ((h : Breach) → Mistaken at y h → h ≡ at ! refused)
      → HighSo at y (report g at refused)
  mistaken_high at refused n m only = declined g j lawful E at refused (λ l z. n z.0 z.1) (inl m)
      (λ f z. elim z [ inl q ↦ only f q | inr q ↦ absurd (q.1 (at ! refused) m) ])

  high_answers : (at : Pos) (a : Designated) (y : Thing) → IsThing a y → HighSo at y (high_of g at a)
  high_answers at _ _ (thing_open t d) = means _ (Scalar (Value cardinal)) (kind_scalar cardinal cardinal _)
      (t, refl, refl) (λ l m. m.2) (λ f z. elim z [ inl q ↦ q | inr q ↦ q.0 t refl ])
  high_answers at _ _ (thing_value i) = no_high at (λ t e. absurd cc) (λ h m. m)
  high_answers at _ _ (thing_variable t d) = no_high at (λ t e. absurd cc) (λ h m. m)
  high_answers at _ _ (thing_procedure p) = no_high at (λ t e. absurd cc) (λ h m. m)
  high_answers at _ _ (thing_type t) = mistaken_high at rule.WrongType (λ t e. absurd cc) refl (λ h m. m)
  high_answers at _ _ (thing_module k) = mistaken_high at rule.WrongType (λ t e. absurd cc) refl (λ h m. m)
  high_answers at _ _ (thing_nested p) = mistaken_high at rule.NoProcedureValue (λ t e. absurd cc) refl (λ h m. m)
  high_answers at _ _ (thing_standard p) = mistaken_high at rule.NoProcedureValue (λ t e. absurd cc) refl (λ h m. m)

  abbrev HighBreaks : Expr → Breach → Type 0
  HighBreaks x f = B x f ⊎ ((y : Thing) × S x y × HighFails (first x) y f)

  high_calls_by : {x : Expr} {l : Kind} → C (AStandard High) (x ∷ []) l → (y : Thing) × S x y × HighOf y l
  high_calls_by (rules.of_function h e a) = elim h [ ]
  high_calls_by (rules.of_one m a) = elim (applies_one a) [ ]
  high_calls_by (rules.of_type h n b) = elim b [ ]
  high_calls_by (rules.greatest_index {t = t} h) = (AnOpenArray t, h, (t, refl, refl))

  calls_high : {x : Expr} (l : Kind) → (y : Thing) × S x y × HighOf y l → C (AStandard High) (x ∷ []) l
  calls_high {x = x} l (y, m, (t, e, q)) =
      subst (C (AStandard High) (x ∷ [])) (sym q) (rules.greatest_index (subst (S x) e m))

  high_fails : {x : Expr} (at : Pos) (f : Breach) → M at (AStandard High) (x ∷ []) f → HighBreaks x f
  high_fails at _ (rules.no_function h m) = absurd (m 1 (standard refl))
  high_fails at _ (rules.wrong_count i m) = absurd (m (some_same _ _ (sym (standard_function i))))
  high_fails at f (rules.mispassed h r c b m z) = elim h [ ]
  high_fails at f (rules.no_value (functions.of_one i) m z) = elim i [ ]
  high_fails at f (rules.no_array m z) = inr (_, m, inl z)
  high_fails at f (rules.misapplied i m z) = elim i [ ]
  high_fails at _ (rules.no_type t m z) = elim t [ ]
  high_fails at _ (rules.no_open_array m z q) = inr (_, m, inr (z, q, refl))

  fails_high : {x : Expr} (at : Pos) (f : Breach) → HighBreaks x f → M at (AStandard High) (x ∷ []) f ⊎ Any (x ∷ []) f
  fails_high {x = x} at f (inl b) = inr (x, here, b)
  fails_high at f (inr (y, m, inl z)) = inl (rules.no_array m z)
  fails_high {x = x} at f (inr (y, m, inr (z, q, e))) =
      inl (subst (M at (AStandard High) (x ∷ [])) (sym e) (rules.no_open_array m z q))

  high_called : {x : Expr} (at : Pos) → Found x
      → CallsSo at (AStandard High) (x ∷ [])
      (of_sort_of_value g (meanings_of g x).fixed.at rule.WrongArgument ((meanings_of g x).means s) ▷ high_of g
      (meanings_of g x).fixed.at)
  high_called {x = x} at h = subst (λ (p : Pos). CallsSo at (AStandard High) (x ∷ [])
      (of_sort_of_value g p rule.WrongArgument ((meanings_of g x).means s) ▷ high_of g p)) (sym (at_is g x))
      (exact g j lawful E calls_high (λ l m. high_calls_by m) (fails_high at)
      (λ f b. elim b [ inl m ↦ high_fails at f m | inr a ↦ inl (any_one f a) ])
      (sort_value_answers g j lawful E (first x) rule.WrongArgument h (high_answers (first x))
      (no_high (first x) (λ t e. absurd cc) (λ h m. m))
      (mistaken_high (first x) rule.NoProcedureValue (λ t e. absurd cc) refl (λ h m. m))))

  high_calls : (at : Pos) (xs : List Expr) → ((y : Expr) → Among y xs → Found y)
      → CallsSo at (AStandard High) xs (meanings.high g s at (map (meanings_of g) xs))
  high_calls at [] h = miscounted_calls {p = High} at refl (λ e. absurd cc) h
  high_calls at (x ∷ []) h = high_called at (h x here)
  high_calls at (x ∷ y ∷ xs) h = miscounted_calls {p = High} at refl (λ e. omega (arith, e)) h

  -- ---- all standard procedures

  pub standard_answers : (p : Standard) (at : Pos) (xs : List Expr) → ((y : Expr) → Among y xs → Found y)
      → CallsSo at (AStandard p) xs (callee_value g s at (map (meanings_of g) xs) (called.Standard p))
  standard_answers Abs at xs h = unary_calls at xs is_abs h
  standard_answers Cap at xs h = unary_calls at xs is_cap h
  standard_answers Chr at xs h = unary_calls at xs is_chr h
  standard_answers High at xs h = high_calls at xs h
  standard_answers Max at xs h = bound_calls at xs bound_max h
  standard_answers Min at xs h = bound_calls at xs bound_min h
  standard_answers Odd at xs h = unary_calls at xs is_odd h
  standard_answers Ord at xs h = unary_calls at xs is_ord h
  standard_answers Val at xs h = val_calls at xs h
  standard_answers Inc at xs h = proper_calls at refl h
  standard_answers Dec at xs h = proper_calls at refl h
  standard_answers Incl at xs h = proper_calls at refl h
  standard_answers Excl at xs h = proper_calls at refl h
  standard_answers Halt at xs h = proper_calls at refl h
  standard_answers Put at xs h = proper_calls at refl h
