-- Calls of functions that are declared answer exactly, and so do all calls.
use Rattle.std.proofs.Common.{◌≡◌, ℕ, suc, Bool, true, false, not, List, [], ◌∷◌, ◌++◌, length, Option, Some, None, Result, Ok, ◌⊎◌, inl, inr, refl, sym, ap, subst, ◌∙◌, arith}
use Rattle.std.specs.Prelude.{map, ◌==◌}
use Rattle.std.specs.List.{fold}
use Rattle.std.proofs.lemmas.List.{length-map}
use Rattle.std.proofs.lemmas.Bool.Decides.{nat_tests}
use Rattle.m2_rule.specs.declared.rule.Rule.TheVariants as rule
use Rattle.m2_tree.specs.declared.pos.Pos.{Pos}
use Rattle.m2_tree.specs.declared.name.Ident.{Ident}
use Rattle.m2_tree.specs.declared.expr.Expr.{Expr}
use Rattle.typed_tree.specs.declared.types.TypeNo.{TypeNo}
use Rattle.typed_tree.specs.declared.computed.Argument.{Argument}
use Rattle.typed_tree.specs.declared.computed.Place.{Place}
use Rattle.typed_tree.specs.declared.computed.TypedExpr.TheVariants as expr
use Rattle.typed_tree.specs.declared.meaning.Standard.{Standard}
use Rattle.typed_tree.specs.declared.shape.Formal.{Formal}
use Rattle.typed_tree.specs.declared.shape.Shape.{Shape}
use Rattle.typed_tree.specs.declared.shape.Shape.TheVariants as shape
use Rattle.typed_tree.specs.declared.shape.Signature.{Signature}
use Rattle.typed_tree.specs.declared.known_types.Types.{Types}
use Rattle.m2_rule.specs.declared.breach.Breach.{Breach}
use Rattle.check_scope.specs.declared.meaningless.Meaningless.{Meaningless}
use Rattle.check_scope.specs.declared.scope.Scope.{Scope}
use Rattle.check_scope.specs.Elaborated.{Gathers, report, reported_where, ahead, ◌▷◌}
use Rattle.check_value.specs.declared.class.Class.{Class}
use Rattle.check_value.specs.declared.computed.Computed.{Computed}
use Rattle.check_value.specs.declared.computed.Designated.{Designated}
use Rattle.check_value.specs.Classes.{signature_at}
use Rattle.check_value.specs.declared.callee.Callee.{Callee}
use Rattle.check_value.specs.declared.callee.Called.{Called}
use Rattle.check_value.specs.declared.callee.Called.TheVariants as called
use Rattle.check_value.specs.Callees.{callee_in_variable, callee_of, function_with, function_of, call_by}
use Rattle.check_expr.specs.Meanings.{meanings_of, breaches_in_all, with_actual, actuals, argument_by, call_given, formals_of, callee_value, call_in_expression}
use Rattle.def_typing.specs.Shapes.{shape_at, IsMade}
use Rattle.def_typing.specs.Operators.{◌!◌, Kind}
use Rattle.def_typing.specs.Things.{Thing, AValue, AVariable, AnOpenArray, AType, AProcedure, ANested, AStandard, AModule, Headless, Standing}
use Rattle.def_typing.specs.Functions.{result_kind, HasHeading, of_procedure, of_nested, of_variable, IsFunctionOf, declared, standard, Mispassed, IsPassed}
use Rattle.def_typing.specs.Parts.{first, Among, here, later}
use Rattle.def_typing.specs.Expressions.{Beside, beside, behind, Stands, Calls, ArePassed, no_more, one_more, Miscalled}
use Rattle.def_typing.specs.Expressions as rules
use Rattle.law_typing.specs.Judging.{Judges, Answers, means}
use Rattle.law_typing.specs.Exact.{IsKind, IsThing, thing_value, thing_variable, thing_open, thing_type, thing_procedure, thing_nested, thing_standard, thing_module}
use Rattle.law_typing.proofs.Combining.{Lawful, declined, exact, Checks, passes, checks_as, map_checks, both_checks, then_checked, ahead_answers, heading_answers, Finds}
use Rattle.law_typing.proofs.Deciding.{some_same}
use Rattle.law_typing.proofs.Passing.{argument_passes}
use Rattle.law_typing.proofs.Placing.{given_is}
use Rattle.law_typing.proofs.Places.{at_is}
use Rattle.law_typing.proofs.Shaping.{class_of, class_is, signature_there, SignatureIs, has_signature, no_signature, one_signature}
use Rattle.law_typing.proofs.Finding.{Elsewhere, StandsFor, IsBroken, IsFound, AnyBroken, look_tells}
use Rattle.law_typing.proofs.Calling.{CallsSo, refused_call, standard_answers}

-- what is called by this heading
pub data Heads (types : Types) : Thing → TypeNo → Type 0 where
  heads_procedure : (h : TypeNo) → Heads types (AProcedure h) h
  heads_nested : (h : TypeNo) → Heads types (ANested h) h
  heads_variable : (t : TypeNo) {p : Signature} → IsMade types t (shape.Procedure p) → Heads types (AVariable t) t

module _ (types : Types) where
  pub heading_of : {x : Thing} {h : TypeNo} {p : Signature} → Heads types x h → IsMade types h (shape.Procedure p)
      → HasHeading types x p
  heading_of (heads_procedure h) m = of_procedure m
  heading_of (heads_nested h) m = of_nested m
  heading_of (heads_variable t n) m = of_variable m

  pub made_of : {x : Thing} {h : TypeNo} {p : Signature} → Heads types x h → HasHeading types x p
      → IsMade types h (shape.Procedure p)
  made_of (heads_procedure h) (of_procedure m) = m
  made_of (heads_nested h) (of_nested m) = m
  made_of (heads_variable t n) (of_variable m) = m

  pub no_standard : {p : Standard} {h : TypeNo} → Heads types (AStandard p) h → ⊥
  no_standard h = elim h [ ]

  pub not_headless : {x : Thing} {h : TypeNo} → Heads types x h → (b : Bool) → x ≡ Headless b → ⊥
  not_headless (heads_procedure h) b e = absurd cc
  not_headless (heads_nested h) b e = absurd cc
  not_headless (heads_variable t m) b e = absurd cc

module _ (g : Gathers) (j : Judges g) (lawful : Lawful g j) (names : Ident → Standing) (exports : ℕ → Ident → Standing)
    (s : Scope g.Reported) where
  abbrev E : Breach → Type 0
  E = Elsewhere g j lawful names exports s

  abbrev S : Expr → Thing → Type 0
  S = StandsFor g j lawful names exports s

  abbrev Found : Expr → Type 0
  Found = IsFound g j lawful names exports s

  abbrev Any : List Expr → Breach → Type 0
  Any = AnyBroken g j lawful names exports s

  abbrev C : Thing → List Expr → Kind → Type 0
  C = Calls s.types names exports

  abbrev M : Pos → Thing → List Expr → Breach → Type 0
  M = Miscalled s.types names exports

  abbrev So : Pos → Thing → List Expr → Result Computed g.Reported → Type 0
  So = CallsSo g j lawful names exports s

  -- ---- arguments one after the other

  abbrev pub Passed : List Formal → List Expr → Type 0
  Passed = ArePassed s.types names exports

  abbrev pub Wrong : List Formal → List Expr → Breach → Type 0
  Wrong fs xs f = (formal : Formal) × (e : Expr) × (y : Thing) × Beside formal e fs xs × S e y
      × Mispassed s.types (first e) formal y f

  abbrev PassesAll : Type 0 → (Breach → Type 0) → List Formal → List Expr → Result (List Argument) g.Reported → Type 0
  PassesAll P B fs xs r = Checks g j lawful E (P × Passed fs xs) (λ f. B f ⊎ (Any xs f ⊎ Wrong fs xs f)) r

  abbrev FirstPassed : Formal → Expr → Type 0
  FirstPassed f x = (y : Thing) × S x y × IsPassed s.types f y

  abbrev FirstWrong : Formal → Expr → Breach → Type 0
  FirstWrong f x h = IsBroken g j lawful names exports s x h ⊎ ((y : Thing) × S x y × Mispassed s.types (first x) f y h)

  wrong_first : {f : Formal} {fs : List Formal} {x : Expr} {xs : List Expr} (B : Breach → Type 0) (h : Breach) → B h
      ⊎ (Any (x ∷ xs) h ⊎ Wrong (f ∷ fs) (x ∷ xs) h) → (B h ⊎ FirstWrong f x h) ⊎ (Any xs h ⊎ Wrong fs xs h)
  wrong_first B h (inl b) = inl (inl b)
  wrong_first B h (inr (inl (x, here, b))) = inl (inr (inl b))
  wrong_first B h (inr (inl (x, later m, b))) = inr (inl (x, m, b))
  wrong_first B h (inr (inr (f, e, y, beside, m, z))) = inl (inr (inr (y, m, z)))
  wrong_first B h (inr (inr (f, e, y, behind b, m, z))) = inr (inr (f, e, y, b, m, z))

  first_wrong : {f : Formal} {fs : List Formal} {x : Expr} {xs : List Expr} (B : Breach → Type 0) (h : Breach)
      → (B h ⊎ FirstWrong f x h) ⊎ (Any xs h ⊎ Wrong fs xs h) → B h ⊎ (Any (x ∷ xs) h ⊎ Wrong (f ∷ fs) (x ∷ xs) h)
  first_wrong B h (inl (inl b)) = inl b
  first_wrong {x = x} B h (inl (inr (inl b))) = inr (inl (x, here, b))
  first_wrong {f = f} {x = x} B h (inl (inr (inr (y, m, z)))) = inr (inr (f, x, y, beside, m, z))
  first_wrong B h (inr (inl (x, m, b))) = inr (inl (x, later m, b))
  first_wrong B h (inr (inr (f, e, y, b, m, z))) = inr (inr (f, e, y, behind b, m, z))

  passed_parts : {f : Formal} {fs : List Formal} {x : Expr} {xs : List Expr} → Passed (f ∷ fs) (x ∷ xs)
      → FirstPassed f x × Passed fs xs
  passed_parts (one_more {x = y} m p r) = ((y, m, p), r)

  one_passes : (f : Formal) (x : Expr) → Found x
      → Checks g j lawful E (FirstPassed f x) (FirstWrong f x)
      (argument_by g s.types (Some f) (meanings_of g x).fixed.at ((meanings_of g x).means s))
  one_passes f x h = subst (λ (p : Pos). Checks g j lawful E (FirstPassed f x) (FirstWrong f x)
      (argument_by g s.types (Some f) p ((meanings_of g x).means s))) (sym (at_is g x))
      (argument_passes g j lawful E s.types (first x) f h)

  pub all_pass : (fs : List Formal) (xs : List Expr) {P : Type 0} {B : Breach → Type 0}
      (so : Result (List Argument) g.Reported) → length fs ≡ length xs → ((y : Expr) → Among y xs → Found y)
      → Checks g j lawful E P B so
      → PassesAll P B fs xs ((fold (with_actual g s) (fs, so) (map (meanings_of g) xs)).1)
  all_pass [] [] so e h c = checks_as g j lawful E (λ p. (p, no_more)) (λ p. p.0) (λ f b. inl b)
      (λ f b. elim b [ inl z ↦ z | inr z ↦ elim z [ inl a ↦ elim a.1 [ ] | inr w ↦ elim w.3 [ ] ] ]) c
  all_pass [] (x ∷ xs) so e h c = absurd cc
  all_pass (f ∷ fs) [] so e h c = absurd cc
  all_pass (f ∷ fs) (x ∷ xs) {P = P} {B = B} so e h c =
      checks_as g j lawful E {C = λ h. B h ⊎ (Any (x ∷ xs) h ⊎ Wrong (f ∷ fs) (x ∷ xs) h)}
      (λ p. (p.0.0, one_more p.0.1.1 p.0.1.2 p.1)) (λ p. let q = passed_parts p.1 in ((p.0, q.0), q.1)) (first_wrong B)
      (wrong_first B)
      (all_pass fs xs {P = P × FirstPassed f x} {B = λ h. B h ⊎ FirstWrong f x h} _ (omega (arith, e))
      (λ y m. h y (later m))
      (map_checks g j lawful E (λ p. p.0 ++ p.1 ∷ []) (both_checks g j lawful E c (one_passes f x (h x here)))))

  -- ---- functions

  no_function_only : {x : Thing} {h : TypeNo} {xs : List Expr} (at : Pos) (f : Breach) → Heads s.types x h
      → ((n : ℕ) → IsFunctionOf s.types x n → ⊥) → M at x xs f → f ≡ at ! rule.WrongType
  no_function_only at _ w n (rules.no_function q m) = refl
  no_function_only at _ w n (rules.wrong_count i m) = absurd (n _ i)
  no_function_only at f w n (rules.mispassed h e c b m z) = absurd (n _ (declared h e))
  no_function_only at f w n (rules.no_value t m z) = absurd (no_standard s.types w)
  no_function_only at f w n (rules.misapplied i m z) = absurd (no_standard s.types w)
  no_function_only at _ w n (rules.no_type t m z) = absurd (no_standard s.types w)
  no_function_only at f w n (rules.misconverted m z q r) = absurd (no_standard s.types w)
  no_function_only at f w n (rules.no_array m z) = absurd (no_standard s.types w)
  no_function_only at _ w n (rules.no_open_array m z q) = absurd (no_standard s.types w)

  called_function : {x : Thing} {xs : List Expr} {k : Kind} {h : TypeNo} → Heads s.types x h → C x xs k → (n : ℕ)
      × IsFunctionOf s.types x n
  called_function w (rules.of_function h e a) = (_, declared h e)
  called_function w (rules.of_one m a) = absurd (no_standard s.types w)
  called_function w (rules.of_type h n b) = absurd (no_standard s.types w)
  called_function w (rules.converted h n m c) = absurd (no_standard s.types w)
  called_function w (rules.greatest_index h) = absurd (no_standard s.types w)

  function_count : {x : Thing} {h : TypeNo} {n : ℕ} {p : Signature} → Heads s.types x h
      → IsMade s.types h (shape.Procedure p) → IsFunctionOf s.types x n → (n ≡ length p.formals)
      × ((t : TypeNo) × (p.result ≡ Some t))
  function_count {h = h} w m (declared {s = q} {t = t} d e) = let same =
      one_signature s.types h (made_of s.types w d) m in
      (ap (λ (p : Signature). length p.formals) same, (t, ap (λ (p : Signature). p.result) (sym same) ∙ e))
  function_count w m (standard e) = absurd (no_standard s.types w)

  no_signature_calls : {x : Thing} {h : TypeNo} {n : ℕ} → Heads s.types x h
      → ((p : Signature) → IsMade s.types h (shape.Procedure p) → ⊥) → IsFunctionOf s.types x n → ⊥
  no_signature_calls w n (declared {s = q} d e) = n q (made_of s.types w d)
  no_signature_calls w n (standard e) = no_standard s.types w

  count_wrong : {x : Thing} {h t : TypeNo} {p : Signature} {xs : List Expr} (at : Pos) (f : Breach) → Heads s.types x h
      → IsMade s.types h (shape.Procedure p) → p.result ≡ Some t → (length p.formals ≡ length xs → ⊥) → M at x xs f
      → f ≡ at ! rule.ArgumentCount
  count_wrong {p = p} at _ w m r n (rules.no_function q z) =
      absurd (z (length p.formals) (declared (heading_of s.types w m) r))
  count_wrong at _ w m r n (rules.wrong_count i z) = refl
  count_wrong {h = h} {xs = xs} at f w m r n (rules.mispassed {s = q} d e c b z y) =
      absurd (n (subst (λ (p : Signature). length p.formals ≡ length xs)
      (one_signature s.types h (made_of s.types w d) m) c))
  count_wrong at f w m r n (rules.no_value t z y) = absurd (no_standard s.types w)
  count_wrong at f w m r n (rules.misapplied i z y) = absurd (no_standard s.types w)
  count_wrong at _ w m r n (rules.no_type t z y) = absurd (no_standard s.types w)
  count_wrong at f w m r n (rules.misconverted z y q c) = absurd (no_standard s.types w)
  count_wrong at f w m r n (rules.no_array z y) = absurd (no_standard s.types w)
  count_wrong at _ w m r n (rules.no_open_array z y q) = absurd (no_standard s.types w)

  count_right : {x : Thing} {h t : TypeNo} {p : Signature} {xs : List Expr} (at : Pos) (f : Breach) → Heads s.types x h
      → IsMade s.types h (shape.Procedure p) → p.result ≡ Some t → length p.formals ≡ length xs → M at x xs f
      → Wrong p.formals xs f
  count_right {p = p} at _ w m r e (rules.no_function q z) =
      absurd (z (length p.formals) (declared (heading_of s.types w m) r))
  count_right at _ w m r e (rules.wrong_count i z) = absurd (z ((function_count w m i).0 ∙ e))
  count_right {h = h} {xs = xs} at f w m r e (rules.mispassed {y = y} {s = q} {formal = formal} {e = a} d v c b z u) = (
    formal,
    a,
    y,
    subst (λ (p : Signature). Beside formal a p.formals xs)
        (one_signature s.types h (made_of s.types w d) m) b,
    z,
    u,
  )
  count_right at f w m r e (rules.no_value t z y) = absurd (no_standard s.types w)
  count_right at f w m r e (rules.misapplied i z y) = absurd (no_standard s.types w)
  count_right at _ w m r e (rules.no_type t z y) = absurd (no_standard s.types w)
  count_right at f w m r e (rules.misconverted z y q c) = absurd (no_standard s.types w)
  count_right at f w m r e (rules.no_array z y) = absurd (no_standard s.types w)
  count_right at _ w m r e (rules.no_open_array z y q) = absurd (no_standard s.types w)

  wrong_right : {x : Thing} {h t : TypeNo} {p : Signature} {xs : List Expr} (at : Pos) (f : Breach) → Heads s.types x h
      → IsMade s.types h (shape.Procedure p) → p.result ≡ Some t → length p.formals ≡ length xs → Wrong p.formals xs f
      → M at x xs f
  wrong_right at f w m r e (formal, a, y, b, z, u) = rules.mispassed (heading_of s.types w m) r e b z u

  function_calls : {x : Thing} {h t : TypeNo} {p : Signature} {xs : List Expr} {k : Kind} → Heads s.types x h
      → IsMade s.types h (shape.Procedure p) → p.result ≡ Some t → C x xs k → Passed p.formals xs
      × (k ≡ result_kind s.types t)
  function_calls {h = h} {t = t} {xs = xs} w m r (rules.of_function {s = q} {t = u} d e a) = let same =
      one_signature s.types h (made_of s.types w d) m in (
        subst (λ (p : Signature). Passed p.formals xs) same a,
        ap (result_kind s.types)
            (some_same u t (sym e ∙ ap (λ (p : Signature). p.result) same ∙ r)),
      )
  function_calls w m r (rules.of_one z a) = absurd (no_standard s.types w)
  function_calls w m r (rules.of_type z n b) = absurd (no_standard s.types w)
  function_calls w m r (rules.converted z n y c) = absurd (no_standard s.types w)
  function_calls w m r (rules.greatest_index z) = absurd (no_standard s.types w)

  pub none_is_some : {t : TypeNo} {r : Option TypeNo} → r ≡ None → r ≡ Some t → ⊥
  none_is_some e q = let z = sym e ∙ q in absurd cc

  counted_by : {x : Thing} {h t : TypeNo} {p : Signature} (at : Pos) (xs : List Expr) (c : Callee) (b : Bool)
      → (length p.formals == length (map (meanings_of g) xs)) ≡ b → Heads s.types x h
      → IsMade s.types h (shape.Procedure p) → p.result ≡ Some t
      → ((y : Expr) → Among y xs → Found y)
      → So at x xs (ahead g (reported_where g (not b) at rule.ArgumentCount (Ok tt) ▷ λ (u : Unit {0}). Ok t)
      (breaches_in_all g s (map (meanings_of g) xs))
      (λ t. call_given g s.types t c (actuals g s p.formals (map (meanings_of g) xs))))
  counted_by {x = x} {t = t} {p = p} at xs c false e w m r h =
      refused_call g j lawful names exports s at rule.ArgumentCount (λ k z. clash (function_calls w m r z).0)
      (rules.wrong_count (declared (heading_of s.types w m) r) not_equal) (λ f z. count_wrong at f w m r not_equal z) h
    where
      same_length : length (map (meanings_of g) xs) ≡ length xs
      same_length = length-map xs (meanings_of g)

      not_equal : length p.formals ≡ length xs → ⊥
      not_equal q = differ (length p.formals) (length (map (meanings_of g) xs)) e (q ∙ sym same_length)
        where
          differ : (a b : ℕ) → (a == b) ≡ false → a ≡ b → ⊥
          differ a b e q = absurd (grind (arith, nat_tests))

      passed_length : {fs : List Formal} {xs : List Expr} → Passed fs xs → length fs ≡ length xs
      passed_length no_more = refl
      passed_length (one_more m p r) = ap suc (passed_length r)

      clash : Passed p.formals xs → ⊥
      clash a = not_equal (passed_length a)
  counted_by {x = x} {t = t} {p = p} at xs c true e w m r h =
      exact g j lawful E {M = λ k. (Unit {0} × Passed p.formals xs) × (k ≡ result_kind s.types t)}
      {B = λ f. (⊥ ⊎ (Any xs f ⊎ Wrong p.formals xs f)) ⊎ ((Unit {0} × Passed p.formals xs) × ⊥)}
      (λ k z. subst (C x xs) (sym z.1) (rules.of_function (heading_of s.types w m) r z.0.1))
      (λ k z. let q = function_calls w m r z in ((tt, q.0), q.1))
      (λ f z. elim z [
        | inl y ↦ elim y [
          | inl b ↦ absurd b
          | inr v ↦ elim v
              [ inl a ↦ inr a | inr q ↦ inl (wrong_right at f w m r equal q) ]
        ]
        | inr y ↦ absurd y.1
      ])
      (λ f z. elim z [ inl q ↦ inl (inr (inr (count_right at f w m r equal q))) | inr a ↦ inl (inr (inl a)) ])
      (then_checked g j lawful E (all_pass p.formals xs {P = Unit {0}} {B = λ f. ⊥} (Ok []) equal h
      (passes [] tt (λ f b. b)))
      (λ v a. means _ (result_kind s.types t) (given_is s.types t (expr.Call t (call_by v c))) refl (λ l q. q)
      (λ f b. b)))
    where
      equal : length p.formals ≡ length xs
      equal = same (length p.formals) (length (map (meanings_of g) xs)) e ∙ length-map xs (meanings_of g)
        where
          same : (a b : ℕ) → (a == b) ≡ true → a ≡ b
          same a b e = grind (arith, nat_tests)

  result_by : {x : Thing} {h : TypeNo} {p : Signature} (at : Pos) (xs : List Expr) (c : Callee) (r : Option TypeNo)
      → p.result ≡ r → Heads s.types x h → IsMade s.types h (shape.Procedure p)
      → ((y : Expr) → Among y xs → Found y)
      → So at x xs (ahead g (function_with g at (length p.formals) (length (map (meanings_of g) xs)) r)
      (breaches_in_all g s (map (meanings_of g) xs))
      (λ t. call_given g s.types t c (actuals g s p.formals (map (meanings_of g) xs))))
  result_by {x = x} at xs c None e w m h =
      refused_call g j lawful names exports s at rule.WrongType (λ k z. let q = called_function w z in proper q.0 q.1)
      (rules.no_function (not_headless s.types w) proper) (λ f z. no_function_only at f w proper z) h
    where
      proper : (n : ℕ) → IsFunctionOf s.types x n → ⊥
      proper n q = let z = (function_count w m q).1 in none_is_some e z.1
  result_by at xs c (Some t) e w m h = counted_by at xs c _ refl w m e h

  routine_by : {x : Thing} {h : TypeNo} (at : Pos) (xs : List Expr) (c : Callee) (o : Option Signature)
      → SignatureIs s.types h o → Heads s.types x h → ((y : Expr) → Among y xs → Found y)
      → So at x xs (ahead g (function_of g at o (length (map (meanings_of g) xs)))
      (breaches_in_all g s (map (meanings_of g) xs))
      (λ t. call_given g s.types t c (actuals g s (formals_of o) (map (meanings_of g) xs))))
  routine_by {x = x} at xs c _ (no_signature n) w h =
      refused_call g j lawful names exports s at rule.WrongType
      (λ k z. let q = called_function w z in no_signature_calls w n q.1)
      (rules.no_function (not_headless s.types w) (λ q z. no_signature_calls w n z))
      (λ f z. no_function_only at f w (λ q z. no_signature_calls w n z) z) h
  routine_by at xs c _ (has_signature p m) w h = result_by at xs c p.result refl w m h

  routine_calls : {x : Thing} {h : TypeNo} (at : Pos) (xs : List Expr) (c : Callee) → Heads s.types x h
      → ((y : Expr) → Among y xs → Found y) →
      So at x xs (callee_value g s at (map (meanings_of g) xs) (called.Routine h c))
  routine_calls {h = h} at xs c w h' = routine_by at xs c (signature_at s.types h) (signature_there s.types h) w h'

  -- ---- what is called

  pub data IsCallee : Called → Thing → Type 0 where
    callee_routine : {x : Thing} {h : TypeNo} (c : Callee) → Heads s.types x h → IsCallee (called.Routine h c) x
    callee_standard : (p : Standard) → IsCallee (called.Standard p) (AStandard p)

  pub data MayCall : Thing → Type 0 where
    may_routine : {x : Thing} {h : TypeNo} → Heads s.types x h → MayCall x
    may_standard : (p : Standard) → MayCall (AStandard p)

  abbrev pub NoCall : Pos → Thing → Breach → Type 0
  NoCall at x f = (MayCall x → ⊥) × (((b : Bool) → x ≡ Headless b → ⊥) × (f ≡ at ! rule.WrongType))

  abbrev CalleeSo : Pos → Thing → Result Called g.Reported → Type 0
  CalleeSo at x r = Answers g j E IsCallee (λ y. MayCall x × (y ≡ x)) (NoCall at x) r

  no_callee : {x : Thing} (at : Pos) → (MayCall x → ⊥) → ((b : Bool) → x ≡ Headless b → ⊥)
      → CalleeSo at x (report g at rule.WrongType)
  no_callee at n q = declined g j lawful E at rule.WrongType (λ y m. n m.0) (n, (q, refl)) (λ f z. z.1.1)

  a_callee : {x : Thing} {c : Called} (at : Pos) → IsCallee c x → MayCall x → CalleeSo at x (Ok c)
  a_callee {x = x} {c = c} at i m = means c x i (m, refl) (λ y z. z.1) (λ f z. z.0 m)

  not_made : {t : TypeNo} (z : Option Shape) → shape_at s.types t ≡ z
      → ((p : Signature) → z ≡ Some (shape.Procedure p) → ⊥) → MayCall (AVariable t) → ⊥
  not_made z e n (may_routine (heads_variable t {p = p} m)) = n p (sym e ∙ m)

  pub no_call_of : {x : Thing} → ((h : TypeNo) → Heads s.types x h → ⊥) → ((p : Standard) → x ≡ AStandard p → ⊥)
      → MayCall x → ⊥
  no_call_of n q (may_routine {h = h} w) = n h w
  no_call_of n q (may_standard p) = q p refl

  held_callee : (at : Pos) (t : TypeNo) (d : Place) (z : Option Shape) → shape_at s.types t ≡ z
      → CalleeSo at (AVariable t) (callee_in_variable g at t d (class_of z))
  held_callee at t d None e = no_callee at (not_made None e (λ p q. absurd cc)) (λ b q. absurd cc)
  held_callee at t d (Some (shape.Procedure p)) e =
      a_callee at (callee_routine _ (heads_variable t e)) (may_routine (heads_variable t e))
  held_callee at t d (Some (shape.Scalar r)) e = no_callee at (not_made _ e (λ p q. absurd cc)) (λ b q. absurd cc)
  held_callee at t d (Some shape.Set) e = no_callee at (not_made _ e (λ p q. absurd cc)) (λ b q. absurd cc)
  held_callee at t d (Some (shape.Array i u)) e = no_callee at (not_made _ e (λ p q. absurd cc)) (λ b q. absurd cc)
  held_callee at t d (Some (shape.Record fs)) e = no_callee at (not_made _ e (λ p q. absurd cc)) (λ b q. absurd cc)
  held_callee at t d (Some (shape.Open u)) e = no_callee at (not_made _ e (λ p q. absurd cc)) (λ b q. absurd cc)

  pub callee_answers : (at : Pos) (a : Designated) (x : Thing) → IsThing a x → CalleeSo at x (callee_of g s.types at a)
  callee_answers at _ _ (thing_procedure p) =
      a_callee at (callee_routine _ (heads_procedure p.heading)) (may_routine (heads_procedure p.heading))
  callee_answers at _ _ (thing_nested p) =
      a_callee at (callee_routine _ (heads_nested p.heading)) (may_routine (heads_nested p.heading))
  callee_answers at _ _ (thing_standard p) = a_callee at (callee_standard p) (may_standard p)
  callee_answers at _ _ (thing_variable t d) =
      subst (λ (c : Class). CalleeSo at (AVariable t) (callee_in_variable g at t d c)) (sym (class_is s.types t))
      (held_callee at t d (shape_at s.types t) refl)
  callee_answers at _ _ (thing_value i) =
      no_callee at (no_call_of (λ h w. elim w [ ]) (λ p q. absurd cc)) (λ b q. absurd cc)
  callee_answers at _ _ (thing_open t d) =
      no_callee at (no_call_of (λ h w. elim w [ ]) (λ p q. absurd cc)) (λ b q. absurd cc)
  callee_answers at _ _ (thing_type t) = no_callee at (no_call_of (λ h w. elim w [ ]) (λ p q. absurd cc))
      (λ b q. absurd cc)
  callee_answers at _ _ (thing_module k) =
      no_callee at (no_call_of (λ h w. elim w [ ]) (λ p q. absurd cc)) (λ b q. absurd cc)

  may_variable : (t : TypeNo) (z : Option Shape) → shape_at s.types t ≡ z → MayCall (AVariable t)
      ⊎ (MayCall (AVariable t) → ⊥)
  may_variable t None e = inr (not_made None e (λ p q. absurd cc))
  may_variable t (Some (shape.Procedure p)) e = inl (may_routine (heads_variable t e))
  may_variable t (Some (shape.Scalar r)) e = inr (not_made _ e (λ p q. absurd cc))
  may_variable t (Some shape.Set) e = inr (not_made _ e (λ p q. absurd cc))
  may_variable t (Some (shape.Array i u)) e = inr (not_made _ e (λ p q. absurd cc))
  may_variable t (Some (shape.Record fs)) e = inr (not_made _ e (λ p q. absurd cc))
  may_variable t (Some (shape.Open u)) e = inr (not_made _ e (λ p q. absurd cc))

  pub may_or_not : (x : Thing) → MayCall x ⊎ (MayCall x → ⊥)
  may_or_not (AVariable t) = may_variable t (shape_at s.types t) refl
  may_or_not (AProcedure h) = inl (may_routine (heads_procedure h))
  may_or_not (ANested h) = inl (may_routine (heads_nested h))
  may_or_not (AStandard p) = inl (may_standard p)
  may_or_not (AValue k) = inr (no_call_of (λ h w. elim w [ ]) (λ p q. absurd cc))
  may_or_not (AnOpenArray t) = inr (no_call_of (λ h w. elim w [ ]) (λ p q. absurd cc))
  may_or_not (AType t) = inr (no_call_of (λ h w. elim w [ ]) (λ p q. absurd cc))
  may_or_not (AModule k) = inr (no_call_of (λ h w. elim w [ ]) (λ p q. absurd cc))
  may_or_not (Headless b) = inr (no_call_of (λ h w. elim w [ ]) (λ p q. absurd cc))

  pub headed_may : {x : Thing} {p : Signature} → HasHeading s.types x p → MayCall x
  headed_may (of_procedure {h = h} m) = may_routine (heads_procedure h)
  headed_may (of_nested {h = h} m) = may_routine (heads_nested h)
  headed_may (of_variable {t = t} m) = may_routine (heads_variable t m)

  function_may : {x : Thing} {n : ℕ} → IsFunctionOf s.types x n → MayCall x
  function_may (declared h e) = headed_may h
  function_may (standard {f = p} e) = may_standard p

  calls_may : {x : Thing} {xs : List Expr} {k : Kind} → C x xs k → MayCall x
  calls_may (rules.of_function h e a) = headed_may h
  calls_may (rules.of_one {f = p} m a) = may_standard p
  calls_may (rules.of_type {f = p} h n b) = may_standard p
  calls_may (rules.converted h n m c) = may_standard _
  calls_may (rules.greatest_index h) = may_standard _

  uncalled : {x : Thing} {xs : List Expr} (at : Pos) (f : Breach) → (MayCall x → ⊥) → M at x xs f → NoCall at x f
  uncalled at _ n (rules.no_function q m) = (n, (q, refl))
  uncalled at _ n (rules.wrong_count i m) = absurd (n (function_may i))
  uncalled at f n (rules.mispassed h e c b m z) = absurd (n (headed_may h))
  uncalled at f n (rules.no_value {p = p} t m z) = absurd (n (may_standard p))
  uncalled at f n (rules.misapplied {p = p} i m z) = absurd (n (may_standard p))
  uncalled at _ n (rules.no_type {p = p} t m z) = absurd (n (may_standard p))
  uncalled at f n (rules.misconverted m z q r) = absurd (n (may_standard _))
  uncalled at f n (rules.no_array m z) = absurd (n (may_standard _))
  uncalled at _ n (rules.no_open_array m z q) = absurd (n (may_standard _))

  called_answer : (at : Pos) (xs : List Expr) (c : Called) (x : Thing) → IsCallee c x
      → ((y : Expr) → Among y xs → Found y) → So at x xs (callee_value g s at (map (meanings_of g) xs) c)
  called_answer at xs _ x (callee_routine c w) h = routine_calls at xs c w h
  called_answer at xs _ _ (callee_standard p) h = standard_answers g j lawful names exports s p at xs h

  -- a call of what a designator stands for
  pub calls_answer : {D : Thing → Type 0} {F : Breach → Type 0} {d : Result Designated (Meaningless g.Reported)}
      (at : Pos) (xs : List Expr) → Finds g j lawful E D F d → ((y : Expr) → Among y xs → Found y)
      → Answers g j E IsKind (λ k. (x : Thing) × D x × C x xs k)
      (λ f. (F f ⊎ ((x : Thing) × D x × M at x xs f)) ⊎ Any xs f)
      (call_in_expression g s at d (map (meanings_of g) xs))
  calls_answer {D = D} {F = F} at xs h q = exact g j lawful E
      {M = λ k. (y : Thing) × ((x : Thing) × D x × (MayCall x × (y ≡ x))) × C y xs k}
      {N = λ k. (x : Thing) × D x × C x xs k}
      {B = λ f. ((F f ⊎ ((x : Thing) × D x × NoCall at x f))
      ⊎ ((y : Thing) × ((x : Thing) × D x × (MayCall x × (y ≡ x))) × M at y xs f)) ⊎ Any xs f}
      {C = λ f. (F f ⊎ ((x : Thing) × D x × M at x xs f)) ⊎ Any xs f}
      (λ k z. (z.0, subst D (sym z.1.2.1) z.1.1, z.2)) (λ k z. (z.0, (z.0, z.1, (calls_may z.2, refl)), z.2))
      (λ f z. out f z) (λ f z. into f z)
      (ahead_answers g j lawful E {N = λ y k. C y xs k} {D = λ y f. M at y xs f}
      (heading_answers g j lawful E {N = λ x y. MayCall x × (y ≡ x)} {D = λ x f. NoCall at x f} h
      (callee_answers at) (λ b y m. no_call_of (λ h w. elim w [ ]) (λ p q. absurd cc) m.0) (λ b f z. z.1.0 b refl))
      (look_tells g j lawful names exports s xs q) (λ c y e m. called_answer at xs c y e q))
    where
      out : (f : Breach) → ((F f ⊎ ((x : Thing) × D x × NoCall at x f))
          ⊎ ((y : Thing) × ((x : Thing) × D x × (MayCall x × (y ≡ x))) × M at y xs f)) ⊎ Any xs f
          → (F f ⊎ ((x : Thing) × D x × M at x xs f)) ⊎ Any xs f
      out f (inl (inl (inl b))) = inl (inl b)
      out f (inl (inl (inr (x, m, (n, (z, e)))))) =
          inl (inr (x, m, subst (M at x xs) (sym e) (rules.no_function z (λ k w. n (function_may w)))))
      out f (inl (inr (y, (x, m, (c, e)), z))) = inl (inr (y, subst D (sym e) m, z))
      out f (inr a) = inr a

      by : (f : Breach) (x : Thing) → D x → M at x xs f → MayCall x ⊎ (MayCall x → ⊥)
          → ((F f ⊎ ((x : Thing) × D x × NoCall at x f))
          ⊎ ((y : Thing) × ((x : Thing) × D x × (MayCall x × (y ≡ x))) × M at y xs f)) ⊎ Any xs f
      by f x m z (inl c) = inl (inr (x, (x, m, (c, refl)), z))
      by f x m z (inr n) = inl (inl (inr (x, m, uncalled at f n z)))

      into : (f : Breach) → (F f ⊎ ((x : Thing) × D x × M at x xs f)) ⊎ Any xs f
          → ((F f ⊎ ((x : Thing) × D x × NoCall at x f))
          ⊎ ((y : Thing) × ((x : Thing) × D x × (MayCall x × (y ≡ x))) × M at y xs f)) ⊎ Any xs f
      into f (inl (inl b)) = inl (inl (inl b))
      into f (inl (inr (x, m, z))) = by f x m z (may_or_not x)
      into f (inr a) = inr a
