-- What holds of what is answered, if something is answered.
use Rattle.std.proofs.Common.{◌≡◌, Bool, true, false, Result, Ok, Err, refl, subst}
use Rattle.m2_rule.specs.declared.rule.Rule.{Rule}
use Rattle.m2_rule.specs.declared.breach.Breach.{Breach}
use Rattle.m2_tree.specs.declared.pos.Pos.{Pos}
use Rattle.check_scope.specs.declared.meaningless.Meaningless.{Meaningless}
use Rattle.check_scope.specs.declared.meaningless.Meaningless.TheVariants as meaningless
use Rattle.check_scope.specs.Elaborated.{Gathers, both, report, reported_where, of_heading, of_value, of_sort_of_value, of_sort, plain, ahead, ◌▷◌}
use Rattle.law_typing.specs.Judging.{Judges, Answers, means, refuses}
use Rattle.law_typed.specs.Typed.{IsOne}

pub data IfMeant {A R : Type 0} (P : A → Type 0) : Result A R → Type 0 where
  meant : (a : A) → P a → IfMeant P (Ok a)
  not_meant : (r : R) → IfMeant P (Err r)

module _ {R : Type 0} where
  pub if_as : {A : Type 0} {P Q : A → Type 0} {r : Result A R} → ((a : A) → P a → Q a) → IfMeant P r → IfMeant Q r
  if_as h (meant a p) = meant a (h a p)
  if_as h (not_meant r) = not_meant r

  pub if_also : {A : Type 0} {P Q : A → Type 0} {r : Result A R} → IfMeant P r → IfMeant Q r
      → IfMeant (λ a. P a × Q a) r
  if_also (meant a p) (meant _ q) = meant a (p, q)
  if_also (not_meant r) q = not_meant r

  pub if_then : {A B : Type 0} {P : A → Type 0} {Q : B → Type 0} {r : Result A R} {f : A → Result B R} → IfMeant P r
      → ((a : A) → P a → IfMeant Q (f a)) → IfMeant Q (r ▷ f)
  if_then (meant a p) h = h a p
  if_then (not_meant r) h = not_meant r

  -- what is answered
  pub if_answered : {A : Type 0} {P : A → Type 0} {r : Result A R} {a : A} → IfMeant P r → r ≡ Ok a → P a
  if_answered {P = P} (meant b p) e = subst P (cc e) p
  if_answered (not_meant r) e = absurd cc

  pub if_equal : {A : Type 0} (r : Result A R) → IfMeant (λ a. r ≡ Ok a) r
  if_equal (Ok a) = meant a refl
  if_equal (Err r) = not_meant r

  pub by_equal : {A : Type 0} {P : A → Type 0} (r : Result A R) → ((a : A) → r ≡ Ok a → P a) → IfMeant P r
  by_equal (Ok a) h = meant a (h a refl)
  by_equal (Err r) h = not_meant r

  pub if_headed : {A : Type 0} {P : A → Type 0} {r : Result A (Meaningless R)} → IfMeant P r → IfMeant P (of_heading r)
  if_headed (meant a p) = meant a p
  if_headed (not_meant (meaningless.Broken e)) = not_meant e
  if_headed (not_meant (meaningless.Headless b e)) = not_meant e

  pub if_plain : {A : Type 0} {P : A → Type 0} {r : Result A R} → IfMeant P r → IfMeant P (plain r)
  if_plain (meant a p) = meant a p
  if_plain (not_meant r) = not_meant (meaningless.Broken r)

  -- what is answered if one thing at most can be
  pub if_one : {A : Type 0} {P : A → Type 0} {r : Result A R} {a : A} → IfMeant (IsOne P) r → r ≡ Ok a → IsOne P a
  if_one h e = if_answered h e

module _ (g : Gathers) where
  pub if_both : {A B : Type 0} {P : A → Type 0} {Q : B → Type 0} {r : Result A g.Reported} {q : Result B g.Reported}
      → IfMeant P r → IfMeant Q q → IfMeant (λ (p : A × B). P p.0 × Q p.1) (both g r q)
  if_both (meant a p) (meant b q) = meant (a, b) (p, q)
  if_both (meant a p) (not_meant q) = not_meant q
  if_both (not_meant r) (meant b q) = not_meant r
  if_both (not_meant r) (not_meant q) = not_meant (g.join r q)

  -- beside a first part that is answered
  pub if_right : {A B D : Type 0} {P : B → Type 0} {Q : D → Type 0} {q : Result B g.Reported}
      (f : A × B → Result D g.Reported) (a : A) → IfMeant P q → ((b : B) → P b → IfMeant Q (f (a, b)))
      → IfMeant Q (both g (Ok a) q ▷ f)
  if_right f a (meant b p) h = h b p
  if_right f a (not_meant q) h = not_meant q

  -- the same, by what looks at the second part
  pub if_second : {A B D E : Type 0} {P : D → Type 0} {Q : E → Type 0} (k : B → Result D g.Reported)
      (f : A × B → Result E g.Reported) (a : A) (q : Result B g.Reported) → IfMeant P (q ▷ k)
      → ((b : B) → IfMeant P (k b) → IfMeant Q (f (a, b))) → IfMeant Q (both g (Ok a) q ▷ f)
  if_second k f a (Ok b) m n = n b m
  if_second k f a (Err q) m n = not_meant q

  -- beside a first part that is refused
  pub if_left : {A B D : Type 0} {Q : D → Type 0} (f : A × B → Result D g.Reported) (b : Breach)
      (q : Result B g.Reported) → IfMeant Q (both g (Err (g.one b)) q ▷ f)
  if_left f b (Ok x) = not_meant (g.one b)
  if_left f b (Err q) = not_meant (g.join (g.one b) q)

  pub if_reported : {A : Type 0} {P : A → Type 0} (at : Pos) (broken : Rule) → IfMeant P (report g {A = A} at broken)
  if_reported at broken = not_meant _

  pub if_where : {A : Type 0} {P : A → Type 0} {r : Result A g.Reported} (b : Bool) (at : Pos) (broken : Rule)
      → (b ≡ false → IfMeant P r) → IfMeant P (reported_where g b at broken r)
  if_where true at broken h = not_meant _
  if_where false at broken h = h refl

  pub if_sorted : {A : Type 0} {P : A → Type 0} {r : Result A (Meaningless g.Reported)} (at : Pos) (broken : Rule)
      → IfMeant P r → IfMeant P (of_sort g at broken r)
  if_sorted at broken (meant a p) = meant a p
  if_sorted at broken (not_meant (meaningless.Broken e)) = not_meant e
  if_sorted at broken (not_meant (meaningless.Headless b e)) = not_meant _

  pub if_value : {A : Type 0} {P : A → Type 0} {r : Result A (Meaningless g.Reported)} (at : Pos) → IfMeant P r
      → IfMeant P (of_value g at r)
  if_value at (meant a p) = meant a p
  if_value at (not_meant (meaningless.Broken e)) = not_meant e
  if_value at (not_meant (meaningless.Headless true e)) = not_meant _
  if_value at (not_meant (meaningless.Headless false e)) = not_meant e

  pub if_sorted_value : {A : Type 0} {P : A → Type 0} {r : Result A (Meaningless g.Reported)} (at : Pos) (broken : Rule)
      → IfMeant P r → IfMeant P (of_sort_of_value g at broken r)
  if_sorted_value at broken (meant a p) = meant a p
  if_sorted_value at broken (not_meant (meaningless.Broken e)) = not_meant e
  if_sorted_value at broken (not_meant (meaningless.Headless true e)) = not_meant _
  if_sorted_value at broken (not_meant (meaningless.Headless false e)) = not_meant _

  pub if_ahead : {A B : Type 0} {P : A → Type 0} {Q : B → Type 0} {r : Result A g.Reported}
      {f : A → Result B g.Reported} (rest : Result (Unit {0}) g.Reported) → IfMeant P r
      → ((a : A) → P a → IfMeant Q (f a)) → IfMeant Q (ahead g r rest f)
  if_ahead rest (meant a p) h = h a p
  if_ahead (Ok u) (not_meant r) h = not_meant r
  if_ahead (Err q) (not_meant r) h = not_meant (g.join r q)

-- what is answered exactly
pub record IsExactly {A K : Type 0} (Is : A → K → Type 0) (Means : K → Type 0) (a : A) : Type 0 where
  pub kind : K
  pub is : Is a kind
  pub has : Means kind
  pub one : (l : K) → Means l → l ≡ kind

module _ (g : Gathers) (j : Judges g) {O : Breach → Type 0} where
  pub of_answers : {A K : Type 0} {Is : A → K → Type 0} {M : K → Type 0} {B : Breach → Type 0} {r : Result A g.Reported}
      → Answers g j O Is M B r → IfMeant (IsExactly Is M) r
  of_answers (means a k i m u n) = meant a (record { kind = k; is = i; has = m; one = u })
  of_answers (refuses r a n) = not_meant r
