-- Results that count at most so many.
use Rattle.std.proofs.Common.{ℕ, ◌≤◌, Bool, true, false, Result, Ok, Err, arith}
use Rattle.m2_rule.specs.Breaches.{breach}
use Rattle.m2_rule.specs.declared.rule.Rule.{Rule}
use Rattle.m2_rule.specs.declared.rule.Rule.TheVariants as rule
use Rattle.m2_tree.specs.declared.pos.Pos.{Pos}
use Rattle.check_scope.specs.Elaborated.{Gathers, report, reported_where, ◌▷◌, refusal_beside, reported_beside, ahead, of_sort, of_heading, of_value, of_sort_of_value, plain}
use Rattle.check_scope.specs.declared.meaningless.Meaningless.{Meaningless}
use Rattle.check_scope.specs.declared.meaningless.Meaningless.TheVariants.{Broken, Headless}
use Rattle.law_encoding.specs.Counted.{AtMost, fine, broken}
use Rattle.law_encoding.proofs.Sums.{le_trans}

module _ {A B T : Type 0} where
  pub then_most : {f : A → ℕ} {n : ℕ} {h : B → ℕ} {k : ℕ} {r : Result A T} {q : A → Result B T} → AtMost f n r
      → ((x : A) → f x ≤ n → AtMost h k (q x)) → AtMost h k (r ▷ q)
  then_most (fine x p) c = c x p
  then_most (broken e) c = broken e

pub at_more : {A T : Type 0} {f : A → ℕ} {n k : ℕ} {r : Result A T} → n ≤ k → AtMost f n r → AtMost f k r
at_more {f = f} {n = n} {k = k} l (fine x p) = fine x (le_trans (f x) n k p l)
at_more l (broken e) = broken e

-- the same of what it makes of it
pub at_mapped : {A T : Type 0} {f h : A → ℕ} {n k : ℕ} {r : Result A T} → ((x : A) → f x ≤ n → h x ≤ k) → AtMost f n r
    → AtMost h k r
at_mapped c (fine x p) = fine x (c x p)
at_mapped c (broken e) = broken e

module _ (g : Gathers) where
  pub reported_most : {A : Type 0} {f : A → ℕ} {n : ℕ} (at : Pos) (k : Rule) → AtMost f n (report g {A = A} at k)
  reported_most at k = broken _

  pub where_most : {A : Type 0} {f : A → ℕ} {n : ℕ} (q : Bool) (at : Pos) (k : Rule) {r : Result A g.Reported}
      → AtMost f n r → AtMost f n (reported_where g q at k r)
  where_most true at k h = broken _
  where_most false at k h = h

  pub refused_most : {A : Type 0} {f : A → ℕ} {n : ℕ} (e : g.Reported) (rest : Result (Unit {0}) g.Reported)
      → AtMost f n (refusal_beside g {A = A} e rest)
  refused_most e (Ok x) = broken e
  refused_most e (Err f) = broken (g.join e f)

  pub reported_beside_most : {A : Type 0} {f : A → ℕ} {n : ℕ} (at : Pos) (k : Rule)
      (rest : Result (Unit {0}) g.Reported) → AtMost f n (reported_beside g {A = A} at k rest)
  reported_beside_most at k rest = refused_most (g.one (breach at k)) rest

  pub ahead_most : {A B : Type 0} {f : A → ℕ} {n : ℕ} {h : B → ℕ} {k : ℕ} {r : Result A g.Reported}
      (rest : Result (Unit {0}) g.Reported) {q : A → Result B g.Reported}
      → AtMost f n r → ((x : A) → f x ≤ n → AtMost h k (q x)) → AtMost h k (ahead g r rest q)
  ahead_most rest (fine x p) c = c x p
  ahead_most rest (broken e) c = refused_most e rest

  pub sort_most : {A : Type 0} {f : A → ℕ} {n : ℕ} (at : Pos) (k : Rule) {r : Result A (Meaningless g.Reported)}
      → AtMost f n r → AtMost f n (of_sort g at k r)
  sort_most at k (fine x p) = fine x p
  sort_most at k (broken (Broken e)) = broken e
  sort_most at k (broken (Headless nested e)) = reported_most at k

  pub of_value_most : {A : Type 0} {f : A → ℕ} {n : ℕ} (at : Pos) {r : Result A (Meaningless g.Reported)} → AtMost f n r
      → AtMost f n (of_value g at r)
  of_value_most at (fine x p) = fine x p
  of_value_most at (broken (Broken e)) = broken e
  of_value_most at (broken (Headless true e)) = reported_most at rule.NoProcedureValue
  of_value_most at (broken (Headless false e)) = broken e

  pub sort_of_value_most : {A : Type 0} {f : A → ℕ} {n : ℕ} (at : Pos) (k : Rule)
      {r : Result A (Meaningless g.Reported)} → AtMost f n r → AtMost f n (of_sort_of_value g at k r)
  sort_of_value_most at k (fine x p) = fine x p
  sort_of_value_most at k (broken (Broken e)) = broken e
  sort_of_value_most at k (broken (Headless true e)) = reported_most at rule.NoProcedureValue
  sort_of_value_most at k (broken (Headless false e)) = reported_most at k

module _ {T : Type 0} where
  pub of_heading_most : {A : Type 0} {f : A → ℕ} {n : ℕ} {r : Result A (Meaningless T)} → AtMost f n r
      → AtMost f n (of_heading r)
  of_heading_most (fine x p) = fine x p
  of_heading_most (broken (Broken e)) = broken e
  of_heading_most (broken (Headless nested e)) = broken e

  pub plain_most : {A : Type 0} {f : A → ℕ} {n : ℕ} {r : Result A T} → AtMost f n r → AtMost f n (plain r)
  plain_most (fine x p) = fine x p
  plain_most (broken e) = broken (Broken e)

-- nothing is counted
pub any_most : {A T : Type 0} (r : Result A T) → AtMost (λ (x : A). 0) 0 r
any_most (Ok x) = fine x (omega arith)
any_most (Err e) = broken e
