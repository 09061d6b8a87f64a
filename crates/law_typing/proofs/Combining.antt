-- The forms that elaborations are made of answer exactly if their parts do.
use Rattle.std.proofs.Common.{◌≡◌, Bool, true, false, Result, Ok, Err, ◌⊎◌, inl, inr, refl, sym, ap, subst, ◌∙◌}
use Rattle.std.specs.Prelude.{not}
use Rattle.m2_rule.specs.declared.rule.Rule.{Rule}
use Rattle.m2_rule.specs.declared.rule.Rule.TheVariants as rule
use Rattle.m2_tree.specs.declared.pos.Pos.{Pos}
use Rattle.m2_rule.specs.declared.breach.Breach.{Breach}
use Rattle.check_scope.specs.declared.meaningless.Meaningless.{Meaningless}
use Rattle.check_scope.specs.declared.meaningless.Meaningless.TheVariants as meaningless
use Rattle.check_scope.specs.Elaborated.{Gathers, report, reported_where, both, beside, reported_beside, refusal_beside, ahead, of_sort, of_heading, of_value, of_sort_of_value, plain, ◌▷◌}
use Rattle.check_value.specs.declared.computed.Computed.{Computed}
use Rattle.check_value.specs.declared.computed.Designated.{Designated}
use Rattle.check_value.specs.declared.computed.Designated.TheVariants as designated
use Rattle.check_expr.specs.Meanings.{of_computed}
use Rattle.def_typing.specs.Operators.{◌!◌, Kind}
use Rattle.def_typing.specs.Things.{Thing, AValue, Headless}
use Rattle.law_typing.specs.Judging.{Judges, Accounts, Answers, means, refuses}
use Rattle.law_typing.specs.Exact.{IsKind, IsThing, thing_value}

-- ---- what is asked of a way to gather

pub record Lawful (g : Gathers) (j : Judges g) : Type 0 where
  pub one_among : (f h : Breach) → j.Among (g.one f) h → h ≡ f
  pub one_covers : (f : Breach) → j.Covers (g.one f) f
  pub join_among : (r q : g.Reported) (f : Breach) → j.Among (g.join r q) f → j.Among r f ⊎ j.Among q f
  pub covers_first : (r q : g.Reported) (f : Breach) → j.Covers r f → j.Covers (g.join r q) f
  pub covers_second : (r q : g.Reported) (f : Breach) → j.Covers q f → j.Covers (g.join r q) f

-- ---- tests

-- a test, and what it tests
pub data Decided (P : Type 0) : Bool → Type 0 where
  holds : P → Decided P true
  fails_it : (P → ⊥) → Decided P false

pub decided_as : {P Q : Type 0} {b : Bool} → (P → Q) → (Q → P) → Decided P b → Decided Q b
decided_as f h (holds p) = holds (f p)
decided_as f h (fails_it n) = fails_it (λ q. n (h q))

pair_same : {A B : Type 0} (a c : A) (b d : B) → a ≡ c → b ≡ d → ◌≡◌ {A = A × B} (a, b) (c, d)
pair_same {A = A} {B = B} a c b d p q = ap (λ (x : A). let y : A × B = (x, b) in y) p
    ∙ ap (λ (x : B). let y : A × B = (c, x) in y) q

module _ (g : Gathers) (j : Judges g) (l : Lawful g j) (O : Breach → Type 0) where
  -- ---- what is reported

  pub accounts_as : {B C : Breach → Type 0} {r : g.Reported} → ((f : Breach) → B f → C f) → ((f : Breach) → C f → B f)
      → Accounts g j O B r → Accounts g j O C r
  accounts_as bc cb a = record {
    only = λ f m. elim (a.only f m) [ inl b ↦ inl (bc f b) | inr o ↦ inr o ];
    each =
        λ f c. a.each f (cb f c);
  }

  pub accounts_one : (f : Breach) → Accounts g j O (λ h. h ≡ f) (g.one f)
  accounts_one f = record {
    only = λ h m. inl (l.one_among f h m);
    each =
        λ h e. subst (j.Covers (g.one f)) (sym e) (l.one_covers f);
  }

  pub accounts_both : {B C : Breach → Type 0} {r q : g.Reported} → Accounts g j O B r → Accounts g j O C q
      → Accounts g j O (λ f. B f ⊎ C f) (g.join r q)
  accounts_both {r = r} {q = q} a b = record {
    only = λ f m. elim (l.join_among r q f m) [
      | inl m ↦ elim (a.only f m) [ inl x ↦ inl (inl x) | inr o ↦ inr o ]
      | inr m ↦ elim (b.only f m)
          [ inl x ↦ inl (inr x) | inr o ↦ inr o ]
    ];
    each = λ f x. elim x [ inl x ↦ l.covers_first r q f (a.each f x) | inr x ↦ l.covers_second r q f (b.each f x) ];
  }

  -- ---- answers

  pub fine : {A K : Type 0} {Is : A → K → Type 0} (a : A) (k : K) → Is a k
      → Answers g j O Is (λ l. l ≡ k) (λ f. ⊥) (Ok a)
  fine a k i = means a k i refl (λ l e. e) (λ f b. b)

  pub declined : {A K : Type 0} {Is : A → K → Type 0} {M : K → Type 0} {B : Breach → Type 0} (at : Pos) (broken : Rule)
      → ((k : K) → M k → ⊥) → B (at ! broken) → ((f : Breach) → B f → f ≡ at ! broken)
      → Answers g j O Is M B (report g at broken)
  declined {B = B} at broken n b only = refuses (g.one (at ! broken))
      (accounts_as (λ f e. subst B (sym e) b) only (accounts_one (at ! broken))) n

  -- the same with other words
  pub exact : {A K : Type 0} {Is : A → K → Type 0} {M N : K → Type 0} {B C : Breach → Type 0} {r : Result A g.Reported}
      → ((k : K) → M k → N k) → ((k : K) → N k → M k) → ((f : Breach) → B f → C f) → ((f : Breach) → C f → B f)
      → Answers g j O Is M B r → Answers g j O Is N C r
  exact mn nm bc cb (means a k i m u n) = means a k i (mn k m) (λ l x. u l (nm l x)) (λ f c. n f (cb f c))
  exact mn nm bc cb (refuses r a n) = refuses r (accounts_as bc cb a) (λ k x. n k (nm k x))

  pub both_answer : {A K B L : Type 0} {Is : A → K → Type 0} {Is' : B → L → Type 0} {M : K → Type 0} {N : L → Type 0}
      {C D : Breach → Type 0} {r : Result A g.Reported} {q : Result B g.Reported}
      → Answers g j O Is M C r → Answers g j O Is' N D q
      → Answers g j O {A = A × B} {K = K × L} (λ p k. Is p.0 k.0 × Is' p.1 k.1) (λ k. M k.0 × N k.1) (λ f. C f ⊎ D f)
      (both g r q)
  both_answer (means a k i m u n) (means b l i' m' u' n') =
      means (a, b) (k, l) (i, i') (m, m') (λ p x. pair_same p.0 k p.1 l (u p.0 x.0) (u' p.1 x.1))
      (λ f x. elim x [ inl c ↦ n f c | inr d ↦ n' f d ])
  both_answer (means a k i m u n) (refuses q c' n') =
      refuses q (accounts_as (λ f d. inr d) (λ f x. elim x [ inl c ↦ absurd (n f c) | inr d ↦ d ]) c')
      (λ p x. n' p.1 x.1)
  both_answer (refuses r c n) (means b l i' m' u' n') =
      refuses r (accounts_as (λ f d. inl d) (λ f x. elim x [ inl c ↦ c | inr d ↦ absurd (n' f d) ]) c)
      (λ p x. n p.0 x.0)
  both_answer (refuses r c n) (refuses q c' n') = refuses (g.join r q) (accounts_both c c') (λ p x. n p.0 x.0)

  -- what looks at a meaning
  pub then_answer : {A K B L : Type 0} {Is : A → K → Type 0} {Is' : B → L → Type 0} {M : K → Type 0}
      {N : K → L → Type 0} {C : Breach → Type 0} {D : K → Breach → Type 0} {r : Result A g.Reported}
      {h : A → Result B g.Reported}
      → Answers g j O Is M C r → ((a : A) (k : K) → Is a k → Answers g j O Is' (N k) (D k) (h a))
      → Answers g j O Is' (λ l. (k : K) × M k × N k l) (λ f. C f ⊎ ((k : K) × M k × D k f)) (r ▷ h)
  then_answer {N = N} {D = D} (means a k i m u n) next =
      exact (λ l x. (k, m, x)) (λ l x. subst (λ k. N k l) (u x.0 x.1) x.2) (λ f x. inr (k, m, x))
      (λ f x. elim x [ inl c ↦ absurd (n f c) | inr d ↦ subst (λ k. D k f) (u d.0 d.1) d.2 ]) (next a k i)
  then_answer (refuses r c n) next = refuses r
      (accounts_as (λ f b. inl b) (λ f x. elim x [ inl b ↦ b | inr d ↦ absurd (n d.0 d.1) ]) c) (λ l x. n x.0 x.1)

  pub where_answers : {A K P : Type 0} {Is : A → K → Type 0} {M : K → Type 0} {B : Breach → Type 0}
      {r : Result A g.Reported} (b : Bool) (at : Pos) (broken : Rule) → Decided P b → (P → Answers g j O Is M B r)
      → Answers g j O Is (λ k. P × M k) (λ f. ((P → ⊥) × (f ≡ at ! broken)) ⊎ (P × B f))
      (reported_where g (not b) at broken r)
  where_answers _ at n (holds p) h = exact (λ k m. (p, m)) (λ k m. m.1) (λ f b. inr (p, b))
      (λ f x. elim x [ inl c ↦ absurd (c.0 p) | inr c ↦ c.1 ]) (h p)
  where_answers _ at n (fails_it c) h = declined at n (λ k m. c m.0) (inl (c, refl))
      (λ f x. elim x [ inl d ↦ d.1 | inr d ↦ absurd (c d.0) ])

  -- ---- conditions

  pub data Checks {A : Type 0} (P : Type 0) (Breaks : Breach → Type 0) : Result A g.Reported → Type 0 where
    passes : (a : A) → P → ((f : Breach) → Breaks f → ⊥) → Checks P Breaks (Ok a)
    stops : (r : g.Reported) → Accounts g j O Breaks r → (P → ⊥) → Checks P Breaks (Err r)

  -- a condition alone
  abbrev pub Tests : Type 0 → (Breach → Type 0) → Result (Unit {0}) g.Reported → Type 0
  Tests P Breaks r = Checks {A = Unit {0}} P Breaks r

  pub checks_as : {A P Q : Type 0} {B C : Breach → Type 0} {r : Result A g.Reported} → (P → Q) → (Q → P)
      → ((f : Breach) → B f → C f) → ((f : Breach) → C f → B f) → Checks P B r → Checks Q C r
  checks_as pq qp bc cb (passes a p n) = passes a (pq p) (λ f c. n f (cb f c))
  checks_as pq qp bc cb (stops r a n) = stops r (accounts_as bc cb a) (λ q. n (qp q))

  pub no_check : {A P : Type 0} {B : Breach → Type 0} (a : A) → P → ((f : Breach) → B f → ⊥) → Checks P B (Ok a)
  no_check a p n = passes a p n

  pub stopped : {A P : Type 0} {B : Breach → Type 0} (at : Pos) (broken : Rule) → (P → ⊥) → B (at ! broken)
      → ((f : Breach) → B f → f ≡ at ! broken) → Checks {A = A} P B (report g at broken)
  stopped {B = B} at broken n b only = stops (g.one (at ! broken))
      (accounts_as (λ f e. subst B (sym e) b) only (accounts_one (at ! broken))) n

  pub where_checks : {A P : Type 0} (a : A) (b : Bool) (at : Pos) (broken : Rule) → Decided P b
      → Checks {A = A} P (λ f. (P → ⊥) × (f ≡ at ! broken)) (reported_where g (not b) at broken (Ok a))
  where_checks a _ at n (holds p) = passes a p (λ f x. x.0 p)
  where_checks a _ at n (fails_it c) = stopped at n c (c, refl) (λ f x. x.1)

  pub where_also : {A P Q : Type 0} {C : Breach → Type 0} {r : Result A g.Reported} (b : Bool) (at : Pos)
      (broken : Rule) → Decided P b → (P → Checks Q C r)
      → Checks (P × Q) (λ f. ((P → ⊥) × (f ≡ at ! broken)) ⊎ (P × C f)) (reported_where g (not b) at broken r)
  where_also _ at n (holds p) h = checks_as (λ q. (p, q)) (λ x. x.1) (λ f c. inr (p, c))
      (λ f x. elim x [ inl y ↦ absurd (y.0 p) | inr y ↦ y.1 ]) (h p)
  where_also _ at n (fails_it c) h = stopped at n (λ x. c x.0) (inl (c, refl))
      (λ f x. elim x [ inl y ↦ y.1 | inr y ↦ absurd (c y.0) ])

  pub both_checks : {A B P Q : Type 0} {C D : Breach → Type 0} {r : Result A g.Reported} {q : Result B g.Reported}
      → Checks P C r → Checks Q D q → Checks (P × Q) (λ f. C f ⊎ D f) (both g r q)
  both_checks (passes a p n) (passes b q n') = passes (a, b) (p, q) (λ f x. elim x [ inl c ↦ n f c | inr d ↦ n' f d ])
  both_checks (passes a p n) (stops q c' n') =
      stops q (accounts_as (λ f d. inr d) (λ f x. elim x [ inl c ↦ absurd (n f c) | inr d ↦ d ]) c') (λ x. n' x.1)
  both_checks (stops r c n) (passes b q n') =
      stops r (accounts_as (λ f d. inl d) (λ f x. elim x [ inl c ↦ c | inr d ↦ absurd (n' f d) ]) c) (λ x. n x.0)
  both_checks (stops r c n) (stops q c' n') = stops (g.join r q) (accounts_both c c') (λ x. n x.0)

  pub map_checks : {A B P : Type 0} {C : Breach → Type 0} {r : Result A g.Reported} (h : A → B) → Checks P C r
      → Checks P C (r ▷ λ a. Ok (h a))
  map_checks h (passes a p n) = passes (h a) p n
  map_checks h (stops r c n) = stops r c n

  pub beside_checks : {P Q : Type 0} {C D : Breach → Type 0} {r q : Result (Unit {0}) g.Reported} → Checks P C r
      → Checks Q D q → Checks (P × Q) (λ f. C f ⊎ D f) (beside g r q)
  beside_checks a b = map_checks (λ p. tt) (both_checks a b)

  pub then_checked : {A B K P : Type 0} {Is : B → K → Type 0} {M : K → Type 0} {C D : Breach → Type 0}
      {r : Result A g.Reported} {h : A → Result B g.Reported} → Checks P C r
      → ((a : A) → P → Answers g j O Is M D (h a))
      → Answers g j O Is (λ k. P × M k) (λ f. C f ⊎ (P × D f)) (r ▷ h)
  then_checked (passes a p n) h = exact (λ k m. (p, m)) (λ k m. m.1) (λ f c. inr (p, c))
      (λ f x. elim x [ inl b ↦ absurd (n f b) | inr c ↦ c.1 ]) (h a p)
  then_checked (stops r c n) h = refuses r
      (accounts_as (λ f b. inl b) (λ f x. elim x [ inl b ↦ b | inr c ↦ absurd (n c.0) ]) c) (λ k m. n m.0)

  -- a condition on a meaning
  pub then_check : {A B K : Type 0} {Is : A → K → Type 0} {M : K → Type 0} {P : K → Type 0} {C : Breach → Type 0}
      {D : K → Breach → Type 0} {r : Result A g.Reported} {h : A → Result B g.Reported}
      → Answers g j O Is M C r → ((a : A) (k : K) → Is a k → Checks (P k) (D k) (h a))
      → Checks ((k : K) × M k × P k) (λ f. C f ⊎ ((k : K) × M k × D k f)) (r ▷ h)
  then_check {P = P} {D = D} (means a k i m u n) next =
      checks_as (λ x. (k, m, x)) (λ x. subst P (u x.0 x.1) x.2) (λ f x. inr (k, m, x))
      (λ f x. elim x [ inl c ↦ absurd (n f c) | inr d ↦ subst (λ k. D k f) (u d.0 d.1) d.2 ]) (next a k i)
  then_check (refuses r c n) next = stops r
      (accounts_as (λ f b. inl b) (λ f x. elim x [ inl b ↦ b | inr d ↦ absurd (n d.0 d.1) ]) c) (λ x. n x.0 x.1)

  -- ---- if only what is reported counts

  pub data Tells (Breaks : Breach → Type 0) : Result (Unit {0}) g.Reported → Type 0 where
    silent : ((f : Breach) → Breaks f → ⊥) → Tells Breaks (Ok tt)
    tells : (r : g.Reported) → Accounts g j O Breaks r → Tells Breaks (Err r)

  pub tells_as : {B C : Breach → Type 0} {r : Result (Unit {0}) g.Reported} → ((f : Breach) → B f → C f)
      → ((f : Breach) → C f → B f) → Tells B r → Tells C r
  tells_as bc cb (silent n) = silent (λ f c. n f (cb f c))
  tells_as bc cb (tells r a) = tells r (accounts_as bc cb a)

  pub beside_tells : {C D : Breach → Type 0} {r q : Result (Unit {0}) g.Reported} → Tells C r → Tells D q
      → Tells (λ f. C f ⊎ D f) (beside g r q)
  beside_tells (silent n) (silent n') = silent (λ f x. elim x [ inl c ↦ n f c | inr d ↦ n' f d ])
  beside_tells (silent n) (tells q c') = tells q
      (accounts_as (λ f d. inr d) (λ f x. elim x [ inl c ↦ absurd (n f c) | inr d ↦ d ]) c')
  beside_tells (tells r c) (silent n') = tells r
      (accounts_as (λ f d. inl d) (λ f x. elim x [ inl c ↦ c | inr d ↦ absurd (n' f d) ]) c)
  beside_tells (tells r c) (tells q c') = tells (g.join r q) (accounts_both c c')

  pub refusal_tells : {A K : Type 0} {Is : A → K → Type 0} {M : K → Type 0} {C D : Breach → Type 0} {r : g.Reported}
      {q : Result (Unit {0}) g.Reported} → Accounts g j O C r → ((k : K) → M k → ⊥) → Tells D q
      → Answers g j O {A = A} Is M (λ f. C f ⊎ D f) (refusal_beside g r q)
  refusal_tells {r = r} a n (silent s) = refuses r
      (accounts_as (λ f c. inl c) (λ f x. elim x [ inl c ↦ c | inr d ↦ absurd (s f d) ]) a) n
  refusal_tells {r = r} a n (tells q b) = refuses (g.join r q) (accounts_both a b) n

  pub declined_beside : {A K : Type 0} {Is : A → K → Type 0} {M : K → Type 0} {D : Breach → Type 0}
      {q : Result (Unit {0}) g.Reported} (at : Pos) (broken : Rule) → ((k : K) → M k → ⊥) → Tells D q
      → Answers g j O {A = A} Is M (λ f. (f ≡ at ! broken) ⊎ D f) (reported_beside g at broken q)
  declined_beside at broken n t = refusal_tells (accounts_one (at ! broken)) n t

  -- what stands behind is looked at in any case
  pub ahead_answers : {A K B L : Type 0} {Is : A → K → Type 0} {Is' : B → L → Type 0} {M : K → Type 0}
      {N : K → L → Type 0} {C E : Breach → Type 0} {D : K → Breach → Type 0} {r : Result A g.Reported}
      {q : Result (Unit {0}) g.Reported} {h : A → Result B g.Reported}
      → Answers g j O Is M C r → Tells E q →
      ((a : A) (k : K) → Is a k → M k → Answers g j O Is' (N k) (λ f. D k f ⊎ E f) (h a))
      → Answers g j O Is' (λ l. (k : K) × M k × N k l) (λ f. (C f ⊎ ((k : K) × M k × D k f)) ⊎ E f) (ahead g r q h)
  ahead_answers {N = N} {D = D} (means a k i m u n) t next =
      exact (λ l x. (k, m, x)) (λ l x. subst (λ k. N k l) (u x.0 x.1) x.2)
      (λ f x. elim x [ inl d ↦ inl (inr (k, m, d)) | inr e ↦ inr e ])
      (λ f x. elim x [
        | inl y ↦ elim y [ inl c ↦ absurd (n f c) | inr d ↦ inl (subst (λ k. D k f) (u d.0 d.1) d.2) ]
        | inr e ↦ inr e
      ]) (next a k i m)
  ahead_answers (refuses r a n) t next = exact (λ l m. m) (λ l m. m)
      (λ f x. elim x [ inl c ↦ inl (inl c) | inr e ↦ inr e ])
      (λ f x. elim x [ inl y ↦ elim y [ inl c ↦ inl c | inr d ↦ absurd (n d.0 d.1) ] | inr e ↦ inr e ])
      (refusal_tells a (λ l x. n x.0 x.1) t)

  -- ---- what names and designators stand for

  pub data Finds (S : Thing → Type 0) (Breaks : Breach → Type 0) : Result Designated (Meaningless g.Reported)
      → Type 0 where
    finds : (a : Designated) (x : Thing) → IsThing a x → S x → ((y : Thing) → S y → y ≡ x)
        → ((f : Breach) → Breaks f → ⊥) → Finds S Breaks (Ok a)
    finds_headless : (b : Bool) (r : g.Reported) → ((f : Breach) → j.Among r f → O f) → S (Headless b)
        → ((y : Thing) → S y → y ≡ Headless b) → ((f : Breach) → Breaks f → ⊥)
        → Finds S Breaks (Err (meaningless.Headless b r))
    finds_nothing : (r : g.Reported) → Accounts g j O Breaks r → ((y : Thing) → S y → ⊥)
        → Finds S Breaks (Err (meaningless.Broken r))

  pub finds_as : {S T : Thing → Type 0} {B C : Breach → Type 0} {d : Result Designated (Meaningless g.Reported)}
      → ((x : Thing) → S x → T x) → ((x : Thing) → T x → S x) → ((f : Breach) → B f → C f) → ((f : Breach) → C f → B f)
      → Finds S B d → Finds T C d
  finds_as st ts bc cb (finds a x i s u n) = finds a x i (st x s) (λ y t. u y (ts y t)) (λ f c. n f (cb f c))
  finds_as st ts bc cb (finds_headless b r o s u n) =
      finds_headless b r o (st (Headless b) s) (λ y t. u y (ts y t)) (λ f c. n f (cb f c))
  finds_as st ts bc cb (finds_nothing r a n) = finds_nothing r (accounts_as bc cb a) (λ y t. n y (ts y t))

  pub plain_finds : {S : Thing → Type 0} {B : Breach → Type 0} {r : Result Designated g.Reported}
      → Answers g j O IsThing S B r → Finds S B (plain r)
  plain_finds (means a x i s u n) = finds a x i s u n
  plain_finds (refuses r a n) = finds_nothing r a n

  pub computed_finds : {M : Kind → Type 0} {B : Breach → Type 0} {r : Result Computed g.Reported}
      → Answers g j O IsKind M B r → Finds (λ x. (k : Kind) × M k × (x ≡ AValue k)) B (of_computed r)
  computed_finds (means a k i m u n) = finds (designated.Value a) (AValue k) (thing_value i) (k, m, refl)
      (λ y t. t.2 ∙ ap AValue (u t.0 t.1)) n
  computed_finds (refuses r a n) = finds_nothing r a (λ y t. n t.0 t.1)

  -- a rule that looks at what sort of thing it is
  pub sort_answers : {A K : Type 0} {Is : A → K → Type 0} {S : Thing → Type 0} {N : Thing → K → Type 0}
      {B : Breach → Type 0} {D : Thing → Breach → Type 0} {d : Result Designated (Meaningless g.Reported)}
      {h : Designated → Result A g.Reported} (at : Pos) (broken : Rule)
      → Finds S B d → ((a : Designated) (x : Thing) → IsThing a x → Answers g j O Is (N x) (D x) (h a))
      → ((b : Bool) → Answers g j O Is (N (Headless b)) (D (Headless b)) (report g at broken))
      → Answers g j O Is (λ k. (x : Thing) × S x × N x k) (λ f. B f ⊎ ((x : Thing) × S x × D x f))
      (of_sort g at broken d ▷ h)
  sort_answers {N = N} {D = D} at broken (finds a x i s u n) next without =
      exact (λ l y. (x, s, y)) (λ l y. subst (λ x. N x l) (u y.0 y.1) y.2) (λ f y. inr (x, s, y))
      (λ f y. elim y [ inl c ↦ absurd (n f c) | inr e ↦ subst (λ x. D x f) (u e.0 e.1) e.2 ]) (next a x i)
  sort_answers {N = N} {D = D} at broken (finds_headless b r o s u n) next without =
      exact (λ l y. (Headless b, s, y)) (λ l y. subst (λ x. N x l) (u y.0 y.1) y.2) (λ f y. inr (Headless b, s, y))
      (λ f y. elim y [ inl c ↦ absurd (n f c) | inr e ↦ subst (λ x. D x f) (u e.0 e.1) e.2 ]) (without b)
  sort_answers at broken (finds_nothing r a n) next without =
      refuses r (accounts_as (λ f b. inl b) (λ f x. elim x [ inl b ↦ b | inr e ↦ absurd (n e.0 e.1) ]) a)
      (λ l x. n x.0 x.1)

  -- if the heading counts
  pub heading_answers : {A K : Type 0} {Is : A → K → Type 0} {S : Thing → Type 0} {N : Thing → K → Type 0}
      {B : Breach → Type 0} {D : Thing → Breach → Type 0} {d : Result Designated (Meaningless g.Reported)}
      {h : Designated → Result A g.Reported}
      → Finds S B d → ((a : Designated) (x : Thing) → IsThing a x → Answers g j O Is (N x) (D x) (h a))
      → ((b : Bool) (k : K) → N (Headless b) k → ⊥) → ((b : Bool) (f : Breach) → D (Headless b) f → ⊥)
      → Answers g j O Is (λ k. (x : Thing) × S x × N x k) (λ f. B f ⊎ ((x : Thing) × S x × D x f)) (of_heading d ▷ h)
  heading_answers {N = N} {D = D} (finds a x i s u n) next nothing unsaid =
      exact (λ l y. (x, s, y)) (λ l y. subst (λ x. N x l) (u y.0 y.1) y.2) (λ f y. inr (x, s, y))
      (λ f y. elim y [ inl c ↦ absurd (n f c) | inr e ↦ subst (λ x. D x f) (u e.0 e.1) e.2 ]) (next a x i)
  heading_answers {N = N} {D = D} (finds_headless b r o s u n) next nothing unsaid = refuses r
      (record {
        only = λ f m. inr (o f m);
        each =
            λ f y. elim y [ inl c ↦ absurd (n f c) | inr e ↦ absurd (unsaid b f (subst (λ x. D x f) (u e.0 e.1) e.2)) ];
      })
      (λ l y. nothing b l (subst (λ x. N x l) (u y.0 y.1) y.2))
  heading_answers (finds_nothing r a n) next nothing unsaid =
      refuses r (accounts_as (λ f b. inl b) (λ f x. elim x [ inl b ↦ b | inr e ↦ absurd (n e.0 e.1) ]) a)
      (λ l x. n x.0 x.1)

  -- if it is taken as a value
  pub value_answers : {A K : Type 0} {Is : A → K → Type 0} {S : Thing → Type 0} {N : Thing → K → Type 0}
      {B : Breach → Type 0} {D : Thing → Breach → Type 0} {d : Result Designated (Meaningless g.Reported)}
      {h : Designated → Result A g.Reported} (at : Pos)
      → Finds S B d → ((a : Designated) (x : Thing) → IsThing a x → Answers g j O Is (N x) (D x) (h a))
      → ((k : K) → N (Headless false) k → ⊥) → ((f : Breach) → D (Headless false) f → ⊥)
      → Answers g j O Is (N (Headless true)) (D (Headless true)) (report g at rule.NoProcedureValue)
      → Answers g j O Is (λ k. (x : Thing) × S x × N x k) (λ f. B f ⊎ ((x : Thing) × S x × D x f)) (of_value g at d ▷ h)
  value_answers {N = N} {D = D} at (finds a x i s u n) next nothing unsaid nested =
      exact (λ l y. (x, s, y)) (λ l y. subst (λ x. N x l) (u y.0 y.1) y.2) (λ f y. inr (x, s, y))
      (λ f y. elim y [ inl c ↦ absurd (n f c) | inr e ↦ subst (λ x. D x f) (u e.0 e.1) e.2 ]) (next a x i)
  value_answers {N = N} {D = D} at (finds_headless true r o s u n) next nothing unsaid nested =
      exact (λ l y. (Headless true, s, y)) (λ l y. subst (λ x. N x l) (u y.0 y.1) y.2)
      (λ f y. inr (Headless true, s, y))
      (λ f y. elim y [ inl c ↦ absurd (n f c) | inr e ↦ subst (λ x. D x f) (u e.0 e.1) e.2 ]) nested
  value_answers {N = N} {D = D} at (finds_headless false r o s u n) next nothing unsaid nested = refuses r
      (record {
        only = λ f m. inr (o f m);
        each =
            λ f y. elim y [ inl c ↦ absurd (n f c) | inr e ↦ absurd (unsaid f (subst (λ x. D x f) (u e.0 e.1) e.2)) ];
      })
      (λ l y. nothing l (subst (λ x. N x l) (u y.0 y.1) y.2))
  value_answers at (finds_nothing r a n) next nothing unsaid nested =
      refuses r (accounts_as (λ f b. inl b) (λ f x. elim x [ inl b ↦ b | inr e ↦ absurd (n e.0 e.1) ]) a)
      (λ l x. n x.0 x.1)

  -- the same of a rule that looks at what sort of value it is
  pub sort_value_answers : {A K : Type 0} {Is : A → K → Type 0} {S : Thing → Type 0} {N : Thing → K → Type 0}
      {B : Breach → Type 0} {D : Thing → Breach → Type 0} {d : Result Designated (Meaningless g.Reported)}
      {h : Designated → Result A g.Reported} (at : Pos) (broken : Rule)
      → Finds S B d → ((a : Designated) (x : Thing) → IsThing a x → Answers g j O Is (N x) (D x) (h a))
      → Answers g j O Is (N (Headless false)) (D (Headless false)) (report g at broken)
      → Answers g j O Is (N (Headless true)) (D (Headless true)) (report g at rule.NoProcedureValue)
      → Answers g j O Is (λ k. (x : Thing) × S x × N x k) (λ f. B f ⊎ ((x : Thing) × S x × D x f))
      (of_sort_of_value g at broken d ▷ h)
  sort_value_answers {N = N} {D = D} at broken (finds a x i s u n) next without nested =
      exact (λ l y. (x, s, y)) (λ l y. subst (λ x. N x l) (u y.0 y.1) y.2) (λ f y. inr (x, s, y))
      (λ f y. elim y [ inl c ↦ absurd (n f c) | inr e ↦ subst (λ x. D x f) (u e.0 e.1) e.2 ]) (next a x i)
  sort_value_answers {N = N} {D = D} at broken (finds_headless true r o s u n) next without nested =
      exact (λ l y. (Headless true, s, y)) (λ l y. subst (λ x. N x l) (u y.0 y.1) y.2)
      (λ f y. inr (Headless true, s, y))
      (λ f y. elim y [ inl c ↦ absurd (n f c) | inr e ↦ subst (λ x. D x f) (u e.0 e.1) e.2 ]) nested
  sort_value_answers {N = N} {D = D} at broken (finds_headless false r o s u n) next without nested =
      exact (λ l y. (Headless false, s, y)) (λ l y. subst (λ x. N x l) (u y.0 y.1) y.2)
      (λ f y. inr (Headless false, s, y))
      (λ f y. elim y [ inl c ↦ absurd (n f c) | inr e ↦ subst (λ x. D x f) (u e.0 e.1) e.2 ]) without
  sort_value_answers at broken (finds_nothing r a n) next without nested =
      refuses r (accounts_as (λ f b. inl b) (λ f x. elim x [ inl b ↦ b | inr e ↦ absurd (n e.0 e.1) ]) a)
      (λ l x. n x.0 x.1)

  -- the same of conditions
  pub sort_checks : {A : Type 0} {S : Thing → Type 0} {P : Thing → Type 0} {B : Breach → Type 0}
      {D : Thing → Breach → Type 0} {d : Result Designated (Meaningless g.Reported)}
      {h : Designated → Result A g.Reported} (at : Pos) (broken : Rule)
      → Finds S B d → ((a : Designated) (x : Thing) → IsThing a x → Checks (P x) (D x) (h a))
      → ((b : Bool) → Checks {A = A} (P (Headless b)) (D (Headless b)) (report g at broken))
      → Checks ((x : Thing) × S x × P x) (λ f. B f ⊎ ((x : Thing) × S x × D x f)) (of_sort g at broken d ▷ h)
  sort_checks {P = P} {D = D} at broken (finds a x i s u n) next without =
      checks_as (λ y. (x, s, y)) (λ y. subst P (u y.0 y.1) y.2) (λ f y. inr (x, s, y))
      (λ f y. elim y [ inl c ↦ absurd (n f c) | inr e ↦ subst (λ x. D x f) (u e.0 e.1) e.2 ]) (next a x i)
  sort_checks {P = P} {D = D} at broken (finds_headless b r o s u n) next without =
      checks_as (λ y. (Headless b, s, y)) (λ y. subst P (u y.0 y.1) y.2) (λ f y. inr (Headless b, s, y))
      (λ f y. elim y [ inl c ↦ absurd (n f c) | inr e ↦ subst (λ x. D x f) (u e.0 e.1) e.2 ]) (without b)
  sort_checks at broken (finds_nothing r a n) next without =
      stops r (accounts_as (λ f b. inl b) (λ f x. elim x [ inl b ↦ b | inr e ↦ absurd (n e.0 e.1) ]) a) (λ x. n x.0 x.1)

  -- if it is taken as a value
  pub value_checks : {A : Type 0} {S : Thing → Type 0} {P : Thing → Type 0} {B : Breach → Type 0}
      {D : Thing → Breach → Type 0} {d : Result Designated (Meaningless g.Reported)}
      {h : Designated → Result A g.Reported} (at : Pos)
      → Finds S B d → ((a : Designated) (x : Thing) → IsThing a x → Checks (P x) (D x) (h a)) → (P (Headless false) → ⊥)
      → ((f : Breach) → D (Headless false) f → ⊥)
      → Checks {A = A} (P (Headless true)) (D (Headless true)) (report g at rule.NoProcedureValue)
      → Checks ((x : Thing) × S x × P x) (λ f. B f ⊎ ((x : Thing) × S x × D x f)) (of_value g at d ▷ h)
  value_checks {P = P} {D = D} at (finds a x i s u n) next nothing unsaid nested =
      checks_as (λ y. (x, s, y)) (λ y. subst P (u y.0 y.1) y.2) (λ f y. inr (x, s, y))
      (λ f y. elim y [ inl c ↦ absurd (n f c) | inr e ↦ subst (λ x. D x f) (u e.0 e.1) e.2 ]) (next a x i)
  value_checks {P = P} {D = D} at (finds_headless true r o s u n) next nothing unsaid nested =
      checks_as (λ y. (Headless true, s, y)) (λ y. subst P (u y.0 y.1) y.2) (λ f y. inr (Headless true, s, y))
      (λ f y. elim y [ inl c ↦ absurd (n f c) | inr e ↦ subst (λ x. D x f) (u e.0 e.1) e.2 ]) nested
  value_checks {P = P} {D = D} at (finds_headless false r o s u n) next nothing unsaid nested = stops r
      (record {
        only = λ f m. inr (o f m);
        each =
            λ f y. elim y [ inl c ↦ absurd (n f c) | inr e ↦ absurd (unsaid f (subst (λ x. D x f) (u e.0 e.1) e.2)) ];
      })
      (λ y. nothing (subst P (u y.0 y.1) y.2))
  value_checks at (finds_nothing r a n) next nothing unsaid nested =
      stops r (accounts_as (λ f b. inl b) (λ f x. elim x [ inl b ↦ b | inr e ↦ absurd (n e.0 e.1) ]) a) (λ x. n x.0 x.1)

  -- what is broken in a part, whatever it stands for
  pub heading_tells : {S : Thing → Type 0} {B : Breach → Type 0} {d : Result Designated (Meaningless g.Reported)}
      → Finds S B d → Tells B (of_heading d ▷ λ x. Ok tt)
  heading_tells (finds a x i s u n) = silent n
  heading_tells (finds_headless b r o s u n) =
      tells r (record { only = λ f m. inr (o f m); each = λ f b. absurd (n f b) })
  heading_tells (finds_nothing r a n) = tells r a

-- ---- if more is repeated

module _ (g : Gathers) (j : Judges g) (l : Lawful g j) where
  pub more_checks : {A P : Type 0} {B Q U : Breach → Type 0} {r : Result A g.Reported} → ((f : Breach) → Q f → U f)
      → Checks g j l Q {A = A} P B r → Checks g j l U {A = A} P B r
  more_checks h (passes a p n) = passes a p n
  more_checks h (stops r c n) = stops r (record
      { only = λ f m. elim (c.only f m) [ inl b ↦ inl b | inr o ↦ inr (h f o) ]; each = c.each }) n

  pub unit_checks : {A : Type 0} {P U : Breach → Type 0} {M : Unit {0} → Type 0} {B : Breach → Type 0}
      {r : Result A g.Reported} → ((f : Breach) → P f → U f)
      → Answers g j P {A = A} {K = Unit {0}} (λ v u. Unit {0}) M B r → Checks g j l U (M tt) B r
  unit_checks {M = M} h (means v u i m q n) = passes v m n
  unit_checks {M = M} h (refuses r c n) =
      stops r (record { only = λ f m. elim (c.only f m) [ inl b ↦ inl b | inr o ↦ inr (h f o) ]; each = c.each }) (n tt)
