-- What a walk starts: all that is reached, each once, and with a node all to which a pair goes from it.
use Rattle.std.proofs.Common.{◌≡◌, ◌≤◌, ℕ, ◌+◌, Bool, true, false, cond, ◌==◌, List, [], ◌∷◌, ◌++◌, refl, sym, ap, subst, ◌∙◌, inl, inr, arith, eq-eqb, ◌⊎◌}
use Rattle.std.proofs.lemmas.Bool.{false≢true, eqb-true, or_cases, or_left, or_right, cases_lt}
use Rattle.graph_walk.specs.Links.{has, times, targets}
use Rattle.graph_walk.specs.Starts.{Walked, One, Each, Walks, Again, Enters, Nothing, Then}
use Rattle.graph_walk.proofs.Marking.{has-append, times-append}
use Rattle.graph_walk.proofs.Chains.{has_times}

-- the node is one of those that are walked
abbrev pub IsWalked : Walked → ℕ → Type 0
IsWalked (One node) k = node ≡ k
IsWalked (Each nodes) k = has nodes k ≡ true

pub record Closes (imports : List (List ℕ)) (w : Walked) (entered started later : List ℕ) : Type 0 where
  pub kept : (k : ℕ) → has entered k ≡ true → has later k ≡ true
  pub new : (k : ℕ) → has later k ≡ true → (has entered k ≡ true) ⊎ (has started k ≡ true)
  pub into : (k : ℕ) → has started k ≡ true → has later k ≡ true
  pub fresh : (k : ℕ) → has started k ≡ true → has entered k ≡ true → ⊥
  pub once : (k : ℕ) → times started k ≤ 1
  pub closed : (k to : ℕ) → has started k ≡ true → has (targets imports k) to ≡ true → has later to ≡ true
  pub reaches : (k : ℕ) → IsWalked w k → has later k ≡ true
  pub origin : (k : ℕ) → has started k ≡ true → IsWalked w k ⊎ ((from : ℕ) × (has (targets imports from) k ≡ true))

-- ---- lists of two parts

has_left : (xs ys : List ℕ) (k : ℕ) → has xs k ≡ true → has (xs ++ ys) k ≡ true
has_left xs ys k h = has-append xs ys k ∙ or_left (has xs k) (has ys k) h

has_right : (xs ys : List ℕ) (k : ℕ) → has ys k ≡ true → has (xs ++ ys) k ≡ true
has_right xs ys k h = has-append xs ys k ∙ or_right (has xs k) (has ys k) h

has_either : (xs ys : List ℕ) (k : ℕ) → has (xs ++ ys) k ≡ true → (has xs k ≡ true) ⊎ (has ys k ≡ true)
has_either xs ys k h = or_cases (has xs k) (has ys k) (sym (has-append xs ys k) ∙ h)

has_last : (xs : List ℕ) (x k : ℕ) → x ≡ k → has (xs ++ x ∷ []) k ≡ true
has_last xs x k e = has_right xs (x ∷ []) k (or_left (x == k) false (eq-eqb x k e))

has_pushed : (xs : List ℕ) (x k : ℕ) → has (xs ++ x ∷ []) k ≡ true → (has xs k ≡ true) ⊎ (x ≡ k)
has_pushed xs x k h = elim (has_either xs (x ∷ []) k h)
    [ inl l ↦ inl l | inr r ↦ inr (one (or_cases (x == k) false r)) ]
  where
    one : (x == k ≡ true) ⊎ (false ≡ true) → x ≡ k
    one (inl s) = eqb-true x k s
    one (inr q) = absurd (false≢true q)

no_times : (xs : List ℕ) (k : ℕ) → (has xs k ≡ true → ⊥) → times xs k ≡ 0
no_times xs k h = elim (cases_lt 0 (times xs k))
    [ inl l ↦ absurd (h (has_times xs k (omega arith))) | inr g ↦ omega arith ]

-- ---- the steps

closes_again : (imports : List (List ℕ)) (node : ℕ) (entered : List ℕ) → has entered node ≡ true
    → Closes imports (One node) entered [] entered
closes_again imports node entered h = record {
  kept = λ k e. e;
  new = λ k e. inl e;
  into = λ k e. absurd (false≢true e);
  fresh = λ k e g. false≢true e;
  once = λ k. omega arith;
  closed = λ k to e t. absurd (false≢true e);
  reaches = λ k e. subst (λ (j : ℕ). has entered j ≡ true) e h;
  origin = λ k e. absurd (false≢true e);
}

closes_nothing : (imports : List (List ℕ)) (entered : List ℕ) → Closes imports (Each []) entered [] entered
closes_nothing imports entered = record {
  kept = λ k e. e;
  new = λ k e. inl e;
  into = λ k e. absurd (false≢true e);
  fresh = λ k e g. false≢true e;
  once = λ k. omega arith;
  closed = λ k to e t. absurd (false≢true e);
  reaches = λ k e. absurd (false≢true e);
  origin = λ k e. absurd (false≢true e);
}

once_pushed : (t s : ℕ) (b : Bool) → s ≡ t + (cond b 1 0 + 0) → t ≤ 1 → (b ≡ true → t ≡ 0) → s ≤ 1
once_pushed t s true e l h = let z = h refl in omega (arith, z, e)
once_pushed t s false e l h = omega (arith, e)

closes_enters : (imports : List (List ℕ)) (node : ℕ) (entered started later : List ℕ) → has entered node ≡ false
    → Closes imports (Each (targets imports node)) (node ∷ entered) started later
    → Closes imports (One node) entered (started ++ node ∷ []) later
closes_enters imports node entered started later not_so c = record {
  kept = λ k h. c.kept k (or_right (node == k) (has entered k) h);
  new = λ k h. elim (c.new k h) [
    | inl e ↦ elim (or_cases (node == k) (has entered k) e)
        [ inl s ↦ inr (has_last started node k (eqb-true node k s)) | inr old ↦ inl old ]
    | inr s ↦ inr (has_left started (node ∷ []) k s)
  ];
  into = λ k h. elim (has_pushed started node k h) [ inl s ↦ c.into k s | inr e ↦ here k e ];
  fresh = λ k h g. elim (has_pushed started node k h) [
    | inl s ↦ c.fresh k s (or_right (node == k) (has entered k) g)
    | inr e ↦ false≢true
        (sym not_so ∙ ap (has entered) e ∙ g)
  ];
  once = λ k. once_pushed (times started k) (times (started ++ node ∷ []) k) (node == k)
      (times-append started (node ∷ []) k) (c.once k)
      (λ s. no_times started k (λ h. c.fresh k h (or_left (node == k) (has entered k) s)));
  closed = λ k to h t. elim (has_pushed started node k h)
      [ inl s ↦ c.closed k to s t | inr e ↦ c.reaches to (ap (λ (j : ℕ). has (targets imports j) to) e ∙ t) ];
  reaches = here;
  origin = λ k h. elim (has_pushed started node k h)
      [ inl s ↦ elim (c.origin k s) [ inl t ↦ inr (node, t) | inr q ↦ inr q ] | inr e ↦ inl e ];
}
  where
    here : (k : ℕ) → node ≡ k → has later k ≡ true
    here k e = c.kept k (or_left (node == k) (has entered k) (eq-eqb node k e))

once_both : (t s u : ℕ) → u ≡ t + s → t ≤ 1 → s ≤ 1 → (1 ≤ t → 1 ≤ s → ⊥) → u ≤ 1
once_both t s u e l m h = elim (cases_lt 0 t) [
  | inl some ↦ elim (cases_lt 0 s) [ inl other ↦ absurd (h (omega arith) (omega arith)) | inr none ↦ omega arith ]
  | inr none ↦ omega arith
]

closes_then : (imports : List (List ℕ)) (node : ℕ) (nodes entered first between rest later : List ℕ)
    → Closes imports (One node) entered first between → Closes imports (Each nodes) between rest later
    → Closes imports (Each (node ∷ nodes)) entered (first ++ rest) later
closes_then imports node nodes entered first between rest later c d = record {
  kept = λ k h. d.kept k (c.kept k h);
  new = λ k h. elim (d.new k h) [
    | inl b ↦ elim (c.new k b) [ inl e ↦ inl e | inr s ↦ inr (has_left first rest k s) ]
    | inr s ↦ inr (has_right first rest k s)
  ];
  into = λ k h. elim (has_either first rest k h) [ inl s ↦ d.kept k (c.into k s) | inr s ↦ d.into k s ];
  fresh = λ k h g. elim (has_either first rest k h) [ inl s ↦ c.fresh k s g | inr s ↦ d.fresh k s (c.kept k g) ];
  once = λ k. once_both (times first k) (times rest k) (times (first ++ rest) k) (times-append first rest k) (c.once k)
      (d.once k) (λ l m. d.fresh k (has_times rest k m) (c.into k (has_times first k l)));
  closed = λ k to h t. elim (has_either first rest k h)
      [ inl s ↦ d.kept to (c.closed k to s t) | inr s ↦ d.closed k to s t ];
  reaches = λ k h. elim (or_cases (node == k) (has nodes k) h)
      [ inl s ↦ d.kept k (c.reaches k (eqb-true node k s)) | inr more ↦ d.reaches k more ];
  origin = λ k h. elim (has_either first rest k h) [
    | inl s ↦ elim (c.origin k s) [ inl e ↦ inl (or_left (node == k) (has nodes k) (eq-eqb node k e)) | inr q ↦ inr q ]
    | inr s ↦ elim (d.origin k s) [ inl e ↦ inl (or_right (node == k) (has nodes k) e) | inr q ↦ inr q ]
  ];
}

pub closes : (imports : List (List ℕ)) (w : Walked) (e s l : List ℕ) → Walks imports w e s l → Closes imports w e s l
closes imports w e s l (Again node entered h) = closes_again imports node entered h
closes imports w e s l (Enters node entered started later h walk) =
    closes_enters imports node entered started later h
    (closes imports (Each (targets imports node)) (node ∷ entered) started later walk)
closes imports w e s l (Nothing entered) = closes_nothing imports entered
closes imports w e s l (Then node nodes entered first between rest later one more) =
    closes_then imports node nodes entered first between rest later
    (closes imports (One node) entered first between one) (closes imports (Each nodes) between rest later more)
