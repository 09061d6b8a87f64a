-- Every walk comes to an end.
use Rattle.std.proofs.Common.{◌≡◌, ◌<◌, ◌≤◌, ℕ, zero, suc, ◌+◌, Bool, true, false, ◌||◌, ◌==◌, List, [], ◌∷◌, ◌++◌, length, refl, sym, ap, subst, ◌∙◌, inl, inr, arith, eq-eqb}
use Rattle.std.proofs.lemmas.Bool.{cases_Bool, cases_lt, cases_eq, false≢true, or_right, ne_eqb}
use Rattle.std.proofs.lemmas.List.{get_or_past}
use Rattle.graph_walk.specs.Links.{has, targets}
use Rattle.graph_walk.specs.Starts.{Walked, One, Each, Walks, Again, Enters, Nothing, Then, IsStartOrder}
use Rattle.law_graph.proofs.StartWalking.{closes}

abbrev one_unless : Bool → ℕ
one_unless true = 0
one_unless false = 1

-- how many of the first nodes are not entered
abbrev left : ℕ → List ℕ → ℕ
left zero entered = 0
left (suc n) entered = one_unless (has entered n) + left n entered

unless_less : (b c : Bool) → (b ≡ true → c ≡ true) → one_unless c ≤ one_unless b
unless_less true true h = omega arith
unless_less true false h = absurd (false≢true (h refl))
unless_less false true h = omega arith
unless_less false false h = omega arith

left_falls : (n : ℕ) (xs ys : List ℕ) → ((k : ℕ) → has xs k ≡ true → has ys k ≡ true) → left n ys ≤ left n xs
left_falls zero xs ys h = omega arith
left_falls (suc n) xs ys h = let l = left_falls n xs ys h in let m = unless_less (has xs n) (has ys n) (h n) in
    omega (arith, l, m)

left_enters : (n node : ℕ) (xs : List ℕ) → node < n → has xs node ≡ false → left n (node ∷ xs) < left n xs
left_enters zero node xs l e = absurd (omega arith)
left_enters (suc n) node xs l e = elim (cases_eq node n) [ inl s ↦ here s | inr ne ↦ there ne (left_enters n node xs) ]
  where
    same : (b c : Bool) → b ≡ c → one_unless b ≡ one_unless c
    same b c q = ap one_unless q

    here : node ≡ n → left (suc n) (node ∷ xs) < left (suc n) xs
    here s =
        let a = left_falls n xs (node ∷ xs) (λ k h. or_right (node == k) (has xs k) h) in
        let b = same (has xs n) false (ap (has xs) (sym s) ∙ e) in
        let c = same (has (node ∷ xs) n) true
        (ap (λ (k : ℕ). has (k ∷ xs) n) s ∙ ap (λ b. b || has xs n) (eq-eqb n n refl)) in
        omega (arith, a, b, c)

    there : (node ≡ n → ⊥) → (node < n → has xs node ≡ false → left n (node ∷ xs) < left n xs)
        → left (suc n) (node ∷ xs) < left (suc n) xs
    there ne more =
        let q : node < n = elim (cases_lt node n) [ inl m ↦ m | inr g ↦ absurd (ne (omega arith)) ] in
        let a = more q e in
        let b = same (has (node ∷ xs) n) (has xs n) (ap (λ b. b || has xs n) (ne_eqb node n ne)) in
        omega (arith, a, b)

-- what a walk starts, and what it has then entered
pub record Walk (imports : List (List ℕ)) (w : Walked) (entered : List ℕ) : Type 0 where
  pub started : List ℕ
  pub later : List ℕ
  pub is : Walks imports w entered started later

module _ (imports : List (List ℕ)) where
  -- walks of one node, while at most that many are not entered
  abbrev Ones : ℕ → Type 0
  Ones most = (node : ℕ) (entered : List ℕ) → left (length imports) entered ≤ most → Walk imports (One node) entered

  each : (most : ℕ) → Ones most → (nodes entered : List ℕ) → left (length imports) entered ≤ most
      → Walk imports (Each nodes) entered
  each most ones [] entered l = record { started = []; later = entered; is = Nothing entered }
  each most ones (n ∷ ns) entered l =
      let a = ones n entered l in
      let c = closes imports (One n) entered a.started a.later a.is in
      let b = each most ones ns a.later (let m = left_falls (length imports) entered a.later c.kept in omega (arith, m))
      in
      record {
        started = a.started ++ b.started;
        later = b.later;
        is =
            Then n ns entered a.started a.later b.started b.later a.is b.is;
      }

  enter : (node : ℕ) (entered : List ℕ) → has entered node ≡ false
      → Walk imports (Each (targets imports node)) (node ∷ entered) → Walk imports (One node) entered
  enter node entered fresh more = record {
    started = more.started ++ node ∷ [];
    later = more.later;
    is =
        Enters node entered more.started more.later fresh more.is;
  }

  -- a node without pairs
  enter_past : (node : ℕ) (entered : List ℕ) → has entered node ≡ false → length imports ≤ node
      → Walk imports (One node) entered
  enter_past node entered fresh g = enter node entered fresh (record {
    started = [];
    later = node ∷ entered;
    is = subst (λ (ts : List ℕ). Walks imports (Each ts) (node ∷ entered) [] (node ∷ entered))
        (sym (get_or_past imports node [] g)) (Nothing (node ∷ entered));
  })

  by_cases : (node : ℕ) (entered : List ℕ)
      → (has entered node ≡ false → node < length imports → Walk imports (One node) entered)
      → Walk imports (One node) entered
  by_cases node entered inside = elim (cases_Bool (has entered node)) [
    | inl old ↦ record { started = []; later = entered; is = Again node entered old }
    | inr fresh ↦ elim (cases_lt node (length imports))
        [ inl l ↦ inside fresh l | inr g ↦ enter_past node entered fresh g ]
  ]

  one : (most : ℕ) → Ones most
  one zero node entered l = by_cases node entered
      (λ fresh i. let m = left_enters (length imports) node entered i fresh in absurd (omega (arith, m)))
  one (suc most) node entered l = by_cases node entered
      (λ fresh i. let m = left_enters (length imports) node entered i fresh in
      enter node entered fresh (each most (one most) (targets imports node) (node ∷ entered) (omega (arith, m))))

  -- A walk of several nodes.
  pub walk_each : (nodes entered : List ℕ) → Walk imports (Each nodes) entered
  walk_each nodes entered = each (left (length imports) entered) (one (left (length imports) entered)) nodes entered
      (omega arith)

  -- From each node there is an order in which those start that are reached from it.
  pub start_order : (from : ℕ) → (order : List ℕ) × IsStartOrder imports from order
  start_order from = let w = one (left (length imports) []) from [] (omega arith) in (w.started, (w.later, w.is))
