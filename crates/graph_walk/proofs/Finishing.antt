-- The order in which a walk starts nodes.
use Rattle.std.proofs.Common.{◌≡◌, ◌≤◌, ℕ, ◌+◌, Bool, true, false, not, cond, ◌&&◌, ◌||◌, ◌==◌, List, [], ◌∷◌, ◌++◌, refl, sym, ap, subst, ◌∙◌, inl, inr, arith, ◌⊎◌, append_assoc, eq-eqb}
use Rattle.std.proofs.lemmas.Bool.{false≢true, eqb-true}
use Rattle.graph_walk.specs.Links.{has, times, targets, Leads, Pair}
use Rattle.graph_walk.specs.Starts.{Walked, One, Each, Walks, Again, Enters, Nothing, Then, IsStartOrder}
use Rattle.graph_walk.proofs.Marking.{has-append, times-append, or_assoc, both_once}
use Rattle.graph_walk.proofs.Chains.{or_true, pair_first}

-- the walk came to this node
abbrev Comes : List (List ℕ) → Walked → ℕ → Type 0
Comes links (One node) x = (node ≡ x) ⊎ Leads links node x
Comes links (Each nodes) x = (t : ℕ) × (has nodes t ≡ true) × ((t ≡ x) ⊎ Leads links t x)

-- what is walked was entered
abbrev Covers : Walked → List ℕ → Type 0
Covers (One node) later = has later node ≡ true
Covers (Each nodes) later = (t : ℕ) → has nodes t ≡ true → has later t ≡ true

-- A pair from what started up to a node goes to what started up to it, to what had been entered, or to what leads to
-- this node.
abbrev Backed : List (List ℕ) → (entered started : List ℕ) → Type 0
Backed links entered started = (before after : List ℕ) (x from to : ℕ) → started ≡ before ++ x ∷ after
    → has (before ++ x ∷ []) from ≡ true → has (targets links from) to ≡ true → (has (before ++ x ∷ []) to ≡ true)
    ⊎ (has entered to ≡ true) ⊎ Leads links to x

record Finishes (links : List (List ℕ)) (w : Walked) (entered started later : List ℕ) : Type 0 where
  adds : (k : ℕ) → has later k ≡ (has entered k || has started k)
  once : (k : ℕ) → times started k ≡ cond (has started k && not (has entered k)) 1 0
  covers : Covers w later
  comes : (x : ℕ) → has started x ≡ true → Comes links w x
  closed : (from to : ℕ) → has started from ≡ true → has (targets links from) to ≡ true → has later to ≡ true
  backed : Backed links entered started

-- ---- lists that are split

none_split : {X : Type 0} {P : Type 0} (before after : List X) (x : X) → [] ≡ before ++ x ∷ after → P
none_split [] after x e = cc
none_split (y ∷ ys) after x e = cc

abbrev Splits : (first rest before : List ℕ) (x : ℕ) (after : List ℕ) → Type 0
Splits first rest before x after = ((more : List ℕ) × (first ≡ before ++ x ∷ more))
    ⊎ ((more : List ℕ) × (before ≡ first ++ more) × (rest ≡ more ++ x ∷ after))

split_two : (first rest before : List ℕ) (x : ℕ) (after : List ℕ) → first ++ rest ≡ before ++ x ∷ after
    → Splits first rest before x after
split_two [] rest before x after e = inr (before, refl, e)
split_two (y ∷ ys) rest [] x after e = let s : y ≡ x = cc in inl (ys, ap (λ z. z ∷ ys) s)
split_two (y ∷ ys) rest (z ∷ zs) x after e =
    let s : y ≡ z = cc in
    let r : ys ++ rest ≡ zs ++ x ∷ after = cc in
    elim (split_two ys rest zs x after r) [
      | inl i ↦ inl (i.0, ap (λ ws. y ∷ ws) i.1 ∙ ap (λ w. w ∷ (zs ++ x ∷ i.0)) s)
      | inr o ↦ inr (o.0, ap (λ ws. z ∷ ws) o.1 ∙ ap (λ w. w ∷ (ys ++ o.0)) (sym s), o.2)
    ]

in_left : (b c : Bool) → b ≡ true → (b || c) ≡ true
in_left true c e = refl
in_left false c e = absurd (false≢true e)

in_right : (b c : Bool) → c ≡ true → (b || c) ≡ true
in_right true c e = refl
in_right false c e = e

pub has_left : (xs ys : List ℕ) (k : ℕ) → has xs k ≡ true → has (xs ++ ys) k ≡ true
has_left xs ys k e = has-append xs ys k ∙ in_left (has xs k) (has ys k) e

pub has_right : (xs ys : List ℕ) (k : ℕ) → has ys k ≡ true → has (xs ++ ys) k ≡ true
has_right xs ys k e = has-append xs ys k ∙ in_right (has xs k) (has ys k) e

pub has_either : (xs ys : List ℕ) (k : ℕ) → has (xs ++ ys) k ≡ true → (has xs k ≡ true) ⊎ (has ys k ≡ true)
has_either xs ys k e = or_true (has xs k) (has ys k) (sym (has-append xs ys k) ∙ e)

only_one : (n k : ℕ) → has (n ∷ []) k ≡ true → n ≡ k
only_one n k e = elim (or_true (n == k) false e) [ inl s ↦ eqb-true n k s | inr f ↦ absurd (false≢true f) ]

-- ---- nothing starts

nothing_starts : (links : List (List ℕ)) (w : Walked) (entered : List ℕ) → Covers w entered
    → Finishes links w entered [] entered
nothing_starts links w entered c = record {
  adds = λ k. plain (has entered k);
  once = λ k. refl;
  covers = c;
  comes = λ x e. absurd (false≢true e);
  closed = λ from to e h. absurd (false≢true e);
  backed = λ before after x from to e h p. none_split before after x e;
}
  where
    plain : (b : Bool) → b ≡ (b || false)
    plain true = refl
    plain false = refl

-- ---- a node is entered

moved : (e n s : Bool) → ((n || e) || s) ≡ (e || (s || (n || false)))
moved true true true = refl
moved true true false = refl
moved true false true = refl
moved true false false = refl
moved false true true = refl
moved false true false = refl
moved false false true = refl
moved false false false = refl

once_more : (e n s : Bool) → (n ≡ true → e ≡ false)
    → cond (s && not (n || e)) 1 0 + (cond n 1 0 + 0) ≡ cond ((s || (n || false)) && not e) 1 0
once_more true true s h = absurd (false≢true (sym (h refl)))
once_more false true true h = omega arith
once_more false true false h = omega arith
once_more true false true h = omega arith
once_more false false true h = omega arith
once_more true false false h = omega arith
once_more false false false h = omega arith

comes_in : (links : List (List ℕ)) (node x : ℕ) → Comes links (Each (targets links node)) x → Leads links node x
comes_in links node x c = elim c.2 [
  | inl s ↦ subst (λ (k : ℕ). Leads links node k) s (Pair c.0 c.1)
  | inr l ↦ pair_first
      links node c.0 x c.1 l
]

enters_so : (links : List (List ℕ)) (node : ℕ) (entered started later : List ℕ) → has entered node ≡ false
    → Finishes links (Each (targets links node)) (node ∷ entered) started later
    → Finishes links (One node) entered (started ++ node ∷ []) later
enters_so links node entered started later fresh f = record {
  adds = adds;
  once = λ k. times-append started (node ∷ []) k ∙ ap (λ n. n + (cond (node == k) 1 0 + 0)) (f.once k)
      ∙ once_more (has entered k) (node == k) (has started k)
      (λ s. ap (λ j. has entered j) (sym (eqb-true node k s)) ∙ fresh)
      ∙ ap (λ b. cond (b && not (has entered k)) 1 0) (sym (has-append started (node ∷ []) k));
  covers = f.adds node ∙ in_left (has (node ∷ entered) node) (has started node)
      (in_left (node == node) (has entered node) (eq-eqb node node refl));
  comes = λ x e. elim (has_either started (node ∷ []) x e)
      [ inl s ↦ inr (comes_in links node x (f.comes x s)) | inr n ↦ inl (only_one node x n) ];
  closed = closed;
  backed = backed;
}
  where
    adds : (k : ℕ) → has later k ≡ (has entered k || has (started ++ node ∷ []) k)
    adds k = f.adds k ∙ moved (has entered k) (node == k) (has started k)
        ∙ ap (λ b. has entered k || b) (sym (has-append started (node ∷ []) k))

    closed : (from to : ℕ) → has (started ++ node ∷ []) from ≡ true → has (targets links from) to ≡ true
        → has later to ≡ true
    closed from to e p = elim (has_either started (node ∷ []) from e) [
      | inl s ↦ f.closed from to s p
      | inr n ↦ f.covers to
          (ap (λ j. has (targets links j) to) (only_one node from n) ∙ p)
    ]

    inside : (before more : List ℕ) (x from to : ℕ) → started ≡ before ++ x ∷ more → has (before ++ x ∷ []) from ≡ true
        → has (targets links from) to ≡ true → (has (before ++ x ∷ []) to ≡ true) ⊎ (has entered to ≡ true)
        ⊎ Leads links to x
    inside before more x from to e h p = elim (f.backed before more x from to e h p) [
      | inl done ↦ inl done
      | inr (inl old) ↦ elim (or_true (node == to) (has entered to) old) [
        | inl s ↦ inr (inr (subst (λ (k : ℕ). Leads links k x) (eqb-true node to s)
            (comes_in links node x (f.comes x (ap (λ (xs : List ℕ). has xs x) e
            ∙ has_right before (x ∷ more) x (in_left (x == x) (has more x) (eq-eqb x x refl)))))))
        | inr more_old ↦ inr (inl more_old)
      ]
      | inr (inr l) ↦ inr (inr l)
    ]

    at_last : (before more after : List ℕ) (x from to : ℕ) → before ≡ started ++ more → node ∷ [] ≡ more ++ x ∷ after
        → has (before ++ x ∷ []) from ≡ true → has (targets links from) to ≡ true → (has (before ++ x ∷ []) to ≡ true)
        ⊎ (has entered to ≡ true) ⊎ Leads links to x
    at_last before [] after x from to e1 e2 h p =
        let s : node ≡ x = cc in
        let all : before ++ x ∷ [] ≡ started ++ node ∷ [] =
        ap (λ (xs : List ℕ). xs ++ x ∷ []) (e1 ∙ append_none started) ∙ ap (λ k. started ++ k ∷ []) (sym s) in
        elim (or_true (has entered to) (has (started ++ node ∷ []) to)
        (sym (adds to) ∙ closed from to (ap (λ (xs : List ℕ). has xs from) (sym all) ∙ h) p))
        [ inl old ↦ inr (inl old) | inr new ↦ inl (ap (λ (xs : List ℕ). has xs to) all ∙ new) ]
      where
        append_none : (xs : List ℕ) → xs ++ [] ≡ xs
        append_none [] = refl
        append_none (y ∷ ys) = ap (λ zs. y ∷ zs) (append_none ys)
    at_last before (y ∷ ys) after x from to e1 e2 h p = let s : [] ≡ ys ++ x ∷ after = cc in none_split ys after x s

    backed : Backed links entered (started ++ node ∷ [])
    backed before after x from to e h p = elim (split_two started (node ∷ []) before x after e)
        [ inl i ↦ inside before i.0 x from to i.1 h p | inr o ↦ at_last before o.0 after x from to o.1 o.2 h p ]

-- ---- one after another

then_so : (links : List (List ℕ)) (node : ℕ) (nodes entered first between rest later : List ℕ)
    → Finishes links (One node) entered first between → Finishes links (Each nodes) between rest later
    → Finishes links (Each (node ∷ nodes)) entered (first ++ rest) later
then_so links node nodes entered first between rest later f g = record {
  adds = λ k. g.adds k ∙ ap (λ b. b || has rest k) (f.adds k) ∙ or_assoc (has entered k) (has first k) (has rest k)
      ∙ ap (λ b. has entered k || b) (sym (has-append first rest k));
  once = once;
  covers = λ t e. elim (or_true (node == t) (has nodes t) e)
      [ inl s ↦ subst (λ (k : ℕ). has later k ≡ true) (eqb-true node t s) (kept node f.covers) | inr m ↦ g.covers t m ];
  comes = λ x e. elim (has_either first rest x e) [
    | inl s ↦ (node, in_left (node == node) (has nodes node) (eq-eqb node node refl), f.comes x s)
    | inr s ↦
        (let c = g.comes x s in (c.0, in_right (node == c.0) (has nodes c.0) c.1, c.2))
  ];
  closed = λ from to e p. elim (has_either first rest from e)
      [ inl s ↦ kept to (f.closed from to s p) | inr s ↦ g.closed from to s p ];
  backed = λ before after x from to e h p. elim (split_two first rest before x after e)
      [ inl i ↦ f.backed before i.0 x from to i.1 h p | inr o ↦ behind before o.0 after x from to o.1 o.2 h p ];
}
  where
    kept : (k : ℕ) → has between k ≡ true → has later k ≡ true
    kept k e = g.adds k ∙ in_left (has between k) (has rest k) e

    sums : (t a b a' b' s : ℕ) → t ≡ a + b → a ≡ a' → b ≡ b' → a' + b' ≡ s → t ≡ s
    sums t a b a' b' s e1 e2 e3 e4 = omega arith

    once : (k : ℕ) → times (first ++ rest) k ≡ cond (has (first ++ rest) k && not (has entered k)) 1 0
    once k = sums (times (first ++ rest) k) (times first k) (times rest k)
        (cond (has first k && not (has entered k)) 1 0) (cond (has rest k && not (has entered k || has first k)) 1 0)
        (cond (has (first ++ rest) k && not (has entered k)) 1 0) (times-append first rest k) (f.once k)
        (g.once k ∙ ap (λ b. cond (has rest k && not b) 1 0) (f.adds k))
        (both_once (has first k) (has rest k) (has entered k)
        ∙ ap (λ b. cond (b && not (has entered k)) 1 0) (sym (has-append first rest k)))

    from_between : (before : List ℕ) (more : List ℕ) (x to : ℕ) → before ≡ first ++ more → has between to ≡ true
        → (has (before ++ x ∷ []) to ≡ true) ⊎ (has entered to ≡ true) ⊎ Leads links to x
    from_between before more x to e h = elim (or_true (has entered to) (has first to) (sym (f.adds to) ∙ h)) [
      | inl old ↦ inr (inl old)
      | inr new ↦ inl
          (ap (λ (xs : List ℕ). has (xs ++ x ∷ []) to) e
          ∙ has_left (first ++ more) (x ∷ []) to (has_left first more to new))
    ]

    behind : (before more after : List ℕ) (x from to : ℕ) → before ≡ first ++ more → rest ≡ more ++ x ∷ after
        → has (before ++ x ∷ []) from ≡ true → has (targets links from) to ≡ true → (has (before ++ x ∷ []) to ≡ true)
        ⊎ (has entered to ≡ true) ⊎ Leads links to x
    behind before more after x from to e1 e2 h p =
        let all : before ++ x ∷ [] ≡ first ++ (more ++ x ∷ []) = ap (λ (xs : List ℕ). xs ++ x ∷ []) e1
        ∙ append_assoc first more (x ∷ []) in
        elim (has_either first (more ++ x ∷ []) from (ap (λ (xs : List ℕ). has xs from) (sym all) ∙ h)) [
          | inl s ↦ from_between before more x to e1 (f.closed from to s p)
          | inr s ↦ elim (g.backed more after x from to e2 s p) [
            | inl done ↦ inl (ap (λ (xs : List ℕ). has xs to) all ∙ has_right first (more ++ x ∷ []) to done)
            | inr (inl old) ↦ from_between before more x to e1 old
            | inr (inr l) ↦ inr (inr l)
          ]
        ]

finishes : (links : List (List ℕ)) (w : Walked) (entered started later : List ℕ) → Walks links w entered started later
    → Finishes links w entered started later
finishes links w e s l (Again node entered h) = nothing_starts links (One node) entered h
finishes links w e s l (Enters node entered started later h more) =
    enters_so links node entered started later h
    (finishes links (Each (targets links node)) (node ∷ entered) started later more)
finishes links w e s l (Nothing entered) = nothing_starts links (Each []) entered (λ t f. absurd (false≢true f))
finishes links w e s l (Then node nodes entered first between rest later one each) =
    then_so links node nodes entered first between rest later (finishes links (One node) entered first between one)
    (finishes links (Each nodes) between rest later each)

-- ---- a whole walk

-- The walk starts each node once, with all to which a pair goes from one that starts; and a pair from what started up
-- to
-- a node goes to such, or to what leads to this node.
pub record Whole (links : List (List ℕ)) (from : ℕ) (order : List ℕ) : Type 0 where
  pub first : has order from ≡ true
  pub once : (k : ℕ) → times order k ≤ 1
  pub closed : (x to : ℕ) → has order x ≡ true → has (targets links x) to ≡ true → has order to ≡ true
  pub backed : (before after : List ℕ) (x y to : ℕ) → order ≡ before ++ x ∷ after → has (before ++ x ∷ []) y ≡ true
      → has (targets links y) to ≡ true → (has (before ++ x ∷ []) to ≡ true) ⊎ Leads links to x

pub whole : (links : List (List ℕ)) (from : ℕ) (order : List ℕ) → IsStartOrder links from order → Whole links from order
whole links from order h =
    let f = finishes links (One from) [] order h.0 h.1 in
    record {
      first = sym (f.adds from) ∙ f.covers;
      once = λ k. subst (λ (n : ℕ). n ≤ 1) (sym (f.once k)) (small (has order k && true));
      closed = λ x to e p. sym (f.adds to) ∙ f.closed x to e p;
      backed = λ before after x y to e h p. elim (f.backed before after x y to e h p)
          [ inl done ↦ inl done | inr (inl old) ↦ absurd (false≢true old) | inr (inr l) ↦ inr l ];
    }
  where
    small : (b : Bool) → cond b 1 0 ≤ 1
    small true = omega arith
    small false = omega arith
