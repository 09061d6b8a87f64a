-- Pairs the other way round, and cycles in the order of a walk against them.
use Rattle.std.proofs.Common.{◌≡◌, ◌<◌, ◌≤◌, ℕ, ◌+◌, Bool, true, false, cond, ◌==◌, nat_lt, List, [], ◌∷◌, ◌++◌, length, take, get_or, set, replicate, refl, sym, ap, subst, ◌∙◌, inl, inr, arith, ◌⊎◌, eq-eqb}
use Rattle.std.proofs.lemmas.Bool.{cases_eq, cases_lt, false≢true, eqb-true, lt-ltb, le-ltb, ne_eqb}
use Rattle.std.proofs.lemmas.List.{get_or_past, get_or-set_same, get_or-set_other, get_or-replicate, length-set, length-replicate, length_push, take_more, take_all, get_or_append_left, get_or_push}
use Rattle.graph_walk.specs.Links.{has, times, targets, AreNodes, Leads, Pair, Longer}
use Rattle.graph_walk.specs.Starts.{IsStartOrder}
use Rattle.std.specs.Prelude.{Result, Ok, Err, IfOk}
use Rattle.graph_walk.specs.Turned.{Gathers, IsTurned}
use Rattle.graph_walk.specs.Cycles.{IsCycleOrder}
use Rattle.graph_walk.proofs.Marking.{times-append, has_itself}
use Rattle.graph_walk.proofs.Chains.{or_true, times_has, has_times, pair_within, pairs_nodes, from_within, pair_first, then_leads, leads_within}
use Rattle.graph_walk.proofs.Finishing.{Whole, whole, has_right, has_either}

pub turned_pair : (links back : List (List ℕ)) (from to : ℕ) → IsTurned links back → to < length links
    → has (targets links from) to ≡ true → has (targets back to) from ≡ true
turned_pair links back from to t l e = has_times (targets back to) from
    (subst (λ (n : ℕ). 1 ≤ n) (sym (t.pairs from to l)) (times_has (targets links from) to e))

pub turned_again : (links back : List (List ℕ)) (from to : ℕ) → IsTurned links back → to < length links
    → has (targets back to) from ≡ true → has (targets links from) to ≡ true
turned_again links back from to t l e = has_times (targets links from) to
    (subst (λ (n : ℕ). 1 ≤ n) (t.pairs from to l) (times_has (targets back to) from e))

root_within : (b : Bool) → 1 ≤ cond b 1 0 → b ≡ true
root_within true l = refl
root_within false l = absurd (omega arith)

-- a pair the other way round goes to a node that had pairs, or it is the last node's
pub back_within : (links back : List (List ℕ)) (from to : ℕ) → IsTurned links back → has (targets back from) to ≡ true
    → to < length links
back_within links back from to t e = elim (cases_lt from (length links)) [
  | inl l ↦ from_within links to from (turned_again links back to from t l e)
  | inr g ↦ elim
      (cases_eq (length links) from) [ inl s ↦ at_root s | inr ne ↦ absurd (past ne g) ]
]
  where
    at_root : length links ≡ from → to < length links
    at_root s = elim (cases_lt to (length links)) [
      | inl l ↦ l
      | inr g ↦ absurd (let h =
          times_has (targets back (length links)) to (ap (λ (k : ℕ). has (targets back k) to) s ∙ e) in
          let z : times (targets back (length links)) to ≡ 0 = t.root to
          ∙ ap (λ b. cond b 1 0) (le-ltb to (length links) g) in omega (arith, h, z))
    ]

    past : (length links ≡ from → ⊥) → length links ≤ from → ⊥
    past ne g = false≢true (ap (λ (ts : List ℕ). has ts to)
        (sym (get_or_past back from [] (let m = t.many in beyond ne g m))) ∙ e)
      where
        beyond : (length links ≡ from → ⊥) → length links ≤ from → length back ≡ length links + 1 → length back ≤ from
        beyond ne g m = elim (cases_lt (length links) from) [ inl l ↦ omega arith | inr h ↦ absurd (ne (omega arith)) ]

pub back_nodes : (links back : List (List ℕ)) → IsTurned links back → AreNodes back
back_nodes links back t = pairs_nodes back
    (λ from to e. let l = back_within links back from to t e in omega (arith, l, t.many))

turn : (links back : List (List ℕ)) → AreNodes links → IsTurned links back → (from to : ℕ) → Leads links from to
    → Leads back to from
turn links back nodes t from k (Pair to h) =
    Pair from (turned_pair links back from to t (pair_within links from to nodes h) h)
turn links back nodes t from k (Longer middle to l h) =
    pair_first back to middle from (turned_pair links back middle to t (pair_within links middle to nodes h) h)
    (turn links back nodes t from middle l)

unturn : (links back : List (List ℕ)) → IsTurned links back → (from to : ℕ) → from < length links → Leads back from to
    → Leads links to from
unturn links back t from k l (Pair to h) = Pair from (turned_again links back to from t l h)
unturn links back t from k l (Longer middle to m h) =
    pair_first links to middle from (turned_again links back to middle t (in_back middle m) h)
    (unturn links back t from middle l m)
  where
    in_back : (n : ℕ) → Leads back from n → n < length links
    in_back j (Pair n g) = back_within links back from n t g
    in_back j (Longer other n more g) = back_within links back other n t g

-- a chain leads to the node where one leads from it the other way round
pub turned_leads : (links back : List (List ℕ)) → AreNodes links → IsTurned links back → (from to : ℕ)
    → to < length links → (Leads back to from → Leads links from to) × (Leads links from to → Leads back to from)
turned_leads links back nodes t from to l = (unturn links back t to from l, turn links back nodes t from to)

-- ---- cycles

-- where a node leads stands before it, or it is on a cycle
stays : (back : List (List ℕ)) (root : ℕ) (order : List ℕ) → Whole back root order → (before after : List ℕ) (x : ℕ)
    → order ≡ before ++ x ∷ after → (y : ℕ) → Leads back x y → (has (before ++ x ∷ []) y ≡ true) ⊎ Leads back x x
stays back root order w before after x e k (Pair to h) =
    elim (w.backed before after x x to e (has_right before (x ∷ []) x (has_itself x)) h)
    [ inl i ↦ inl i | inr l ↦ inr (pair_first back x to x h l) ]
stays back root order w before after x e k (Longer middle to l h) =
    elim (stays back root order w before after x e middle l) [
      | inl i ↦ elim (w.backed before after x middle to e i h)
          [ inl j ↦ inl j | inr m ↦ inr (then_leads back x to x (Longer middle to l h) m) ]
      | inr c ↦ inr c
    ]

pub cycle_order_from : (links back : List (List ℕ)) (order : List ℕ) → AreNodes links → IsTurned links back
    → IsStartOrder back (length links) order → IsCycleOrder links order
cycle_order_from links back order nodes t is = record {
  whole = λ k l. w.closed (length links) k w.first
      (has_times (targets back (length links)) k
      (subst (λ (n : ℕ). 1 ≤ n) (sym (t.root k ∙ ap (λ b. cond b 1 0) (lt-ltb k (length links) l))) (omega arith)));
  cycles = λ before after node from e h l. elim
      (stays back (length links) order w before after node e from (turn links back nodes t from node l)) [
        | inl i ↦ elim (has_either before (node ∷ []) from i) [
          | inl b ↦ absurd (twice before after node from e b h)
          | inr s ↦ subst (λ (k : ℕ). Leads links k node) (only node from s) l
        ]
        | inr c ↦ unturn links back t node node (leads_within links from node nodes l) c
      ];
}
  where
    w : Whole back (length links) order
    w = whole back (length links) order is

    only : (node from : ℕ) → has (node ∷ []) from ≡ true → from ≡ node
    only node from e = elim (or_true (node == from) false e)
        [ inl s ↦ sym (eqb-true node from s) | inr f ↦ absurd (false≢true f) ]

    twice : (before after : List ℕ) (node from : ℕ) → order ≡ before ++ node ∷ after → has before from ≡ true
        → has (node ∷ after) from ≡ true → ⊥
    twice before after node from e b h =
        let one = w.once from in
        let sum : times order from ≡ times before from + times (node ∷ after) from =
        ap (λ (xs : List ℕ). times xs from) e ∙ times-append before (node ∷ after) from in
        let left = times_has before from b in
        let right = times_has (node ∷ after) from h in
        omega (arith, one, sum, left, right)

-- ---- how they are made

pub gathers_none : (to : ℕ) (rows : List (List ℕ)) → Gathers [] to rows rows
gathers_none to rows = record { same = refl; pairs = λ node k. none (to == k) (times (targets rows node) k) }
  where
    none : (b : Bool) (n : ℕ) → n ≡ n + cond b 0 0
    none true n = omega arith
    none false n = omega arith

added : (rows : List (List ℕ)) (from to : ℕ) → from < length rows → (node k : ℕ)
    → times (targets (set rows from (targets rows from ++ to ∷ [])) node) k
    ≡ times (targets rows node) k + cond (to == k) (times (from ∷ []) node) 0
added rows from to l node k = elim (cases_eq from node) [ inl s ↦ here s | inr ne ↦ there ne ]
  where
    one : (b : Bool) (n m : ℕ) → m ≡ 1 → n + (cond b 1 0 + 0) ≡ n + cond b m 0
    one true n m e = omega arith
    one false n m e = omega arith

    itself : (n : ℕ) → times (n ∷ []) n ≡ 1
    itself n = let h = times_has (n ∷ []) n (has_itself n) in let b = small (n == n) in omega (arith, h, b)
      where
        small : (b : Bool) → cond b 1 0 + 0 ≤ 1
        small true = omega arith
        small false = omega arith

    here : from ≡ node → times (targets (set rows from (targets rows from ++ to ∷ [])) node) k
        ≡ times (targets rows node) k + cond (to == k) (times (from ∷ []) node) 0
    here s = subst (λ (j : ℕ). times (targets (set rows from (targets rows from ++ to ∷ [])) j) k
        ≡ times (targets rows j) k + cond (to == k) (times (from ∷ []) j) 0) s
        (ap (λ (ts : List ℕ). times ts k) (get_or-set_same rows from (targets rows from ++ to ∷ []) [] l)
        ∙ times-append (targets rows from) (to ∷ []) k
        ∙ one (to == k) (times (targets rows from) k) (times (from ∷ []) from) (itself from))

    none : (b : Bool) (n m : ℕ) → m ≡ 0 → n ≡ n + cond b m 0
    none true n m e = omega arith
    none false n m e = omega arith

    there : (from ≡ node → ⊥) → times (targets (set rows from (targets rows from ++ to ∷ [])) node) k
        ≡ times (targets rows node) k + cond (to == k) (times (from ∷ []) node) 0
    there ne = ap (λ (ts : List ℕ). times ts k)
        (get_or-set_other rows from node (targets rows from ++ to ∷ []) [] (λ e. ne (sym e)))
        ∙ none (to == k) (times (targets rows node) k) (times (from ∷ []) node)
        (ap (λ b. cond b 1 0 + 0) (ne_eqb from node ne))

pub gathers_more : (xs : List ℕ) (i to : ℕ) (first rows rows' : List (List ℕ)) → i < length xs
    → get_or xs i 0 < length rows → Gathers (take i xs) to first rows
    → rows' ≡ set rows (get_or xs i 0) (targets rows (get_or xs i 0) ++ to ∷ [])
    → Gathers (take (i + 1) xs) to first rows'
gathers_more xs i to first rows rows' l w g e = record {
  same = ap length e ∙ length-set rows x (targets rows x ++ to ∷ []) ∙ g.same;
  pairs = λ node k. ap (λ (rs : List (List ℕ)). times (targets rs node) k) e ∙ added rows x to w node k
      ∙ ap (λ n. n + cond (to == k) (times (x ∷ []) node) 0) (g.pairs node k)
      ∙ both (to == k) (times (targets first node) k) (times (take i xs) node) (times (x ∷ []) node)
      (times (take (i + 1) xs) node) (ap (λ (ys : List ℕ). times ys node) (take_more xs i 0 l)
      ∙ times-append (take i xs) (x ∷ []) node);
}
  where
    x : ℕ
    x = get_or xs i 0

    both : (b : Bool) (n p q r : ℕ) → r ≡ p + q → (n + cond b p 0) + cond b q 0 ≡ n + cond b r 0
    both true n p q r s = omega arith
    both false n p q r s = omega arith

pub gathers_all : (xs : List ℕ) (i to : ℕ) (rows rows' : List (List ℕ)) → length xs ≤ i
    → Gathers (take i xs) to rows rows' → Gathers xs to rows rows'
gathers_all xs i to rows rows' g h = subst (λ (ys : List ℕ). Gathers ys to rows rows') (take_all i xs g) h

-- what is turned so far
pub record Turns (links : List (List ℕ)) (n : ℕ) (back : List (List ℕ)) : Type 0 where
  pub same : length back ≡ length links
  pub pairs : (from to : ℕ) → times (targets back to) from ≡ cond (nat_lt from n) (times (targets links from) to) 0

pub turns_none : (links back : List (List ℕ)) (n : ℕ) → n ≡ length links → back ≡ replicate n [] → Turns links 0 back
turns_none links back n e1 e2 = record {
  same = ap length e2 ∙ length-replicate n [] ∙ e1;
  pairs = λ from to. ap (λ (ts : List ℕ). times ts from) (ap (λ (rs : List (List ℕ)). targets rs to) e2 ∙ empty to)
      ∙ ap (λ b. cond b (times (targets links from) to) 0) (sym (le-ltb from 0 (omega arith)));
}
  where
    empty : (to : ℕ) → targets (replicate n []) to ≡ []
    empty to = elim (cases_lt to n) [
      | inl l ↦ get_or-replicate n to [] [] l
      | inr g ↦ get_or_past (replicate n []) to []
          (subst (λ (m : ℕ). m ≤ to) (sym (length-replicate n [])) g)
    ]

pub turns_more : (links back back' : List (List ℕ)) (n : ℕ) (ts : List ℕ) → ts ≡ targets links n → Turns links n back
    → Gathers ts n back back' → Turns links (n + 1) back'
turns_more links back back' n ts e t g = record {
  same = g.same ∙ t.same;
  pairs = λ from to. g.pairs to from ∙ ap (λ m. m + cond (n == from) (times ts to) 0) (t.pairs from to) ∙ step from to;
}
  where
    yes_now : (a b c : Bool) (p q : ℕ) → a ≡ false → b ≡ true → c ≡ true → q ≡ p → cond a p 0 + cond b q 0 ≡ cond c p 0
    yes_now true b c p q f h k s = absurd (false≢true (sym f))
    yes_now false false c p q f h k s = absurd (false≢true h)
    yes_now false true false p q f h k s = absurd (false≢true k)
    yes_now false true true p q f h k s = omega arith

    same_as : (a b c : Bool) (p q : ℕ) → b ≡ false → a ≡ c → cond a p 0 + cond b q 0 ≡ cond c p 0
    same_as a true c p q f s = absurd (false≢true (sym f))
    same_as true false true p q f s = omega arith
    same_as true false false p q f s = absurd (false≢true (sym s))
    same_as false false true p q f s = absurd (false≢true s)
    same_as false false false p q f s = omega arith

    other : (from : ℕ) → (n ≡ from → ⊥) → nat_lt from n ≡ nat_lt from (n + 1)
    other from ne = elim (cases_lt from n) [
      | inl l ↦ lt-ltb from n l ∙ sym (lt-ltb from (n + 1) (omega arith))
      | inr g ↦ le-ltb from n g
          ∙ sym (le-ltb from (n + 1) (past g))
    ]
      where
        past : n ≤ from → n + 1 ≤ from
        past g = elim (cases_lt n from) [ inl l ↦ omega arith | inr h ↦ absurd (ne (omega arith)) ]

    here : (from to : ℕ) → n ≡ from → times ts to ≡ times (targets links from) to
    here from to s = ap (λ (xs : List ℕ). times xs to) e ∙ ap (λ k. times (targets links k) to) s

    step : (from to : ℕ) → cond (nat_lt from n) (times (targets links from) to) 0 + cond (n == from) (times ts to) 0
        ≡ cond (nat_lt from (n + 1)) (times (targets links from) to) 0
    step from to = elim (cases_eq n from) [
      | inl s ↦ yes_now (nat_lt from n) (n == from) (nat_lt from (n + 1)) (times (targets links from) to) (times ts to)
          (le-ltb from n (omega arith)) (subst (λ (k : ℕ). (n == k) ≡ true) s (eq-eqb n n refl))
          (lt-ltb from (n + 1) (omega arith)) (here from to s)
      | inr ne ↦ same_as (nat_lt from n) (n == from) (nat_lt from (n + 1)) (times (targets links from) to) (times ts to)
          (ne_eqb n from ne) (other from ne)
    ]

pub turned_all : (links back back' : List (List ℕ)) (n : ℕ) (all : List ℕ) → length links ≤ n → Turns links n back
    → ((k : ℕ) → times all k ≡ cond (nat_lt k (length links)) 1 0) → back' ≡ back ++ all ∷ [] → IsTurned links back'
turned_all links back back' n all g t h e = record {
  many = ap length e ∙ length_push back all ∙ ap (λ m. m + 1) t.same;
  pairs = λ from to l. ap (λ (rs : List (List ℕ)). times (targets rs to) from) e
      ∙ ap (λ (ts : List ℕ). times ts from) (get_or_append_left back (all ∷ []) [] to (omega (arith, t.same)))
      ∙ t.pairs from to ∙ none from to;
  root = λ k. ap (λ (rs : List (List ℕ)). times (targets rs (length links)) k) e
      ∙ ap (λ (ts : List ℕ). times ts k) (get_or_push back all [] (length links) t.same) ∙ h k;
}
  where
    none : (from to : ℕ) → cond (nat_lt from n) (times (targets links from) to) 0 ≡ times (targets links from) to
    none from to = elim (cases_lt from n) [
      | inl l ↦ ap (λ b. cond b (times (targets links from) to) 0) (lt-ltb from n l)
      | inr p ↦ ap (λ b. cond b (times (targets links from) to) 0) (le-ltb from n p)
          ∙ ap (λ (ts : List ℕ). times ts to) (sym (get_or_past links from [] (omega arith)))
    ]

pub nodes_more : (all all' : List ℕ) (n : ℕ) → ((k : ℕ) → times all k ≡ cond (nat_lt k n) 1 0) → all' ≡ all ++ n ∷ []
    → (k : ℕ) → times all' k ≡ cond (nat_lt k (n + 1)) 1 0
nodes_more all all' n h e k = ap (λ (xs : List ℕ). times xs k) e ∙ times-append all (n ∷ []) k
    ∙ ap (λ m. m + (cond (n == k) 1 0 + 0)) (h k) ∙ step
  where
    table : (a b c : Bool) → (b ≡ true → a ≡ false) → (b ≡ true → c ≡ true) → (b ≡ false → a ≡ c)
        → cond a 1 0 + (cond b 1 0 + 0) ≡ cond c 1 0
    table true true c f g i = absurd (false≢true (sym (f refl)))
    table false true true f g i = omega arith
    table false true false f g i = absurd (false≢true (g refl))
    table true false true f g i = omega arith
    table true false false f g i = absurd (false≢true (sym (i refl)))
    table false false true f g i = absurd (false≢true (i refl))
    table false false false f g i = omega arith

    step : cond (nat_lt k n) 1 0 + (cond (n == k) 1 0 + 0) ≡ cond (nat_lt k (n + 1)) 1 0
    step = table (nat_lt k n) (n == k) (nat_lt k (n + 1)) (λ s. let q = eqb-true n k s in le-ltb k n (omega arith))
        (λ s. let q = eqb-true n k s in lt-ltb k (n + 1) (omega arith))
        (λ f. elim (cases_lt k n) [
          | inl l ↦ lt-ltb k n l ∙ sym (lt-ltb k (n + 1) (omega arith))
          | inr g ↦ le-ltb k n g
              ∙ sym (le-ltb k (n + 1) (past f g))
        ])
      where
        past : (n == k) ≡ false → n ≤ k → n + 1 ≤ k
        past f g = elim (cases_eq n k) [
          | inl s ↦ absurd
              (false≢true (sym f ∙ subst (λ (j : ℕ). (n == j) ≡ true) s (eq-eqb n n refl)))
          | inr ne ↦
              (elim (cases_lt n k) [ inl l ↦ omega arith | inr p ↦ absurd (ne (omega arith)) ])
        ]

pub ok_then : {T E : Type 0} (P Q : T → Type 0) (r : Result T E) → ((x : T) → P x → Q x) → IfOk r P → IfOk r Q
ok_then P Q (Ok x) f h = f x h
ok_then P Q (Err e) f h = tt
