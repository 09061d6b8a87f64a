-- Definitions that wait for numbers of their imports.
use Rattle.std.proofs.Common.{◌≡◌, ◌<◌, ◌≤◌, ℕ, zero, suc, ◌+◌, Bool, true, false, not, cond, ◌&&◌, ◌||◌, ◌==◌, nat_lt, List, [], ◌∷◌, ◌++◌, length, take, drop, get_or, map, set, replicate, refl, sym, ap, subst, ◌∙◌, inl, inr, arith, eq-eqb}
use Rattle.std.specs.List.{list_all}
use Rattle.std.proofs.lemmas.Bool.{cases_Bool, cases_eq, cases_lt, false≢true, eqb-true, ne_eqb, and_parts, lt-ltb, le-ltb}
use Rattle.std.proofs.lemmas.List.{get_or-set_same, get_or-set_other, get_or_past, get_or-map, length-set, length-map, take_more, take_all}
use Rattle.graph_walk.specs.Links.{has, times, targets, flag}
use Rattle.graph_walk.specs.Turned.{IsTurned}
use Rattle.graph_walk.specs.Numbering.{is_open, is_ready, IsNext, IsNumbering}
use Rattle.graph_walk.specs.Waiting.{count_at, AreReady, Settles}
use Rattle.graph_walk.proofs.Marking.{times-append, flag_set, flag_fresh, marked_within}
use Rattle.graph_walk.proofs.Numbers.{Numbers, numbers_none, numbers_more, numbers_all}
use Rattle.graph_walk.proofs.Reaching.{written_back}
use Rattle.graph_walk.proofs.Chains.{has_times}

-- ---- one is settled

pub settles_none : (definitions done : List Bool) (counts ready : List ℕ)
    → Settles definitions done [] counts ready counts ready
settles_none definitions done counts ready = record { same = refl; counted = λ k. omega arith; readied = λ h. h }

counted_one : (counts : List ℕ) (node : ℕ) → node < length counts → 0 < count_at counts node → (c : ℕ)
    → c + 1 ≡ count_at counts node → (k : ℕ) → count_at (set counts node c) k + times (node ∷ []) k ≡ count_at counts k
counted_one counts node l some c e k = elim (cases_eq node k) [
  | inl s ↦ subst (λ (j : ℕ). count_at (set counts node c) j + times (node ∷ []) j ≡ count_at counts j) s
      (sums (count_at (set counts node c) node) (times (node ∷ []) node) c (count_at counts node)
      (get_or-set_same counts node c 0 l) (ap (λ b. cond b 1 0 + 0) (eq-eqb node node refl)) e)
  | inr ne ↦ plain (count_at (set counts node c) k) (times (node ∷ []) k) (count_at counts k)
      (get_or-set_other counts node k c 0 (λ e. ne (sym e))) (ap (λ b. cond b 1 0 + 0) (ne_eqb node k ne))
]
  where
    sums : (a t c n : ℕ) → a ≡ c → t ≡ 1 → c + 1 ≡ n → a + t ≡ n
    sums a t c n e1 e2 e3 = omega arith

    plain : (a t n : ℕ) → a ≡ n → t ≡ 0 → a + t ≡ n
    plain a t n e1 e2 = omega arith

is_zero : (n : ℕ) → 0 < n → (n == 0) ≡ false
is_zero n l = ne_eqb n 0 (λ e. omega arith)

pub settles_one : (definitions done : List Bool) (node c : ℕ) (counts ready ready' : List ℕ) → node < length counts
    → 0 < count_at counts node → c + 1 ≡ count_at counts node →
    ((k : ℕ) → times ready' k ≡ times ready k + cond ((node == k) && ((c == 0) && is_open definitions done node)) 1 0)
    → Settles definitions done (node ∷ []) counts ready (set counts node c) ready'
settles_one definitions done node c counts ready ready' l some e h = record {
  same = length-set counts node c;
  counted = counted_one counts node l some c e;
  readied = λ r k. h k ∙ elim (cases_eq node k) [
    | inl s ↦ subst (λ (j : ℕ). times ready j + cond ((node == j) && ((c == 0) && is_open definitions done node)) 1 0
        ≡ cond (is_open definitions done j && (count_at (set counts node c) j == 0)) 1 0) s
        (here (times ready node) (node == node) (c == 0) (is_open definitions done node) (count_at counts node == 0)
        (count_at (set counts node c) node == 0) (r node) (is_zero (count_at counts node) some)
        (eq-eqb node node refl) (ap (λ n. n == 0) (get_or-set_same counts node c 0 l)))
    | inr ne ↦ there (times ready k) (node == k) ((c == 0) && is_open definitions done node)
        (cond (is_open definitions done k && (count_at counts k == 0)) 1 0)
        (cond (is_open definitions done k && (count_at (set counts node c) k == 0)) 1 0) (r k) (ne_eqb node k ne)
        (ap (λ n. cond (is_open definitions done k && (n == 0)) 1 0)
        (sym (get_or-set_other counts node k c 0 (λ e. ne (sym e)))))
  ];
}
  where
    here : (t : ℕ) (same none free was now : Bool) → t ≡ cond (free && was) 1 0 → was ≡ false → same ≡ true → now ≡ none
        → t + cond (same && (none && free)) 1 0 ≡ cond (free && now) 1 0
    here t same none free true now e1 e2 e3 e4 = absurd (false≢true (sym e2))
    here t false none free false now e1 e2 e3 e4 = absurd (false≢true e3)
    here t true true true false true e1 e2 e3 e4 = omega arith
    here t true true true false false e1 e2 e3 e4 = absurd (false≢true e4)
    here t true true false false now e1 e2 e3 e4 = omega arith
    here t true false true false true e1 e2 e3 e4 = absurd (false≢true (sym e4))
    here t true false true false false e1 e2 e3 e4 = omega arith
    here t true false false false now e1 e2 e3 e4 = omega arith

    there : (t : ℕ) (same more : Bool) (a b : ℕ) → t ≡ a → same ≡ false → a ≡ b → t + cond (same && more) 1 0 ≡ b
    there t true more a b e1 e2 e3 = absurd (false≢true (sym e2))
    there t false more a b e1 e2 e3 = omega arith

pub settles_ready : (definitions done : List Bool) (node c : ℕ) (counts counts' ready ready' : List ℕ)
    → node < length counts → 0 < count_at counts node → c + 1 ≡ count_at counts node → counts' ≡ set counts node c
    → (c == 0) ≡ true → is_open definitions done node ≡ true
    → ((k : ℕ) → times ready' k ≡ times ready k + cond (node == k) 1 0)
    → Settles definitions done (node ∷ []) counts ready counts' ready'
settles_ready definitions done node c counts counts' ready ready' l some e is z o h =
    subst (λ (cs : List ℕ). Settles definitions done (node ∷ []) counts ready cs ready') (sym is)
    (settles_one definitions done node c counts ready ready' l some e
    (λ k. h k ∙ step (times ready k) (node == k) (c == 0) (is_open definitions done node) z o))
  where
    step : (t : ℕ) (s z o : Bool) → z ≡ true → o ≡ true → t + cond s 1 0 ≡ t + cond (s && (z && o)) 1 0
    step t true true true e1 e2 = refl
    step t true true false e1 e2 = absurd (false≢true e2)
    step t true false o e1 e2 = absurd (false≢true e1)
    step t false z o e1 e2 = refl

pub settles_plain : (definitions done : List Bool) (node c : ℕ) (counts counts' ready : List ℕ) → node < length counts
    → 0 < count_at counts node → c + 1 ≡ count_at counts node → counts' ≡ set counts node c
    → ((c == 0) && is_open definitions done node) ≡ false
    → Settles definitions done (node ∷ []) counts ready counts' ready
settles_plain definitions done node c counts counts' ready l some e is f =
    subst (λ (cs : List ℕ). Settles definitions done (node ∷ []) counts ready cs ready) (sym is)
    (settles_one definitions done node c counts ready ready l some e
    (λ k. step (times ready k) (node == k) ((c == 0) && is_open definitions done node) f))
  where
    step : (t : ℕ) (s b : Bool) → b ≡ false → t ≡ t + cond (s && b) 1 0
    step t s true e = absurd (false≢true (sym e))
    step t true false e = omega arith
    step t false false e = omega arith

-- ---- several

pub settles_more : (definitions done : List Bool) (xs : List ℕ) (i : ℕ) (c0 r0 c1 r1 c2 r2 : List ℕ) → i < length xs
    → Settles definitions done (take i xs) c0 r0 c1 r1 → Settles definitions done (get_or xs i 0 ∷ []) c1 r1 c2 r2
    → Settles definitions done (take (i + 1) xs) c0 r0 c2 r2
settles_more definitions done xs i c0 r0 c1 r1 c2 r2 l s t = record {
  same = t.same ∙ s.same;
  counted = λ k. sums (count_at c2 k) (times (take (i + 1) xs) k) (times (take i xs) k) (times (get_or xs i 0 ∷ []) k)
      (count_at c1 k) (count_at c0 k) (ap (λ (ys : List ℕ). times ys k) (take_more xs i 0 l)
      ∙ times-append (take i xs) (get_or xs i 0 ∷ []) k) (t.counted k) (s.counted k);
  readied = λ h. t.readied (s.readied h);
}
  where
    sums : (a t p q b n : ℕ) → t ≡ p + q → a + q ≡ b → b + p ≡ n → a + t ≡ n
    sums a t p q b n e1 e2 e3 = omega arith

pub settles_all : (definitions done : List Bool) (xs : List ℕ) (i : ℕ) (c0 r0 c1 r1 : List ℕ) → length xs ≤ i
    → Settles definitions done (take i xs) c0 r0 c1 r1 → Settles definitions done xs c0 r0 c1 r1
settles_all definitions done xs i c0 r0 c1 r1 g h =
    subst (λ (ys : List ℕ). Settles definitions done ys c0 r0 c1 r1) (take_all i xs g) h

-- a node that is to be settled has a count
pub still_counted : (definitions done : List Bool) (xs : List ℕ) (i : ℕ) (c0 r0 c1 r1 : List ℕ) → i < length xs
    → ((k : ℕ) → times xs k ≤ count_at c0 k) → Settles definitions done (take i xs) c0 r0 c1 r1
    → (0 < count_at c1 (get_or xs i 0)) × (get_or xs i 0 < length c1)
still_counted definitions done xs i c0 r0 c1 r1 l h s = (some, within)
  where
    x : ℕ
    x = get_or xs i 0

    fewer : (ys : List ℕ) (j : ℕ) → j < length ys → times (take j ys) (get_or ys j 0) + 1 ≤ times ys (get_or ys j 0)
    fewer [] j l = absurd (omega arith)
    fewer (y ∷ ys) zero l = subst (λ (b : Bool). 0 + 1 ≤ cond b 1 0 + times ys y) (sym (eq-eqb y y refl)) (omega arith)
    fewer (y ∷ ys) (suc j) l = let f = fewer ys j (omega arith) in omega (arith, f)

    some : 0 < count_at c1 x
    some = let f = fewer xs i l in let m = h x in let c = s.counted x in omega (arith, f, m, c)

    within : x < length c1
    within = elim (cases_lt x (length c1))
        [ inl g ↦ g | inr p ↦ absurd (let z = get_or_past c1 x 0 p in omega (arith, z, some)) ]

-- ---- imports without number

-- how many of the nodes are not marked
abbrev pub unmarked_among : List Bool → List ℕ → ℕ
unmarked_among flags [] = 0
unmarked_among flags (x ∷ xs) = cond (flag flags x) 0 1 + unmarked_among flags xs

all_unmarked : (flags : List Bool) → ((k : ℕ) → flag flags k ≡ false) → (xs : List ℕ)
    → unmarked_among flags xs ≡ length xs
all_unmarked flags h [] = refl
all_unmarked flags h (x ∷ xs) = let r = all_unmarked flags h xs in
    let b : cond {A = ℕ} (flag flags x) 0 1 ≡ 1 = ap (λ b. cond b 0 1) (h x) in omega (arith, r, b)

one_marked : (flags : List Bool) (node : ℕ) → node < length flags → flag flags node ≡ false → (xs : List ℕ)
    → unmarked_among flags xs ≡ unmarked_among (set flags node true) xs + times xs node
one_marked flags node l fresh [] = refl
one_marked flags node l fresh (x ∷ xs) = let r = one_marked flags node l fresh xs in let b = step x in
    omega (arith, r, b)
  where
    table : (o n h : Bool) → n ≡ (o || (h || false)) → (h ≡ true → o ≡ false) → cond o 0 1 ≡ cond n 0 1 + cond h 1 0
    table true true true e f = absurd (false≢true (sym (f refl)))
    table true true false e f = refl
    table true false h e f = absurd (false≢true e)
    table false true true e f = refl
    table false true false e f = absurd (false≢true (sym e))
    table false false true e f = absurd (false≢true e)
    table false false false e f = refl

    flipped : (x : ℕ) → (node == x) ≡ (x == node)
    flipped x = elim (cases_eq node x) [
      | inl s ↦ eq-eqb node x s
          ∙ sym (eq-eqb x node (sym s))
      | inr ne ↦ ne_eqb node x ne ∙ sym (ne_eqb x node (λ e. ne (sym e)))
    ]

    step : (x : ℕ) → cond (flag flags x) 0 1 ≡ cond (flag (set flags node true) x) 0 1 + cond (x == node) 1 0
    step x = table (flag flags x) (flag (set flags node true) x) (x == node)
        (flag_set flags node x l ∙ ap (λ b. flag flags x || (b || false)) (flipped x))
        (λ s. ap (flag flags) (eqb-true x node s) ∙ fresh)

none_left : (flags : List Bool) (xs : List ℕ) → list_all (flag flags) xs ≡ (unmarked_among flags xs == 0)
none_left flags [] = refl
none_left flags (x ∷ xs) = step (flag flags x) (list_all (flag flags) xs) (unmarked_among flags xs) (none_left flags xs)
  where
    step : (b all : Bool) (n : ℕ) → all ≡ (n == 0) → (b && all) ≡ ((cond b 0 1 + n) == 0)
    step true all n e = e ∙ ap (λ m. m == 0) (let q : n ≡ 0 + n = omega arith in q)
    step false all n e = sym (ne_eqb (1 + n) 0 (λ f. omega arith))

-- ---- while definitions get numbers

pub record Awaits (links : List (List ℕ)) (definitions done : List Bool) (order counts ready : List ℕ) : Type 0 where
  pub numbers : Numbers links definitions done order
  pub same : length counts ≡ length links
  pub counted : (k : ℕ) → count_at counts k ≡ unmarked_among done (targets links k)
  pub readied : AreReady definitions done counts ready

ready_is : (links : List (List ℕ)) (definitions done : List Bool) (order counts ready : List ℕ)
    → Awaits links definitions done order counts ready → (k : ℕ)
    → times ready k ≡ cond (is_ready links definitions (flag done) k) 1 0
ready_is links definitions done order counts ready a k = a.readied k
    ∙ ap (λ n. cond (is_open definitions done k && (n == 0)) 1 0) (a.counted k)
    ∙ ap (λ b. cond (is_open definitions done k && b) 1 0) (sym (none_left done (targets links k)))

cond_one : (b : Bool) → 1 ≤ cond b 1 0 → b ≡ true
cond_one true l = refl
cond_one false l = absurd (omega arith)

cond_none : (b : Bool) → cond {A = ℕ} b 1 0 ≡ 0 → b ≡ false
cond_none true e = absurd (omega arith)
cond_none false e = refl

pub next_is : (links : List (List ℕ)) (definitions done : List Bool) (order counts ready ready' : List ℕ) (node : ℕ)
    → Awaits links definitions done order counts ready
    → ((k : ℕ) → times ready k ≡ times ready' k + cond (node == k) 1 0) → ((k : ℕ) → has ready k ≡ true → node ≤ k)
    → IsNext links definitions (flag done) node
next_is links definitions done order counts ready ready' node a taken least = record {
  ready = cond_one (is_ready links definitions (flag done) node)
      (subst (λ (n : ℕ). 1 ≤ n) (ready_is links definitions done order counts ready a node) some);
  first = λ other l. elim (cases_Bool (is_ready links definitions (flag done) other)) [
    | inr f ↦ f
    | inl t ↦ absurd (let h = least other
        (has_times ready other (subst (λ (n : ℕ). 1 ≤ n)
        (sym (ready_is links definitions done order counts ready a other ∙ ap (λ b. cond b 1 0) t)) (omega arith))) in
        omega (arith, h))
  ];
}
  where
    some : 1 ≤ times ready node
    some = let t = taken node in let s : cond {A = ℕ} (node == node) 1 0 ≡ 1 =
        ap (λ b. cond b 1 0) (eq-eqb node node refl) in omega (arith, t, s)

open_within : (definitions done : List Bool) (node : ℕ) (b : Bool) → (is_open definitions done node && b) ≡ true
    → (flag definitions node ≡ true) × (flag done node ≡ false)
open_within definitions done node b e =
    let p = and_parts (flag definitions node) (not (flag done node)) (and_parts (is_open definitions done node) b e).0
    in
    (p.0, not_true (flag done node) p.1)
  where
    not_true : (c : Bool) → not c ≡ true → c ≡ false
    not_true true f = sym f
    not_true false f = refl

pub next_open : (links : List (List ℕ)) (definitions done : List Bool) (node : ℕ)
    → IsNext links definitions (flag done) node → (flag definitions node ≡ true) × (flag done node ≡ false)
next_open links definitions done node n =
    open_within definitions done node (list_all (flag done) (targets links node)) n.ready

pub next_within : (links : List (List ℕ)) (definitions done : List Bool) (node : ℕ) → length definitions ≡ length links
    → IsNext links definitions (flag done) node → node < length links
next_within links definitions done node e n = let w =
    marked_within definitions node (next_open links definitions done node n).0 in omega (arith, w)

-- a node has its number, and what imports it is to be settled
pub settle_next : (links back : List (List ℕ)) (definitions done : List Bool) (order counts ready : List ℕ) (node : ℕ)
    → IsTurned links back → length definitions ≡ length links → Awaits links definitions done order counts ready
    → IsNext links definitions (flag done) node → (k : ℕ) → times (targets back node) k ≤ count_at counts k
settle_next links back definitions done order counts ready node t e a n k =
    let p = t.pairs k node (next_within links definitions done node e n) in
    let c = a.counted k in
    let m = one_marked done node (let s = a.numbers.same in let w = next_within links definitions done node e n in
    omega (arith, s, w)) (next_open links definitions done node n).1 (targets links k) in
    omega (arith, p, c, m)

pub awaits_more : (links back : List (List ℕ)) (definitions done : List Bool)
    (order counts counts' ready between ready' : List ℕ) (node : ℕ) → IsTurned links back
    → length definitions ≡ length links → Awaits links definitions done order counts ready
    → IsNext links definitions (flag done) node → ((k : ℕ) → times ready k ≡ times between k + cond (node == k) 1 0)
    → Settles definitions (set done node true) (targets back node) counts between counts' ready'
    → Awaits links definitions (set done node true) (order ++ node ∷ []) counts' ready'
awaits_more links back definitions done order counts counts' ready between ready' node t e a n taken s = record {
  numbers = numbers_more links definitions done order node a.numbers l n;
  same = s.same ∙ a.same;
  counted = counted;
  readied = s.readied readied;
}
  where
    l : node < length links
    l = next_within links definitions done node e n

    inside : node < length done
    inside = let q = a.numbers.same in omega (arith, l, q)

    fresh : flag done node ≡ false
    fresh = (next_open links definitions done node n).1

    counted : (k : ℕ) → count_at counts' k ≡ unmarked_among (set done node true) (targets links k)
    counted k = let c = s.counted k in let p = t.pairs k node l in let b = a.counted k in
        let m = one_marked done node inside fresh (targets links k) in omega (arith, c, p, b, m)

    table : (t u : ℕ) (o o' same z : Bool) → t ≡ cond (o && z) 1 0 → t ≡ u + cond same 1 0 → (same ≡ true → o' ≡ false)
        → (same ≡ false → o' ≡ o) → u ≡ cond (o' && z) 1 0
    table t u o o' true z e1 e2 f g = let q = f refl in
        let s : cond {A = ℕ} (o' && z) 1 0 ≡ 0 = ap (λ b. cond (b && z) 1 0) q in let m = small (o && z) in
        omega (arith, s, m)
      where
        small : (b : Bool) → cond b 1 0 ≤ 1
        small true = omega arith
        small false = omega arith
    table t u o o' false z e1 e2 f g = let q : cond {A = ℕ} (o' && z) 1 0 ≡ cond (o && z) 1 0 =
        ap (λ b. cond (b && z) 1 0) (g refl) in omega (arith, q)

    closes : (d f : Bool) → f ≡ true → (d && not f) ≡ false
    closes d false e = absurd (false≢true e)
    closes true true e = refl
    closes false true e = refl

    readied : AreReady definitions (set done node true) counts between
    readied k = table (times ready k) (times between k) (is_open definitions done k)
        (is_open definitions (set done node true) k) (node == k) (count_at counts k == 0) (a.readied k) (taken k)
        (λ q. closes (flag definitions k) (flag (set done node true) k)
        (let r = eqb-true node k q in subst (λ (j : ℕ). flag (set done node true) j ≡ true) r
        (get_or-set_same done node true false inside)))
        (λ q. ap (λ b. flag definitions k && not b)
        (get_or-set_other done node k true false (λ r. false≢true (sym q ∙ eq-eqb node k (sym r)))))

-- ---- the beginning and the end

pub first_counts : (links back : List (List ℕ)) (counts : List ℕ) → IsTurned links back
    → counts ≡ map (λ (ts : List ℕ). length ts + 1) links → (k : ℕ)
    → times (targets back (length links)) k ≤ count_at counts k
first_counts links back counts t e k = elim (cases_lt k (length links)) [
  | inl l ↦ (let r = t.root k in let b : cond {A = ℕ} (nat_lt k (length links)) 1 0 ≡ 1 =
      ap (λ b. cond b 1 0) (lt-ltb k (length links) l) in
      let c : count_at counts k ≡ length (targets links k) + 1 = ap (λ (cs : List ℕ). count_at cs k) e
      ∙ get_or-map (λ (ts : List ℕ). length ts + 1) links k [] 0 l in omega (arith, r, b, c))
  | inr g ↦ (let r = t.root k in let b : cond {A = ℕ} (nat_lt k (length links)) 1 0 ≡ 0 =
      ap (λ b. cond b 1 0) (le-ltb k (length links) g) in omega (arith, r, b))
]

pub awaits_first : (links back : List (List ℕ)) (definitions done : List Bool) (n : ℕ)
    (order counts counts' ready ready' : List ℕ) → IsTurned links back → length definitions ≡ length links
    → counts ≡ map (λ (ts : List ℕ). length ts + 1) links → done ≡ replicate n false → n ≡ length links → ready ≡ []
    → order ≡ [] → Settles definitions done (targets back (length links)) counts ready counts' ready'
    → Awaits links definitions done order counts' ready'
awaits_first links back definitions done n order counts counts' ready ready' t e0 e1 e2 e3 e4 e5 s = record {
  numbers = subst (λ (p : List Bool × List ℕ). Numbers links definitions p.0 p.1)
      (let q : (replicate n false, []) ≡ (done, order) = cc in q) (numbers_none links definitions n e3);
  same = s.same ∙ ap length e1 ∙ length-map links (λ (ts : List ℕ). length ts + 1);
  counted = counted;
  readied = s.readied readied;
}
  where
    fresh : (k : ℕ) → flag done k ≡ false
    fresh k = ap (λ (fs : List Bool). flag fs k) e2 ∙ flag_fresh n k

    past : {ts : List ℕ} → [] ≡ ts → 0 ≡ length ts + cond {A = ℕ} false 1 0
    past e = let q = ap length e in omega (arith, q)

    first : (k : ℕ) → count_at counts k ≡ length (targets links k) + cond (nat_lt k (length links)) 1 0
    first k = elim (cases_lt k (length links)) [
      | inl l ↦ ap (λ (cs : List ℕ). count_at cs k) e1 ∙ get_or-map (λ (ts : List ℕ). length ts + 1) links k [] 0 l
          ∙ ap (λ b. length (targets links k) + cond b 1 0) (sym (lt-ltb k (length links) l))
      | inr g ↦ ap (λ (cs : List ℕ). count_at cs k) e1
          ∙ get_or_past (map (λ (ts : List ℕ). length ts + 1) links) k 0
          (subst (λ (m : ℕ). m ≤ k) (sym (length-map links (λ (ts : List ℕ). length ts + 1))) g)
          ∙ past (sym (get_or_past links k [] g))
          ∙ ap (λ b. length (targets links k) + cond b 1 0) (sym (le-ltb k (length links) g))
    ]

    counted : (k : ℕ) → count_at counts' k ≡ unmarked_among done (targets links k)
    counted k = let c = s.counted k in let r = t.root k in let f = first k in
        let a = all_unmarked done fresh (targets links k) in omega (arith, c, r, f, a)

    nothing : (o : Bool) (n : ℕ) → (o ≡ true → 0 < n) → 0 ≡ cond {A = ℕ} (o && (n == 0)) 1 0
    nothing true n h = sym (ap (λ b. cond b 1 0) (is_zero n (h refl)))
    nothing false n h = refl

    readied : AreReady definitions done counts ready
    readied k = ap (λ (xs : List ℕ). times xs k) e4 ∙ nothing (is_open definitions done k) (count_at counts k) (λ o.
        let w = marked_within definitions k (and_parts (flag definitions k) (not (flag done k)) o).0 in
        let b : cond {A = ℕ} (nat_lt k (length links)) 1 0 ≡ 1 =
        ap (λ b. cond b 1 0) (lt-ltb k (length links) (omega arith)) in
        let f = first k in omega (arith, b, f))

pub awaits_last : (links : List (List ℕ)) (definitions done : List Bool) (order counts ready : List ℕ) → ready ≡ []
    → Awaits links definitions done order counts ready → IsNumbering links definitions order
awaits_last links definitions done order counts ready e a =
    numbers_all links definitions done order a.numbers
    (λ k. cond_none (is_ready links definitions (flag done) k)
    (sym (ready_is links definitions done order counts ready a k) ∙ ap (λ (xs : List ℕ). times xs k) e))

-- ---- the same of what is borrowed

pub first_settled : (links back : List (List ℕ)) (counts now borrowed : List ℕ) → IsTurned links back
    → borrowed ≡ targets back (length links) → now ≡ counts → counts ≡ map (λ (ts : List ℕ). length ts + 1) links
    → (k : ℕ) → times borrowed k ≤ count_at now k
first_settled links back counts now borrowed t e1 e2 e3 k =
    subst (λ (xs : List ℕ). times xs k ≤ count_at now k) (sym e1) (first_counts links back now t (e2 ∙ e3) k)

pub awaits_begins : (links back : List (List ℕ)) (definitions done borrowed_done : List Bool) (n len : ℕ)
    (order counts now counts' borrowed ready ready' : List ℕ) → IsTurned links back → length definitions ≡ length links
    → counts ≡ map (λ (ts : List ℕ). length ts + 1) links → done ≡ replicate n false → n ≡ length links → ready ≡ []
    → order ≡ [] → borrowed_done ≡ done → borrowed ≡ targets back (length links) → now ≡ counts → length counts ≡ len →
    Settles definitions borrowed_done borrowed now ready counts' ready'
    → Awaits links definitions done order (take len (counts' ++ drop (length counts') counts)) ready'
awaits_begins links back definitions done borrowed_done n len order counts now counts' borrowed ready ready' t e0 e1 e2
    e3 e4 e5 l1 l2 l3 l4 s =
    let is : Settles definitions done (targets back (length links)) counts ready counts' ready' =
    subst (λ (p : List Bool × List ℕ × List ℕ). Settles definitions p.0 p.1 p.2 ready counts' ready')
    (let q : (borrowed_done, borrowed, now) ≡ (done, targets back (length links), counts) = cc in q) s in
    subst (λ (cs : List ℕ). Awaits links definitions done order cs ready')
    (sym (written_back counts counts' len (is.same ∙ l4) l4))
    (awaits_first links back definitions done n order counts counts' ready ready' t e0 e1 e2 e3 e4 e5 is)

pub next_settled : (links back : List (List ℕ)) (definitions done : List Bool)
    (order counts now borrowed ready : List ℕ) (node : ℕ) → IsTurned links back → length definitions ≡ length links
    → Awaits links definitions done order counts ready → IsNext links definitions (flag done) node
    → borrowed ≡ targets back node → now ≡ counts → (k : ℕ) → times borrowed k ≤ count_at now k
next_settled links back definitions done order counts now borrowed ready node t e a n e1 e2 k =
    subst (λ (p : List ℕ × List ℕ). times p.0 k ≤ count_at p.1 k)
    (let q : (targets back node, counts) ≡ (borrowed, now) = cc in q)
    (settle_next links back definitions done order counts ready node t e a n k)

pub awaits_goes_on : (links back : List (List ℕ)) (definitions done borrowed_done : List Bool) (len : ℕ)
    (order order' counts now counts' borrowed ready between ready' : List ℕ) (node : ℕ) → IsTurned links back
    → length definitions ≡ length links → Awaits links definitions done order counts ready
    → IsNext links definitions (flag done) node → ((k : ℕ) → times ready k ≡ times between k + cond (node == k) 1 0) →
    order' ≡ order ++ node ∷ [] → borrowed_done ≡ set done node true → borrowed ≡ targets back node → now ≡ counts
    → length counts ≡ len → Settles definitions borrowed_done borrowed now between counts' ready'
    → Awaits links definitions (set done node true) order' (take len (counts' ++ drop (length counts') counts))
    ready'
awaits_goes_on links back definitions done borrowed_done len order order' counts now counts' borrowed ready between
    ready' node t e a n taken e1 l1 l2 l3 l4 s =
    let is : Settles definitions (set done node true) (targets back node) counts between counts' ready' =
    subst (λ (p : List Bool × List ℕ × List ℕ). Settles definitions p.0 p.1 p.2 between counts' ready')
    (let q : (borrowed_done, borrowed, now) ≡ (set done node true, targets back node, counts) = cc in q) s in
    subst (λ (p : List ℕ × List ℕ). Awaits links definitions (set done node true) p.0 p.1 ready')
    (let w = written_back counts counts' len (is.same ∙ l4) l4 in
    let q : (order ++ node ∷ [], counts') ≡ (order', take len (counts' ++ drop (length counts') counts)) = cc in q)
    (awaits_more links back definitions done order counts counts' ready between ready' node t e a n taken is)
