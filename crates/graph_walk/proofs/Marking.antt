-- Marks on nodes, and what they leave to be done.
use Rattle.std.proofs.Common.{◌≡◌, ◌<◌, ◌≤◌, ℕ, zero, suc, ◌+◌, Bool, true, false, cond, not, ◌&&◌, ◌||◌, ◌==◌, List, [], ◌∷◌, ◌++◌, length, take, set, get_or, replicate, append_assoc, refl, sym, ap, ap₂, subst, ◌∙◌, inl, inr, arith, eq-eqb}
use Rattle.std.proofs.lemmas.Bool.{eqb-true, cases_eq, cases_lt, ne_eqb, or_left, or_right, or_from, false≢true}
use Rattle.std.proofs.lemmas.List.{get_or-set_same, get_or-set_other, get_or-replicate, append-nil, get_or_past, length-set, length-replicate, length_push, take_more, take_all}
use Rattle.graph_walk.specs.Links.{has, times, unless, AreEachOnce, flag, targets}
use Rattle.graph_walk.specs.Marks.{Marks, Unmarks, AreUnmarked, weight}

pub or_assoc : (a b c : Bool) → ((a || b) || c) ≡ (a || (b || c))
or_assoc true b c = refl
or_assoc false b c = refl

pub or_none : (a b : Bool) → b ≡ false → a ≡ (a || b)
or_none true b e = refl
or_none false b e = sym e

pub has-append : (xs ys : List ℕ) (k : ℕ) → has (xs ++ ys) k ≡ (has xs k || has ys k)
has-append [] ys k = refl
has-append (x ∷ xs) ys k = ap (λ b. (x == k) || b) (has-append xs ys k) ∙ sym (or_assoc (x == k) (has xs k) (has ys k))

pub times-append : (xs ys : List ℕ) (k : ℕ) → times (xs ++ ys) k ≡ times xs k + times ys k
times-append [] ys k = omega arith
times-append (x ∷ xs) ys k = let h = times-append xs ys k in omega (arith, h)

-- one more number is there once more
times_one : (b c : Bool) (n : ℕ) → (b || false) ≡ c → n + (cond b 1 0 + 0) ≡ n + cond c 1 0
times_one true true n e = omega arith
times_one false false n e = omega arith
times_one true false n e = absurd (false≢true (sym e))
times_one false true n e = absurd (false≢true e)

pub has_itself : (n : ℕ) → has (n ∷ []) n ≡ true
has_itself n = or_left (n == n) false (eq-eqb n n refl)

pub has_no_other : (n k : ℕ) → (n ≡ k → ⊥) → has (n ∷ []) k ≡ false
has_no_other n k ne = or_from (n == k) false (ne_eqb n k ne) refl

pub flag_set : (flags : List Bool) (n k : ℕ) → n < length flags
    → flag (set flags n true) k ≡ (flag flags k || has (n ∷ []) k)
flag_set flags n k l = elim (cases_eq n k) [ inl e ↦ is_so e | inr ne ↦ not_so ne ]
  where
    is_so : n ≡ k → flag (set flags n true) k ≡ (flag flags k || has (n ∷ []) k)
    is_so e = subst (λ (j : ℕ). flag (set flags n true) j ≡ (flag flags j || has (n ∷ []) j)) e
        (get_or-set_same flags n true false l ∙ sym (or_right (flag flags n) (has (n ∷ []) n) (has_itself n)))

    not_so : (n ≡ k → ⊥) → flag (set flags n true) k ≡ (flag flags k || has (n ∷ []) k)
    not_so ne = get_or-set_other flags n k true false (λ e. ne (sym e))
        ∙ or_none (flag flags k) (has (n ∷ []) k) (has_no_other n k ne)

pub flag_fresh : (n k : ℕ) → flag (replicate n false) k ≡ false
flag_fresh n k = elim (cases_lt k n) [
  | inl l ↦ get_or-replicate n k false false l
  | inr g ↦ get_or_past
      (replicate n false) k false (subst (λ (m : ℕ). m ≤ k) (sym (length-replicate n false)) g)
]

pub marked_within : (flags : List Bool) (k : ℕ) → flag flags k ≡ true → k < length flags
marked_within flags k e = elim (cases_lt k (length flags))
    [ inl l ↦ l | inr g ↦ absurd (false≢true (sym (get_or_past flags k false g) ∙ e)) ]

pub unmarked_past : (flags : List Bool) (k : ℕ) → length flags ≤ k → flag flags k ≡ false
unmarked_past flags k g = get_or_past flags k false g

-- ---- what is left

pub weight_set : (links : List (List ℕ)) (flags : List Bool) (n : ℕ) → n < length flags → flag flags n ≡ false
    → weight links (set flags n true) + length (targets links n) + 2 ≡ weight links flags
weight_set links [] n l e = absurd (omega arith)
weight_set [] (true ∷ bs) zero l e = absurd (false≢true (sym e))
weight_set [] (false ∷ bs) zero l e = omega arith
weight_set [] (b ∷ bs) (suc n) l e = let h = weight_set [] bs n (omega arith) e in omega (arith, h)
weight_set (t ∷ ts) (true ∷ bs) zero l e = absurd (false≢true (sym e))
weight_set (t ∷ ts) (false ∷ bs) zero l e = omega arith
weight_set (t ∷ ts) (b ∷ bs) (suc n) l e = let h = weight_set ts bs n (omega arith) e in omega (arith, h)

-- ---- numbers without marks, in order

pub one_left : (n : ℕ) (marked : ℕ → Bool) → marked n ≡ false → unless marked (n ∷ []) ≡ n ∷ []
one_left n marked e = rw e refl

pub none_left : (n : ℕ) (marked : ℕ → Bool) → marked n ≡ true → unless marked (n ∷ []) ≡ []
none_left n marked e = rw e refl

-- a number at the end, unless it is marked
abbrev last_left : Bool → ℕ → List ℕ
last_left b x = cond b [] (x ∷ [])

pub unless_same : (m n : ℕ → Bool) (xs : List ℕ) → ((k : ℕ) → m k ≡ n k) → unless m xs ≡ unless n xs
unless_same m n [] same = refl
unless_same m n (x ∷ xs) same = by (n x) (same x) (unless_same m n xs same)
    (unless_same (λ k. m k || (x == k)) (λ k. n k || (x == k)) xs (λ k. ap (λ b. b || (x == k)) (same k)))
  where
    by : (b : Bool) → m x ≡ b → unless m xs ≡ unless n xs
        → unless (λ k. m k || (x == k)) xs ≡ unless (λ k. n k || (x == k)) xs
        → cond (m x) (unless m xs) (x ∷ unless (λ k. m k || (x == k)) xs)
        ≡ cond b (unless n xs) (x ∷ unless (λ k. n k || (x == k)) xs)
    by true e here there = rw e here
    by false e here there = rw e (ap (λ ys. x ∷ ys) there)

or_again : (m n : Bool) (h : Bool) → (n ≡ true → m ≡ true) → (m || h) ≡ (m || (n || h))
or_again true n h f = refl
or_again false true h f = absurd (false≢true (f refl))
or_again false false h f = refl

unless_more : (m : ℕ → Bool) (xs : List ℕ) (x : ℕ)
    → unless m (xs ++ x ∷ []) ≡ unless m xs ++ last_left (m x || has xs x) x
unless_more m [] x = by (m x)
  where
    by : (b : Bool) → cond b [] (x ∷ []) ≡ last_left (b || false) x
    by true = refl
    by false = refl
unless_more m (y ∷ ys) x = by (m y) refl (unless_more m ys x) (unless_more (λ k. m k || (y == k)) ys x)
  where
    same_mark : m y ≡ true → (y == x) ≡ true → m x ≡ true
    same_mark e is = subst (λ (k : ℕ). m k ≡ true) (eqb-true y x is) e

    by : (b : Bool) → m y ≡ b → unless m (ys ++ x ∷ []) ≡ unless m ys ++ last_left (m x || has ys x) x
        → unless (λ k. m k || (y == k)) (ys ++ x ∷ []) ≡ unless (λ k. m k || (y == k)) ys
        ++ last_left ((m x || (y == x)) || has ys x) x
        → cond (m y) (unless m (ys ++ x ∷ [])) (y ∷ unless (λ k. m k || (y == k)) (ys ++ x ∷ []))
        ≡ cond (m y) (unless m ys) (y ∷ unless (λ k. m k || (y == k)) ys)
        ++ last_left (m x || ((y == x) || has ys x)) x
    by true e here there = rw e (here ∙ ap (λ b. unless m ys ++ last_left b x)
        (or_again (m x) (y == x) (has ys x) (same_mark e)))
    by false e here there = rw e (ap (λ zs. y ∷ zs)
        (there ∙ ap (λ b. unless (λ k. m k || (y == k)) ys ++ last_left b x) (or_assoc (m x) (y == x) (has ys x))))

unless_marked : (f f1 : List Bool) (x : ℕ) (xs : List ℕ) → ((k : ℕ) → flag f1 k ≡ (flag f k || has xs k))
    → unless (flag f1) (x ∷ []) ≡ last_left (flag f x || has xs x) x
unless_marked f f1 x xs marked = ap (λ b. last_left b x) (marked x)

-- how often a number stands there
pub times_unless : (m : ℕ → Bool) (xs : List ℕ) (k : ℕ) → times (unless m xs) k ≡ cond (has xs k && not (m k)) 1 0
times_unless m [] k = refl
times_unless m (x ∷ xs) k = by (m x) refl (x == k) refl (times_unless m xs k) (times_unless (λ j. m j || (x == j)) xs k)
  where
    none : (b : Bool) → ◌≡◌ {A = ℕ} (cond (b && false) 1 0) 0
    none true = refl
    none false = refl

    marked_too : m x ≡ true → (x == k) ≡ true → m k ≡ true
    marked_too e is = subst (λ (j : ℕ). m j ≡ true) (eqb-true x k is) e

    unmarked_too : m x ≡ false → (x == k) ≡ true → m k ≡ false
    unmarked_too e is = subst (λ (j : ℕ). m j ≡ false) (eqb-true x k is) e

    by : (b : Bool) → m x ≡ b → (c : Bool) → (x == k) ≡ c → times (unless m xs) k ≡ cond (has xs k && not (m k)) 1 0
        → times (unless (λ j. m j || (x == j)) xs) k ≡ cond (has xs k && not (m k || (x == k))) 1 0
        → times (cond (m x) (unless m xs) (x ∷ unless (λ j. m j || (x == j)) xs)) k
        ≡ cond (((x == k) || has xs k) && not (m k)) 1 0
    by true e true is here there = rw (e, is)
        (here ∙ ap (λ (d : Bool). cond (has xs k && not d) 1 0) (marked_too e is) ∙ none (has xs k)
        ∙ sym (ap (λ (d : Bool). cond (not d) 1 0) (marked_too e is)))
    by true e false is here there = rw (e, is) here
    by false e true is here there =
        let zero : times (unless (λ j. m j || (x == j)) xs) k ≡ 0 = there
        ∙ ap (λ (d : Bool). cond (has xs k && not (m k || d)) 1 0) is
        ∙ ap (λ (d : Bool). cond (has xs k && not (d || true)) 1 0) (unmarked_too e is) ∙ none (has xs k) in
        let one : ◌≡◌ {A = ℕ} (cond (not (m k)) 1 0) 1 = ap (λ (d : Bool). cond (not d) 1 0) (unmarked_too e is) in
        rw (e, is) (omega (arith, zero, one))
    by false e false is here there =
        let rest : times (unless (λ j. m j || (x == j)) xs) k ≡ cond (has xs k && not (m k)) 1 0 = there
        ∙ ap (λ (d : Bool). cond (has xs k && not (m k || d)) 1 0) is
        ∙ ap (λ (d : Bool). cond (has xs k && not d) 1 0) (sym (or_none (m k) false refl)) in
        rw (e, is) (omega (arith, rest))

pub times_once_each : (once all : List ℕ) → AreEachOnce once all → (k : ℕ) → times once k ≡ cond (has all k) 1 0
times_once_each once all e k = ap (λ xs. times xs k) e ∙ times_unless (λ j. false) all k ∙ plain (has all k)
  where
    plain : (b : Bool) → ◌≡◌ {A = ℕ} (cond (b && true) 1 0) (cond b 1 0)
    plain true = refl
    plain false = refl

-- ---- one mark after another

added_one : (n k : ℕ) (flags : List Bool) → flag flags n ≡ false
    → has (n ∷ []) k ≡ (has (n ∷ []) k && not (flag flags k))
added_one n k flags e = elim (cases_eq n k) [
  | inl s ↦ subst (λ (j : ℕ). has (n ∷ []) j ≡ (has (n ∷ []) j && not (flag flags j))) s (rw (has_itself n, e) refl)
  | inr ne ↦ rw (has_no_other n k ne) refl
]

pub marks_one : (n : ℕ) (flags : List Bool) (todo : List ℕ) → n < length flags → flag flags n ≡ false
    → Marks (n ∷ []) flags todo (set flags n true) (todo ++ n ∷ [])
marks_one n flags todo l e = record {
  same = length-set flags n true;
  marked = λ k. flag_set flags n k l;
  added = λ k. has-append todo (n ∷ []) k ∙ ap (λ b. has todo k || b) (added_one n k flags e);
  once = λ k. times-append todo (n ∷ []) k
      ∙ times_one (n == k) (has (n ∷ []) k && not (flag flags k)) (times todo k) (added_one n k flags e);
  order = ap (λ xs. todo ++ xs) (sym (one_left n (flag flags) e));
  lighter = omega (arith, weight_set [] flags n l e, length_push todo n);
}

already : (n k : ℕ) (flags : List Bool) → flag flags n ≡ true → flag flags k ≡ (flag flags k || has (n ∷ []) k)
already n k flags e = elim (cases_eq n k) [
  | inl s ↦ subst (λ (j : ℕ). flag flags j ≡ (flag flags j || has (n ∷ []) j)) s (rw e refl)
  | inr ne ↦ or_none
      (flag flags k) (has (n ∷ []) k) (has_no_other n k ne)
]

none_added : (n k : ℕ) (flags : List Bool) → flag flags n ≡ true → (has (n ∷ []) k && not (flag flags k)) ≡ false
none_added n k flags e = elim (cases_eq n k) [
  | inl s ↦ subst (λ (j : ℕ). (has (n ∷ []) j && not (flag flags j)) ≡ false) s (rw (has_itself n, e) refl)
  | inr ne ↦
      rw (has_no_other n k ne) refl
]

none_once : (n : ℕ) (b : Bool) → b ≡ false → n ≡ n + cond b 1 0
none_once n true e = absurd (false≢true (sym e))
none_once n false e = omega arith

pub marks_again : (n : ℕ) (flags : List Bool) (todo : List ℕ) → flag flags n ≡ true
    → Marks (n ∷ []) flags todo flags todo
marks_again n flags todo e = record {
  same = refl;
  marked = λ k. already n k flags e;
  added = λ k. or_none (has todo k) (has (n ∷ []) k && not (flag flags k)) (none_added n k flags e);
  once = λ k. none_once (times todo k) (has (n ∷ []) k && not (flag flags k)) (none_added n k flags e);
  order = sym (append-nil todo) ∙ ap (λ xs. todo ++ xs) (sym (none_left n (flag flags) e));
  lighter = omega arith;
}

pub marks_none : (flags : List Bool) (todo : List ℕ) → Marks [] flags todo flags todo
marks_none flags todo = record {
  same = refl;
  marked = λ k. or_none (flag flags k) false refl;
  added = λ k. or_none (has todo k) false refl;
  once = λ k. none_once (times todo k) false refl;
  order = sym (append-nil todo);
  lighter = omega arith;
}

both_added : (t x n f : Bool) → ((t || (x && not f)) || (n && not (f || x))) ≡ (t || ((x || n) && not f))
both_added true x n f = refl
both_added false true true true = refl
both_added false true false true = refl
both_added false true true false = refl
both_added false true false false = refl
both_added false false true true = refl
both_added false false false true = refl
both_added false false true false = refl
both_added false false false false = refl

pub both_once : (x n f : Bool) → cond (x && not f) 1 0 + cond (n && not (f || x)) 1 0 ≡ cond ((x || n) && not f) 1 0
both_once true true true = omega arith
both_once true false true = omega arith
both_once true true false = omega arith
both_once true false false = omega arith
both_once false true true = omega arith
both_once false false true = omega arith
both_once false true false = omega arith
both_once false false false = omega arith

sums : (t2 t1 t a b b' s s' : ℕ) → t2 ≡ t1 + b → t1 ≡ t + a → b ≡ b' → a + b' ≡ s → s ≡ s' → t2 ≡ t + s'
sums t2 t1 t a b b' s s' e1 e2 e3 e4 e5 = omega arith

marks_more : (xs : List ℕ) (x : ℕ) (f f1 f2 : List Bool) (t t1 t2 : List ℕ) → Marks xs f t f1 t1
    → Marks (x ∷ []) f1 t1 f2 t2 → Marks (xs ++ x ∷ []) f t f2 t2
marks_more xs x f f1 f2 t t1 t2 m n = record {
  same = n.same ∙ m.same;
  marked = λ k. n.marked k ∙ ap (λ b. b || has (x ∷ []) k) (m.marked k)
      ∙ or_assoc (flag f k) (has xs k) (has (x ∷ []) k) ∙ ap (λ b. flag f k || b) (sym (has-append xs (x ∷ []) k));
  added = λ k. n.added k ∙ ap (λ b. b || (has (x ∷ []) k && not (flag f1 k))) (m.added k)
      ∙ ap (λ b. (has t k || (has xs k && not (flag f k))) || (has (x ∷ []) k && not b)) (m.marked k)
      ∙ both_added (has t k) (has xs k) (has (x ∷ []) k) (flag f k)
      ∙ ap (λ b. has t k || (b && not (flag f k))) (sym (has-append xs (x ∷ []) k));
  once = λ k.
      let e : cond (has (x ∷ []) k && not (flag f1 k)) 1 0 ≡ cond (has (x ∷ []) k && not (flag f k || has xs k)) 1 0 =
      ap (λ b. cond (has (x ∷ []) k && not b) 1 0) (m.marked k) in
      let b = both_once (has xs k) (has (x ∷ []) k) (flag f k) in
      let g : cond ((has xs k || has (x ∷ []) k) && not (flag f k)) 1 0
      ≡ cond (has (xs ++ x ∷ []) k && not (flag f k)) 1 0 =
      ap (λ b. cond (b && not (flag f k)) 1 0) (sym (has-append xs (x ∷ []) k)) in
      sums (times t2 k) (times t1 k) (times t k) (cond (has xs k && not (flag f k)) 1 0)
      (cond (has (x ∷ []) k && not (flag f1 k)) 1 0) (cond (has (x ∷ []) k && not (flag f k || has xs k)) 1 0)
      (cond ((has xs k || has (x ∷ []) k) && not (flag f k)) 1 0)
      (cond (has (xs ++ x ∷ []) k && not (flag f k)) 1 0) (n.once k) (m.once k) e b g;
  order = n.order ∙ ap₂ (λ (us vs : List ℕ). us ++ vs) m.order (unless_marked f f1 x xs m.marked)
      ∙ append_assoc t (unless (flag f) xs) (last_left (flag f x || has xs x) x)
      ∙ ap (λ ys. t ++ ys) (sym (unless_more (flag f) xs x));
  lighter = omega (arith, m.lighter, n.lighter);
}

pub marks_step : (nodes : List ℕ) (i x : ℕ) (f f1 f2 : List Bool) (t t1 t2 : List ℕ) → i < length nodes
    → x ≡ get_or nodes i 0 → Marks (take i nodes) f t f1 t1 → Marks (x ∷ []) f1 t1 f2 t2
    → Marks (take (i + 1) nodes) f t f2 t2
marks_step nodes i x f f1 f2 t t1 t2 l e m n =
    subst (λ (xs : List ℕ). Marks xs f t f2 t2) (ap (λ y. take i nodes ++ y ∷ []) e ∙ sym (take_more nodes i 0 l))
    (marks_more (take i nodes) x f f1 f2 t t1 t2 m n)

pub marks_whole : (nodes : List ℕ) (i : ℕ) (f f1 : List Bool) (t t1 : List ℕ) → length nodes ≤ i
    → Marks (take i nodes) f t f1 t1 → Marks nodes f t f1 t1
marks_whole nodes i f f1 t t1 g m = subst (λ (xs : List ℕ). Marks xs f t f1 t1) (take_all i nodes g) m

-- ---- marks that are taken away

flag_unset : (flags : List Bool) (n k : ℕ) → n < length flags
    → flag (set flags n false) k ≡ (flag flags k && not (has (n ∷ []) k))
flag_unset flags n k l = elim (cases_eq n k) [ inl e ↦ is_so e | inr ne ↦ not_so ne ]
  where
    gone : (b c : Bool) → c ≡ true → false ≡ (b && not c)
    gone true true e = refl
    gone false true e = refl
    gone b false e = absurd (false≢true e)

    stays : (b c : Bool) → c ≡ false → b ≡ (b && not c)
    stays true false e = refl
    stays false false e = refl
    stays b true e = absurd (false≢true (sym e))

    is_so : n ≡ k → flag (set flags n false) k ≡ (flag flags k && not (has (n ∷ []) k))
    is_so e = subst (λ (j : ℕ). flag (set flags n false) j ≡ (flag flags j && not (has (n ∷ []) j))) e
        (get_or-set_same flags n false false l ∙ gone (flag flags n) (has (n ∷ []) n) (has_itself n))

    not_so : (n ≡ k → ⊥) → flag (set flags n false) k ≡ (flag flags k && not (has (n ∷ []) k))
    not_so ne = get_or-set_other flags n k false false (λ e. ne (sym e))
        ∙ stays (flag flags k) (has (n ∷ []) k) (has_no_other n k ne)

pub unmarks_none : (flags : List Bool) → Unmarks [] flags flags
unmarks_none flags = record { same = refl; left = λ k. plain (flag flags k) }
  where
    plain : (b : Bool) → b ≡ (b && true)
    plain true = refl
    plain false = refl

pub unmarks_more : (nodes : List ℕ) (i : ℕ) (flags now now' : List Bool) → i < length nodes
    → get_or nodes i 0 < length now → now' ≡ set now (get_or nodes i 0) false → Unmarks (take i nodes) flags now
    → Unmarks (take (i + 1) nodes) flags now'
unmarks_more nodes i flags now now' l w e u =
    subst (λ (xs : List ℕ). Unmarks xs flags now') (sym (take_more nodes i 0 l)) record {
      same = ap length e ∙ length-set now x false ∙ u.same;
      left = λ k. ap (λ (fs : List Bool). flag fs k) e ∙ flag_unset now x k w
          ∙ ap (λ b. b && not (has (x ∷ []) k)) (u.left k) ∙ both (flag flags k) (has (take i nodes) k) (has (x ∷ []) k)
          ∙ ap (λ b. flag flags k && not b) (sym (has-append (take i nodes) (x ∷ []) k));
    }
  where
    x : ℕ
    x = get_or nodes i 0

    both : (f a b : Bool) → ((f && not a) && not b) ≡ (f && not (a || b))
    both false a b = refl
    both true true b = refl
    both true false b = refl

pub unmarks_all : (nodes : List ℕ) (i : ℕ) (flags now : List Bool) → length nodes ≤ i → Unmarks (take i nodes) flags now
    → Unmarks nodes flags now
unmarks_all nodes i flags now g u = subst (λ (xs : List ℕ). Unmarks xs flags now) (take_all i nodes g) u

pub once_from_unmarked : (nodes : List ℕ) (flags now : List Bool) (before once : List ℕ) → AreUnmarked flags
    → before ≡ [] → Marks nodes flags before now once → AreEachOnce once nodes
once_from_unmarked nodes flags now before once u e m = m.order ∙ ap (λ (xs : List ℕ). xs ++ unless (flag flags) nodes) e
    ∙ unless_same (flag flags) (λ k. false) nodes u

pub unmarked_again : (nodes : List ℕ) (flags now later : List Bool) (before once : List ℕ) → AreUnmarked flags
    → Marks nodes flags before now once → Unmarks nodes now later → AreUnmarked later
unmarked_again nodes flags now later before once u m g k = g.left k ∙ ap (λ b. b && not (has nodes k)) (m.marked k)
    ∙ none (flag flags k) (has nodes k) (u k)
  where
    none : (f h : Bool) → f ≡ false → ((f || h) && not h) ≡ false
    none true h e = absurd (false≢true (sym e))
    none false true e = refl
    none false false e = refl
