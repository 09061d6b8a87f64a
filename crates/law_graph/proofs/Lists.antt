-- What is among the elements of a list, and how many there are.
use Rattle.std.proofs.Common.{◌≡◌, ◌<◌, ◌≤◌, ℕ, zero, suc, ◌+◌, Bool, true, false, cond, ◌==◌, List, [], ◌∷◌, ◌++◌, length, get_or, map, refl, sym, ap, ◌∙◌, inl, inr, arith, eq-eqb, Option, Some, None, ◌⊎◌}
use Rattle.std.specs.Prelude.{slice_get}
use Rattle.std.specs.List.{All, filter_map, cons_option, list_any}
use Rattle.std.specs.List.Sorted.{IsPermutation}
use Rattle.std.proofs.lemmas.Option.{slice_get_within, slice_get-get_or, get_or_from_slice_get, none-some, same_Some}
use Rattle.std.proofs.lemmas.Bool.{false≢true, eqb-true, cases_Bool, cases_lt, or_cases, or_left, or_right}
use Rattle.std.proofs.lemmas.List.Sorted.{Contains-permutation}
use Rattle.std.proofs.lemmas.List.{length-append}
use Rattle.graph_walk.specs.Links.{has, times}
use Rattle.graph_walk.proofs.Marking.{times-append}
use Rattle.graph_walk.proofs.Chains.{has_times, times_has}
use Rattle.graph_walk.proofs.Complete.{split_has}

abbrev pub Among : {X : Type 0} → List X → X → Type 0
Among {X} xs x = (k : ℕ) × (slice_get {X = X} xs k ≡ Some x)

pub none_among : {X : Type 0} (x : X) → Among [] x → ⊥
none_among x a = none-some x a.1

pub later_among : {X : Type 0} (y : X) (xs : List X) (x : X) → Among xs x → Among (y ∷ xs) x
later_among y xs x a = (suc a.0, a.1)

pub among_cases : {X : Type 0} (y : X) (xs : List X) (x : X) → Among (y ∷ xs) x → (y ≡ x) ⊎ Among xs x
among_cases {X} y xs x a = cases a.0 a.1
  where
    cases : (k : ℕ) → slice_get (y ∷ xs) k ≡ Some x → (y ≡ x) ⊎ Among xs x
    cases zero e = inl (same_Some y x e)
    cases (suc k) e = inr (k, e)

pub all_among : {X : Type 0} (P : X → Type 0) (xs : List X) → ((x : X) → Among xs x → P x) → All P xs
all_among P xs h = λ k d l. h (get_or xs k d) (k, slice_get-get_or xs k d l)

pub some_at : {X : Type 0} (xs : List X) (k : ℕ) → k < length xs → (x : X) × (slice_get xs k ≡ Some x)
some_at [] k l = absurd (omega arith)
some_at (x ∷ xs) zero l = (x, refl)
some_at (x ∷ xs) (suc k) l = some_at xs k (omega arith)

pub among-permutation : {X : Type 0} (xs ys : List X) (x : X) → IsPermutation xs ys → Among xs x → Among ys x
among-permutation xs ys x p a =
    let c = Contains-permutation xs ys x p (a.0, slice_get_within xs a.0 x a.1, get_or_from_slice_get xs a.0 x x a.1) in
    (c.0, slice_get-get_or ys c.0 x c.1 ∙ ap Some c.2)

pub among_append_cases : {X : Type 0} (xs ys : List X) (x : X) → Among (xs ++ ys) x → Among xs x ⊎ Among ys x
among_append_cases [] ys x a = inr a
among_append_cases (y ∷ xs) ys x a = elim (among_cases y (xs ++ ys) x a) [
  | inl e ↦ inl (0, ap Some e)
  | inr more ↦ elim (among_append_cases xs ys x more) [ inl l ↦ inl (later_among y xs x l) | inr r ↦ inr r ]
]

-- ---- what a filter keeps

pub among_filtered : {X Y : Type 0} (h : X → Option Y) (xs : List X) (x : X) (y : Y) → Among xs x → h x ≡ Some y
    → Among (filter_map h xs) y
among_filtered h [] x y a e = absurd (none_among x a)
among_filtered {X} {Y} h (z ∷ xs) x y a e =
    elim (among_cases z xs x a) [
      | inl s ↦ front (h z) (ap h s ∙ e)
      | inr more ↦ behind (h z)
          (among_filtered h xs x y more e)
    ]
  where
    front : (o : Option Y) → o ≡ Some y → Among (cons_option o (filter_map h xs)) y
    front None g = absurd (none-some y g)
    front (Some w) g = (0, g)

    behind : (o : Option Y) → Among (filter_map h xs) y → Among (cons_option o (filter_map h xs)) y
    behind None b = b
    behind (Some w) b = later_among w (filter_map h xs) y b

pub filtered_among : {X Y : Type 0} (h : X → Option Y) (xs : List X) (y : Y) → Among (filter_map h xs) y → (x : X)
    × Among xs x × (h x ≡ Some y)
filtered_among h [] y a = absurd (none_among y a)
filtered_among {X} {Y} h (z ∷ xs) y a = step (λ b. filtered_among h xs y b) (h z) refl a
  where
    step : (Among (filter_map h xs) y → (x : X) × Among xs x × (h x ≡ Some y)) → (o : Option Y) → h z ≡ o
        → Among (cons_option o (filter_map h xs)) y → (x : X) × Among (z ∷ xs) x × (h x ≡ Some y)
    step rest None g b = let r = rest b in (r.0, later_among z xs r.0 r.1, r.2)
    step rest (Some w) g b = elim (among_cases w (filter_map h xs) y b) [
      | inl s ↦ (z, (0, refl), g ∙ ap Some s)
      | inr more ↦ (let r = rest more in (r.0, later_among z xs r.0 r.1, r.2))
    ]

abbrev pub bound : {X Y : Type 0} → Option X → (X → Option Y) → Option Y
bound None f = None
bound (Some x) f = f x

pub filtered_twice : {X Y Z : Type 0} (g : X → Option Y) (f : Y → Option Z) (xs : List X)
    → filter_map f (filter_map g xs) ≡ filter_map (λ x. bound (g x) f) xs
filtered_twice g f [] = refl
filtered_twice {X} {Y} {Z} g f (x ∷ xs) = step (g x) (filtered_twice g f xs)
  where
    step : (o : Option Y) → filter_map f (filter_map g xs) ≡ filter_map (λ z. bound (g z) f) xs
        → filter_map f (cons_option o (filter_map g xs)) ≡ cons_option (bound o f) (filter_map (λ z. bound (g z) f) xs)
    step None e = e
    step (Some y) e = ap (cons_option (f y)) e

-- ---- numbers

pub has_among : (xs : List ℕ) (k : ℕ) → has xs k ≡ true → Among xs k
has_among [] k h = absurd (false≢true h)
has_among (x ∷ xs) k h = elim (or_cases (x == k) (has xs k) h)
    [ inl s ↦ (0, ap Some (eqb-true x k s)) | inr more ↦ later_among x xs k (has_among xs k more) ]

pub among_has : (xs : List ℕ) (k : ℕ) → Among xs k → has xs k ≡ true
among_has [] k a = absurd (none_among k a)
among_has (x ∷ xs) k a = elim (among_cases x xs k a) [
  | inl e ↦ or_left (x == k) (has xs k) (eq-eqb x k e)
  | inr more ↦ or_right (x == k) (has xs k) (among_has xs k more)
]

-- ---- tests

pub any_among : {X : Type 0} (p : X → Bool) (xs : List X) (x : X) → Among xs x → p x ≡ true → list_any p xs ≡ true
any_among p [] x a e = absurd (none_among x a)
any_among p (y ∷ xs) x a e = elim (among_cases y xs x a) [
  | inl s ↦ or_left (p y) (list_any p xs) (ap p s ∙ e)
  | inr more ↦ or_right (p y) (list_any p xs)
      (any_among p xs x more e)
]

pub among-map : {X Y : Type 0} (f : X → Y) (xs : List X) (x : X) → Among xs x → Among (map f xs) (f x)
among-map f [] x a = absurd (none_among x a)
among-map f (y ∷ xs) x a = elim (among_cases y xs x a)
    [ inl s ↦ (0, ap (λ z. Some (f z)) s) | inr more ↦ later_among (f y) (map f xs) (f x) (among-map f xs x more) ]

pub map_among : {X Y : Type 0} (f : X → Y) (xs : List X) (y : Y) → Among (map f xs) y → (x : X) × Among xs x × (f x ≡ y)
map_among f [] y a = absurd (none_among y a)
map_among f (x ∷ xs) y a = elim (among_cases (f x) (map f xs) y a)
    [ inl s ↦ (x, (0, refl), s) | inr more ↦ (let r = map_among f xs y more in (r.0, later_among x xs r.0 r.1, r.2)) ]

pub filtered_length : {X Y : Type 0} (h : X → Option Y) (xs : List X) → length (filter_map h xs) ≤ length xs
filtered_length h [] = omega arith
filtered_length {X} {Y} h (x ∷ xs) = step (h x) (filtered_length h xs)
  where
    step : (o : Option Y) → length (filter_map h xs) ≤ length xs
        → length (cons_option o (filter_map h xs)) ≤ suc (length xs)
    step None l = omega arith
    step (Some y) l = omega arith

-- ---- numbers that are below another, each once

below : (xs : List ℕ) (n : ℕ) → ((k : ℕ) → has xs k ≡ true → k < suc n) → has xs n ≡ false → (k : ℕ) → has xs k ≡ true
    → k < n
below xs n h none k e = elim (cases_lt k n) [
  | inl l ↦ l
  | inr g ↦ absurd (false≢true
      (sym none ∙ (let s = h k e in let q : k ≡ n = omega arith in ap (has xs) (sym q) ∙ e)))
]

pub few_below : (n : ℕ) (xs : List ℕ) → ((k : ℕ) → times xs k ≤ 1) → ((k : ℕ) → has xs k ≡ true → k < n) → length xs ≤ n
few_below zero [] once h = omega arith
few_below zero (x ∷ xs) once h = absurd (let l = h x (or_left (x == x) (has xs x) (eq-eqb x x refl)) in
    omega (arith, l))
few_below (suc n) xs once h = elim (cases_Bool (has xs n)) [
  | inr none ↦ (let l = few_below n xs once (below xs n h none) in omega (arith, l))
  | inl some ↦ taken (split_has xs n some) (λ ys. few_below n ys)
]
  where
    fewer : (t u : ℕ) → t ≡ u → t ≤ 1 → u ≤ 1
    fewer t u e l = omega arith

    taken : ((a : List ℕ) × (b : List ℕ) × (xs ≡ a ++ n ∷ b))
        → ((ys : List ℕ) → ((k : ℕ) → times ys k ≤ 1) → ((k : ℕ) → has ys k ≡ true → k < n) → length ys ≤ n)
        → length xs ≤ suc n
    taken p more =
        let a = p.0 in
        let b = p.1 in
        let sums : (k : ℕ) → times xs k ≡ times (a ++ b) k + cond (n == k) 1 0 =
        λ k. (let s : times xs k ≡ times a k + (cond {A = ℕ} (n == k) 1 0 + times b k) =
        ap (λ (zs : List ℕ). times zs k) p.2 ∙ times-append a (n ∷ b) k in let t = times-append a b k in
        omega (arith, s, t)) in
        let here : cond {A = ℕ} (n == n) 1 0 ≡ 1 = ap (λ (c : Bool). cond c 1 0) (eq-eqb n n refl) in
        let gone : has (a ++ b) n ≡ false = elim (cases_Bool (has (a ++ b) n)) [
          | inr q ↦ q
          | inl q ↦ absurd (let t = times_has (a ++ b) n q in let s = sums n in let o = once n in
              omega (arith, t, s, o, here))
        ] in
        let l = more (a ++ b) (λ k. let s = sums k in let o = once k in omega (arith, s, o))
        (below (a ++ b) n (λ k e. h k (has_times xs k
        (let t = times_has (a ++ b) k e in let s = sums k in omega (arith, t, s)))) gone) in
        let m = length-append a b in
        let w : length xs ≡ length a + suc (length b) = ap (λ (zs : List ℕ). length zs) p.2 ∙ length-append a (n ∷ b) in
        omega (arith, l, m, w)
