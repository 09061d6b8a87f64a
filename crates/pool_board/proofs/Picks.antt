-- Results picked one by one, and edges counted one by one.
use Rattle.std.proofs.Common.{◌≡◌, ◌≢◌, ℕ, eqb, ◌&&◌, zero, suc, ◌+◌, ◌<◌, ◌≤◌, List, [], ◌∷◌, ◌++◌, length, get_or, take, map, refl, sym, ap, ◌∙◌, subst, ⊎_elim, arith, Some, None, Option}
use Rattle.std.proofs.lemmas.Bool.{cases_eq, cases_lt}
use Rattle.std.proofs.lemmas.List.{take_more}
use Rattle.std.specs.Prelude.{slice_get, MatchResult, Result, Ok, Err}
use mathlib.Core.List.{map-append}
use Rattle.pool_board.specs.Lists.{times}
use Rattle.pool_board.specs.Graph.{prerequisites_of, targets_of}
use Rattle.pool_board.specs.declared.rule.Counted.{Counted}
use Rattle.pool_board.specs.Rule.{count_of_edge, AreCounted}
use Rattle.pool_board.specs.Steps.{count_of}
use Rattle.pool_board.proofs.Weights.{weigh-push}
use Rattle.pool_board.proofs.Consistent.{bit, one_if, one_if_both}
use Rattle.pool_board.specs.Results.{with_item, items_at, IsRan, IsMade}

pub picked_push : {X : Type 0} (xs : List X) (ps : List ℕ) (p : ℕ) (x : X) → slice_get xs p ≡ Some x
    → items_at xs (ps ++ p ∷ []) ≡ items_at xs ps ++ x ∷ []
picked_push xs [] p x is = ap (λ o. with_item o []) is
picked_push {X} xs (q ∷ qs) p x is = ap (with_item (slice_get xs q)) (picked_push xs qs p x is)
    ∙ with_append (slice_get xs q) (items_at xs qs) (x ∷ []) where
      with_append : (o : Option X) (front bs : List X) → with_item o (front ++ bs) ≡ with_item o front ++ bs
      with_append None front bs = refl
      with_append (Some a) front bs = refl

pub picked_more : {X : Type 0} (xs : List X) (ps : List ℕ) (i : ℕ) (x : X) → i < length ps
    → slice_get xs (get_or ps i 0) ≡ Some x → items_at xs (take (i + 1) ps) ≡ items_at xs (take i ps) ++ x ∷ []
picked_more xs ps i x l is = ap (items_at xs) (take_more ps i 0 l) ∙ picked_push xs (take i ps) (get_or ps i 0) x is

-- an edge above the one that was counted
pub still_fresh : (job edge left e : ℕ) (counts : List Counted) → edge + 1 ≤ e → count_of_edge job e counts ≡ 0
    → count_of_edge job e (counts ++ count_of job edge left ∷ []) ≡ 0
still_fresh job edge left e counts more fresh = ⊎_elim
    (λ (t : (job ≡ job) × (edge ≡ e) × (bit (eqb job job && eqb edge e) ≡ 1)). let same : edge ≡ e = t.1 in
    absurd (omega arith))
    (λ (t : ((job ≡ job) → (edge ≡ e) → ⊥) × (bit (eqb job job && eqb edge e) ≡ 0)). let off : bit
    (eqb job job && eqb edge e) ≡ 0 = t.1 in
    omega (arith, weigh-push (λ d. bit (eqb d.from job && eqb d.edge e)) counts (count_of job edge left)))
    (one_if_both job job edge e)

-- the edge that was counted, and those before it
pub now_counted : (job edge left e : ℕ) (counts : List Counted) → e < edge + 1
    → (e < edge → count_of_edge job e counts ≡ 1) → (edge ≤ e → count_of_edge job e counts ≡ 0)
    → count_of_edge job e (counts ++ count_of job edge left ∷ []) ≡ 1
now_counted job edge left e counts l before fresh = ⊎_elim
    (λ (t : (job ≡ job) × (edge ≡ e) × (bit (eqb job job && eqb edge e) ≡ 1)). let same : edge ≡ e = t.1 in
    let one : bit (eqb job job && eqb edge e) ≡ 1 = t.2 in
    let none : count_of_edge job e counts ≡ 0 = fresh (omega arith) in
    omega (arith, weigh-push (λ d. bit (eqb d.from job && eqb d.edge e)) counts (count_of job edge left)))
    (λ (t : ((job ≡ job) → (edge ≡ e) → ⊥) × (bit (eqb job job && eqb edge e) ≡ 0)). let off : bit
    (eqb job job && eqb edge e) ≡ 0 = t.1 in
    ⊎_elim
    (λ (low : e < edge). let one : count_of_edge job e counts ≡ 1 = before low in
    omega (arith, weigh-push (λ d. bit (eqb d.from job && eqb d.edge e)) counts (count_of job edge left)))
    (λ (high : edge ≤ e). absurd (t.0 refl (omega arith)))
    (cases_lt e edge))
    (one_if_both job job edge e)

-- an edge of another job
pub other_counted : (job edge left from e : ℕ) (counts : List Counted) → from ≢ job
    → count_of_edge from e (counts ++ count_of job edge left ∷ []) ≡ count_of_edge from e counts
other_counted job edge left from e counts ne = ⊎_elim
    (λ (t : (job ≡ from) × (edge ≡ e) × (bit (eqb job from && eqb edge e) ≡ 1)). absurd (ne (sym t.0)))
    (λ (t : ((job ≡ from) → (edge ≡ e) → ⊥) × (bit (eqb job from && eqb edge e) ≡ 0)). let off : bit
    (eqb job from && eqb edge e) ≡ 0 = t.1 in
    omega (arith, weigh-push (λ d. bit (eqb d.from from && eqb d.edge e)) counts (count_of job edge left)))
    (one_if_both job from edge e)

-- the edges of no job
pub none_counted : (graph : List (List ℕ)) (had : List ℕ) (counts : List Counted) → had ≡ []
    → AreCounted graph had counts
none_counted graph had counts is job edge l low =
    absurd (let none : times job had ≡ 0 = ap (times job) is in omega (arith, l, none))

-- the edges of one job more
pub more_counted : (graph : List (List ℕ)) (job : ℕ) (had had' : List ℕ) (before counts : List Counted)
    → had' ≡ had ++ job ∷ [] → AreCounted graph had before
    → ((edge : ℕ) → edge < length (targets_of graph job) → count_of_edge job edge counts ≡ 1)
    → ((from edge : ℕ) → from ≢ job → count_of_edge from edge counts ≡ count_of_edge from edge before)
    → AreCounted graph had' counts
more_counted graph job had had' before counts is old new others from edge l low = ⊎_elim
    (λ (e : from ≡ job). subst (λ (k : ℕ). edge < length (targets_of graph k) → count_of_edge k edge counts ≡ 1) (sym e)
    (new edge) low)
    (λ (ne : from ≢ job). others from edge ne ∙ old from edge (one_less ne) low)
    (cases_eq from job)
  where
    one_less : from ≢ job → 0 < times from had
    one_less ne = ⊎_elim
        (λ (t : (job ≡ from) × (bit (eqb job from) ≡ 1)). absurd (ne (sym t.0)))
        (λ (t : (job ≢ from) × (bit (eqb job from) ≡ 0)). let off : bit (eqb job from) ≡ 0 = t.1 in
        let all = ap (times from) is in omega (arith, l, all, weigh-push (λ y. bit (eqb y from)) had job))
        (one_if job from)

pub get_in : {X : Type 0} (xs : List X) (i : ℕ) (d : X) → i < length xs → slice_get xs i ≡ Some (get_or xs i d)
get_in [] i d l = absurd (omega arith)
get_in (x ∷ xs) zero d l = refl
get_in (x ∷ xs) (suc i) d l = get_in xs i d (omega arith)

get_past : {X : Type 0} (xs : List X) (i : ℕ) → length xs ≤ i → slice_get xs i ≡ None
get_past [] i l = refl
get_past (x ∷ xs) zero l = absurd (omega arith)
get_past (x ∷ xs) (suc i) l = get_past xs i (omega arith)

-- a place past the end gives no item
picked_push_none : {X : Type 0} (xs : List X) (ps : List ℕ) (p : ℕ) → slice_get xs p ≡ None
    → items_at xs (ps ++ p ∷ []) ≡ items_at xs ps
picked_push_none xs [] p is = ap (λ o. with_item o []) is
picked_push_none xs (q ∷ qs) p is = ap (with_item (slice_get xs q)) (picked_push_none xs qs p is)

pub picked_past : {X : Type 0} (xs : List X) (ps : List ℕ) (i : ℕ) → i < length ps → length xs ≤ get_or ps i 0
    → items_at xs (take (i + 1) ps) ≡ items_at xs (take i ps)
picked_past xs ps i l past = ap (items_at xs) (take_more ps i 0 l)
    ∙ picked_push_none xs (take i ps) (get_or ps i 0) (get_past xs (get_or ps i 0) past)

-- an item, seen by f
pub seen_at : {A B : Type 0} (f : A → B) (xs : List A) (i : ℕ) (x : A) → i < length xs → x ≡ get_or xs i x
    → slice_get (map f xs) i ≡ Some (f x)
seen_at f [] i x l is = absurd (omega arith)
seen_at f (y ∷ ys) zero x l is = ap (λ v. Some (f v)) (sym is)
seen_at f (y ∷ ys) (suc i) x l is = seen_at f ys i x (omega arith) is

-- one more item in each of two lists
pub both_more : {A B C : Type 0} (f : A → C) (g : B → C) (xs xs' : List A) (ys ys' : List B) (x : A) (y : B)
    → xs' ≡ xs ++ x ∷ [] → ys' ≡ ys ++ y ∷ [] → map f xs ≡ map g ys → f x ≡ g y → map f xs' ≡ map g ys'
both_more f g xs xs' ys ys' x y is is' same here =
    ap (map f) is
    ∙ (map-append f xs (x ∷ [])
    ∙ (ap (λ l. l ++ f x ∷ []) same
    ∙ (ap (λ v. map g ys ++ v ∷ []) here
    ∙ (sym (map-append g ys (y ∷ [])) ∙ sym (ap (map g) is')))))

-- the cells of one more job
pub cells_more : {N : Type 0} (cell_of : N → ℕ) (names jobs : List ℕ) (notes notes' : List N) (i : ℕ) (note : N)
    → i < length jobs → notes' ≡ notes ++ note ∷ [] → map cell_of notes ≡ items_at names (take i jobs)
    → slice_get names (get_or jobs i 0) ≡ Some (cell_of note) → map cell_of notes' ≡ items_at names (take (i + 1) jobs)
cells_more cell_of names jobs notes notes' i note l is before here =
    ap (map cell_of) is
    ∙ (map-append cell_of notes (note ∷ [])
    ∙ (ap (λ l. l ++ cell_of note ∷ []) before ∙ sym (picked_more names jobs i (cell_of note) l here)))

pub in_some : {A B : Type 0} (f : A → B) (xs : List A) → map (λ x. Some (f x)) xs ≡ map Some (map f xs)
in_some f [] = refl
in_some f (x ∷ xs) = ap (λ l. Some (f x) ∷ l) (in_some f xs)

pub each_result : {A B : Type 0} (r : Result A B) (P P' : A → Type 0) (Q Q' : B → Type 0) → ((x : A) → P x → P' x)
    → ((y : B) → Q y → Q' y) → MatchResult r P Q → MatchResult r P' Q'
each_result (Ok x) P P' Q Q' f g p = f x p
each_result (Err y) P P' Q Q' f g q = g y q

-- what was published of a job that was run
pub ran_is : {X : Type 0} (names : List ℕ) (graph : List (List ℕ)) (defines : ℕ → List X → X → Type 0)
    (job job' cell : ℕ) (known : Option X) (used : List ℕ) (used_known : List (Option X)) (outs : List X) (x : X)
    → job' ≡ job
    → slice_get names job ≡ Some cell → used ≡ items_at names (prerequisites_of graph job) → used_known ≡ map Some outs
    → known ≡ Some x → defines job outs x
    → IsRan names graph defines job' cell known used used_known
ran_is names graph defines job job' cell known used used_known outs x same cell_is used_are outs_are x_is defined =
    let here : IsRan names graph defines job cell known used used_known =
    record {
      cell_is = cell_is;
      used_are = used_are;
      outs = outs;
      x = x;
      outs_are = outs_are;
      x_is = x_is;
      defined =
          defined;
    } in
    let P : ℕ → Type 0 = λ j. IsRan names graph defines j cell known used used_known in
    subst P (sym same) here

-- and where it was handed back
pub made_is : {X : Type 0} (names : List ℕ) (graph : List (List ℕ)) (defines : ℕ → List X → X → Type 0) (job job' : ℕ)
    (x out : X) (used : List ℕ) (used_known : List (Option X)) (outs : List X) → job' ≡ job → x ≡ out
    → used ≡ items_at names (prerequisites_of graph job) → used_known ≡ map Some outs → defines job outs out
    → IsMade names graph defines job' x used used_known
made_is {X} names graph defines job job' x out used used_known outs same x_is used_are outs_are defined =
    let here : IsMade names graph defines job out used used_known =
    record { used_are = used_are; outs = outs; outs_are = outs_are; defined = defined } in
    let P : ℕ → Type 0 = λ j. IsMade names graph defines j x used used_known in
    let Q : X → Type 0 = λ y. IsMade names graph defines job y used used_known in
    subst P (sym same) (subst Q (sym x_is) here)
