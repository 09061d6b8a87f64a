-- Lists of numbers that are exchanged, and the first place of a number.
use Rattle.std.proofs.Common.{◌≡◌, ◌<◌, ◌≤◌, ℕ, zero, suc, Bool, true, false, cond, ◌||◌, ◌==◌, List, [], ◌∷◌, map, refl, sym, ap, ap₂, ◌∙◌, inl, inr, arith, Option, Some, None, eq-eqb}
use Rattle.std.specs.Prelude.{slice_get}
use Rattle.std.specs.Option.{option_map, is_some}
use Rattle.std.proofs.lemmas.Bool.{false≢true, cases_eq, cases_lt, ne_eqb}
use Rattle.std.proofs.lemmas.Option.{none-some, same_Some}
use Rattle.graph_walk.specs.Links.{unless}
use Rattle.pool_board.specs.Graph.{prerequisites_of}
use Rattle.pool_board.specs.Results.{with_item, items_at, results_below}
use Rattle.pool_board.proofs.Resulting.{get_last, get_before, results-length}
use Rattle.m2_graph.specs.Imports.{first_that}
use Rattle.m2_graph.specs.Jobs.{number_of}
use Rattle.law_graph.proofs.Lists.{Among, later_among}
use Rattle.law_graph.proofs.Passing.{some_that, none_that}

-- ---- each once

module _ (f : ℕ → ℕ) (one : (a b : ℕ) → f a ≡ f b → a ≡ b) where
  same_test : (a b : ℕ) → (f a == f b) ≡ (a == b)
  same_test a b = elim (cases_eq a b) [
    | inl s ↦ eq-eqb (f a) (f b) (ap f s) ∙ sym (eq-eqb a b s)
    | inr ne ↦ ne_eqb (f a) (f b) (λ e. ne (one a b e)) ∙ sym (ne_eqb a b ne)
  ]

  pub unless_mapped : (marked moved : ℕ → Bool) → ((k : ℕ) → moved (f k) ≡ marked k) → (xs : List ℕ)
      → unless moved (map f xs) ≡ map f (unless marked xs)
  unless_mapped marked moved h [] = refl
  unless_mapped marked moved h (x ∷ xs) =
      by (unless_mapped marked moved h xs)
      (unless_mapped (λ k. marked k || (x == k)) (λ k. moved k || (f x == k))
      (λ k. ap₂ (λ (b c : Bool). b || c) (h k) (same_test x k)) xs)
      (moved (f x)) (marked x) (h x)
    where
      by : unless moved (map f xs) ≡ map f (unless marked xs)
          → unless (λ k. moved k || (f x == k)) (map f xs) ≡ map f (unless (λ k. marked k || (x == k)) xs)
          → (c b : Bool) → c ≡ b
          → cond c (unless moved (map f xs)) (f x ∷ unless (λ k. moved k || (f x == k)) (map f xs))
          ≡ map f (cond b (unless marked xs) (x ∷ unless (λ k. marked k || (x == k)) xs))
      by out kept true true e = out
      by out kept false false e = ap (λ (ks : List ℕ). f x ∷ ks) kept
      by out kept true false e = absurd (false≢true (sym e))
      by out kept false true e = absurd (false≢true e)

-- ---- what is picked

pub picked_mapped : {X : Type 0} (f : ℕ → ℕ) (g : X → X) (xs ys : List X) (ps : List ℕ)
    → ((p : ℕ) → Among ps p → slice_get ys (f p) ≡ option_map g (slice_get xs p))
    → items_at ys (map f ps) ≡ map g (items_at xs ps)
picked_mapped f g xs ys [] h = refl
picked_mapped {X} f g xs ys (p ∷ ps) h =
    ap₂ (λ (o : Option X) (zs : List X). with_item o zs) (h p (0, refl))
    (picked_mapped f g xs ys ps (λ q a. h q (later_among p ps q a)))
    ∙ by (slice_get xs p)
  where
    by : (o : Option X) → with_item (option_map g o) (map g (items_at xs ps)) ≡ map g (with_item o (items_at xs ps))
    by None = refl
    by (Some x) = refl

pub same_picked : {X : Type 0} (xs ys : List X) (ps : List ℕ)
    → ((p : ℕ) → Among ps p → slice_get xs p ≡ slice_get ys p) → items_at xs ps ≡ items_at ys ps
same_picked xs ys [] h = refl
same_picked {X} xs ys (p ∷ ps) h = ap₂ (λ (o : Option X) (zs : List X). with_item o zs) (h p (0, refl))
    (same_picked xs ys ps (λ q a. h q (later_among p ps q a)))

-- ---- results

module _ {X : Type 0} (graph : List (List ℕ)) (defined : ℕ → List X → X) where
  -- later results change no earlier one
  pub picked_before : (n m j : ℕ) → j < n → n ≤ m
      → slice_get (results_below graph defined m) j ≡ slice_get (results_below graph defined n) j
  picked_before n zero j l g = absurd (omega (arith, l, g))
  picked_before n (suc m) j l g = elim (cases_eq n (suc m)) [
    | inl e ↦ ap (λ (k : ℕ). slice_get (results_below graph defined k) j) (sym e)
    | inr ne ↦ (let s : n ≤ m = less n m g ne in
        let long = results-length graph defined m in
        get_before (results_below graph defined m)
        (defined m (items_at (results_below graph defined m) (prerequisites_of graph m)) ∷ []) j
        (omega (arith, l, s, long)) ∙ picked_before n m j l s)
  ]
    where
      less : (n m : ℕ) → n ≤ suc m → (n ≡ suc m → ⊥) → n ≤ m
      less n m g ne = elim (cases_lt n (suc m)) [ inl l ↦ omega (arith, l) | inr h ↦ absurd (ne (omega (arith, g, h))) ]

  pub result_below : (j m : ℕ) → j < m
      → slice_get (results_below graph defined m) j
      ≡ Some (defined j (items_at (results_below graph defined j) (prerequisites_of graph j)))
  result_below j m l =
      picked_before (suc j) m j (omega arith) (omega (arith, l))
      ∙ get_last (results_below graph defined j)
      (defined j (items_at (results_below graph defined j) (prerequisites_of graph j))) j
      (sym (results-length graph defined j))

-- ---- places

-- A number that is there has a first place.
pub first_place : (xs : List ℕ) (k : ℕ) → Among xs k → (j : ℕ) × (number_of xs k ≡ Some j)
first_place xs k a = some_that (λ one. one == k) xs (by (is_some (first_that (λ one. one == k) xs)) refl)
  where
    by : (b : Bool) → is_some (first_that (λ one. one == k) xs) ≡ b → b ≡ true
    by true e = refl
    by false e = absurd (false≢true (sym (none_that (λ one. one == k) xs k e a) ∙ eq-eqb k k refl))

pub mapped_at : (g : ℕ → ℕ) (xs : List ℕ) (j k : ℕ) → slice_get (map g xs) j ≡ Some k → (n : ℕ)
    × (slice_get xs j ≡ Some n) × (g n ≡ k)
mapped_at g [] j k e = absurd (none-some k e)
mapped_at g (x ∷ xs) zero k e = (x, refl, same_Some (g x) k e)
mapped_at g (x ∷ xs) (suc j) k e = mapped_at g xs j k e

-- What stands at the first place of what a number goes to stands there for the first time.
pub first_mapped : (g : ℕ → ℕ) (xs : List ℕ) (place j n : ℕ) → number_of (map g xs) place ≡ Some j
    → slice_get xs j ≡ Some n → g n ≡ place → number_of xs n ≡ Some j
first_mapped g [] place j n e at goes = absurd (none-some j e)
first_mapped g (x ∷ xs) place j n e at goes = by (λ i. first_mapped g xs place i n) (g x == place) refl j e at
  where
    later : ((i : ℕ) → number_of (map g xs) place ≡ Some i → slice_get xs i ≡ Some n → g n ≡ place
        → number_of xs n ≡ Some i) → (g x == place) ≡ false → (o : Option ℕ) → number_of (map g xs) place ≡ o → (j : ℕ)
        → option_map suc o ≡ Some j → slice_get (x ∷ xs) j ≡ Some n → number_of (x ∷ xs) n ≡ Some j
    later rest q None r j e at = absurd (none-some j e)
    later rest q (Some i) r j e at =
        let s : suc i ≡ j = same_Some (suc i) j e in
        let behind : slice_get xs i ≡ Some n = ap (slice_get (x ∷ xs)) s ∙ at in
        let other : (x == n) ≡ false = ne_eqb x n
        (λ t. false≢true (sym q ∙ eq-eqb (g x) place (ap g t ∙ goes))) in
        ap (λ (c : Bool). cond c (Some 0) (option_map suc (number_of xs n))) other
        ∙ ap (λ (o : Option ℕ). option_map suc o) (rest i r behind goes) ∙ ap Some s

    by : ((i : ℕ) → number_of (map g xs) place ≡ Some i → slice_get xs i ≡ Some n → g n ≡ place
        → number_of xs n ≡ Some i) → (b : Bool) → (g x == place) ≡ b → (j : ℕ)
        → cond b (Some 0) (option_map suc (number_of (map g xs) place)) ≡ Some j → slice_get (x ∷ xs) j ≡ Some n
        → number_of (x ∷ xs) n ≡ Some j
    by rest true q j e at =
        let s : 0 ≡ j = same_Some 0 j e in
        let t : x ≡ n = same_Some x n (ap (slice_get (x ∷ xs)) s ∙ at) in
        ap (λ (c : Bool). cond c (Some 0) (option_map suc (number_of xs n))) (eq-eqb x n t) ∙ ap Some s
    by rest false q j e at = later rest q (number_of (map g xs) place) refl j e at
