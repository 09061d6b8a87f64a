-- The places of nodes in the order of the jobs.
use Rattle.std.proofs.Common.{◌≡◌, ◌<◌, ℕ, ◌+◌, cond, ◌==◌, List, [], ◌∷◌, length, take, drop, ◌++◌, get_or, set, replicate, refl, sym, ap, subst, ◌∙◌, inl, inr, arith, Bool, true, false, Option, Some, None, All}
use Rattle.std.specs.List.{filter_map, cons_option}
use Rattle.std.specs.Option.{is_none}
use Rattle.std.proofs.lemmas.Bool.{cases_eq, cases_lt, ne_eqb, false≢true}
use Rattle.std.proofs.lemmas.List.{get_or-set_same, get_or-set_other, get_or-replicate, get_or_past, length-replicate, take_all, drop_all, append-nil}
use Rattle.std.proofs.Common.{eq-eqb, ◌≤◌}
use Rattle.m2_graph.specs.Jobs.{number_of, numbers_of, place_of, ArePlaces, ArePlacesBelow}
use Rattle.graph_walk.specs.Links.{AreEachOnce}
use Rattle.m2_graph.specs.Parts.{or_first}
use Rattle.m2_graph.proofs.Importing.{all_filtered, first_within}
use Rattle.m2_graph.proofs.Tables.{first_more}

or_none : (o : Option ℕ) → o ≡ or_first o None
or_none None = refl
or_none (Some k) = refl

or_some : (o n : Option ℕ) → is_none o ≡ false → o ≡ or_first o n
or_some None n e = absurd (false≢true (sym e))
or_some (Some k) n e = refl

is_nothing : (o : Option ℕ) → is_none o ≡ true → o ≡ None
is_nothing None e = refl
is_nothing (Some k) e = absurd (false≢true e)

not_there : (b : Bool) (o n : Option ℕ) → b ≡ false → o ≡ or_first o (cond b n None)
not_there true o n e = absurd (false≢true (sym e))
not_there false o n e = or_none o

there : (b : Bool) (o n : Option ℕ) → b ≡ true → o ≡ None → n ≡ or_first o (cond b n None)
there true o n e h = ap (λ x. or_first x n) (sym h)
there false o n e h = absurd (false≢true e)

pub place_put : (places : List (Option ℕ)) (node number : ℕ) → node < length places
    → is_none (place_of places node) ≡ true → (k : ℕ)
    → place_of (set places node (Some number)) k ≡ or_first (place_of places k) (cond (node == k) (Some number) None)
place_put places node number l e k = elim (cases_eq node k) [ inl is ↦ is_so is | inr ne ↦ not_so ne ]
  where
    is_so : node ≡ k → place_of (set places node (Some number)) k
        ≡ or_first (place_of places k) (cond (node == k) (Some number) None)
    is_so is = subst (λ (j : ℕ). place_of (set places node (Some number)) j
        ≡ or_first (place_of places j) (cond (node == j) (Some number) None)) is
        (get_or-set_same places node (Some number) None l
        ∙ there (node == node) (place_of places node) (Some number) (eq-eqb node node refl)
        (is_nothing (place_of places node) e))

    not_so : (node ≡ k → ⊥) → place_of (set places node (Some number)) k
        ≡ or_first (place_of places k) (cond (node == k) (Some number) None)
    not_so ne = get_or-set_other places node k (Some number) None (λ e. ne (sym e))
        ∙ not_there (node == k) (place_of places k) (Some number) (ne_eqb node k ne)

pub place_stays : (places : List (Option ℕ)) (node number : ℕ) → is_none (place_of places node) ≡ false → (k : ℕ)
    → place_of places k ≡ or_first (place_of places k) (cond (node == k) (Some number) None)
place_stays places node number e k = elim (cases_eq node k) [
  | inl is ↦ or_some (place_of places k) (cond (node == k) (Some number) None)
      (ap (λ j. is_none (place_of places j)) (sym is) ∙ e)
  | inr ne ↦ not_there (node == k) (place_of places k)
      (Some number) (ne_eqb node k ne)
]

pub no_place : (n k : ℕ) → place_of (replicate n None) k ≡ None
no_place n k = elim (cases_lt k n) [
  | inl l ↦ get_or-replicate n k None None l
  | inr g ↦ get_or_past (replicate n None) k
      None (subst (λ (m : ℕ). m ≤ k) (sym (length-replicate n None)) g)
]

pub places_more : (order : List ℕ) (i : ℕ) (before after : ℕ → Option ℕ) → i < length order
    → ((k : ℕ) → before k ≡ number_of (take i order) k)
    → ((k : ℕ) → after k ≡ or_first (before k) (cond (get_or order i 0 == k) (Some i) None)) → (k : ℕ)
    → after k ≡ number_of (take (i + 1) order) k
places_more order i before after l h1 h2 k = h2 k
    ∙ ap (λ o. or_first o (cond (get_or order i 0 == k) (Some i) None)) (h1 k)
    ∙ sym (first_more (λ one. one == k) order i 0 l)

back_whole : (flags items : List (Option ℕ)) (n : ℕ) → length flags ≡ n → length items ≡ n
    → take n (flags ++ drop (length flags) items) ≡ flags
back_whole flags items n e1 e2 = ap (λ (xs : List (Option ℕ)). take n (flags ++ xs))
    (drop_all (length flags) items (omega arith)) ∙ ap (λ (xs : List (Option ℕ)). take n xs) (append-nil flags)
    ∙ take_all n flags (omega arith)

pub places_next : (order : List ℕ) (i n len : ℕ) (items now new : List (Option ℕ)) → i < length order → now ≡ items
    → length items ≡ len → (length items ≡ n) × ((k : ℕ) → place_of items k ≡ number_of (take i order) k)
    → length new ≡ length now → ((k : ℕ) → place_of new k
    ≡ or_first (place_of now k) (cond (get_or order i 0 == k) (Some i) None)) →
    (length (take len (new ++ drop (length new) items)) ≡ n)
    × ((k : ℕ) → place_of (take len (new ++ drop (length new) items)) k ≡ number_of (take (i + 1) order) k)
places_next order i n len items now new l e1 e2 h e3 puts =
    let same : length new ≡ len = e3 ∙ ap length e1 ∙ e2 in
    let back : take len (new ++ drop (length new) items) ≡ new = back_whole new items len same e2 in (
      ap length back ∙ same ∙ sym e2 ∙ h.0,
      (λ k. ap (λ (xs : List (Option ℕ)). place_of xs k) back
          ∙ places_more order i (place_of now) (place_of new) l
          (λ j. ap (λ (xs : List (Option ℕ)). place_of xs j) e1 ∙ h.1 j) puts k),
    )

pub places_whole : (order : List ℕ) (i : ℕ) (places : List (Option ℕ)) → length order ≤ i
    → ((k : ℕ) → place_of places k ≡ number_of (take i order) k) → ArePlaces order places
places_whole order i places g h k = h k ∙ ap (λ (xs : List ℕ). number_of xs k) (take_all i order g)

same_numbers : (f g : ℕ → Option ℕ) → ((k : ℕ) → f k ≡ g k) → (xs : List ℕ) → filter_map f xs ≡ filter_map g xs
same_numbers f g e [] = refl
same_numbers f g e (x ∷ xs) = ap (λ o. cons_option o (filter_map f xs)) (e x)
    ∙ ap (cons_option (g x)) (same_numbers f g e xs)

pub job_by_places : (order : List ℕ) (places : List (Option ℕ)) (nodes job : List ℕ) → ArePlaces order places
    → AreEachOnce job (filter_map (place_of places) nodes) → AreEachOnce job (numbers_of order nodes)
job_by_places order places nodes job h each =
    subst (λ (xs : List ℕ). AreEachOnce job xs) (same_numbers (place_of places) (number_of order) h nodes) each

pub places_below : (order : List ℕ) (places borrowed : List (Option ℕ)) (n : ℕ) → ArePlaces order places
    → borrowed ≡ places → length order ≤ n → ArePlacesBelow n borrowed
places_below order places borrowed n h e l node k s = let w =
    first_within (λ one. one == node) order k
    (sym (h node) ∙ ap (λ (ps : List (Option ℕ)). place_of ps node) (sym e) ∙ s) in omega (arith, w)

pub numbers_below : (places : List (Option ℕ)) (nodes numbers borrowed : List ℕ) (n : ℕ) → ArePlacesBelow n places
    → numbers ≡ filter_map (place_of places) nodes → borrowed ≡ numbers → All (λ k. k < n) borrowed
numbers_below places nodes numbers borrowed n h e e2 =
    subst (All (λ k. k < n)) (sym (e2 ∙ e)) (all_filtered (place_of places) (λ k. k < n) (λ node k s. h node k s) nodes)
