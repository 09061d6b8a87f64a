-- Refusals in order, as what is reported.
use Rattle.std.proofs.Common.{◌≡◌, ℕ, ◌+◌, Bool, true, false, not, ◌&&◌, cond, List, [], ◌∷◌, length, refl, sym, ap, subst, ◌∙◌, arith}
use Rattle.std.specs.Prelude.{map, slice_index_or}
use Rattle.std.specs.List.{filter, list_any}
use Rattle.std.specs.List.Sorted.{IsSortedBy, IsStableBy, ties}
use Rattle.std.specs.declared.cmp.Ordering.{Ordering}
use Rattle.std.specs.declared.cmp.Ordering.TheVariants.{Less, Equal, Greater}
use Rattle.std.specs.Ordering.{ordering_reverse}
use Rattle.std.proofs.lemmas.Cmp.{nat_list_cmp_total}
use Rattle.std.proofs.lemmas.Map.Lookups.{exact_bytes}
use Rattle.std.specs.Ordering.{nat_cmp, is_lt}
use Rattle.std.specs.Cmp.Lexicographic.{slice_cmp}
use Rattle.std.proofs.lemmas.List.{get_or-map as mapped_at, length-map}
use Rattle.std.proofs.lemmas.List.Sorted.{list_any-IsPermutation}
use Rattle.m2_tree.specs.declared.refusal.Refusal.{Refusal}
use Rattle.law_graph.proofs.Sorting.{by_key, one_stable_sort}
use Rattle.build_results.specs.Order.{AreInOrder}
use Rattle.build_results.specs.Reported.{Reported, report_of, AreReported}

-- the file of the first is less
abbrev pub ranks : Reported → Reported → Bool
ranks t u = is_lt (slice_cmp nat_cmp t.file u.file)

filter_through : {X Y : Type 0} (p : Y → Bool) (f : X → Y) (xs : List X)
    → filter p (map f xs) ≡ map f (filter (λ x. p (f x)) xs)
filter_through p f [] = refl
filter_through p f (x ∷ xs) = step (p (f x)) (filter_through p f xs)
  where
    step : (b : Bool) → filter p (map f xs) ≡ map f (filter (λ x. p (f x)) xs)
        → cond b (f x ∷ filter p (map f xs)) (filter p (map f xs))
        ≡ map f (cond b (x ∷ filter (λ x. p (f x)) xs) (filter (λ x. p (f x)) xs))
    step true e = ap (λ ys. f x ∷ ys) e
    step false e = e

-- ---- places of equal rank

tie : (a b : List ℕ) → is_lt (slice_cmp nat_cmp a b) ≡ false → is_lt (slice_cmp nat_cmp b a) ≡ false → a ≡ b
tie a b e f = by (slice_cmp nat_cmp a b) refl
  where
    by : (o : Ordering) → slice_cmp nat_cmp a b ≡ o → a ≡ b
    by Equal is = exact_bytes a b is
    by Less is = absurd (let other : true ≡ false = sym (ap is_lt is) ∙ e in cc)
    by Greater is = absurd (let other : true ≡ false =
        sym (ap is_lt (nat_list_cmp_total.antisymm b a ∙ ap ordering_reverse is)) ∙ f in cc)

both_true : (a b : Bool) → (a && b) ≡ true → (a ≡ true) × (b ≡ true)
both_true true b e = (refl, e)
both_true false b e = absurd cc

not_true : (b : Bool) → not b ≡ true → b ≡ false
not_true false e = refl
not_true true e = absurd cc

abbrev ties_with : List ℕ → Reported → Bool
ties_with name t = not (is_lt (slice_cmp nat_cmp name t.file)) && not (is_lt (slice_cmp nat_cmp t.file name))

same_name : (name : List ℕ) (t : Reported) → ties_with name t ≡ true → name ≡ t.file
same_name name t e = let w = both_true (not (is_lt (slice_cmp nat_cmp name t.file)))
    (not (is_lt (slice_cmp nat_cmp t.file name))) e in tie name t.file (not_true _ w.0) (not_true _ w.1)

none_left : {X : Type 0} (p : X → Bool) (xs : List X) → list_any p xs ≡ false → filter p xs ≡ []
none_left p [] e = refl
none_left p (x ∷ xs) e = by (p x) refl (λ h. none_left p xs h)
  where
    by : (b : Bool) → p x ≡ b → (list_any p xs ≡ false → filter p xs ≡ []) → filter p (x ∷ xs) ≡ []
    by true is onward = absurd (let other : list_any p (x ∷ xs) ≡ true = rw is refl in cc)
    by false is onward = rw is (onward (sym (rw is refl) ∙ e))

found_one : {X : Type 0} (p : X → Bool) (xs : List X) → list_any p xs ≡ true → (x : X) × (p x ≡ true)
found_one p [] e = absurd cc
found_one {X = X} p (x ∷ xs) e = by (p x) refl (λ h. found_one p xs h)
  where
    by : (b : Bool) → p x ≡ b → (list_any p xs ≡ true → (y : X) × (p y ≡ true)) → (y : X) × (p y ≡ true)
    by true is onward = (x, is)
    by false is onward = onward (sym (rw is refl) ∙ e)

-- ---- refusals in order

module _ (found refusals : List Refusal) (order : AreInOrder found refusals) where
  ranked_stable : IsStableBy ranks (map report_of found) (map report_of refusals)
  ranked_stable x = by (list_any (λ (r : Refusal). ties_with x.file (report_of r)) refusals) refl
    where
      by : (b : Bool) → list_any (λ (r : Refusal). ties_with x.file (report_of r)) refusals ≡ b
          → filter (ties ranks x) (map report_of refusals) ≡ filter (ties ranks x) (map report_of found)
      by true is =
          let one = found_one (λ (r : Refusal). ties_with x.file (report_of r)) refusals is in
          let same : x.file ≡ (report_of one.0).file = same_name x.file (report_of one.0) one.1 in
          filter_through (ties_with x.file) report_of refusals
          ∙ ap (λ (name : List ℕ). map report_of (filter (λ (r : Refusal). ties_with name (report_of r)) refusals)) same
          ∙ ap (map report_of) (order.stable one.0)
          ∙ sym (ap (λ (name : List ℕ). map report_of (filter (λ (r : Refusal). ties_with name (report_of r)) found))
          same)
          ∙ sym (filter_through (ties_with x.file) report_of found)
      by false is =
          filter_through (ties_with x.file) report_of refusals
          ∙ ap (map report_of) (none_left (λ (r : Refusal). ties_with x.file (report_of r)) refusals is)
          ∙ sym (ap (map report_of) (none_left (λ (r : Refusal). ties_with x.file (report_of r)) found
          (list_any-IsPermutation (λ (r : Refusal). ties_with x.file (report_of r)) found refusals order.same
          ∙ is)))
          ∙ sym (filter_through (ties_with x.file) report_of found)

  ranked_sorted : IsSortedBy ranks (map report_of refusals)
  ranked_sorted k d zero_le h = by refusals refl
    where
      by : (rs : List Refusal) → refusals ≡ rs
          → ranks (slice_index_or (map report_of refusals) (k + 1) d) (slice_index_or (map report_of refusals) k d)
          ≡ false
      by [] is = absurd (let none : length (map report_of refusals) ≡ 0 =
          ap (λ (ss : List Refusal). length (map report_of ss)) is in omega (arith, none, h))
      by (r ∷ rs) is =
          let many : length (map report_of refusals) ≡ length refusals = length-map refusals report_of in
          let next : slice_index_or (map report_of refusals) (k + 1) d ≡ report_of (slice_index_or refusals (k + 1) r) =
          mapped_at report_of refusals (k + 1) r d (omega (arith, h, many)) in
          let here : slice_index_or (map report_of refusals) k d ≡ report_of (slice_index_or refusals k r) =
          mapped_at report_of refusals k r d (omega (arith, h, many)) in
          ap (λ (t : Reported). ranks t (slice_index_or (map report_of refusals) k d)) next
          ∙ ap (ranks (report_of (slice_index_or refusals (k + 1) r))) here
          ∙ order.sorted k r zero_le (omega (arith, h, many))

-- what is reported in order is one list
pub one_order : (all : List Reported) (rs qs : List Refusal) → AreReported all rs → AreReported all qs
    → map report_of rs ≡ map report_of qs
one_order all rs qs h k =
    one_stable_sort ranks (by_key (λ (t : Reported). t.file)) all (map report_of rs) (map report_of qs)
    (ranked_sorted h.0 rs h.2) (subst (λ (xs : List Reported). IsStableBy ranks xs (map report_of rs)) h.1
    (ranked_stable h.0 rs h.2))
    (ranked_sorted k.0 qs k.2) (subst (λ (xs : List Reported). IsStableBy ranks xs (map report_of qs)) k.1
    (ranked_stable k.0 qs k.2))
