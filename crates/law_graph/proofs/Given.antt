-- Files in order, and their places as they were given.
use Rattle.std.proofs.Common.{◌≡◌, ◌<◌, ◌≤◌, ℕ, zero, suc, ◌+◌, List, [], ◌∷◌, length, map, refl, sym, ap, ap₂, subst, ◌∙◌, inl, inr, arith, eq-eqb, Option, Some, option_map}
use Rattle.std.specs.Prelude.{slice_get}
use Rattle.std.specs.List.{All, filter_map, cons_option}
use Rattle.std.specs.List.Sorted.{IsPermutation}
use Rattle.std.proofs.lemmas.Bool.{false≢true, cases_lt}
use Rattle.std.proofs.lemmas.List.{length-map}
use Rattle.std.proofs.lemmas.List.Sorted.{IsPermutation-sym, IsPermutation-map, length_permutation}
use Rattle.std.proofs.lemmas.Option.{none-some, same_Some, slice_get-map, slice_get_within, get_or_from_slice_get}
use Rattle.m2_tree.specs.declared.decl.Module.{Module}
use Rattle.m2_graph.specs.Files.{File, AreInOrder, number_files, trees, given_of}
use Rattle.m2_graph.specs.Refused.{max_files}
use Rattle.m2_graph.specs.Reported.{IsReported}
use Rattle.law_graph.specs.Started.{at_places}
use Rattle.law_graph.proofs.Lists.{Among, some_at, later_among, among-permutation, map_among, all_among}
use Rattle.law_graph.proofs.Fine.{fine_file, tree_at}

-- the modules of files with their names
abbrev pub given_trees : List (List ℕ × Module) → List Module
given_trees fs = map (λ (f : List ℕ × Module). f.1) fs

numbered_at : (n : ℕ) (fs : List (List ℕ × Module)) (k : ℕ) (f : File) → slice_get (number_files n fs) k ≡ Some f
    → (f.given ≡ n + k) × (slice_get (given_trees fs) k ≡ Some f.tree)
numbered_at n [] k f e = absurd (none-some f e)
numbered_at n (p ∷ fs) zero f e =
    let s = same_Some (record { name = p.0; tree = p.1; given = n }) f e in
    let g : n ≡ f.given = ap (λ (x : File). x.given) s in
    (omega (arith, g), ap (λ (x : File). Some x.tree) s)
numbered_at n (p ∷ fs) (suc k) f e = let r = numbered_at (n + 1) fs k f e in (omega (arith, r.0), r.1)

numbered_length : (n : ℕ) (fs : List (List ℕ × Module)) → length (number_files n fs) ≡ length fs
numbered_length n [] = refl
numbered_length n (p ∷ fs) = ap suc (numbered_length (n + 1) fs)

numbered_trees : (n : ℕ) (fs : List (List ℕ × Module)) → trees (number_files n fs) ≡ given_trees fs
numbered_trees n [] = refl
numbered_trees n (p ∷ fs) = ap (λ (ms : List Module). p.1 ∷ ms) (numbered_trees (n + 1) fs)

module _ (fs : List (List ℕ × Module)) (ordered : List File) (o : AreInOrder (number_files 0 fs) ordered) where
  -- the file in order has the place that its number says
  file_given : (k : ℕ) (f : File) → slice_get ordered k ≡ Some f → slice_get (given_trees fs) f.given ≡ Some f.tree
  file_given k f e =
      let a = among-permutation ordered (number_files 0 fs) f (IsPermutation-sym (number_files 0 fs) ordered o.same)
      (k, e) in
      let r = numbered_at 0 fs a.0 f a.1 in
      let q : f.given ≡ a.0 = omega (arith, r.0) in
      ap (slice_get (given_trees fs)) q ∙ r.1

  pub tree_given : (k : ℕ) (m : Module) → slice_get (trees ordered) k ≡ Some m
      → slice_get (given_trees fs) (given_of ordered k) ≡ Some m
  tree_given k m e =
      let t = tree_at ordered k m e in
      let g : slice_get (map (λ (f : File). f.given) ordered) k ≡ Some t.0.given =
      slice_get-map (λ (f : File). f.given) ordered k
      ∙ ap (λ (x : Option File). option_map (λ (f : File). f.given) x) t.1 in
      let q : given_of ordered k ≡ t.0.given =
      get_or_from_slice_get (map (λ (f : File). f.given) ordered) k t.0.given 0 g in
      ap (slice_get (given_trees fs)) q ∙ file_given k t.0 t.1 ∙ ap Some t.2

  -- a module as it was given is among those in order
  pub given_among : (m : Module) → Among (given_trees fs) m → Among (trees ordered) m
  given_among m a = among-permutation (given_trees fs) (trees ordered) m
      (subst (λ (ms : List Module). IsPermutation ms (trees ordered)) (numbered_trees 0 fs)
      (IsPermutation-map (λ (f : File). f.tree) (number_files 0 fs) ordered o.same)) a

  as_many : length (trees ordered) ≡ length fs
  as_many = length-map ordered (λ (f : File). f.tree) ∙ length_permutation (number_files 0 fs) ordered o.same
      ∙ numbered_length 0 fs

  -- there are no more files than are let
  pub few_files : IsReported ordered [] → length (trees ordered) ≤ max_files
  few_files fine = elim (cases_lt 1024 (length fs)) [
    | inr g ↦ (let m = as_many in omega (arith, g, m))
    | inl l ↦ absurd (many l)
  ]
    where
      many : 1024 < length fs → ⊥
      many l =
          let n = numbered_length 0 fs in
          let p = some_at (number_files 0 fs) 1024 (omega (arith, l, n)) in
          let r = numbered_at 0 fs 1024 p.0 p.1 in
          let q : p.0.given ≡ 1024 = omega (arith, r.0) in
          let a = among-permutation (number_files 0 fs) ordered p.0 o.same (1024, p.1) in
          false≢true (sym (fine_file ordered fine a.0 p.0 a.1).counted ∙ eq-eqb p.0.given 1024 q)

  -- the modules at the places of these numbers
  pub places_given : (ks : List ℕ) → ((k : ℕ) → Among ks k → (m : Module) × (slice_get (trees ordered) k ≡ Some m))
      → at_places (given_trees fs) (map (given_of ordered) ks) ≡ filter_map (slice_get (trees ordered)) ks
  places_given [] h = refl
  places_given (k ∷ ks) h =
      let m = h k (0, refl) in
      ap₂ (λ (x : Option Module) (xs : List Module). cons_option x xs) (tree_given k m.0 m.1 ∙ sym m.1)
      (places_given ks (λ j a. h j (later_among k ks j a)))

  pub places_within : (ks : List ℕ) → ((k : ℕ) → Among ks k → (m : Module) × (slice_get (trees ordered) k ≡ Some m))
      → All (λ s. s < length (given_trees fs)) (map (given_of ordered) ks)
  places_within ks h = all_among (λ s. s < length (given_trees fs)) (map (given_of ordered) ks)
      (λ s a. let r = map_among (given_of ordered) ks s a in let m = h r.0 r.1 in
      subst (λ (x : ℕ). x < length (given_trees fs)) r.2
      (slice_get_within (given_trees fs) (given_of ordered r.0) m.0 (tree_given r.0 m.0 m.1)))
