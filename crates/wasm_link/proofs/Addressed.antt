-- The addresses of functions, one after the other.
use Rattle.std.proofs.Common.{◌≡◌, ℕ, suc, ◌+◌, ◌<◌, ◌≤◌, List, [], ◌∷◌, ◌++◌, length, get_or, drop, Option, Some, None, refl, sym, ap, ◌∙◌, append_assoc, add-one}
use Rattle.std.specs.Prelude.{slice_get}
use Rattle.std.specs.Option.{option_map}
use Rattle.std.proofs.lemmas.List.{append-nil, drop_all}
use Rattle.std.proofs.Math.Seq.{drop-cons}
use Rattle.wasm_tree.specs.declared.store.Instance.{Instance}
use Rattle.wasm_tree.specs.Linking.{addresses}

-- what was found before, and what is still to be found
abbrev pub before : List (Option ℕ) → Option (List (Option ℕ)) → Option (List (Option ℕ))
before slots rest = option_map (λ r. slots ++ r) rest

regroup : (slots : List (Option ℕ)) (a : ℕ) (rest : Option (List (Option ℕ)))
    → before slots (option_map (λ r. Some a ∷ r) rest) ≡ before (slots ++ Some a ∷ []) rest
regroup slots a None = refl
regroup slots a (Some r) = ap (λ (s : List (Option ℕ)). Some s) (sym (append_assoc slots (Some a ∷ []) r))

module _ (i : Instance) (fs : List ℕ) (k : ℕ) (slots : List (Option ℕ)) where
  pub addressed_more : (a : ℕ) (total : Option (List (Option ℕ))) → k < length fs
      → slice_get i.functions (get_or fs k 0) ≡ Some a → before slots (addresses i (drop k fs)) ≡ total
      → before (slots ++ Some a ∷ []) (addresses i (drop (k + 1) fs)) ≡ total
  addressed_more a total h e so_far =
      rw add-one (sym (regroup slots a (addresses i (drop (suc k) fs)))
      ∙ sym (ap (λ xs. before slots (addresses i xs)) (drop-cons fs k 0 h) ∙ rw e refl) ∙ so_far)

  pub addressed_not : (total : Option (List (Option ℕ))) → k < length fs → slice_get i.functions (get_or fs k 0) ≡ None
      → before slots (addresses i (drop k fs)) ≡ total → None ≡ total
  addressed_not total h e so_far = sym (ap (λ xs. before slots (addresses i xs)) (drop-cons fs k 0 h) ∙ rw e refl)
      ∙ so_far

  pub addressed_none : (total : Option (List (Option ℕ))) → length fs ≤ k
      → before slots (addresses i (drop k fs)) ≡ total → Some slots ≡ total
  addressed_none total h so_far = sym (ap (λ xs. before slots (addresses i xs)) (drop_all k fs h)
      ∙ ap (λ (s : List (Option ℕ)). Some s) (append-nil slots)) ∙ so_far
