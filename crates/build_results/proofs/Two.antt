-- Lists in step.
use Rattle.std.proofs.Common.{◌≡◌, ℕ, suc, ◌+◌, ◌<◌, ◌≤◌, List, [], ◌∷◌, ◌++◌, length, get_or, drop, map, refl, sym, ap, ◌∙◌, append_assoc, add-one, arith}
use Rattle.std.proofs.lemmas.List.{drop_all, append-nil}
use Rattle.std.proofs.Math.Seq.{drop-cons}
use Rattle.m2_tree.specs.declared.refusal.Refusal.{Refusal}
use Rattle.build_results.specs.Texts.{each_two}
use Rattle.build_results.specs.Reported.{report_of}

module _ {A B C : Type 0} (f : A → B → List C) (xs : List A) (ys : List B) (same : length xs ≡ length ys) (k : ℕ)
    (out total : List C) (so_far : out ++ each_two f (drop k xs) (drop k ys) ≡ total) where
  -- what one more of both gives stands behind the others
  pub two_more : (x dx : A) (y dy : B) (part : List C) → k < length xs → x ≡ get_or xs k dx → y ≡ get_or ys k dy
      → part ≡ out ++ f x y → part ++ each_two f (drop (k + 1) xs) (drop (k + 1) ys) ≡ total
  two_more x dx y dy part lt is_x is_y is =
      let rest : List C = each_two f (drop (suc k) xs) (drop (suc k) ys) in
      let here : each_two f (drop k xs) (drop k ys) ≡ f x y ++ rest =
      rw (drop-cons xs k dx lt, drop-cons ys k dy (omega (arith, same, lt)), ← is_x, ← is_y) refl
      in
      rw (add-one, is) (append_assoc out (f x y) rest ∙ sym (ap (λ (zs : List C). out ++ zs) here) ∙ so_far)

  -- none is left
  pub two_none : length xs ≤ k → out ≡ total
  two_none le = sym (append-nil out) ∙ sym (ap (λ (zs : List A). out ++ each_two f zs (drop k ys)) (drop_all k xs le))
      ∙ so_far

pub none_reported : (rs : List Refusal) → map report_of rs ≡ [] → rs ≡ []
none_reported [] e = refl
none_reported (r ∷ rs) e = absurd cc
