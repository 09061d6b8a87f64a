-- Steps for each element, as a loop makes them.
use Rattle.std.proofs.Common.{◌≡◌, ℕ, zero, suc, ◌+◌, ◌<◌, ◌≤◌, List, [], ◌∷◌, length, get_or, drop, Result, Ok, refl, sym, ap, ◌∙◌, add-one, arith}
use Rattle.std.proofs.lemmas.List.{drop_all}
use Rattle.std.proofs.Math.Seq.{drop-cons}
use Rattle.wasm_tree.specs.declared.fault.WFault.{WFault}
use Rattle.wasm_tree.specs.declared.fault.WFault.TheVariants.{Malformed, OutsideProfile, Invalid, Unlinked, SegmentOutside, NoMemory}
use Rattle.wasm_tree.specs.Format.{◌>>=◌, Fails}
use Rattle.wasm_tree.specs.declared.module.Function.{Function}
use Rattle.wasm_tree.specs.declared.module.WModule.{WModule}
use Rattle.wasm_tree.specs.declared.store.Store.{Store}
use Rattle.wasm_tree.specs.declared.store.Callee.TheVariants.{Own}
use Rattle.wasm_tree.specs.Linking.{each, Linked, with_function, with_functions, linked_one, linked_from}

-- a fault of the first of two steps is one of both
pub fails_first : {A B : Type 0} (e : WFault) (first : Result A WFault) (next : A → Result B WFault) → Fails e first
    → Fails e (first >>= next)
fails_first Malformed first next h = rw h refl
fails_first OutsideProfile first next h = rw h refl
fails_first Invalid first next h = rw h refl
fails_first Unlinked first next h = rw h refl
fails_first SegmentOutside first next h = rw h refl
fails_first NoMemory first next h = tt

-- what fails does so under another name
pub fails_same : {B : Type 0} (e : WFault) (now total : Result B WFault) → Fails e now → now ≡ total → Fails e total
fails_same Malformed now total h same = sym same ∙ h
fails_same OutsideProfile now total h same = sym same ∙ h
fails_same Invalid now total h same = sym same ∙ h
fails_same Unlinked now total h same = sym same ∙ h
fails_same SegmentOutside now total h same = sym same ∙ h
fails_same NoMemory now total h same = tt

module _ {X S : Type 0} (step : X → S → Result S WFault) (xs : List X) (k : ℕ) (s : S) where
  -- one more step was made
  pub each_more : (x : X) (t : S) (total : Result S WFault) → k < length xs → x ≡ get_or xs k x → step x s ≡ Ok t
      → each step (drop k xs) s ≡ total → each step (drop (k + 1) xs) t ≡ total
  unfolding each
  each_more x t total h is e so_far = rw add-one
      (sym (ap (λ ys. each step ys s) (drop-cons xs k x h) ∙ rw (← is, e) refl) ∙ so_far)

  -- the same, where the element is read with another default
  pub each_more_at : (d : X) (t : S) (total : Result S WFault) → k < length xs → step (get_or xs k d) s ≡ Ok t
      → each step (drop k xs) s ≡ total → each step (drop (k + 1) xs) t ≡ total
  unfolding each
  each_more_at d t total h e so_far = rw add-one
      (sym (ap (λ ys. each step ys s) (drop-cons xs k d h) ∙ rw e refl) ∙ so_far)

  -- the next step fails
  pub each_fail : (e : WFault) (x : X) (total : Result S WFault) → k < length xs → x ≡ get_or xs k x
      → Fails e (step x s) → each step (drop k xs) s ≡ total → Fails e total
  unfolding each
  each_fail e x total h is f so_far =
      fails_same e (step x s >>= each step (drop (suc k) xs)) total
      (fails_first e (step x s) (each step (drop (suc k) xs)) f)
      (sym (ap (λ ys. each step ys s) (drop-cons xs k x h) ∙ rw (← is) refl) ∙ so_far)

  -- no step is left
  pub each_none : (total : Result S WFault) → length xs ≤ k → each step (drop k xs) s ≡ total → total ≡ Ok s
  unfolding each
  each_none total h so_far = sym so_far ∙ rw (drop_all k xs h) refl

-- the next function
at_next : (m k : ℕ) (fs rest : List Function) (f : Function) (l : Linked) → drop k fs ≡ f ∷ rest
    → with_functions m k (drop k fs) l ≡ with_functions m (suc k) rest (with_function (Own m k) l)
unfolding with_functions
at_next m k fs rest f l e = ap (λ xs. with_functions m k xs l) e

some_first : {X : Type 0} (k : ℕ) (xs : List X) → k < length xs → (x : X) × (drop k xs ≡ x ∷ drop (suc k) xs)
some_first zero (x ∷ xs) h = (x, refl)
some_first (suc k) (x ∷ xs) h = some_first k xs (omega arith)
some_first zero [] h = absurd (omega arith)
some_first (suc k) [] h = absurd (omega arith)

module _ (m : ℕ) (fs : List Function) (k : ℕ) (l : Linked) where
  pub functions_more : (total next : Linked) → k < length fs → next ≡ with_function (Own m k) l
      → with_functions m k (drop k fs) l ≡ total → with_functions m (k + 1) (drop (k + 1) fs) next ≡ total
  unfolding with_functions
  functions_more total next h e so_far =
      let first = some_first k fs h in
      rw (add-one, e) (sym (at_next m k fs (drop (suc k) fs) first.0 l first.1) ∙ so_far)

  pub functions_none : (total : Linked) → length fs ≤ k → with_functions m k (drop k fs) l ≡ total → l ≡ total
  unfolding with_functions
  functions_none total h so_far = sym (ap (λ rest. with_functions m k rest l) (drop_all k fs h)) ∙ so_far

module _ (all trees : List WModule) (k : ℕ) (st : Store) where
  at_tree : (tree : WModule) → k < length trees → tree ≡ get_or trees k tree
      → linked_from all k (drop k trees) st ≡
      (linked_one all k tree st >>= linked_from all (suc k) (drop (suc k) trees))
  unfolding linked_from
  at_tree tree h is = ap (λ xs. linked_from all k xs st) (drop-cons trees k tree h) ∙ rw (← is) refl

  pub linked_more : (tree : WModule) (next : Store) (total : Result Store WFault) → k < length trees
      → tree ≡ get_or trees k tree → linked_one all k tree st ≡ Ok next → linked_from all k (drop k trees) st ≡ total
      → linked_from all (k + 1) (drop (k + 1) trees) next ≡ total
  linked_more tree next total h is e so_far = rw add-one (sym (at_tree tree h is ∙ rw e refl) ∙ so_far)

  pub linked_fail : (e : WFault) (tree : WModule) (total : Result Store WFault) → k < length trees
      → tree ≡ get_or trees k tree → Fails e (linked_one all k tree st) → linked_from all k (drop k trees) st ≡ total
      → Fails e total
  linked_fail e tree total h is f so_far =
      fails_same e (linked_one all k tree st >>= linked_from all (suc k) (drop (suc k) trees)) total
      (fails_first e (linked_one all k tree st) (linked_from all (suc k) (drop (suc k) trees)) f)
      (sym (at_tree tree h is) ∙ so_far)

  pub linked_none : (total : Result Store WFault) → length trees ≤ k → linked_from all k (drop k trees) st ≡ total
      → total ≡ Ok st
  unfolding linked_from
  linked_none total h so_far = sym so_far ∙ rw (drop_all k trees h) refl
