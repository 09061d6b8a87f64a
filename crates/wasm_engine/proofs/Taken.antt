-- Operands that were taken one by one.
use Rattle.std.proofs.Math.Logic.{∥∥₁_map}
use Rattle.std.proofs.Common.{◌≡◌, ◌⊎◌, inl, inr, ⊎_elim, ℕ, List, [], ◌∷◌, ◌++◌, None, Some, refl, sym, ap, ◌∙◌, append_assoc}
use Rattle.std.proofs.lemmas.Option.{none-some, same_Some}
use Rattle.wasm_tree.specs.declared.store.Value.{Value}
use Rattle.wasm_tree.specs.declared.store.Value.TheVariants.{I32, I64}
use Rattle.wasm_tree.specs.Machine.{top_i64}
use Rattle.wasm_sound.specs.Ready.{IsI64}
use Rattle.law_effect.proofs.Steps.{top_64}
use Rattle.law_effect.proofs.Ways.{split_last-push}
use Rattle.wasm_engine.specs.Quick.{HasFour}

-- so many operands, given by their numbers, on top of others
abbrev wide : List ℕ → List Value
wide [] = []
wide (n ∷ ns) = I64 n ∷ wide ns

abbrev pub IsLast : List Value → Type 0
IsLast s = (below : List Value) × (v : Value) × (s ≡ below ++ v ∷ [])

pub last_or_none : (s : List Value) → (s ≡ []) ⊎ IsLast s
last_or_none [] = inl refl
last_or_none (x ∷ xs) =
    ⊎_elim (λ (e : xs ≡ []). inr ([], x, ap (λ (l : List Value). x ∷ l) e))
    (λ (h : IsLast xs). inr (x ∷ h.0, h.1, ap (λ (l : List Value). x ∷ l) h.2)) (last_or_none xs)

no_32 : (t : List Value) (m : ℕ) → top_i64 (t ++ I32 m ∷ []) ≡ None
no_32 t m = rw (split_last-push t (I32 m)) refl

-- what was on top
pub top_is : (s t : List Value) (n : ℕ) → top_i64 s ≡ Some (t, n) → s ≡ t ++ I64 n ∷ []
top_is s t n e = ⊎_elim (λ (z : s ≡ []). absurd (none-some wanted (sym (ap top_i64 z) ∙ e)))
    (λ (h : IsLast s). of h.0 h.1 h.2) (last_or_none s)
  where
    wanted : List Value × ℕ
    wanted = (t, n)

    of : (below : List Value) (v : Value) → s ≡ below ++ v ∷ [] → s ≡ t ++ I64 n ∷ []
    of below (I32 m) z = absurd (none-some wanted (sym (ap top_i64 z ∙ no_32 below m) ∙ e))
    of below (I64 m) z =
        let found : List Value × ℕ = (below, m) in
        let same : found ≡ wanted = same_Some found wanted (sym (ap top_i64 z ∙ top_64 below m) ∙ e) in
        z ∙ ap (λ (p : List Value × ℕ). p.0 ++ I64 p.1 ∷ []) same

-- what is below it
pub popped : (below s t : List Value) (xs : List Value) (k n : ℕ) → s ≡ below ++ (xs ++ I64 k ∷ [])
    → top_i64 s ≡ Some (t, n) → t ≡ below ++ xs
popped below s t xs k n e f =
    let found : List Value × ℕ = (below ++ xs, k) in
    let wanted : List Value × ℕ = (t, n) in
    let g : top_i64 s ≡ Some found = ap top_i64 (e ∙ sym (append_assoc below xs (I64 k ∷ [])))
    ∙ top_64 (below ++ xs) k in
    let same : found ≡ wanted = same_Some found wanted (sym g ∙ f) in
    ap (λ (p : List Value × ℕ). p.0) (sym same)

on_top : (below s xs : List Value) (k : ℕ) → s ≡ below ++ (xs ++ I64 k ∷ []) → IsI64 s
on_top below s xs k e = (below ++ xs, k, e ∙ sym (append_assoc below xs (I64 k ∷ [])))

module _ (s : List Value) (h : ∥ HasFour s ∥₁) where
  pub fourth : ∥ IsI64 s ∥₁
  fourth = ∥∥₁_map h (λ a. on_top a.0 s (I64 a.1 ∷ I64 a.2 ∷ I64 a.3 ∷ []) a.4 a.5)

  module _ (t : List Value) (k : ℕ) (e : top_i64 s ≡ Some (t, k)) where
    pub third : ∥ IsI64 t ∥₁
    third = ∥∥₁_map h (λ a. on_top a.0 t (I64 a.1 ∷ I64 a.2 ∷ []) a.3
        (popped a.0 s t (I64 a.1 ∷ I64 a.2 ∷ I64 a.3 ∷ []) a.4 k a.5 e))

    module _ (u : List Value) (hi : ℕ) (f : top_i64 t ≡ Some (u, hi)) where
      abbrev two_left : (a : HasFour s) → u ≡ a.0 ++ I64 a.1 ∷ I64 a.2 ∷ []
      two_left a = popped a.0 t u (I64 a.1 ∷ I64 a.2 ∷ []) a.3 hi
          (popped a.0 s t (I64 a.1 ∷ I64 a.2 ∷ I64 a.3 ∷ []) a.4 k a.5 e) f

      pub second : ∥ IsI64 u ∥₁
      second = ∥∥₁_map h (λ a. on_top a.0 u (I64 a.1 ∷ []) a.2 (two_left a))

      module _ (w : List Value) (lo : ℕ) (g : top_i64 u ≡ Some (w, lo)) where
        pub first : ∥ IsI64 w ∥₁
        first = ∥∥₁_map h (λ a. on_top a.0 w [] a.1 (popped a.0 u w (I64 a.1 ∷ []) a.2 lo (two_left a) g))

-- all that was taken
pub taken : (s t u w : List Value) (k hi lo : ℕ) → top_i64 s ≡ Some (t, k) → top_i64 t ≡ Some (u, hi)
    → top_i64 u ≡ Some (w, lo) → s ≡ w ++ I64 lo ∷ [] ++ I64 hi ∷ [] ++ I64 k ∷ []
taken s t u w k hi lo e f g = rw (top_is s t k e, top_is t u hi f, top_is u w lo g) refl

pub taken_four : (s w x : List Value) (k hi lo v : ℕ) → s ≡ w ++ I64 lo ∷ [] ++ I64 hi ∷ [] ++ I64 k ∷ []
    → w ≡ x ++ I64 v ∷ [] → s ≡ x ++ I64 v ∷ I64 lo ∷ I64 hi ∷ I64 k ∷ []
taken_four s w x k hi lo v e f =
    e ∙ ap (λ (l : List Value). l ++ I64 lo ∷ [] ++ I64 hi ∷ [] ++ I64 k ∷ []) f
    ∙ ap (λ (l : List Value). l ++ I64 hi ∷ [] ++ I64 k ∷ []) (append_assoc x (I64 v ∷ []) (I64 lo ∷ []))
    ∙ ap (λ (l : List Value). l ++ I64 k ∷ []) (append_assoc x (I64 v ∷ I64 lo ∷ []) (I64 hi ∷ []))
    ∙ append_assoc x (I64 v ∷ I64 lo ∷ I64 hi ∷ []) (I64 k ∷ [])

-- and given back
pub restored : (s w a b d : List Value) (lo hi k : ℕ) → a ≡ w ++ I64 lo ∷ [] → b ≡ a ++ I64 hi ∷ []
    → d ≡ b ++ I64 k ∷ [] → s ≡ w ++ I64 lo ∷ [] ++ I64 hi ∷ [] ++ I64 k ∷ [] → d ≡ s
restored s w a b d lo hi k e f g all = g
    ∙ ap (λ (l : List Value). l ++ I64 k ∷ []) (f ∙ ap (λ (l : List Value). l ++ I64 hi ∷ []) e) ∙ sym all
