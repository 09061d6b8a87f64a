-- A comment ends, or it does not.
use Rattle.std.proofs.Common.{◌≡◌, ◌≢◌, ◌≤◌, ℕ, zero, suc, eqb, [], ◌∷◌, length, ◌⊎◌, inl, inr, sym, refl, subst, arith}
use Rattle.std.proofs.lemmas.Bool.{eqb-true, eqb-false, cases_Bool}
use Rattle.m2_tree.specs.declared.pos.Pos.{Pos}
use Rattle.scan_tokens.specs.Bytes.{Text}
use Rattle.scan_tokens.specs.Forms.{opening, closing}
use Rattle.scan_tokens.specs.Steps.{over, Closes, NeverCloses}
use Rattle.scan_tokens.proofs.Lists.{same_head}
use Rattle.scan_tokens.proofs.Levels.{Ends, one_level, from_one_level, no_levels_left, open_enters, open_leaves, close_enters, close_leaves, other_enters, other_leaves, not_at_end, not_at_last}

pub same_two : (b c x y : ℕ) → ((b ≡ x) × (c ≡ y)) ⊎ (b ∷ c ∷ [] ≢ x ∷ y ∷ [])
same_two b c x y =
    elim (cases_Bool (eqb b x)) [
      | inl e ↦
          elim (cases_Bool (eqb c y)) [
            | inl f ↦ inl (eqb-true b x e, eqb-true c y f)
            | inr f ↦ inr (λ d. eqb-false c y f (let r : c ∷ [] ≡ y ∷ [] = cc in same_head r))
          ]
      | inr e ↦ inr (λ d. eqb-false b x e (same_head d))
    ]

abbrev MayEnd : ℕ → Text → Type 0
MayEnd n s = ((more : Text) × Ends (suc n) s more) ⊎ ((more : Text) → Ends (suc n) s more → ⊥)

may_open : (n : ℕ) (s : Text) → MayEnd (suc n) s → MayEnd n (40 ∷ 42 ∷ s)
may_open n s (inl h) = inl (h.0, open_enters n s h.0 h.1)
may_open n s (inr never) = inr (λ more h. never more (open_leaves n s more h))

may_close : (n : ℕ) (s : Text) → MayEnd n s → MayEnd (suc n) (42 ∷ 41 ∷ s)
may_close n s (inl h) = inl (h.0, close_enters (suc n) s h.0 h.1)
may_close n s (inr never) = inr (λ more h. never more (close_leaves (suc n) s more h))

may_go_on : (n b c : ℕ) (s : Text) → (b ∷ c ∷ [] ≢ opening) → (b ∷ c ∷ [] ≢ closing) → MayEnd n (c ∷ s)
    → MayEnd n (b ∷ c ∷ s)
may_go_on n b c s no_open no_close (inl h) = inl (h.0, other_enters n b c s h.0 no_open no_close h.1)
may_go_on n b c s no_open no_close (inr never) =
    inr (λ more h. never more (other_leaves n b c s more no_open no_close h))

two_are : (n b c x y : ℕ) (s : Text) → (b ≡ x) × (c ≡ y) → MayEnd n (x ∷ y ∷ s) → MayEnd n (b ∷ c ∷ s)
two_are n b c x y s e h = subst (MayEnd n) (let d : x ∷ y ∷ s ≡ b ∷ c ∷ s = cc (e.0, e.1) in d) h

may_close_one : (n : ℕ) (s : Text) → ((m : ℕ) → n ≡ suc m → MayEnd m s) → MayEnd n (42 ∷ 41 ∷ s)
may_close_one zero s less = inl (s, close_enters 0 s s (no_levels_left s))
may_close_one (suc n) s less = may_close n s (less n refl)

may_two : (n b c : ℕ) (s : Text) → MayEnd (suc n) s → ((m : ℕ) → n ≡ suc m → MayEnd m s) → MayEnd n (c ∷ s)
    → MayEnd n (b ∷ c ∷ s)
may_two n b c s more less same =
    elim (same_two b c 40 42) [
      | inl e ↦ two_are n b c 40 42 s e (may_open n s more)
      | inr no_open ↦
          elim (same_two b c 42 41) [
            | inl e ↦ two_are n b c 42 41 s e (may_close_one n s less)
            | inr no_close ↦ may_go_on n b c s no_open no_close same
          ]
    ]

-- the bound is one of the length
may_end : (bound n : ℕ) (s : Text) → length s ≤ bound → MayEnd n s
may_end bound n [] le = inr (λ more h. not_at_end n more h)
may_end bound n (b ∷ []) le = inr (λ more h. not_at_last n b more h)
may_end zero n (b ∷ c ∷ s) le = absurd (omega (arith, le))
may_end (suc bound) n (b ∷ c ∷ s) le =
    may_two n b c s (may_end bound (suc n) s (omega (arith, le))) (λ m e. may_end bound m s (omega (arith, le)))
    (may_end bound n (c ∷ s) (omega (arith, le)))

closes_or_never : (s : Text) (pos : Pos) → MayEnd 0 s → ((rest : Text) × (after : Pos) × Closes s pos rest after)
    ⊎ NeverCloses s
closes_or_never s pos (inl h) =
    let k = from_one_level s h.0 h.1 in
    inl (h.0, over pos k.0, (k.0, k.1, k.2, refl))
closes_or_never s pos (inr never) = inr (λ bs more e closed. never more
    (let P : Text → Type 0 = λ s. Ends 1 s more in subst P (sym e) (one_level bs more closed)))

-- The comment that was opened before this text ends, or it does not.
pub closes : (s : Text) (pos : Pos) → ((rest : Text) × (after : Pos) × Closes s pos rest after) ⊎ NeverCloses s
closes s pos = closes_or_never s pos (may_end (length s) 0 s (omega arith))
