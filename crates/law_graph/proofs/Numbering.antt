-- The definitions of each graph have an order in which they get numbers.
use Rattle.std.proofs.Common.{◌≡◌, ◌<◌, ◌≤◌, ℕ, zero, suc, Bool, true, false, List, [], length, replicate, set, refl, ap, ◌∙◌, inl, inr, arith, ◌⊎◌}
use Rattle.std.proofs.lemmas.Bool.{cases_Bool, cases_lt, cases_eq}
use Rattle.graph_walk.specs.Links.{flag}
use Rattle.graph_walk.specs.Marks.{weight}
use Rattle.graph_walk.specs.Numbering.{is_ready, IsNext, IsNumbering}
use Rattle.graph_walk.proofs.Numbers.{Numbers, numbers_none, numbers_more, numbers_less, numbers_all, none_ready}

module _ (links : List (List ℕ)) (definitions : List Bool) (many : length definitions ≤ length links) where
  abbrev NoneReady : (ℕ → Bool) → ℕ → Type 0
  NoneReady done n = (k : ℕ) → k < n → is_ready links definitions done k ≡ false

  none_more : (done : ℕ → Bool) (n : ℕ) → NoneReady done n → is_ready links definitions done n ≡ false
      → NoneReady done (suc n)
  none_more done n none e k l = elim (cases_eq k n) [
    | inl s ↦ ap (is_ready links definitions done) s ∙ e
    | inr ne ↦ elim (cases_lt k n) [ inl m ↦ none k m | inr g ↦ absurd (ne (omega arith)) ]
  ]

  -- the first that is ready below a number
  next_below : (done : ℕ → Bool) (n : ℕ) → ((k : ℕ) × (k < n) × IsNext links definitions done k) ⊎ NoneReady done n
  next_below done zero = inr (λ k l. absurd (omega arith))
  next_below done (suc n) = elim (next_below done n) [
    | inl r ↦ inl (r.0, omega (arith, r.1), r.2)
    | inr none ↦ elim (cases_Bool (is_ready links definitions done n)) [
      | inl e ↦ inl (n, omega arith, record { ready = e; first = none })
      | inr e ↦ inr (none_more done n none e)
    ]
  ]

  abbrev Numbering : Type 0
  Numbering = (order : List ℕ) × IsNumbering links definitions order

  number_rest : (most : ℕ) (flags : List Bool) (order : List ℕ) → Numbers links definitions flags order
      → weight [] flags ≤ most → Numbering
  number_rest zero flags order h l = elim (next_below (flag flags) (length links)) [
    | inl r ↦ absurd (let w = numbers_less links definitions flags flags order r.0 refl h r.1 r.2 in omega (arith, w))
    | inr none ↦ (
      order,
      numbers_all links definitions flags order h
          (none_ready links definitions (flag flags) (length links) many none),
    )
  ]
  number_rest (suc most) flags order h l = elim (next_below (flag flags) (length links)) [
    | inl r ↦ (let w = numbers_less links definitions flags flags order r.0 refl h r.1 r.2 in
        number_rest most (set flags r.0 true) _ (numbers_more links definitions flags order r.0 h r.1 r.2)
        (omega (arith, w)))
    | inr none ↦ (
      order,
      numbers_all links definitions flags order h
          (none_ready links definitions (flag flags) (length links) many none),
    )
  ]

  pub number_all : (order : List ℕ) × IsNumbering links definitions order
  number_all = number_rest (weight [] (replicate (length links) false)) (replicate (length links) false) []
      (numbers_none links definitions (length links) refl) (omega arith)
