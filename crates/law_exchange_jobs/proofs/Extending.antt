-- An exchange of numbers that takes given numbers to given numbers.
use Rattle.std.proofs.Common.{◌≡◌, ℕ, Bool, cond, ◌==◌, List, [], ◌∷◌, refl, sym, ap, subst, ◌∙◌, inl, inr, eq-eqb}
use Rattle.std.proofs.lemmas.Bool.{cases_eq, ne_eqb}
use Rattle.law_graph.proofs.Lists.{Among, none_among, later_among, among_cases}
use Rattle.def_exchange.specs.Moved.{Exchange}

-- ---- two numbers change places

abbrev swapped : ℕ → ℕ → ℕ → ℕ
swapped a b n = cond (n == a) b (cond (n == b) a n)

swapped_first : (a b n : ℕ) → n ≡ a → swapped a b n ≡ b
swapped_first a b n e = ap (λ (c : Bool). cond c b (cond (n == b) a n)) (eq-eqb n a e)

behind_first : (a b n : ℕ) → (n ≡ a → ⊥) → swapped a b n ≡ cond (n == b) a n
behind_first a b n ne = ap (λ (c : Bool). cond c b (cond (n == b) a n)) (ne_eqb n a ne)

swapped_second : (a b n : ℕ) → n ≡ b → swapped a b n ≡ a
swapped_second a b n e = elim (cases_eq n a) [
  | inl s ↦ swapped_first a b n s ∙ (sym e ∙ s)
  | inr ne ↦ behind_first a b n ne ∙ ap (λ (c : Bool). cond c a n) (eq-eqb n b e)
]

swapped_other : (a b n : ℕ) → (n ≡ a → ⊥) → (n ≡ b → ⊥) → swapped a b n ≡ n
swapped_other a b n ne nf = behind_first a b n ne ∙ ap (λ (c : Bool). cond c a n) (ne_eqb n b nf)

swapped_twice : (a b n : ℕ) → swapped a b (swapped a b n) ≡ n
swapped_twice a b n = elim (cases_eq n a) [
  | inl s ↦ swapped_second a b (swapped a b n) (swapped_first a b n s) ∙ sym s
  | inr ne ↦ elim (cases_eq n b) [
    | inl s ↦ swapped_first a b (swapped a b n) (swapped_second a b n s) ∙ sym s
    | inr nf ↦ ap (swapped a b) (swapped_other a b n ne nf) ∙ swapped_other a b n ne nf
  ]
]

abbrev swap : ℕ → ℕ → Exchange
swap a b = record {
  there = swapped a b;
  back = swapped a b;
  back_there = swapped_twice a b;
  there_back = swapped_twice a b;
}

-- ---- one exchange behind another

abbrev none_moves : Exchange
none_moves = record { there = λ n. n; back = λ n. n; back_there = λ n. refl; there_back = λ n. refl }

abbrev followed : Exchange → Exchange → Exchange
followed x y = record {
  there = λ n. y.there (x.there n);
  back = λ n. x.back (y.back n);
  back_there = λ n. ap x.back (y.back_there (x.there n)) ∙ x.back_there n;
  there_back = λ n. ap y.there (x.there_back (y.back n)) ∙ y.there_back n;
}

-- Two numbers that go to one are one.
pub one_from : (x : Exchange) (a b : ℕ) → x.there a ≡ x.there b → a ≡ b
one_from x a b e = sym (x.back_there a) ∙ ap x.back e ∙ x.back_there b

-- ---- pairs of numbers

-- Where the first two are one, so are the second two, and the reverse.
abbrev pub AreMatched : List (ℕ × ℕ) → Type 0
AreMatched ps = (p q : ℕ × ℕ) → Among ps p → Among ps q → (p.0 ≡ q.0 → p.1 ≡ q.1) × (p.1 ≡ q.1 → p.0 ≡ q.0)

abbrev Takes : Exchange → ℕ × ℕ → Type 0
Takes x p = x.there p.0 ≡ p.1

-- one pair more
abbrev further : (x : Exchange) (q : ℕ × ℕ) → Exchange
further x q = followed x (swap (x.there q.0) q.1)

takes_this : (x : Exchange) (q : ℕ × ℕ) → Takes (further x q) q
takes_this x q = swapped_first (x.there q.0) q.1 (x.there q.0) refl

takes_others : (x : Exchange) (q p : ℕ × ℕ) → Takes x p → (p.0 ≡ q.0 → p.1 ≡ q.1) → (p.1 ≡ q.1 → p.0 ≡ q.0)
    → Takes (further x q) p
takes_others x q p e onward back = elim (cases_eq p.1 q.1) [
  | inl s ↦ swapped_first (x.there q.0) q.1 (x.there p.0) (ap x.there (back s)) ∙ sym s
  | inr ne ↦ swapped_other (x.there q.0) q.1 (x.there p.0) (λ s. ne (onward (one_from x p.0 q.0 s)))
      (λ s. ne (sym e ∙ s)) ∙ e
]

-- It takes the first of each pair to the second.
pub exchange_of : (ps : List (ℕ × ℕ)) → AreMatched ps → (x : Exchange) × ((p : ℕ × ℕ) → Among ps p → x.there p.0 ≡ p.1)
exchange_of [] h = (none_moves, λ p a. absurd (none_among p a))
exchange_of (q ∷ ps) h =
    let r = exchange_of ps (λ p s a b. h p s (later_among q ps p a) (later_among q ps s b)) in (
      further r.0 q,
      λ p a. elim (among_cases q ps p a) [
        | inl e ↦ subst (λ (s : ℕ × ℕ). Takes (further r.0 q) s) e (takes_this r.0 q)
        | inr more ↦ (let both = h p q a (0, refl) in takes_others r.0 q p (r.1 p more) both.0 both.1)
      ],
    )
