-- Names that are put into a set, the last first.
use Rattle.std.proofs.Common.{◌≡◌, ◌≢◌, ℕ, zero, suc, ◌+◌, ◌<◌, ◌≤◌, Bool, true, false, cond, not, List, [], ◌∷◌, length, get_or, drop, map, refl, sym, ap, subst, ◌∙◌, inl, inr, add-one, arith}
use Rattle.std.proofs.Math.Seq.{drop-cons}
use Rattle.std.specs.Prelude.{All}
use Rattle.std.specs.Str.{bytes_eq}
use Rattle.std.specs.Borrow.{Bor}
use Rattle.std.specs.HashSet.{HashSet}
use Rattle.std.specs.Cmp.Lexicographic.{bytes_decides}
use Rattle.std.proofs.lemmas.Bool.{cases_Bool, false≢true}
use Rattle.std.proofs.lemmas.List.{drop_all}
use Rattle.std.proofs.lemmas.List.Elements.{All-nil, All-cons, All-head, All-tail, All-map}
use Rattle.wasm_tree.specs.Validity.{AreDistinct}
use Rattle.wasm_valid.specs.Named.{holds, is_among}
use Rattle.wasm_valid.proofs.Located.{all_names}
use Rattle.wasm_valid.proofs.Each.{distinct_more, distinct_less}

both_false : (b c : Bool) → cond b true c ≡ false → (b ≡ false) × (c ≡ false)
both_false true c e = absurd (false≢true (sym e))
both_false false c e = (refl, e)

other_true : (b c : Bool) → b ≡ false → cond b true c ≡ true → c ≡ true
other_true true c f e = absurd (false≢true (sym f))
other_true false c f e = e

among_none : (n : List ℕ) (ms : List (List ℕ)) → is_among n ms ≡ false → All (λ y. n ≢ y) ms
among_none n [] e = All-nil (λ y. n ≢ y)
among_none n (m ∷ ms) e =
    let h = both_false (bytes_eq m n) (is_among n ms) e in
    All-cons (λ y. n ≢ y) m ms (λ s. false≢true (sym h.0 ∙ (bytes_decides m n).1 (sym s))) (among_none n ms h.1)

among_some : (n : List ℕ) (ms : List (List ℕ)) → is_among n ms ≡ true → ¬ All (λ y. n ≢ y) ms
among_some n [] e = absurd (false≢true e)
among_some n (m ∷ ms) e = λ all. elim (cases_Bool (bytes_eq m n)) [
  | inl t ↦ All-head (λ y. n ≢ y) m ms all (sym ((bytes_decides m n).0 t))
  | inr f ↦ among_some n ms (other_true (bytes_eq m n) (is_among n ms) f e) (All-tail (λ y. n ≢ y) m ms all)
]

distinct_drop : {X : Type 0} (name : X → List ℕ) (k : ℕ) (xs : List X) → AreDistinct (map name xs)
    → AreDistinct (map name (drop k xs))
distinct_drop name zero xs h = h
distinct_drop name (suc k) [] h = h
distinct_drop name (suc k) (x ∷ xs) h = distinct_drop name k xs h.1

abbrev pub at : List ℕ → Bor (List ℕ)
at name = record { ref_ptr = (0, 0); now = name }

not_new : (b : Bool) → false ≡ not b → b ≡ true
not_new true e = refl
not_new false e = absurd (false≢true e)

is_new : (b : Bool) → true ≡ not b → b ≡ false
is_new true e = absurd (false≢true (sym e))
is_new false e = refl

-- ---- the loop: the names from a place on are in the set, and are distinct

cut : {X : Type 0} (xs : List X) (k : ℕ) (d : X) → k < length xs → drop k xs ≡ get_or xs k d ∷ drop (k + 1) xs
cut xs k d h = rw (add-one) (drop-cons xs k d h)

pub held_none : {X S : Type 0} (names : HashSet (Bor (List ℕ)) S) (name : X → List ℕ) (xs : List X) (k : ℕ)
    → length xs ≤ k → ((n : List ℕ) → holds names n ≡ false) → (n : List ℕ)
    → holds names n ≡ is_among n (map name (drop k xs))
held_none {X} {S} names name xs k all h n = h n
    ∙ ap (λ (ys : List X). is_among n (map name ys)) (sym (drop_all k xs all))

pub distinct_none : {X : Type 0} (name : X → List ℕ) (xs : List X) (k : ℕ) → length xs ≤ k
    → AreDistinct (map name (drop k xs))
distinct_none {X} name xs k all = subst (λ (ys : List X). AreDistinct (map name ys)) (sym (drop_all k xs all)) tt

pub held_more : {X S : Type 0} (old new : HashSet (Bor (List ℕ)) S) (name : X → List ℕ) (xs : List X) (k left : ℕ)
    (d : X) → left ≡ k + 1 → left ≤ length xs
    → ((n : List ℕ) → holds old n ≡ is_among n (map name (drop left xs)))
    → ((n : List ℕ) → holds new n ≡ cond (bytes_eq (name (get_or xs k d)) n) true (holds old n))
    → (n : List ℕ) → holds new n ≡ is_among n (map name (drop k xs))
held_more {X} {S} old new name xs k left d e lt h g n =
    let inside : k < length xs = omega (arith, e, lt) in
    let cut_here : drop k xs ≡ get_or xs k d ∷ drop left xs = cut xs k d inside
    ∙ ap (λ (i : ℕ). get_or xs k d ∷ drop i xs) (sym e) in
    g n ∙ ap (λ (b : Bool). cond (bytes_eq (name (get_or xs k d)) n) true b) (h n)
    ∙ ap (λ (ys : List X). is_among n (map name ys)) (sym cut_here)

pub distinct_so : {X S : Type 0} (old : HashSet (Bor (List ℕ)) S) (name : X → List ℕ) (xs : List X) (k left : ℕ) (d : X)
    → left ≡ k + 1 → left ≤ length xs
    → ((n : List ℕ) → holds old n ≡ is_among n (map name (drop left xs)))
    → true ≡ not (holds old (name (get_or xs k d))) → AreDistinct (map name (drop left xs))
    → AreDistinct (map name (drop k xs))
distinct_so {X} {S} old name xs k left d e lt h new rest =
    let inside : k < length xs = omega (arith, e, lt) in
    let x = name (get_or xs k d) in
    let none = among_none x (map name (drop left xs)) (sym (h x) ∙ is_new (holds old x) new) in
    let all = all_names (λ y. x ≢ y) name (drop left xs) none in
    distinct_more name xs k d inside (subst (λ (i : ℕ). All (λ y. x ≢ name y) (drop i xs)) e all)
    (subst (λ (i : ℕ). AreDistinct (map name (drop i xs))) e rest)

pub not_distinct : {X S : Type 0} (old : HashSet (Bor (List ℕ)) S) (name : X → List ℕ) (xs : List X) (k left : ℕ)
    (d : X) → left ≡ k + 1 → left ≤ length xs
    → ((n : List ℕ) → holds old n ≡ is_among n (map name (drop left xs)))
    → false ≡ not (holds old (name (get_or xs k d))) → ¬ AreDistinct (map name xs)
not_distinct {X} {S} old name xs k left d e lt h known = λ all.
    let inside : k < length xs = omega (arith, e, lt) in
    let x = name (get_or xs k d) in
    let both = distinct_less name xs k d inside (distinct_drop name k xs all) in
    let others = subst (λ (i : ℕ). All (λ y. x ≢ name y) (drop i xs)) (sym e) both.0 in
    among_some x (map name (drop left xs)) (sym (h x) ∙ not_new (holds old x) known)
    (All-map (λ y. x ≢ y) name (drop left xs) others)
