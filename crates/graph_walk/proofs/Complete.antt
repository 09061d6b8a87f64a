-- Where there are no cycles, each definition gets a number.
use Rattle.std.proofs.Common.{◌≡◌, ◌<◌, ◌≤◌, ℕ, zero, suc, ◌+◌, Bool, true, false, not, cond, ◌&&◌, ◌||◌, ◌==◌, List, [], ◌∷◌, ◌++◌, length, take, refl, sym, ap, subst, ◌∙◌, inl, inr, arith, append_assoc, eq-eqb, slice_index}
use Rattle.std.specs.List.{list_all}
use Rattle.std.proofs.lemmas.Bool.{cases_lt, false≢true, eqb-true, and_parts}
use Rattle.std.proofs.lemmas.List.{take_more, take_all}
use Rattle.graph_walk.specs.Links.{has, times, flag, targets, AreNodes, Leads, Pair}
use Rattle.graph_walk.specs.Cycles.{IsCycleOrder, HasCycleOrder}
use Rattle.graph_walk.specs.Numbering.{IsNumbering}
use Rattle.graph_walk.proofs.Marking.{times-append}
use Rattle.graph_walk.proofs.Chains.{or_true, has_times, pair_within}
use Rattle.graph_walk.proofs.Finishing.{has_right, has_either}

-- where a number of a list stands
pub split_has : (xs : List ℕ) (x : ℕ) → has xs x ≡ true → (before : List ℕ) × (after : List ℕ)
    × (xs ≡ before ++ x ∷ after)
split_has [] x e = absurd (false≢true e)
split_has (y ∷ ys) x e = elim (or_true (y == x) (has ys x) e) [
  | inl s ↦ ([], ys, ap (λ k. k ∷ ys) (eqb-true y x s))
  | inr m ↦
      (let r = split_has ys x m in (y ∷ r.0, r.1, ap (λ zs. y ∷ zs) r.2))
]

all_from : (p : ℕ → Bool) (xs : List ℕ) → ((x : ℕ) → has xs x ≡ true → p x ≡ true) → list_all p xs ≡ true
all_from p [] h = refl
all_from p (x ∷ xs) h = both (p x) (list_all p xs) (h x (ap (λ b. b || has xs x) (eq-eqb x x refl)))
    (all_from p xs (λ y e. h y (later (x == y) (has xs y) e)))
  where
    both : (b c : Bool) → b ≡ true → c ≡ true → (b && c) ≡ true
    both true c e f = f
    both false c e f = absurd (false≢true e)

    later : (b c : Bool) → c ≡ true → (b || c) ≡ true
    later true c e = refl
    later false c e = e

abbrev ToDefinitions : List (List ℕ) → List Bool → Type 0
ToDefinitions links definitions = (from to : ℕ) → has (targets links from) to ≡ true → flag definitions to ≡ true

-- in the order of a walk against the pairs, what a node imports stands behind it
imports_behind : (links : List (List ℕ)) (order : List ℕ) → IsCycleOrder links order → AreNodes links
    → ((k : ℕ) → Leads links k k → ⊥) → (before after : List ℕ) (x to : ℕ) → order ≡ before ++ x ∷ after
    → has (targets links x) to ≡ true → has after to ≡ true
imports_behind links order o nodes none before after x to e p =
    elim (has_either before (x ∷ after) to
    (ap (λ (xs : List ℕ). has xs to) (sym e) ∙ o.whole to (pair_within links x to nodes p))) [
      | inl earlier ↦ absurd (before_it earlier)
      | inr later ↦ elim (or_true (x == to) (has after to) later) [
        | inl same ↦ absurd (none x (Pair x (ap (λ (k : ℕ). has (targets links x) k) (eqb-true x to same) ∙ p)))
        | inr behind ↦ behind
      ]
    ]
  where
    before_it : has before to ≡ true → ⊥
    before_it h =
        let r = split_has before to h in
        let split : order ≡ r.0 ++ to ∷ (r.1 ++ x ∷ after) = e ∙ ap (λ (xs : List ℕ). xs ++ x ∷ after) r.2
        ∙ append_assoc r.0 (to ∷ r.1) (x ∷ after) in
        none to (o.cycles r.0 (r.1 ++ x ∷ after) to x split
        (has_right (to ∷ r.1) (x ∷ after) x (ap (λ b. b || has after x) (eq-eqb x x refl))) (Pair to p))

numbered_one : (links : List (List ℕ)) (definitions : List Bool) (numbered : List ℕ) (x : ℕ)
    → IsNumbering links definitions numbered → flag definitions x ≡ true
    → list_all (has numbered) (targets links x) ≡ true → has numbered x ≡ true
numbered_one links definitions numbered x n d a =
    step (flag definitions x) (has numbered x) (list_all (has numbered) (targets links x)) d a (n.whole x)
  where
    step : (d h a : Bool) → d ≡ true → a ≡ true → ((d && not h) && a) ≡ false → h ≡ true
    step d true a e f g = refl
    step true false true e f g = sym g
    step true false false e f g = f
    step false false a e f g = e

numbered_behind : (links : List (List ℕ)) (definitions : List Bool) (order numbered : List ℕ) → IsCycleOrder links order
    → AreNodes links → ((k : ℕ) → Leads links k k → ⊥) → ToDefinitions links definitions
    → IsNumbering links definitions numbered → (before after : List ℕ) → order ≡ before ++ after → (x : ℕ)
    → has after x ≡ true → flag definitions x ≡ true → has numbered x ≡ true
numbered_behind links definitions order numbered o nodes none d n before [] e x h f = absurd (false≢true h)
numbered_behind links definitions order numbered o nodes none d n before (y ∷ ys) e x h f =
    let later = numbered_behind links definitions order numbered o nodes none d n (before ++ y ∷ []) ys
    (e ∙ sym (append_assoc before (y ∷ []) ys)) in
    elim (or_true (y == x) (has ys x) h) [
      | inl s ↦ (let q = eqb-true y x s in numbered_one links definitions numbered x n f
          (all_from (has numbered) (targets links x)
          (λ to p. later to (imports_behind links order o nodes none before ys x to
          (e ∙ ap (λ (k : ℕ). before ++ k ∷ ys) q) p) (d x to p))))
      | inr m ↦ later x m f
    ]

-- each definition has a number where there are no cycles
pub all_numbered : (links : List (List ℕ)) (definitions : List Bool) (numbered : List ℕ) → HasCycleOrder links
    → AreNodes links → ((k : ℕ) → Leads links k k → ⊥) → ToDefinitions links definitions
    → IsNumbering links definitions numbered → (x : ℕ) → x < length links → flag definitions x ≡ true
    → has numbered x ≡ true
all_numbered links definitions numbered o nodes none d n x l f =
    numbered_behind links definitions o.0 numbered o.1 nodes none d n [] o.0 refl x (o.1.whole x l) f

-- each once
pub numbered_once : (links : List (List ℕ)) (definitions : List Bool) (numbered : List ℕ)
    → IsNumbering links definitions numbered → (x : ℕ) → times numbered x ≤ 1
numbered_once links definitions numbered n x =
    subst (λ (xs : List ℕ). times xs x ≤ 1) (take_all (length numbered) numbered (omega arith))
    (upto (length numbered) (omega arith))
  where
    not_yet : (k : ℕ) → k < length numbered → has (take k numbered) (slice_index numbered k) ≡ false
    not_yet k l = not_true (has (take k numbered) (slice_index numbered k))
        (and_parts (flag definitions (slice_index numbered k)) (not (has (take k numbered) (slice_index numbered k)))
        (and_parts (flag definitions (slice_index numbered k) && not (has (take k numbered) (slice_index numbered k)))
        (list_all (has (take k numbered)) (targets links (slice_index numbered k))) (n.each k l).ready).0).1
      where
        not_true : (b : Bool) → not b ≡ true → b ≡ false
        not_true true e = sym e
        not_true false e = refl

    none : (xs : List ℕ) (y : ℕ) → has xs y ≡ false → times xs y ≡ 0
    none xs y e = elim (cases_lt 0 (times xs y))
        [ inl l ↦ absurd (false≢true (sym e ∙ has_times xs y (omega arith))) | inr g ↦ omega arith ]

    one : (b : Bool) (m : ℕ) → m ≤ 1 → (b ≡ true → m ≡ 0) → m + (cond {A = ℕ} b 1 0 + 0) ≤ 1
    one true m l h = let q = h refl in omega (arith, q)
    one false m l h = omega arith

    upto : (k : ℕ) → k ≤ length numbered → times (take k numbered) x ≤ 1
    upto zero l = subst (λ (m : ℕ). m ≤ 1) (sym (empty numbered)) (omega arith)
      where
        empty : (xs : List ℕ) → times (take zero xs) x ≡ 0
        empty [] = refl
        empty (y ∷ ys) = refl
    upto (suc k) l =
        let y = slice_index numbered k in
        let inside : k < length numbered = omega arith in
        let is : take (suc k) numbered ≡ take k numbered ++ y ∷ [] =
        ap (λ j. take j numbered) (let q : suc k ≡ k + 1 = omega arith in q) ∙ take_more numbered k 0 inside in
        subst (λ (m : ℕ). m ≤ 1) (sym (ap (λ (xs : List ℕ). times xs x) is ∙ times-append (take k numbered) (y ∷ []) x))
        (one (y == x) (times (take k numbered) x) (upto k (omega arith))
        (λ s. ap (times (take k numbered)) (sym (eqb-true y x s)) ∙ none (take k numbered) y (not_yet k inside)))
