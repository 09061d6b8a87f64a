-- Chains of pairs, and numbers in lists.
use Rattle.std.proofs.Common.{◌≡◌, ◌<◌, ◌≤◌, ℕ, zero, suc, ◌+◌, Bool, true, false, not, cond, ◌&&◌, ◌||◌, ◌==◌, List, [], ◌∷◌, length, take, get_or, refl, sym, ap, subst, ◌∙◌, inl, inr, arith, slice_index, ◌⊎◌, All, eq-eqb}
use Rattle.std.specs.List.{list_all}
use Rattle.std.proofs.lemmas.Bool.{cases_Bool, cases_lt, and_parts, false≢true, eqb-true}
use Rattle.std.proofs.lemmas.List.{get_or_past}
use Rattle.graph_walk.specs.Links.{has, times, flag, targets, AreNodes, Leads, Pair, Longer}
use Rattle.graph_walk.specs.Numbering.{IsNext}

pub or_true : (b c : Bool) → (b || c) ≡ true → (b ≡ true) ⊎ (c ≡ true)
or_true true c e = inl refl
or_true false c e = inr e

-- ---- numbers in lists

pub times_has : (xs : List ℕ) (k : ℕ) → has xs k ≡ true → 1 ≤ times xs k
times_has [] k e = absurd (false≢true e)
times_has (x ∷ xs) k e = elim (cases_Bool (x == k)) [
  | inl s ↦ subst (λ (b : Bool). 1 ≤ cond b 1 0 + times xs k) (sym s) (omega arith)
  | inr n ↦
      (let h = times_has xs k (ap (λ b. b || has xs k) (sym n) ∙ e) in omega (arith, h))
]

pub has_times : (xs : List ℕ) (k : ℕ) → 1 ≤ times xs k → has xs k ≡ true
has_times [] k l = absurd (omega arith)
has_times (x ∷ xs) k l = elim (cases_Bool (x == k)) [
  | inl s ↦ ap (λ b. b || has xs k) s
  | inr n ↦ ap (λ b. b || has xs k) n
      ∙ has_times xs k (let q : cond {A = ℕ} (x == k) 1 0 ≡ 0 = ap (λ b. cond b 1 0) n in omega (arith, q))
]

pub has_index : (xs : List ℕ) (p d : ℕ) → p < length xs → has xs (get_or xs p d) ≡ true
has_index [] p d l = absurd (omega arith)
has_index (x ∷ xs) zero d l = ap (λ b. b || has xs x) (eq-eqb x x refl)
has_index (x ∷ xs) (suc p) d l = right (x == get_or xs p d) (has xs (get_or xs p d)) (has_index xs p d (omega arith))
  where
    right : (b c : Bool) → c ≡ true → (b || c) ≡ true
    right true c f = refl
    right false c f = f

pub has_at : (xs : List ℕ) (n x : ℕ) → has (take n xs) x ≡ true → (k : ℕ) × (k < n) × (k < length xs)
    × (slice_index xs k ≡ x)
has_at [] zero x e = absurd (false≢true e)
has_at [] (suc n) x e = absurd (false≢true e)
has_at (y ∷ ys) zero x e = absurd (false≢true e)
has_at (y ∷ ys) (suc n) x e = elim (or_true (y == x) (has (take n ys) x) e) [
  | inl same ↦ (0, omega arith, omega arith, eqb-true y x same)
  | inr more ↦
      (let h = has_at ys n x more in (suc h.0, omega (arith, h.1), omega (arith, h.2), h.3))
]

-- each number of a list has what each element has
pub among : (P : ℕ → Type 0) (xs : List ℕ) (x : ℕ) → All P xs → has xs x ≡ true → P x
among P xs x all e = step xs (λ k l. all k 0 l) e
  where
    step : (ys : List ℕ) → ((k : ℕ) → k < length ys → P (get_or ys k 0)) → has ys x ≡ true → P x
    step [] h f = absurd (false≢true f)
    step (y ∷ ys) h f = elim (or_true (y == x) (has ys x) f) [
      | inl same ↦ subst P (eqb-true y x same) (h 0 (omega arith))
      | inr more ↦ step ys
          (λ k l. h (suc k) (omega arith)) more
    ]

-- ---- pairs

-- where a pair goes is a node
pub pair_within : (links : List (List ℕ)) (from to : ℕ) → AreNodes links → has (targets links from) to ≡ true
    → to < length links
pair_within links from to nodes e = elim (cases_lt from (length links)) [
  | inl l ↦ among (λ t. t < length links) (targets links from) to (nodes from [] l) e
  | inr g ↦ absurd (false≢true (ap (λ (ts : List ℕ). has ts to) (sym (get_or_past links from [] g)) ∙ e))
]

pub pairs_nodes : (links : List (List ℕ)) → ((from to : ℕ) → has (targets links from) to ≡ true → to < length links)
    → AreNodes links
pairs_nodes links h = λ k d l. λ j e m. within k d l j e m
  where
    same : (rows : List (List ℕ)) (k : ℕ) (d : List ℕ) → k < length rows → targets rows k ≡ get_or rows k d
    same [] k d l = absurd (omega arith)
    same (r ∷ rs) zero d l = refl
    same (r ∷ rs) (suc k) d l = same rs k d (omega arith)

    within : (k : ℕ) (d : List ℕ) → k < length links → (j e : ℕ) → j < length (get_or links k d)
        → get_or (get_or links k d) j e < length links
    within k d l j e m = h k (get_or (get_or links k d) j e)
        (ap (λ (ts : List ℕ). has ts (get_or (get_or links k d) j e)) (same links k d l)
        ∙ has_index (get_or links k d) j e m)

-- only nodes have pairs
pub from_within : (links : List (List ℕ)) (from to : ℕ) → has (targets links from) to ≡ true → from < length links
from_within links from to e = elim (cases_lt from (length links)) [
  | inl l ↦ l
  | inr g ↦ absurd (false≢true (ap (λ (ts : List ℕ). has ts to) (sym (get_or_past links from [] g)) ∙ e))
]

-- ---- chains

-- the first pair of a chain
pub first_step : (links : List (List ℕ)) (from to : ℕ) → Leads links from to → (next : ℕ)
    × (has (targets links from) next ≡ true) × ((next ≡ to) ⊎ Leads links next to)
first_step links from k (Pair to h) = (to, h, inl refl)
first_step links from k (Longer middle to l h) =
    let s = first_step links from middle l in
    elim s.2 [
      | inl e ↦ (s.0, s.1, inr (Pair to (subst (λ (k : ℕ). has (targets links k) to ≡ true) (sym e) h)))
      | inr
          longer ↦ (s.0, s.1, inr (Longer middle to longer h))
    ]

pub pair_first : (links : List (List ℕ)) (from next to : ℕ) → has (targets links from) next ≡ true → Leads links next to
    → Leads links from to
pair_first links from next k e (Pair to h) = Longer next to (Pair next e) h
pair_first links from next k e (Longer middle to l h) = Longer middle to (pair_first links from next middle e l) h

pub then_leads : (links : List (List ℕ)) (from middle to : ℕ) → Leads links from middle → Leads links middle to
    → Leads links from to
then_leads links from middle k l (Pair to h) = Longer middle to l h
then_leads links from middle k l (Longer later to m h) = Longer later to (then_leads links from middle later l m) h

pub leads_from : (links : List (List ℕ)) (from to : ℕ) → Leads links from to → from < length links
leads_from links from k (Pair to h) = from_within links from to h
leads_from links from k (Longer middle to l h) = leads_from links from middle l

pub leads_within : (links : List (List ℕ)) (from to : ℕ) → AreNodes links → Leads links from to → to < length links
leads_within links from k nodes (Pair to h) = pair_within links from to nodes h
leads_within links from k nodes (Longer middle to l h) = pair_within links middle to nodes h

-- ---- numbers of definitions

all_has : (p : ℕ → Bool) (ts : List ℕ) (t : ℕ) → list_all p ts ≡ true → has ts t ≡ true → p t ≡ true
all_has p [] t a e = absurd (false≢true e)
all_has p (x ∷ xs) t a e =
    let both = and_parts (p x) (list_all p xs) a in
    elim (or_true (x == t) (has xs t) e) [
      | inl same ↦ subst (λ (k : ℕ). p k ≡ true) (eqb-true x t same) both.0
      | inr
          more ↦ all_has p xs t both.1 more
    ]

-- what a definition imports got its number before it
pub done_before : (links : List (List ℕ)) (definitions : List Bool) (done : ℕ → Bool) (node t : ℕ)
    → IsNext links definitions done node → has (targets links node) t ≡ true → done t ≡ true
done_before links definitions done node t n e =
    all_has done (targets links node) t (and_parts (flag definitions node && not (done node))
    (list_all done (targets links node)) n.ready).1 e
