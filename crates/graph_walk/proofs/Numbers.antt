-- Definitions get numbers one after another.
use Rattle.std.proofs.Common.{◌≡◌, ◌<◌, ◌≤◌, ℕ, Bool, true, false, not, ◌&&◌, ◌||◌, List, [], ◌∷◌, ◌++◌, length, take, set, replicate, refl, sym, ap, subst, ◌∙◌, inl, inr, arith, slice_index}
use Rattle.std.specs.List.{list_all}
use Rattle.std.proofs.lemmas.Bool.{cases_lt, and_left, and_parts}
use Rattle.std.proofs.lemmas.List.{length-set, length-replicate, length_push, take-append-le, take_at, get_or_append_left, get_or_push}
use Rattle.graph_walk.specs.Links.{has, flag, targets}
use Rattle.graph_walk.specs.Marks.{weight}
use Rattle.graph_walk.specs.Numbering.{is_ready, IsNext, IsNumbering}
use Rattle.graph_walk.proofs.Marking.{has-append, flag_set, flag_fresh, unmarked_past, weight_set}

all_same : (f g : ℕ → Bool) → ((k : ℕ) → f k ≡ g k) → (xs : List ℕ) → list_all f xs ≡ list_all g xs
all_same f g e [] = refl
all_same f g e (x ∷ xs) = ap (λ b. b && list_all f xs) (e x) ∙ ap (λ b. g x && b) (all_same f g e xs)

pub ready_same : (links : List (List ℕ)) (definitions : List Bool) (f g : ℕ → Bool) → ((k : ℕ) → f k ≡ g k) → (n : ℕ)
    → is_ready links definitions f n ≡ is_ready links definitions g n
ready_same links definitions f g e n = ap (λ b. (flag definitions n && not b) && list_all f (targets links n)) (e n)
    ∙ ap (λ b. (flag definitions n && not (g n)) && b) (all_same f g e (targets links n))

pub next_same : (links : List (List ℕ)) (definitions : List Bool) (f g : ℕ → Bool) → ((k : ℕ) → f k ≡ g k) → (n : ℕ)
    → IsNext links definitions f n → IsNext links definitions g n
next_same links definitions f g e n h = record {
  ready = sym (ready_same links definitions f g e n) ∙ h.ready;
  first = λ k l. sym (ready_same links definitions f g e k) ∙ h.first k l;
}

pub never_past : (links : List (List ℕ)) (definitions : List Bool) (done : ℕ → Bool) (k : ℕ) → length definitions ≤ k
    → is_ready links definitions done k ≡ false
never_past links definitions done k g = and_left (flag definitions k && not (done k)) (list_all done (targets links k))
    (and_left (flag definitions k) (not (done k)) (unmarked_past definitions k g))

pub none_ready : (links : List (List ℕ)) (definitions : List Bool) (done : ℕ → Bool) (n : ℕ) → length definitions ≤ n
    → ((k : ℕ) → k < n → is_ready links definitions done k ≡ false) → (k : ℕ)
    → is_ready links definitions done k ≡ false
none_ready links definitions done n g below k =
    elim (cases_lt k n) [ inl l ↦ below k l | inr h ↦ never_past links definitions done k (omega arith) ]

-- what holds while definitions get numbers
pub record Numbers (links : List (List ℕ)) (definitions flags : List Bool) (order : List ℕ) : Type 0 where
  pub same : length flags ≡ length links
  pub numbered : (k : ℕ) → flag flags k ≡ has order k
  pub each : (k : ℕ) → k < length order → IsNext links definitions (has (take k order)) (slice_index order k)

pub numbers_none : (links : List (List ℕ)) (definitions : List Bool) (n : ℕ) → n ≡ length links
    → Numbers links definitions (replicate n false) []
numbers_none links definitions n e = record {
  same = length-replicate n false ∙ e;
  numbered = λ k. flag_fresh n k;
  each = λ k l. absurd (omega arith);
}

pub numbers_more : (links : List (List ℕ)) (definitions flags : List Bool) (order : List ℕ) (n : ℕ)
    → Numbers links definitions flags order → n < length links → IsNext links definitions (flag flags) n
    → Numbers links definitions (set flags n true) (order ++ n ∷ [])
numbers_more links definitions flags order n h l next = record {
  same = length-set flags n true ∙ h.same;
  numbered = λ k. flag_set flags n k (omega (arith, h.same)) ∙ ap (λ b. b || has (n ∷ []) k) (h.numbered k)
      ∙ sym (has-append order (n ∷ []) k);
  each = each;
}
  where
    before : (k : ℕ) → k < length order → IsNext links definitions (has (take k (order ++ n ∷ [])))
        (slice_index (order ++ n ∷ []) k)
    before k g = subst (λ (p : List ℕ × ℕ). IsNext links definitions (has p.0) p.1)
        (let e1 = take-append-le k order (n ∷ []) (omega arith) in let e2 = get_or_append_left order (n ∷ []) 0 k g in
        let e : (take k order, slice_index order k) ≡ (take k (order ++ n ∷ []), slice_index (order ++ n ∷ []) k) =
        cc in e) (h.each k g)

    last : (k : ℕ) → length order ≡ k → IsNext links definitions (has (take k (order ++ n ∷ [])))
        (slice_index (order ++ n ∷ []) k)
    last k s = subst (λ (p : List ℕ × ℕ). IsNext links definitions (has p.0) p.1)
        (let e1 = take_at order (n ∷ []) k s in let e2 = get_or_push order n 0 k s in
        let e : (order, n) ≡ (take k (order ++ n ∷ []), slice_index (order ++ n ∷ []) k) = cc in e)
        (next_same links definitions (flag flags) (has order) h.numbered n next)

    each : (k : ℕ) → k < length (order ++ n ∷ [])
        → IsNext links definitions (has (take k (order ++ n ∷ []))) (slice_index (order ++ n ∷ []) k)
    each k g = elim (cases_lt k (length order))
        [ inl b ↦ before k b | inr a ↦ last k (omega (arith, length_push order n)) ]

pub numbers_all : (links : List (List ℕ)) (definitions flags : List Bool) (order : List ℕ)
    → Numbers links definitions flags order → ((k : ℕ) → is_ready links definitions (flag flags) k ≡ false)
    → IsNumbering links definitions order
numbers_all links definitions flags order h none = record {
  each = h.each;
  whole = λ k. sym (ready_same links definitions (flag flags) (has order) h.numbered k) ∙ none k;
}

-- the definition that comes next has no number yet
pub next_unmarked : (links : List (List ℕ)) (definitions flags : List Bool) (n : ℕ)
    → IsNext links definitions (flag flags) n → flag flags n ≡ false
next_unmarked links definitions flags n h =
    not_true (flag flags n) (and_parts (flag definitions n) (not (flag flags n))
    (and_parts (flag definitions n && not (flag flags n)) (list_all (flag flags) (targets links n)) h.ready).0).1
  where
    not_true : (b : Bool) → not b ≡ true → b ≡ false
    not_true true e = sym e
    not_true false e = refl

pub next_at : (links : List (List ℕ)) (definitions now items : List Bool) (n : ℕ) → now ≡ items
    → IsNext links definitions (flag now) n → IsNext links definitions (flag items) n
next_at links definitions now items n e h = subst (λ (fs : List Bool). IsNext links definitions (flag fs) n) e h

pub numbers_goes_on : (links : List (List ℕ)) (definitions now items : List Bool) (order order' : List ℕ) (n : ℕ)
    → now ≡ items → order' ≡ order ++ n ∷ [] → Numbers links definitions items order → n < length links
    → IsNext links definitions (flag now) n → Numbers links definitions (set items n true) order'
numbers_goes_on links definitions now items order order' n e1 e2 h l next =
    subst (λ (xs : List ℕ). Numbers links definitions (set items n true) xs) (sym e2)
    (numbers_more links definitions items order n h l (next_at links definitions now items n e1 next))

pub numbers_less : (links : List (List ℕ)) (definitions now items : List Bool) (order : List ℕ) (n : ℕ) → now ≡ items
    → Numbers links definitions items order → n < length links → IsNext links definitions (flag now) n
    → weight [] (set items n true) < weight [] items
numbers_less links definitions now items order n e h l next =
    let w = weight_set [] items n (omega (arith, h.same))
    (next_unmarked links definitions items n (next_at links definitions now items n e next)) in
    omega (arith, w)
