-- Lists that are cut in two.
use Rattle.std.proofs.Common.{◌≡◌, ◌≤◌, ◌<◌, ℕ, suc, ◌+◌, Bool, true, false, cond, ◌&&◌, List, [], ◌∷◌, ◌++◌, length, get_or, take, drop, ap, sym, refl, ◌∙◌, arith}
use Rattle.std.specs.List.{list_all, prefix_len}
use Rattle.std.proofs.lemmas.List.{take_at, drop_at, take-append-drop}

pub same_head : {x y : ℕ} {xs ys : List ℕ} → x ∷ xs ≡ y ∷ ys → x ≡ y
same_head e = ap (λ xs. get_or xs 0 0) e

-- two cuts of one list at one place
pub same_cut : {A : Type 0} (w v r t : List A) → w ++ r ≡ v ++ t → length w ≡ length v → (w ≡ v) × (r ≡ t)
same_cut w v r t e n = (
  sym (take_at w r (length v) n) ∙ ap (take (length v)) e ∙ take_at v t (length v) refl,
  sym (drop_at w r (length v) n) ∙ ap (drop (length v)) e ∙ drop_at v t (length v) refl,
)

pub and_true : (a b : Bool) → (a && b) ≡ true → (a ≡ true) × (b ≡ true)
and_true true b h = (refl, h)
and_true false b h = cc

pub all_append : {A : Type 0} (p : A → Bool) (xs ys : List A) → list_all p (xs ++ ys) ≡ true → (list_all p xs ≡ true)
    × (list_all p ys ≡ true)
all_append p [] ys h = (refl, h)
all_append p (x ∷ xs) ys h =
    let a = and_true (p x) (list_all p (xs ++ ys)) h in
    let b = all_append p xs ys a.1 in
    (ap (λ c. c && list_all p xs) a.0 ∙ b.0, b.1)

counted : (v : Bool) (n m : ℕ) → n ≤ m → cond v (1 + n) 0 ≤ suc m
counted true n m h = omega arith
counted false n m h = omega arith

-- what passes a test, as far as it goes, is no longer than all that does
pub passes_within : {A : Type 0} (p : A → Bool) (v t : List A) → list_all p v ≡ true → length v ≤ prefix_len p (v ++ t)
passes_within p [] t h = omega arith
passes_within p (x ∷ v) t h =
    let a = and_true (p x) (list_all p v) h in
    let rest = passes_within p v t a.1 in
    let e : prefix_len p (x ∷ v ++ t) ≡ 1 + prefix_len p (v ++ t) =
    ap (λ c. cond c (1 + prefix_len p (v ++ t)) 0) a.0 in
    omega arith

-- and where the next one fails it, it is just as long
pub passes_to : {A : Type 0} (p : A → Bool) (v : List A) (x : A) (t : List A) → list_all p v ≡ true → p x ≡ false
    → prefix_len p (v ++ x ∷ t) ≡ length v
passes_to p [] x t h fails = ap (λ c. cond c (1 + prefix_len p t) 0) fails
passes_to p (y ∷ v) x t h fails =
    let a = and_true (p y) (list_all p v) h in
    let rest = passes_to p v x t a.1 fails in
    let e : prefix_len p (y ∷ v ++ x ∷ t) ≡ 1 + prefix_len p (v ++ x ∷ t) =
    ap (λ c. cond c (1 + prefix_len p (v ++ x ∷ t)) 0) a.0 in
    omega arith

pub all_prefix : {A : Type 0} (p : A → Bool) (xs : List A) → list_all p (take (prefix_len p xs) xs) ≡ true
all_prefix p [] = refl
all_prefix {A} p (x ∷ xs) =
    let P : Bool → Type 0 = λ b. p x ≡ b → list_all p (take (cond b (1 + prefix_len p xs) 0) (x ∷ xs)) ≡ true in
    elim (p x) as P [
      | true ↦ λ e. (let n : 1 + prefix_len p xs ≡ suc (prefix_len p xs) = omega arith in
          ap (λ n. list_all p (take n (x ∷ xs))) n ∙ ap (λ c. c && list_all p (take (prefix_len p xs) xs)) e
          ∙ all_prefix p xs)
      | false ↦ λ e. refl
    ] refl

pub all_take : {A : Type 0} (p : A → Bool) (n : ℕ) (xs : List A) → list_all p xs ≡ true → list_all p (take n xs) ≡ true
all_take p n xs h = (all_append p (take n xs) (drop n xs) (ap (list_all p) (take-append-drop n xs) ∙ h)).0

-- what fails a test stands no nearer than what passes goes
pub fails_beyond : {A : Type 0} (p : A → Bool) (v : List A) (x : A) (t : List A) → p x ≡ false
    → prefix_len p (v ++ x ∷ t) ≤ length v
fails_beyond p [] x t fails = let e : prefix_len p (x ∷ t) ≡ 0 = ap (λ c. cond c (1 + prefix_len p t) 0) fails in
    omega arith
fails_beyond p (y ∷ v) x t fails = counted (p y) (prefix_len p (v ++ x ∷ t)) (length v) (fails_beyond p v x t fails)

-- the first of two cuts, where the second lies behind it
pub inner_cut : {A : Type 0} (xs : List A) (x : A) (r ys t : List A) → xs ++ x ∷ r ≡ ys ++ t → length xs < length ys
    → (u : List A) × (ys ≡ xs ++ x ∷ u)
inner_cut xs x r [] t e h = absurd (omega arith)
inner_cut [] x r (y ∷ ys) t e h = (ys, (let k : x ≡ y = cc in cc))
inner_cut (z ∷ xs) x r (y ∷ ys) t e h =
    let rest : xs ++ x ∷ r ≡ ys ++ t = cc in
    let u = inner_cut xs x r ys t rest (omega arith) in
    (u.0, (let k : z ≡ y = cc in cc (u.1)))
