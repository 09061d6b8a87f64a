-- Lists: their parts, their last elements, steps through them, and pairs of them.
use Rattle.std.proofs.Common.{◌≡◌, ℕ, zero, suc, ◌+◌, ◌-◌, ◌<◌, ◌≤◌, List, [], ◌∷◌, ◌++◌, length, map, Option, Some, None, refl, sym, ap, ap₂, subst, ◌∙◌, arith}
use Rattle.std.specs.Prelude.{slice_get, All}
use Rattle.std.proofs.lemmas.List.{length-append, take_at, drop_at}
use Rattle.std.proofs.lemmas.Option.{slice_get_within, get_or_from_slice_get, none-some, same_Some}
use Rattle.std.proofs.lemmas.Bool.{le-leb}
use Rattle.wasm_tree.specs.Machine.{split_last, split_end}
use Rattle.wasm_sound.specs.Sound.{Through, Pairwise}

-- ---- the element at an index

pub at : {A : Type 0} (P : A → Type 0) (xs : List A) (k : ℕ) (x : A) → All P xs → slice_get xs k ≡ Some x → P x
at P xs k x h e = subst P (get_or_from_slice_get xs k x x e) (h k x (slice_get_within xs k x e))

pub some_at : {A : Type 0} (xs : List A) (k : ℕ) → k < length xs → (x : A) × (slice_get xs k ≡ Some x)
some_at [] k h = absurd (omega arith)
some_at (x ∷ xs) zero h = (x, refl)
some_at (x ∷ xs) (suc k) h = some_at xs k (omega arith)

pub at-map : {A B : Type 0} (f : A → B) (xs : List A) (k : ℕ) (y : B) → slice_get (map f xs) k ≡ Some y → (x : A)
    × (slice_get xs k ≡ Some x) × (f x ≡ y)
at-map f [] k y e = absurd (none-some y e)
at-map f (x ∷ xs) zero y e = (x, refl, same_Some (f x) y e)
at-map f (x ∷ xs) (suc k) y e = at-map f xs k y e

pub same_at : {A : Type 0} (o : Option A) (x y : A) → o ≡ Some x → o ≡ Some y → x ≡ y
same_at o x y e g = same_Some x y (sym e ∙ g)

-- ---- the last element

pub split_last-push : {A : Type 0} (xs : List A) (x : A) → split_last (xs ++ x ∷ []) ≡ Some (xs, x)
split_last-push [] x = refl
split_last-push (y ∷ xs) x = rw (split_last-push xs x) refl

abbrev pub behind : {A : Type 0} → A → Option (List A × A) → Option (List A × A)
behind x o = elim o [ None ↦ Some ([], x) | Some q ↦ Some (x ∷ q.0, q.1) ]

pub nil_from_last : {A : Type 0} (xs : List A) → split_last xs ≡ None → xs ≡ []
nil_from_last [] e = refl
nil_from_last {A} (x ∷ xs) e = go (split_last xs) e
  where
    go : (o : Option (List A × A)) → behind x o ≡ None → x ∷ xs ≡ []
    go None g = absurd (grind arith)
    go (Some q) g = absurd (grind arith)

pub push_from_last : {A : Type 0} (xs : List A) (p : List A × A) → split_last xs ≡ Some p → xs ≡ p.0 ++ p.1 ∷ []
push_from_last [] p e = absurd (none-some p e)
push_from_last {A} (x ∷ xs) p e = go (λ q f. push_from_last xs q f) (split_last xs) refl e
  where
    go : ((q : List A × A) → split_last xs ≡ Some q → xs ≡ q.0 ++ q.1 ∷ []) → (o : Option (List A × A))
        → split_last xs ≡ o → behind x o ≡ Some p → x ∷ xs ≡ p.0 ++ p.1 ∷ []
    go before None f g = ap (λ (l : List A). x ∷ l) (nil_from_last xs f)
        ∙ ap (λ (q : List A × A). q.0 ++ q.1 ∷ []) (same_Some ([], x) p g)
    go before (Some q) f g = ap (λ (l : List A). x ∷ l) (before q f)
        ∙ ap (λ (r : List A × A). r.0 ++ r.1 ∷ []) (same_Some (x ∷ q.0, q.1) p g)

-- ---- parts under a map

pub parts : {A B : Type 0} (f : A → B) (xs : List A) (ys zs : List B) → map f xs ≡ ys ++ zs → (us vs : List A)
    × (xs ≡ us ++ vs) × (map f us ≡ ys) × (map f vs ≡ zs)
parts f xs [] zs e = ([], xs, refl, refl, e)
parts f [] (y ∷ ys) zs e = absurd (grind arith)
parts {A} {B} f (x ∷ xs) (y ∷ ys) zs e =
    let rest = parts f xs ys zs (cc) in
    (x ∷ rest.0, rest.1, ap (λ (l : List A). x ∷ l) rest.2, cc, rest.4)

pub split_end_at : {A : Type 0} (xs ys : List A) (n : ℕ) → n ≡ length ys → split_end n (xs ++ ys) ≡ Some (xs, ys)
split_end_at {A} xs ys n e =
    let long : length (xs ++ ys) ≡ length xs + length ys = length-append xs ys in
    let fits : n ≤ length (xs ++ ys) = omega (arith, long, e) in
    let front : length xs ≡ length (xs ++ ys) - n = omega (arith, long, e) in
    rw (le-leb n (length (xs ++ ys)) fits)
    (ap₂ (λ (us vs : List A). Some (us, vs)) (take_at xs ys (length (xs ++ ys) - n) front)
    (drop_at xs ys (length (xs ++ ys) - n) front))

-- ---- steps through a list

pub through-append : {S X : Type 0} (Step : S → X → S → Type 0) (xs ys : List X) (first middle last : S)
    → Through Step first xs middle → Through Step middle ys last → Through Step first (xs ++ ys) last
through-append {S} Step [] ys first middle last h g = subst (λ (s : S). Through Step s ys last) (sym h) g
through-append Step (x ∷ xs) ys first middle last h g = (h.0, h.1, through-append Step xs ys h.0 middle last h.2 g)

pub through_split : {S X : Type 0} (Step : S → X → S → Type 0) (xs ys : List X) (first last : S)
    → Through Step first (xs ++ ys) last → (middle : S) × Through Step first xs middle × Through Step middle ys last
through_split Step [] ys first last h = (first, refl, h)
through_split Step (x ∷ xs) ys first last h = let rest = through_split Step xs ys h.0 last h.2 in
    (rest.0, (h.0, h.1, rest.1), rest.2)

pub through_push : {S X : Type 0} (Step : S → X → S → Type 0) (xs : List X) (x : X) (first middle last : S)
    → Through Step first xs middle → Step middle x last → Through Step first (xs ++ x ∷ []) last
through_push Step xs x first middle last h g = through-append Step xs (x ∷ []) first middle last h (last, g, refl)

pub through_pop : {S X : Type 0} (Step : S → X → S → Type 0) (xs : List X) (x : X) (first last : S)
    → Through Step first (xs ++ x ∷ []) last → (middle : S) × Through Step first xs middle × Step middle x last
through_pop {S} Step xs x first last h =
    let r = through_split Step xs (x ∷ []) first last h in
    (r.0, r.1, subst (λ (s : S). Step r.0 x s) r.2.2 r.2.1)

-- ---- pairs of lists

pub pair_at : {X Y : Type 0} (R : X → Y → Type 0) (xs : List X) (ys : List Y) (k : ℕ) (x : X) → Pairwise R xs ys
    → slice_get xs k ≡ Some x → (y : Y) × (slice_get ys k ≡ Some y) × R x y
pair_at R [] ys k x h e = absurd (none-some x e)
pair_at R (a ∷ xs) [] k x h e = absurd h
pair_at {X} R (a ∷ xs) (b ∷ ys) zero x h e = (b, refl, subst (λ (z : X). R z b) (same_Some a x e) h.0)
pair_at R (a ∷ xs) (b ∷ ys) (suc k) x h e = pair_at R xs ys k x h.1 e

pub pairs-append : {X Y : Type 0} (R : X → Y → Type 0) (xs us : List X) (ys vs : List Y) → Pairwise R xs ys
    → Pairwise R us vs → Pairwise R (xs ++ us) (ys ++ vs)
pairs-append R [] us [] vs h g = g
pairs-append R [] us (y ∷ ys) vs h g = absurd h
pairs-append R (x ∷ xs) us [] vs h g = absurd h
pairs-append R (x ∷ xs) us (y ∷ ys) vs h g = (h.0, pairs-append R xs us ys vs h.1 g)

pub pairs_push : {X Y : Type 0} (R : X → Y → Type 0) (xs : List X) (ys : List Y) (x : X) (y : Y) → Pairwise R xs ys
    → R x y → Pairwise R (xs ++ x ∷ []) (ys ++ y ∷ [])
pairs_push R xs ys x y h r = pairs-append R xs (x ∷ []) ys (y ∷ []) h (r, tt)

pub pairs_imply : {X Y : Type 0} (R Q : X → Y → Type 0) (xs : List X) (ys : List Y) → ((x : X) (y : Y) → R x y → Q x y)
    → Pairwise R xs ys → Pairwise Q xs ys
pairs_imply R Q [] [] f h = tt
pairs_imply R Q [] (y ∷ ys) f h = absurd h
pairs_imply R Q (x ∷ xs) [] f h = absurd h
pairs_imply R Q (x ∷ xs) (y ∷ ys) f h = (f x y h.0, pairs_imply R Q xs ys f h.1)

pub pairs_length : {X Y : Type 0} (R : X → Y → Type 0) (xs : List X) (ys : List Y) → Pairwise R xs ys
    → length xs ≡ length ys
pairs_length R [] [] h = refl
pairs_length R [] (y ∷ ys) h = absurd h
pairs_length R (x ∷ xs) [] h = absurd h
pairs_length R (x ∷ xs) (y ∷ ys) h = ap suc (pairs_length R xs ys h.1)

pub pair_back : {X Y : Type 0} (R : X → Y → Type 0) (xs : List X) (ys : List Y) (k : ℕ) (y : Y) → Pairwise R xs ys
    → slice_get ys k ≡ Some y → (x : X) × (slice_get xs k ≡ Some x) × R x y
pair_back R [] [] k y h e = absurd (none-some y e)
pair_back R [] (b ∷ ys) k y h e = absurd h
pair_back R (a ∷ xs) [] k y h e = absurd h
pair_back {X} {Y} R (a ∷ xs) (b ∷ ys) zero y h e = (a, refl, subst (λ (z : Y). R a z) (same_Some b y e) h.0)
pair_back R (a ∷ xs) (b ∷ ys) (suc k) y h e = pair_back R xs ys k y h.1 e
