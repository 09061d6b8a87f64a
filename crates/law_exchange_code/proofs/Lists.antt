-- Lists and options.
use Rattle.std.proofs.Common.{map, ◌≡◌, ℕ, suc, ◌+◌, Bool, cond, List, [], ◌∷◌, ◌++◌, length, Some, refl, sym, ap, ◌∙◌}
use Rattle.std.specs.List.{fold, flat_map, position, position_from}
use Rattle.std.proofs.lemmas.Iterator.Adapters.{position_from-zero}

pub two_paths : {A B C : Type 0} (f : A → B → C) {a a' : A} {b b' : B} → a ≡ a' → b ≡ b' → f a b ≡ f a' b'
two_paths f {a} {a'} {b} {b'} p q = ap (λ z. f z b) p ∙ ap (f a') q

pub mapped_twice : {A B C : Type 0} (g : B → C) (f : A → B) (xs : List A) → map g (map f xs) ≡ map (λ z. g (f z)) xs
mapped_twice g f [] = refl
mapped_twice g f (y ∷ ys) = ap (λ zs. g (f y) ∷ zs) (mapped_twice g f ys)

pub map_kept : {A B C : Type 0} (k : A → B) (f : B → C) (g : A → C) → ((y : A) → f (k y) ≡ g y) → (xs : List A)
    → map f (map k xs) ≡ map g xs
map_kept k f g e [] = refl
map_kept k f g e (y ∷ ys) = two_paths (λ z zs. z ∷ zs) (e y) (map_kept k f g e ys)

pub map_append : {A B : Type 0} (f : A → B) (xs ys : List A) → map f (xs ++ ys) ≡ map f xs ++ map f ys
map_append f [] ys = refl
map_append f (y ∷ xs) ys = ap (λ zs. f y ∷ zs) (map_append f xs ys)

pub length_map : {A B : Type 0} (f : A → B) (xs : List A) → length (map f xs) ≡ length xs
length_map f [] = refl
length_map f (y ∷ ys) = ap (λ n. suc n) (length_map f ys)

-- what is known of each
pub listed : {T A B : Type 0} (f : T → B) (m : T → A) (h : A → B) (xs : List ((t : T) × (f t ≡ h (m t))))
    → map f (map (λ s. s.0) xs) ≡ map h (map m (map (λ s. s.0) xs))
listed f m h [] = refl
listed f m h (y ∷ ys) = two_paths (λ b bs. b ∷ bs) y.1 (listed f m h ys)

-- a fold over other elements, from another start
pub fold_carried : {A B X Y : Type 0} (h : B → A) (k : Y → X) (f : A → X → A) (g : B → Y → B)
    → ((b : B) (y : Y) → f (h b) (k y) ≡ h (g b y)) → (b : B) (ys : List Y) → fold f (h b) (map k ys) ≡ h (fold g b ys)
fold_carried h k f g e b [] = refl
fold_carried h k f g e b (y ∷ ys) = ap (λ a. fold f a (map k ys)) (e b y) ∙ fold_carried h k f g e (g b y) ys

pub fold_kept : {A X Y : Type 0} (k : Y → X) (f : A → X → A) (g : A → Y → A) → ((b : A) (y : Y) → f b (k y) ≡ g b y)
    → (b : A) (ys : List Y) → fold f b (map k ys) ≡ fold g b ys
fold_kept k f g e b ys = fold_carried (λ z. z) k f g e b ys

pub flat_kept : {A X Y : Type 0} (k : Y → X) (f : X → List A) (g : Y → List A) → ((y : Y) → f (k y) ≡ g y)
    → (ys : List Y) → flat_map f (map k ys) ≡ flat_map g ys
flat_kept k f g e [] = refl
flat_kept k f g e (y ∷ ys) = two_paths (λ a b. a ++ b) (e y) (flat_kept k f g e ys)

pub flat_same : {A Y : Type 0} (f g : Y → List A) → ((y : Y) → f y ≡ g y) → (ys : List Y)
    → flat_map f ys ≡ flat_map g ys
flat_same f g e [] = refl
flat_same f g e (y ∷ ys) = two_paths (λ a b. a ++ b) (e y) (flat_same f g e ys)

found_from : {X Y : Type 0} (k : Y → X) (p : X → Bool) (q : Y → Bool) → ((y : Y) → p (k y) ≡ q y)
    → (n : ℕ) (ys : List Y)
    → position_from p n (map k ys) ≡ position_from q n ys
found_from k p q e n [] = refl
found_from k p q e n (y ∷ ys) = two_paths (λ b o. cond b (Some n) o) (e y) (found_from k p q e (n + 1) ys)

pub place_kept : {X Y : Type 0} (k : Y → X) (p : X → Bool) (q : Y → Bool) → ((y : Y) → p (k y) ≡ q y) → (ys : List Y)
    → position p (map k ys) ≡ position q ys
place_kept k p q e ys =
    position_from-zero p (map k ys) ∙ found_from k p q e 0 ys ∙ sym (position_from-zero q ys)
