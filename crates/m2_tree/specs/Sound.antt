-- Tests that hold of equal values alone.
use Rattle.std.proofs.Common.{◌≡◌, ℕ, Bool, true, false, ◌&&◌, List, [], ◌∷◌, Option, Some, None, refl, sym, ap, inl, inr, nat_eq}
use Rattle.std.proofs.lemmas.Bool.{eqb-true}
use Rattle.std.specs.Cmp.{first_so, second_so}
use Rattle.std.specs.Cmp.Lexicographic.{pointwise}
use Rattle.std.specs.Option.{option_eq}
use mathlib.Core.Bool.{true≢false}
use mathlib.Core.List.{map}
use denote.Struct.Field.{Field}
use denote.Enum.Declared.{Choice}
use denote.Enum.Compared.{Each, by}

abbrev pub Sound : {A : Type 0} → (A → A → Bool) → A → Type 0
Sound {A} E a = (b : A) → E a b ≡ true → a ≡ b

pub no : {P : Type 0} → false ≡ true → P
no h = absurd (true≢false (sym h))

pub number : (a : ℕ) → Sound nat_eq a
number a b h = eqb-true a b h

pub list : {A B : Type 0} (E : A → A → Bool) (f : B → A) → ((b : B) → Sound E (f b)) → (bs : List B)
    → Sound (pointwise E) (map f bs)
list E f s [] [] h = refl
list E f s [] (y ∷ ys) h = no h
list E f s (x ∷ xs) [] h = no h
list E f s (x ∷ xs) (y ∷ ys) h =
    λ i.
    s x y (first_so (E (f x) y) (pointwise E (map f xs) ys) h) i
    ∷ list E f s xs ys (second_so (E (f x) y) (pointwise E (map f xs) ys) h) i

pub all : {A : Type 0} (E : A → A → Bool) → ((a : A) → Sound E a) → (xs : List A)
    → Sound (pointwise E) xs
all E s [] [] h = refl
all E s [] (y ∷ ys) h = no h
all E s (x ∷ xs) [] h = no h
all E s (x ∷ xs) (y ∷ ys) h =
    λ i.
    s x y (first_so (E x y) (pointwise E xs ys) h) i
    ∷ all E s xs ys (second_so (E x y) (pointwise E xs ys) h) i

pub some : {A : Type 0} (E : A → A → Bool) (a : A) → Sound E a → Sound (option_eq E) (Some a)
some E a s None h = no h
some E a s (Some b) h = ap (λ x. Some x) (s b h)

pub none : {A : Type 0} (E : A → A → Bool) → Sound (option_eq E) None
none E None h = refl
none E (Some b) h = no h

pub option : {A : Type 0} (E : A → A → Bool) → ((a : A) → Sound E a) → (o : Option A)
    → Sound (option_eq E) o
option E s None = none E
option E s (Some a) = some E a (s a)

-- what the fields of a variant are
pub one : {A : Type 0} (E : A → A → Bool) (a : A) → Sound E a → (v : A × Unit {0}) → E a v.0 ≡ true
    → ◌≡◌ {A = A × Unit {0}} (a, tt) v
one E a s v h = λ i. (s v.0 h i, tt)

pub two : {A B : Type 0} (E : A → A → Bool) (F : B → B → Bool) (a : A) (b : B)
    → Sound E a
    → Sound F b
    → (v : A × (B × Unit {0}))
    → (E a v.0 && F b v.1.0) ≡ true
    → ◌≡◌ {A = A × (B × Unit {0})} (a, (b, tt)) v
two E F a b s t v h =
    let p = s v.0 (first_so (E a v.0) (F b v.1.0) h) in
    let q = t v.1.0 (second_so (E a v.0) (F b v.1.0) h) in
    λ i. (p i, (q i, tt))

pub three : {A B C : Type 0} (E : A → A → Bool) (F : B → B → Bool) (G : C → C → Bool) (a : A)
    (b : B) (c : C)
    → Sound E a
    → Sound F b
    → Sound G c
    → (v : A × (B × (C × Unit {0})))
    → (E a v.0 && (F b v.1.0 && G c v.1.1.0)) ≡ true
    → ◌≡◌ {A = A × (B × (C × Unit {0}))} (a, (b, (c, tt))) v
three E F G a b c s t u v h =
    let p = s v.0 (first_so (E a v.0) (F b v.1.0 && G c v.1.1.0) h) in
    let r = two F G b c t u v.1 (second_so (E a v.0) (F b v.1.0 && G c v.1.1.0) h) in
    λ i. (p i, r i)

pub four : {A B C D : Type 0} (E : A → A → Bool) (F : B → B → Bool) (G : C → C → Bool)
    (H : D → D → Bool) (a : A) (b : B) (c : C) (d : D)
    → Sound E a
    → Sound F b
    → Sound G c
    → Sound H d
    → (v : A × (B × (C × (D × Unit {0}))))
    → (E a v.0 && (F b v.1.0 && (G c v.1.1.0 && H d v.1.1.1.0))) ≡ true
    → ◌≡◌ {A = A × (B × (C × (D × Unit {0})))} (a, (b, (c, (d, tt)))) v
four E F G H a b c d s t u w v h =
    let p = s v.0 (first_so (E a v.0) (F b v.1.0 && (G c v.1.1.0 && H d v.1.1.1.0)) h) in
    let r = three F G H b c d t u w v.1
    (second_so (E a v.0) (F b v.1.0 && (G c v.1.1.0 && H d v.1.1.1.0)) h) in
    λ i. (p i, r i)

pub five : {A B C D X : Type 0} (E : A → A → Bool) (F : B → B → Bool) (G : C → C → Bool)
    (H : D → D → Bool) (K : X → X → Bool) (a : A) (b : B) (c : C) (d : D) (x : X)
    → Sound E a
    → Sound F b
    → Sound G c
    → Sound H d
    → Sound K x
    → (v : A × (B × (C × (D × (X × Unit {0})))))
    → (E a v.0 && (F b v.1.0 && (G c v.1.1.0 && (H d v.1.1.1.0 && K x v.1.1.1.1.0)))) ≡ true
    → ◌≡◌ {A = A × (B × (C × (D × (X × Unit {0}))))} (a, (b, (c, (d, (x, tt))))) v
five E F G H K a b c d x s t u w z v h =
    let p = s v.0
    (first_so (E a v.0) (F b v.1.0 && (G c v.1.1.0 && (H d v.1.1.1.0 && K x v.1.1.1.1.0))) h) in
    let r = four F G H K b c d x t u w z v.1
    (second_so (E a v.0) (F b v.1.0 && (G c v.1.1.0 && (H d v.1.1.1.0 && K x v.1.1.1.1.0))) h) in
    λ i. (p i, r i)

-- The test of the variant that a value is holds of equal fields alone.
abbrev pub Fine : (Fss : List (List Field)) → Each Bool Fss → Choice Fss → Type 0
Fine [] each c = Unit {0}
Fine (Fs ∷ Fss) each (inl x) = Sound each.0 x
Fine (Fs ∷ Fss) each (inr c) = Fine Fss each.1 c

pub variants : (Fss : List (List Field)) (each : Each Bool Fss) (c d : Choice Fss) → Fine Fss each c
    → by false false Fss each c d ≡ true → c ≡ d
variants [] each c d f h = absurd c
variants (Fs ∷ Fss) each (inl x) (inl y) f h = ap (λ v. inl v) (f y h)
variants (Fs ∷ Fss) each (inl x) (inr y) f h = no h
variants (Fs ∷ Fss) each (inr x) (inl y) f h = no h
variants (Fs ∷ Fss) each (inr x) (inr y) f h = ap (λ v. inr v) (variants Fss each.1 x y f h)
