-- Lists of fields that are made one by one.
use Rattle.std.proofs.Common.{◌≡◌, ℕ, zero, suc, ◌+◌, List, [], ◌∷◌, ◌++◌, map, take, Option, refl, ap, sym, ◌∙◌, append-nil, append_assoc, add-one}
use Rattle.std.specs.Prelude.{slice_get}
use Rattle.std.specs.List.{fold}
use Rattle.typed_tree.specs.declared.types.TypeNo.{TypeNo}
use Rattle.typed_tree.specs.declared.shape.Formal.{Formal}
use Rattle.plain_store.specs.declared.blanks.Blank.{Blank}
use Rattle.plain_store.specs.declared.blanks.Kept.{Kept}
use Rattle.plain_store.specs.Blanks.{field_blank, if_some, header_blank, formal_blank, blank_in}

appended : {A B : Type 0} (f : A → B) (bs : List B) (xs : List A) → fold (λ bs x. bs ++ f x ∷ []) bs xs ≡ bs ++ map f xs
appended f bs [] = sym (append-nil bs)
appended f bs (x ∷ xs) = appended f (bs ++ f x ∷ []) xs ∙ append_assoc bs (f x ∷ []) (map f xs)

pub fields_are : (known : List Kept) (bs : List Blank) (fs : List (List ℕ × TypeNo))
    → bs ≡ fold (λ bs f. bs ++ field_blank known f ∷ []) [] fs → bs ≡ map (field_blank known) fs
fields_are known bs fs h = h ∙ appended (field_blank known) [] fs

pub frame_parts : (known : List Kept) (a b c : List Blank) (fs : List Formal) (ts : List TypeNo) → a ≡ header_blank ∷ []
    → b ≡ a ++ map (formal_blank known) fs → c ≡ b ++ map (blank_in known) ts
    → c ≡ header_blank ∷ (map (formal_blank known) fs ++ map (blank_in known) ts)
frame_parts known a b c fs ts e f g =
    g ∙ ap (λ (x : List Blank). x ++ map (blank_in known) ts)
    (f ∙ ap (λ (x : List Blank). x ++ map (formal_blank known) fs) e)

step : {A X : Type 0} (f : A → X → A) (a : A) (xs : List X) (i : ℕ)
    → if_some f (fold f a (take i xs)) (slice_get xs i) ≡ fold f a (take (suc i) xs)
step f a [] zero = refl
step f a [] (suc i) = refl
step f a (x ∷ xs) zero = refl
step f a (x ∷ xs) (suc i) = step f (f a x) xs i

step_at : {A X : Type 0} (f : A → X → A) (a : A) (xs : List X) (i : ℕ)
    → if_some f (fold f a (take i xs)) (slice_get xs i) ≡ fold f a (take (i + 1) xs)
step_at f a xs i = step f a xs i ∙ ap (λ (n : ℕ). fold f a (take n xs)) (sym (add-one i))

-- one more entry in a walk over a list
pub walked : {A X : Type 0} (f : A → X → A) (a : A) (xs : List X) (i : ℕ) (old new : A) (o : Option X)
    → old ≡ fold f a (take i xs) → o ≡ slice_get xs i → new ≡ if_some f old o → new ≡ fold f a (take (i + 1) xs)
walked f a xs i old new o h k e = e ∙ ap (λ o. if_some f old o) k ∙ ap (λ x. if_some f x (slice_get xs i)) h
    ∙ step_at f a xs i
