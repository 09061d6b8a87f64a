-- The last element of a list.
use Rattle.std.proofs.Common.{◌≡◌, ℕ, zero, suc, ◌-◌, List, length, take, [], ◌∷◌, ◌++◌, map, Option, Some, None, refl, sym, ap, ◌∙◌}
use Rattle.std.specs.Prelude.{option_to_list, MatchOption}
use Rattle.std.proofs.lemmas.List.{nil_from_length, length-map}
use Rattle.wasm_tree.specs.Machine.{split_last}
use Rattle.wasm_machine.specs.declared.frame.Frame.{Frame}
use Rattle.wasm_machine.specs.declared.frame.Label.{Label}
use Rattle.wasm_machine.specs.Going.{activation, waiting, label_of, innermost}

pub split_last-push : {A : Type 0} (xs : List A) (x : A) → split_last (xs ++ x ∷ []) ≡ Some (xs, x)
split_last-push [] x = refl
split_last-push (y ∷ xs) x = rw (split_last-push xs x) refl

pub no_more : {A : Type 0} (old : List A) (r : Option A) (b : Type 0) (q : A → Type 0) (m : ℕ) → m ≡ length old
    → MatchOption r ((m ≡ 0) × b) q → MatchOption r (length old ≡ 0) (λ x. Unit {0})
no_more old None b q m e h = sym e ∙ h.0
no_more old (Some x) b q m e h = tt

pub map-push : {A B : Type 0} (f : A → B) (xs : List A) (x : A) → map f (xs ++ x ∷ []) ≡ map f xs ++ f x ∷ []
map-push f [] x = refl
map-push {A} {B} f (y ∷ xs) x = ap (λ (zs : List B). f y ∷ zs) (map-push f xs x)

pub waiting_last : (old new : List Frame) (r : Option Frame) → old ≡ new ++ option_to_list r
    → MatchOption r (length old ≡ 0) (λ x. Unit {0}) → waiting new r ≡ split_last (map activation old)
waiting_last old new None e h = rw (nil_from_length old h) refl
waiting_last old new (Some x) e h = rw e
    (sym (ap split_last (map-push activation new x) ∙ split_last-push (map activation new) (activation x)))

pub innermost_last : (old new : List Label) (r : Option Label) → old ≡ new ++ option_to_list r
    → MatchOption r (length old ≡ 0) (λ x. Unit {0}) → innermost new r ≡ split_last (map label_of old)
innermost_last old new None e h = rw (nil_from_length old h) refl
innermost_last old new (Some x) e h = rw e
    (sym (ap split_last (map-push label_of new x) ∙ split_last-push (map label_of new) (label_of x)))

pub map_take : {A B : Type 0} (f : A → B) (n : ℕ) (xs : List A) → map f (take n xs) ≡ take n (map f xs)
map_take f zero [] = refl
map_take f zero (x ∷ xs) = refl
map_take f (suc n) [] = refl
map_take {A} {B} f (suc n) (x ∷ xs) = ap (λ (zs : List B). f x ∷ zs) (map_take f n xs)

pub labels_left : (old cut : List Label) (count label : ℕ) → cut ≡ take (count - label) old → count ≡ length old
    → map label_of cut ≡ take (length (map label_of old) - label) (map label_of old)
labels_left old cut count label e n =
    ap (map label_of) e ∙ (map_take label_of (count - label) old
    ∙ ap (λ m. take (m - label) (map label_of old)) (n ∙ sym (length-map old label_of)))
