-- The next of a list's items, and what an answer that may fail gives.
use Rattle.std.proofs.Common.{◌≡◌, ◌<◌, List, [], ◌∷◌, ◌++◌, length, get_or, refl, sym, ap, ◌∙◌, arith, append-nil, append_assoc, length-append, Ok, Err}
use Rattle.std.specs.Prelude.{Result, IfOk}
use Rattle.pool_board.specs.Lists.{together}

after : {A : Type 0} (xs ys : List A) (x d : A) → get_or (xs ++ x ∷ ys) (length xs) d ≡ x
after [] ys x d = refl
after (z ∷ zs) ys x d = after zs ys x d

-- where xs were taken of all, and x is the next, it is one of all
pub next_in : {A : Type 0} (xs zs ys all : List A) (x : A) → xs ++ zs ≡ all → zs ≡ x ∷ ys → (length xs < length all)
    × ((d : A) → get_or all (length xs) d ≡ x)
next_in xs zs ys all x is head =
    let whole : xs ++ x ∷ ys ≡ all = ap (λ l. xs ++ l) (sym head) ∙ is in
    let long : length (xs ++ x ∷ ys) ≡ length all = ap (λ l. length l) whole in
    (omega (arith, length-append xs (x ∷ ys)), λ d. ap (λ l. get_or l (length xs) d) (sym whole) ∙ after xs ys x d)

pub if_ok : {T E : Type 0} (r : Result T E) (P Q : T → Type 0) → ((x : T) → P x → Q x) → IfOk r P → IfOk r Q
if_ok (Ok x) P Q f p = f x p
if_ok (Err e) P Q f p = tt

pub together_push : {S A : Type 0} (f : S → List A) (xs : List S) (x : S)
    → together f (xs ++ x ∷ []) ≡ together f xs ++ f x
together_push f [] x = append-nil (f x)
together_push f (y ∷ ys) x = ap (λ l. f y ++ l) (together_push f ys x) ∙ sym (append_assoc (f y) (together f ys) (f x))
