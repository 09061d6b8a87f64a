-- Trees whose first components are at hand say what they did.
use Rattle.std.proofs.Common.{◌≡◌, ℕ, zero, suc, ◌<◌, ◌+◌, ◌≤◌, ℤ, pos, Bool, true, false, List, [], ◌∷◌, ◌++◌, map, length, refl, sym, ap, subst, ◌∙◌, append_assoc, arith}
use Rattle.std.specs.Prelude.{nat_lt, slice_get, if◌then◌else◌}
use Rattle.std.proofs.lemmas.List.{map-append, length-append}
use Rattle.std.proofs.lemmas.Bool.{lt-ltb, le-ltb, ltb-true, ltb-false}
use Rattle.def_meaning.specs.Store.{Location}
use Rattle.plain_store.specs.declared.held.Held.{Held}
use Rattle.plain_store.specs.declared.held.Held.TheVariants.{Same, Parts, Array}
use Rattle.plain_store.specs.declared.opened_tree.Components.{Components}
use Rattle.plain_store.specs.Contents.{Contents, or_rest, contents, repeat_item, opened_contents, spread, SaysAs, Longer}
use Rattle.plain_store.proofs.Layers.{at_same, parts, own_array, one_array}

-- ---- more of the same behind

behind_same : (f : Contents) (fs gs : List Contents) → ((k : ℕ) → or_rest (slice_get gs k) f ≡ f) → (k : ℕ)
    → or_rest (slice_get (fs ++ gs) k) f ≡ or_rest (slice_get fs k) f
behind_same f [] gs h k = h k
behind_same f (g ∷ fs) gs h zero = refl
behind_same f (g ∷ fs) gs h (suc k) = behind_same f fs gs h k

one_same : (f : Contents) (k : ℕ) → or_rest (slice_get (f ∷ []) k) f ≡ f
one_same f zero = refl
one_same f (suc k) = refl

repeated_same : (n : ℕ) (x : Held) (k : ℕ)
    → or_rest (slice_get (map contents (repeat_item n x)) k) (contents x) ≡ contents x
repeated_same zero x k = refl
repeated_same (suc n) x k =
    ap (λ (fs : List Contents). or_rest (slice_get fs k) (contents x)) (map-append contents (repeat_item n x) (x ∷ []))
    ∙ behind_same (contents x) (map contents (repeat_item n x)) (contents x ∷ []) (one_same (contents x)) k
    ∙ repeated_same n x k

longer_at : (own : ℤ) (ps : List Held) (rest : Held) (n : ℕ) (l : Location)
    → opened_contents (spread own (ps ++ repeat_item n rest) rest) l ≡ opened_contents (spread own ps rest) l
longer_at own ps rest n [] = refl
longer_at own ps rest n (k ∷ r) =
    ap (λ (fs : List Contents). or_rest (slice_get fs k) (contents rest) r)
    (map-append contents ps (repeat_item n rest))
    ∙ ap (λ (f : Contents). f r) (behind_same (contents rest) (map contents ps) (map contents (repeat_item n rest))
    (repeated_same n rest) k)

repeated_length : {A : Type 0} (n : ℕ) (x : A) → length (repeat_item n x) ≡ n
repeated_length zero x = refl
repeated_length (suc n) x = length-append (repeat_item n x) (x ∷ [])
    ∙ (let e : length (repeat_item n x) ≡ n = repeated_length n x in omega (arith, e))

pub is_longer : (tree : Components) (number missing : ℕ) (ps qs : List Held) (o : Components)
    → length tree.parts + missing ≡ number → ps ≡ tree.parts ++ repeat_item missing tree.rest
    → qs ≡ ps ++ tree.rest ∷ []
    → o ≡ spread tree.own qs tree.rest → Longer tree number o
is_longer tree number missing ps qs o e f g h =
    let all : qs ≡ tree.parts ++ repeat_item (suc missing) tree.rest = g
    ∙ ap (λ (xs : List Held). xs ++ tree.rest ∷ []) f
    ∙ append_assoc tree.parts (repeat_item missing tree.rest) (tree.rest ∷ []) in
    subst (Longer tree number) (sym (h ∙ ap (λ (xs : List Held). spread tree.own xs tree.rest) all)) (record {
      says = longer_at tree.own tree.parts tree.rest (suc missing);
      there = omega (
        arith,
        e,
        length-append tree.parts (repeat_item (suc missing) tree.rest),
        repeated_length
            (suc missing) tree.rest,
      );
    })

pub as_it_is : (tree : Components) (number : ℕ) → number < length tree.parts → Longer tree number tree
as_it_is tree number h = record { says = λ l. refl; there = h }

-- ---- each variant

pub opened_same : (v : ℤ) → SaysAs (opened_contents (spread v [] (Same v))) (contents (Same v))
opened_same v [] = sym (at_same v [])
opened_same v (k ∷ r) = at_same v r ∙ sym (at_same v (k ∷ r))

pub opened_parts : (own : ℤ) (ps : List Held) (rest : Held)
    → SaysAs (opened_contents (spread own ps rest)) (contents (Parts own ps rest))
opened_parts own ps rest l = ap (λ (f : Contents). f l) (sym (parts own ps rest))

repeated_front : {A : Type 0} (n : ℕ) (x : A) → repeat_item (suc n) x ≡ x ∷ repeat_item n x
repeated_front zero x = refl
repeated_front (suc n) x = ap (λ xs. xs ++ x ∷ []) (repeated_front n x)

array_at : (n : ℕ) (one : Held) (f : Contents) (k : ℕ) (b : Bool) → nat_lt k n ≡ b
    → or_rest (slice_get (map contents (repeat_item n one)) k) f ≡ (if b then contents one else f)
array_at zero one f k true e = absurd (omega (arith, ltb-true k zero e))
array_at zero one f k false e = refl
array_at (suc n) one f zero true e = ap (λ (xs : List Held). or_rest (slice_get (map contents xs) zero) f)
    (repeated_front n one)
array_at (suc n) one f zero false e = absurd (omega (arith, ltb-false zero (suc n) e))
array_at (suc n) one f (suc k) true e =
    ap (λ (xs : List Held). or_rest (slice_get (map contents xs) (suc k)) f) (repeated_front n one)
    ∙ (let h : suc k < suc n = ltb-true (suc k) (suc n) e in array_at n one f k true (lt-ltb k n (omega arith)))
array_at (suc n) one f (suc k) false e =
    ap (λ (xs : List Held). or_rest (slice_get (map contents xs) (suc k)) f) (repeated_front n one)
    ∙ (let h : suc n ≤ suc k = ltb-false (suc k) (suc n) e in array_at n one f k false (le-ltb k n (omega arith)))

split : (b : Bool) (f g : Contents) (r : Location) → (if b then f else g) r ≡ (if b then f r else g r)
split true f g r = refl
split false f g r = refl

pub opened_array : (n : ℕ) (one : Held) →
    SaysAs (opened_contents (spread (pos 0) (repeat_item n one) (Same (pos 0)))) (contents (Array n one))
opened_array n one [] = sym (own_array n one)
opened_array n one (k ∷ r) =
    ap (λ (f : Contents). f r) (array_at n one (contents (Same (pos 0))) k (nat_lt k n) refl)
    ∙ split (nat_lt k n) (contents one) (contents (Same (pos 0))) r
    ∙ ap (λ (v : ℤ). if nat_lt k n then contents one r else v) (at_same (pos 0) r) ∙ sym (one_array n one k r)

-- ---- along equations

pub says_by : (o o' : Components) (h h' : Held) → o ≡ o' → h ≡ h' → SaysAs (opened_contents o') (contents h')
    → SaysAs (opened_contents o) (contents h)
says_by o o' h h' e f s l = ap (λ (x : Components). opened_contents x l) e ∙ s l
    ∙ ap (λ (x : Held). contents x l) (sym f)

pub opened_array_by : (n : ℕ) (one : Held) (before ps : List Held) (got : Held) (o : Components) (h : Held)
    → before ≡ [] → got ≡ one → ps ≡ before ++ repeat_item n got → o ≡ spread (pos 0) ps (Same (pos 0))
    → h ≡ Array n one
    → SaysAs (opened_contents o) (contents h)
opened_array_by n one before ps got o h a b e f g =
    says_by o (spread (pos 0) (repeat_item n one) (Same (pos 0))) h (Array n one)
    (f ∙ ap (λ (xs : List Held). spread (pos 0) xs (Same (pos 0)))
    (e ∙ ap (λ (xs : List Held). xs ++ repeat_item n got) a ∙ ap (λ (x : Held). repeat_item n x) b)) g
    (opened_array n one)
