-- The places of modules among the imports.
use Rattle.std.proofs.Common.{◌≡◌, ℕ, zero, suc, ◌+◌, Bool, true, false, cond, List, [], ◌∷◌, ◌++◌, length, take, Option, Some, None, refl, sym, ap, ◌∙◌, arith, add-zero, add-one, subst}
use Rattle.std.specs.Prelude.{slice_get, nat_eq, ◌==◌, if◌then◌else◌}
use Rattle.std.specs.List.{position, position_from}
use Rattle.std.specs.Map.{lookup}
use Rattle.std.proofs.lemmas.Bool.{eqb-true, eq-eqb}
use Rattle.std.proofs.lemmas.Iterator.Adapters.{position_from-zero}
use Rattle.indexmap.specs.IndexMap.{insert_entry}
use Rattle.typed_tree.specs.declared.typed_module.Imported.{Imported}
use Rattle.emit_buffer.specs.Homes.{ArePlaces, is_there, with_place}

or_else : {A : Type 0} → Option A → Option A → Option A
or_else None y = y
or_else (Some x) y = Some x

none_else : {A : Type 0} (o : Option A) → o ≡ or_else o None
unfolding or_else
none_else None = refl
none_else (Some x) = refl

some_else : (o : Option ℕ) (k : ℕ) → is_there o ≡ true → o ≡ or_else o (Some k)
unfolding or_else
some_else None k e = absurd (cc e)
some_else (Some x) k e = refl

-- ---- one more at the end of a list

from_case : {X : Type 0} (t : X → Bool) (i n m : ℕ) (y : X) (rest whole : Option ℕ) (b : Bool) → n ≡ m
    → whole ≡ or_else rest (cond (t y) (Some n) None)
    → cond b (Some i) whole ≡ or_else (cond b (Some i) rest) (cond (t y) (Some m) None)
unfolding or_else
from_case t i n m y rest whole true e h = refl
from_case t i n m y rest whole false e h = h ∙ ap (λ (k : ℕ). or_else rest (cond (t y) (Some k) None)) e

from_more : {X : Type 0} (t : X → Bool) (i : ℕ) (xs : List X) (y : X)
    → position_from t i (xs ++ y ∷ []) ≡ or_else (position_from t i xs) (cond (t y) (Some (i + length xs)) None)
unfolding or_else
from_more t i [] y = ap (λ (k : ℕ). cond (t y) (Some k) None) (sym (add-zero i))
from_more t i (x ∷ xs) y = from_case t i (i + 1 + length xs) (i + suc (length xs)) y (position_from t (i + 1) xs)
    (position_from t (i + 1) (xs ++ y ∷ [])) (t x) (omega arith) (from_more t (i + 1) xs y)

position_more : {X : Type 0} (t : X → Bool) (xs : List X) (y : X)
    → position t (xs ++ y ∷ []) ≡ or_else (position t xs) (cond (t y) (Some (length xs)) None)
position_more t xs y =
    position_from-zero t (xs ++ y ∷ []) ∙ from_more t 0 xs y
    ∙ ap (λ (o : Option ℕ). or_else o (cond (t y) (Some (0 + length xs)) None)) (sym (position_from-zero t xs))
    ∙ ap (λ (k : ℕ). or_else (position t xs) (cond (t y) (Some k) None)) (omega arith)

-- ---- one more entry

entry_case : (h n k : ℕ) (e : ℕ × ℕ) (es : List (ℕ × ℕ)) (b c : Bool) → cond b (Some e.1) (lookup (nat_eq n) es) ≡ None
    → nat_eq n e.0 ≡ b
    → (lookup (nat_eq n) es ≡ None → lookup (nat_eq h) (insert_entry nat_eq es n k)
    ≡ or_else (lookup (nat_eq h) es) (cond (nat_eq h n) (Some k) None))
    → nat_eq h e.0 ≡ c
    → lookup (nat_eq h) (if b then (e.0, k) ∷ es else e ∷ insert_entry nat_eq es n k)
    ≡ or_else (cond c (Some e.1) (lookup (nat_eq h) es)) (cond (nat_eq h n) (Some k) None)
unfolding or_else
entry_case h n k e es true c f g rec q = absurd (cc f)
entry_case h n k e es false true f g rec q =
    ap (λ (d : Bool). cond d (Some e.1) (lookup (nat_eq h) (insert_entry nat_eq es n k))) q
entry_case h n k e es false false f g rec q =
    ap (λ (d : Bool). cond d (Some e.1) (lookup (nat_eq h) (insert_entry nat_eq es n k))) q ∙ rec f

entry_more : (h n k : ℕ) (es : List (ℕ × ℕ)) → lookup (nat_eq n) es ≡ None
    → lookup (nat_eq h) (insert_entry nat_eq es n k) ≡ or_else (lookup (nat_eq h) es) (cond (nat_eq h n) (Some k) None)
unfolding or_else
entry_more h n k [] f = refl
entry_more h n k (e ∷ es) f = entry_case h n k e es (nat_eq n e.0) (nat_eq h e.0) f refl (entry_more h n k es) refl

-- ---- one more import

same_case : (m n : ℕ) (b c : Bool) → nat_eq m n ≡ b → nat_eq n m ≡ c → b ≡ c
same_case m n true true e f = refl
same_case m n true false e f = sym (eq-eqb n m (sym (eqb-true m n e))) ∙ f
same_case m n false true e f = sym e ∙ eq-eqb m n (sym (eqb-true n m f))
same_case m n false false e f = refl

turned : (m n : ℕ) → nat_eq m n ≡ nat_eq n m
turned m n = same_case m n (nat_eq m n) (nat_eq n m) refl refl

-- a module that is there already
there : (ps : List (ℕ × ℕ)) (n h k : ℕ) (o : Option ℕ) (b : Bool) → lookup (nat_eq n) ps ≡ o → is_there o ≡ true
    → nat_eq n h ≡ b → lookup (nat_eq h) ps ≡ or_else (lookup (nat_eq h) ps) (cond b (Some k) None)
unfolding or_else
there ps n h k o false e f g = none_else (lookup (nat_eq h) ps)
there ps n h k o true e f g = some_else (lookup (nat_eq h) ps) k
    (ap is_there (ap (λ (m : ℕ). lookup (nat_eq m) ps) (sym (eqb-true n h g)) ∙ e) ∙ f)

place_case : (ps : List (ℕ × ℕ)) (n h k : ℕ) (o : Option ℕ) → lookup (nat_eq n) ps ≡ o
    → lookup (nat_eq h) (if is_there o then ps else insert_entry nat_eq ps n k)
    ≡ or_else (lookup (nat_eq h) ps) (cond (nat_eq n h) (Some k) None)
place_case ps n h k None e = entry_more h n k ps e
    ∙ ap (λ (b : Bool). or_else (lookup (nat_eq h) ps) (cond b (Some k) None)) (turned h n)
place_case ps n h k (Some j) e = there ps n h k (Some j) (nat_eq n h) e refl refl

pub one_more : (ps : List (ℕ × ℕ)) (before : List Imported) (i : Imported) → ArePlaces ps before
    → ArePlaces (with_place ps i (length before)) (before ++ i ∷ [])
one_more ps before i h home =
    place_case ps i.number home (length before) (lookup (nat_eq i.number) ps) refl
    ∙ ap (λ (o : Option ℕ). or_else o (cond (nat_eq i.number home) (Some (length before)) None)) (h home)
    ∙ sym (position_more (λ (j : Imported). j.number == home) before i)

-- ---- one more of the first imports

same_some : (y x : Imported) → Some y ≡ Some x → y ≡ x
same_some y x e = cc e

take_suc : (xs : List Imported) (k : ℕ) (x : Imported) → slice_get xs k ≡ Some x
    → (take (suc k) xs ≡ take k xs ++ x ∷ []) × (length (take k xs) ≡ k)
take_suc [] k x e = absurd (cc e)
take_suc (y ∷ ys) zero x e = (ap (λ (z : Imported). z ∷ []) (same_some y x e), refl)
take_suc (y ∷ ys) (suc k) x e = let h = take_suc ys k x e in (ap (λ (zs : List Imported). y ∷ zs) h.0, ap suc h.1)

take_more : (xs : List Imported) (k : ℕ) (x : Imported) → slice_get xs k ≡ Some x
    → (take (k + 1) xs ≡ take k xs ++ x ∷ []) × (length (take k xs) ≡ k)
take_more xs k x e = let h = take_suc xs k x e in (ap (λ (n : ℕ). take n xs) (add-one k) ∙ h.0, h.1)

pub place_more : (ps new : List (ℕ × ℕ)) (imports : List Imported) (k : ℕ) (i : Imported)
    → ArePlaces ps (take k imports) → slice_get imports k ≡ Some i → new ≡ with_place ps i k
    → ArePlaces new (take (k + 1) imports)
place_more ps new imports k i h e f =
    let t = take_more imports k i e in
    let g : ArePlaces (with_place ps i (length (take k imports))) (take k imports ++ i ∷ []) =
    one_more ps (take k imports) i h in
    let g1 : ArePlaces (with_place ps i k) (take k imports ++ i ∷ []) =
    subst (λ (n : ℕ). ArePlaces (with_place ps i n) (take k imports ++ i ∷ [])) t.1 g in
    let g2 : ArePlaces new (take k imports ++ i ∷ []) =
    subst (λ (es : List (ℕ × ℕ)). ArePlaces es (take k imports ++ i ∷ [])) (sym f) g1 in
    subst (λ (is : List Imported). ArePlaces new is) (sym t.0) g2
