-- The list of the marked types is the list of those that are needed.
use Rattle.std.proofs.Common.{◌≡◌, ℕ, zero, suc, ◌+◌, Bool, true, false, List, [], ◌∷◌, ◌++◌, map, length, refl, sym, ap, ◌∙◌, subst, arith}
use Rattle.std.specs.Prelude.{◌&&◌, ◌||◌, ◌==◌, nat_le, not, max, if◌then◌else◌}
use Rattle.std.specs.List.{fold, flat_map, range_with_len}
use Rattle.std.proofs.lemmas.Bool.{leb-true, leb-false}
use Rattle.std.proofs.lemmas.List.{map-append}
use Rattle.std.proofs.Math.Dec.{eqb-suc-zero, eqb-zero-suc, eqb-suc-suc}
use Rattle.def_scheme.specs.Signatures.{Signatures, signature, same_result, is_among, greater, most_arguments, of_arguments, in_order}
use Rattle.emit_tables.specs.declared.signature.Signature.{Signature}
use Rattle.emit_tables.specs.declared.marks.Mark.{Mark}
use Rattle.emit_tables.specs.Seen.{meaning_of}
use Rattle.emit_tables.specs.Marked.{none, mark_kind, marked_at, with_one, with_all}
use Rattle.emit_tables.specs.Tables.{enter_signature, is_wanted}

-- ---- which marks there are

abbrev pub mark_in : List Mark → ℕ → Mark
mark_in [] k = none
mark_in (x ∷ xs) zero = x
mark_in (x ∷ xs) (suc k) = mark_in xs k

abbrev pub has : Mark → Bool → Bool
has x true = x.giving
has x false = x.without

or_true : (b : Bool) → true ≡ (b || true)
or_true true = refl
or_true false = refl

or_false : (b : Bool) → b ≡ (b || false)
or_false true = refl
or_false false = refl

has_one : (x : Mark) (q r : Bool) → has (mark_kind x r) q ≡ (has x q || same_result q r)
has_one x true true = or_true x.giving
has_one x true false = or_false x.giving
has_one x false true = or_false x.without
has_one x false false = or_true x.without

-- another place
elsewhere : (b c d : Bool) → c ≡ false → b ≡ (b || (c && d))
elsewhere true c d e = refl
elsewhere false true d e = cc e
elsewhere false false d e = refl

has_marked : (n : ℕ) (r : Bool) (xs : List Mark) (k : ℕ) (q : Bool)
    → has (mark_in (marked_at n r xs) k) q ≡ (has (mark_in xs k) q || ((k == n) && same_result q r))
has_marked zero r [] zero q = has_one none q r
has_marked zero r [] (suc k) q = elsewhere (has none q) (suc k == 0) (same_result q r) (eqb-suc-zero k)
has_marked zero r (x ∷ xs) zero q = has_one x q r
has_marked zero r (x ∷ xs) (suc k) q = elsewhere (has (mark_in xs k) q) (suc k == 0) (same_result q r) (eqb-suc-zero k)
has_marked (suc n) r [] zero q = elsewhere (has none q) (0 == suc n) (same_result q r) (eqb-zero-suc n)
has_marked (suc n) r [] (suc k) q = has_marked n r [] k q
    ∙ ap (λ (b : Bool). has none q || (b && same_result q r)) (sym (eqb-suc-suc k n))
has_marked (suc n) r (x ∷ xs) zero q = elsewhere (has x q) (0 == suc n) (same_result q r) (eqb-zero-suc n)
has_marked (suc n) r (x ∷ xs) (suc k) q = has_marked n r xs k q
    ∙ ap (λ (b : Bool). has (mark_in xs k) q || (b && same_result q r)) (sym (eqb-suc-suc k n))

or_assoc : (a b c : Bool) → ((a || b) || c) ≡ (a || (b || c))
or_assoc true b c = refl
or_assoc false b c = refl

has_all : (ss : Signatures) (xs : List Mark) (k : ℕ) (q : Bool)
    → has (mark_in (with_all ss xs) k) q ≡ (has (mark_in xs k) q || is_among ss (signature k q))
unfolding with_all with_one
has_all [] xs k q = or_false (has (mark_in xs k) q)
has_all (s ∷ ss) xs k q =
    has_all ss (marked_at s.arguments s.result xs) k q
    ∙ ap (λ (b : Bool). b || is_among ss (signature k q)) (has_marked s.arguments s.result xs k q)
    ∙ or_assoc (has (mark_in xs k) q) ((k == s.arguments) && same_result q s.result) (is_among ss (signature k q))

has_none : (k : ℕ) (q : Bool) → has (mark_in (none ∷ []) k) q ≡ false
has_none zero true = refl
has_none zero false = refl
has_none (suc k) true = refl
has_none (suc k) false = refl

-- what is marked is needed, and the other way round
pub marks_are : (ss : Signatures) (k : ℕ) (q : Bool)
    → has (mark_in (with_all ss (none ∷ [])) k) q ≡ is_among ss (signature k q)
marks_are ss k q = has_all ss (none ∷ []) k q ∙ ap (λ (b : Bool). b || is_among ss (signature k q)) (has_none k q)

-- ---- how far the table reaches

length_is : (n : ℕ) (r : Bool) (xs : List Mark) → length (marked_at n r xs) ≡ max (length xs) (suc n)
length_is zero r [] = omega arith
length_is zero r (x ∷ xs) = omega arith
length_is (suc n) r [] = omega (arith, length_is n r [])
length_is (suc n) r (x ∷ xs) = omega (arith, length_is n r xs)

greater_case : (m n : ℕ) (b : Bool) → nat_le m n ≡ b → suc (if b then n else m) ≡ max (suc m) (suc n)
greater_case m n true e = omega (arith, leb-true m n e)
greater_case m n false e = omega (arith, leb-false m n e)

length_all : (ss : Signatures) (xs : List Mark) (m : ℕ) → length xs ≡ suc m
    → length (with_all ss xs) ≡ suc (fold (λ so s. greater so s.arguments) m ss)
unfolding with_all with_one
length_all [] xs m h = h
length_all (s ∷ ss) xs m h =
    length_all ss (marked_at s.arguments s.result xs) (greater m s.arguments)
    (length_is s.arguments s.result xs ∙ ap (λ (k : ℕ). max k (suc s.arguments)) h
    ∙ sym (greater_case m s.arguments (nat_le m s.arguments) refl))

pub reaches : (ss : Signatures) → length (with_all ss (none ∷ [])) ≡ suc (most_arguments ss)
reaches ss = length_all ss (none ∷ []) 0 refl

-- ---- the list

abbrev pub entered_two : ℕ → Mark → List Signature
entered_two k x = enter_signature (is_wanted k x) k false ++ enter_signature x.giving k true

abbrev pub lists : ℕ → List Mark → List Signature
lists k [] = []
lists k (x ∷ xs) = entered_two k x ++ lists (k + 1) xs

entered_seen : (b : Bool) (n : ℕ) (r : Bool)
    → map meaning_of (enter_signature b n r) ≡ (if b then signature n r ∷ [] else [])
entered_seen true n r = refl
entered_seen false n r = refl

not_wanted : (b : Bool) → (b && not (0 == 0)) ≡ false
not_wanted true = refl
not_wanted false = refl

wanted : (n : ℕ) (b : Bool) → (b && not (suc n == 0)) ≡ b
wanted n true = ap not (eqb-suc-zero n)
wanted n false = refl

front : (k : ℕ) (x : Mark) → map meaning_of (entered_two k x) ≡ map meaning_of (enter_signature (is_wanted k x) k false)
    ++ (if x.giving then signature k true ∷ [] else [])
front k x = map-append meaning_of (enter_signature (is_wanted k x) k false) (enter_signature x.giving k true)
    ∙ ap (λ (ss : Signatures). map meaning_of (enter_signature (is_wanted k x) k false) ++ ss)
    (entered_seen x.giving k true)

two_are : (ss : Signatures) (k : ℕ) (x : Mark) → x.without ≡ is_among ss (signature k false)
    → x.giving ≡ is_among ss (signature k true) → map meaning_of (entered_two k x) ≡ of_arguments ss k
two_are ss zero x e f =
    front 0 x ∙ ap (λ (b : Bool). map meaning_of (enter_signature b 0 false)
    ++ (if x.giving then signature 0 true ∷ [] else [])) (not_wanted x.without)
    ∙ ap (λ (b : Bool). if b then signature 0 true ∷ [] else []) f
two_are ss (suc n) x e f =
    front (suc n) x
    ∙ ap (λ (b : Bool). map meaning_of (enter_signature b (suc n) false)
    ++ (if x.giving then signature (suc n) true ∷ [] else [])) (wanted n x.without ∙ e)
    ∙ ap (λ (ms : Signatures). ms ++ (if x.giving then signature (suc n) true ∷ [] else []))
    (entered_seen (is_among ss (signature (suc n) false)) (suc n) false)
    ∙ ap (λ (b : Bool). (if is_among ss (signature (suc n) false) then signature (suc n) false ∷ [] else [])
    ++ (if b then signature (suc n) true ∷ [] else [])) f

-- the marks of a table from this number of arguments on
Marks : Signatures → ℕ → List Mark → Type 0
Marks ss k xs = (i n : ℕ) (q : Bool) → n ≡ k + i → has (mark_in xs i) q ≡ is_among ss (signature n q)

marks_tail : (ss : Signatures) (k : ℕ) (x : Mark) (xs : List Mark) → Marks ss k (x ∷ xs) → Marks ss (k + 1) xs
unfolding Marks
marks_tail ss k x xs h i n q e = h (suc i) n q (omega (arith, e))

lists_are : (ss : Signatures) (k : ℕ) (xs : List Mark) → Marks ss k xs
    → map meaning_of (lists k xs) ≡ flat_map (of_arguments ss) (range_with_len k (length xs))
unfolding Marks
lists_are ss k [] h = refl
lists_are ss k (x ∷ xs) h =
    map-append meaning_of (entered_two k x) (lists (k + 1) xs)
    ∙ ap (λ (ms : Signatures). ms ++ map meaning_of (lists (k + 1) xs))
    (two_are ss k x (h 0 k false (omega arith)) (h 0 k true (omega arith)))
    ∙ ap (λ (ms : Signatures). of_arguments ss k ++ ms) (lists_are ss (k + 1) xs (marks_tail ss k x xs h))

from_nought : (ss : Signatures) → Marks ss 0 (with_all ss (none ∷ []))
unfolding Marks
from_nought ss i n q e = subst (λ (j : ℕ). has (mark_in (with_all ss (none ∷ [])) i) q ≡ is_among ss (signature j q))
    (omega (arith, e)) (marks_are ss i q)

pub list_is : (ss : Signatures) → map meaning_of (lists 0 (with_all ss (none ∷ []))) ≡ in_order ss
list_is ss = lists_are ss 0 (with_all ss (none ∷ [])) (from_nought ss)
    ∙ ap (λ (n : ℕ). flat_map (of_arguments ss) (range_with_len 0 n)) (reaches ss)
