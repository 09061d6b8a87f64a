-- The numbers of the marked types are their places in the list.
use Rattle.std.proofs.Common.{◌≡◌, ℕ, zero, suc, ◌+◌, ◌≤◌, Bool, true, false, cond, List, [], ◌∷◌, ◌++◌, map, length, Option, Some, None, refl, sym, ap, ◌∙◌, subst, arith, append_assoc}
use Rattle.std.specs.Prelude.{◌&&◌, ◌||◌, ◌==◌, nat_lt, not, slice_get, if◌then◌else◌}
use Rattle.std.specs.List.{fold, list_any, position, position_or_len}
use Rattle.std.specs.Option.{unwrap_or}
use Rattle.std.proofs.lemmas.Bool.{eqb-true, lt-ltb, ltb-true, eq-eqb}
use Rattle.std.proofs.lemmas.List.{map-append, append-nil, length-append, length-map}
use Rattle.std.proofs.lemmas.List.Folds.{list_any-append}
use Rattle.typed_tree.specs.declared.typed_module.TypedModule.{TypedModule}
use Rattle.def_scheme.specs.Signatures.{Signature as Meant, Signatures, signature, same_result, is_same, body_signature, signatures_needed}
use Rattle.def_scheme.specs.Modules.{signatures}
use Rattle.emit_tables.specs.declared.signature.Signature.{Signature}
use Rattle.emit_tables.specs.declared.signature.Numbers.{Numbers}
use Rattle.emit_tables.specs.declared.marks.Mark.{Mark}
use Rattle.emit_tables.specs.declared.table.Table.{Table}
use Rattle.emit_tables.specs.Seen.{meaning_of}
use Rattle.emit_tables.specs.Numbered.{number_at, AreNumbers}
use Rattle.emit_tables.specs.Tables.{enter_signature, number_behind, is_wanted, entered_first, entered_both, numbers_for, with_mark, table_of, no_table}
use Rattle.emit_tables.specs.Needed.{marks_of}
use Rattle.emit_tables.proofs.Ordered.{entered_two, lists, list_is}

-- ---- places in lists

ltb_case : (n : ℕ) (b : Bool) → nat_lt n n ≡ b → nat_lt n n ≡ false
ltb_case n true e = absurd (omega (arith, ltb-true n n e))
ltb_case n false e = e

ltb_self : (n : ℕ) → nat_lt n n ≡ false
ltb_self n = ltb_case n (nat_lt n n) refl

or_parts : (a b : Bool) → (a || b) ≡ false → (a ≡ false) × (b ≡ false)
or_parts true b e = absurd (cc e)
or_parts false b e = (refl, e)

lacks : {X : Type 0} (p : X → Bool) (xs : List X) → list_any p xs ≡ false → position_or_len p xs ≡ length xs
lacks p [] e = refl
lacks p (x ∷ xs) e =
    let h = or_parts (p x) (list_any p xs) e in
    ap (λ (b : Bool). cond (not b) (1 + position_or_len p xs) 0) h.0 ∙ ap (λ (n : ℕ). 1 + n) (lacks p xs h.1)
    ∙ omega arith

none_found : {X : Type 0} (p : X → Bool) (xs : List X) → list_any p xs ≡ false → position p xs ≡ None
none_found p xs e = ap (λ (k : ℕ). cond (nat_lt k (length xs)) (Some k) None) (lacks p xs e)
    ∙ ap (λ (b : Bool). cond b (Some (length xs)) None) (ltb_self (length xs))

reaches : {X : Type 0} (p : X → Bool) (a : List X) (x : X) (m : List X) → list_any p a ≡ false → p x ≡ true
    → position_or_len p (a ++ x ∷ m) ≡ length a
reaches p [] x m e f = ap (λ (b : Bool). cond (not b) (1 + position_or_len p m) 0) f
reaches p (y ∷ a) x m e f =
    let h = or_parts (p y) (list_any p a) e in
    ap (λ (b : Bool). cond (not b) (1 + position_or_len p (a ++ x ∷ m)) 0) h.0
    ∙ ap (λ (n : ℕ). 1 + n) (reaches p a x m h.1 f) ∙ omega arith

found : {X : Type 0} (p : X → Bool) (a : List X) (x : X) (m : List X) → list_any p a ≡ false → p x ≡ true
    → position p (a ++ x ∷ m) ≡ Some (length a)
found p a x m e f =
    ap (λ (k : ℕ). cond (nat_lt k (length (a ++ x ∷ m))) (Some k) None) (reaches p a x m e f)
    ∙ ap (λ (b : Bool). cond b (Some (length a)) None)
    (lt-ltb (length a) (length (a ++ x ∷ m)) (omega (arith, length-append a (x ∷ m))))

-- ---- places of types

abbrev test : ℕ → Bool → Meant → Bool
test n r = is_same (signature n r)

-- whether a type is there
abbrev is_in : ℕ → Bool → List Signature → Bool
is_in n r l = list_any (test n r) (map meaning_of l)

abbrev place : ℕ → Bool → List Signature → ℕ
place n r l = unwrap_or (position (test n r) (map meaning_of l)) 0

both_false : (a b d : Bool) → a ≡ (b || d) → b ≡ false → d ≡ false → a ≡ false
both_false a true d e f g = absurd (cc f)
both_false a false d e f g = e ∙ g

in_neither : (n : ℕ) (r : Bool) (a b : List Signature) → is_in n r a ≡ false → is_in n r b ≡ false
    → is_in n r (a ++ b) ≡ false
in_neither n r a b e f =
    both_false (is_in n r (a ++ b)) (is_in n r a) (is_in n r b)
    (ap (λ (ms : Signatures). list_any (test n r) ms) (map-append meaning_of a b)
    ∙ list_any-append (test n r) (map meaning_of a) (map meaning_of b)) e f

lacking : (n : ℕ) (r : Bool) (l : List Signature) → is_in n r l ≡ false → place n r l ≡ 0
lacking n r l e = ap (λ (o : Option ℕ). unwrap_or o 0) (none_found (test n r) (map meaning_of l) e)

found_at : (n : ℕ) (r : Bool) (a : List Signature) (x : Signature) (m : List Signature) → is_in n r a ≡ false
    → test n r (meaning_of x) ≡ true → place n r (a ++ x ∷ m) ≡ length a
found_at n r a x m e f =
    ap (λ (ms : Signatures). unwrap_or (position (test n r) ms) 0) (map-append meaning_of a (x ∷ m))
    ∙ ap (λ (o : Option ℕ). unwrap_or o 0) (found (test n r) (map meaning_of a) (meaning_of x) (map meaning_of m) e f)
    ∙ length-map a meaning_of

-- ---- types that are the same, and others

self_result : (r : Bool) → same_result r r ≡ true
self_result true = refl
self_result false = refl

test_self : (n : ℕ) (r : Bool) → test n r (signature n r) ≡ true
test_self n r = ap (λ (b : Bool). b && same_result r r) (eq-eqb n n refl) ∙ self_result r

and_false : (b : Bool) → (b && false) ≡ false
and_false true = refl
and_false false = refl

less_case : (n k : ℕ) (b : Bool) → (n == k) ≡ b → suc n ≤ k → (n == k) ≡ false
less_case n k true e h = absurd (omega (arith, eqb-true n k e, h))
less_case n k false e h = e

more_case : (n k : ℕ) (b : Bool) → (n == k) ≡ b → suc k ≤ n → (n == k) ≡ false
more_case n k true e h = absurd (omega (arith, eqb-true n k e, h))
more_case n k false e h = e

test_less : (n k : ℕ) (r q : Bool) → suc n ≤ k → test n r (signature k q) ≡ false
test_less n k r q h = ap (λ (b : Bool). b && same_result r q) (less_case n k (n == k) refl h)

test_more : (n k : ℕ) (r q : Bool) → suc k ≤ n → test n r (signature k q) ≡ false
test_more n k r q h = ap (λ (b : Bool). b && same_result r q) (more_case n k (n == k) refl h)

in_entered : (n : ℕ) (r b : Bool) (k : ℕ) (q : Bool) → test n r (signature k q) ≡ false
    → is_in n r (enter_signature b k q) ≡ false
in_entered n r true k q e = ap (λ (c : Bool). c || false) e
in_entered n r false k q e = refl

later : (xs : List Mark) (m n : ℕ) (r : Bool) → suc n ≤ m → is_in n r (lists m xs) ≡ false
later [] m n r h = refl
later (x ∷ xs) m n r h =
    in_neither n r (entered_two m x) (lists (m + 1) xs)
    (in_neither n r (enter_signature (is_wanted m x) m false) (enter_signature x.giving m true)
    (in_entered n r (is_wanted m x) m false (test_less n m r false h))
    (in_entered n r x.giving m true (test_less n m r true h)))
    (later xs (m + 1) n r (omega (arith, h)))

-- ---- rows of numbers

rows : ℕ → List Signature → List Mark → List Numbers
rows k l [] = []
rows k l (x ∷ xs) = numbers_for l k x ∷ rows (k + 1) (entered_both l k x) xs

first_row : (w g : Bool) (k : ℕ) (l m : List Signature) → is_in k false l ≡ false → is_in k false m ≡ false
    → number_behind w l ≡ 6 + place k false (l ++ ((enter_signature w k false ++ enter_signature g k true) ++ m))
first_row true g k l m e f = ap (λ (n : ℕ). 6 + n)
    (sym (found_at k false l (record { arguments = k; has_result = false }) (enter_signature g k true ++ m) e
    (test_self k false)))
first_row false g k l m e f =
    ap (λ (n : ℕ). 6 + n) (sym (lacking k false (l ++ (enter_signature g k true ++ m))
    (in_neither k false l (enter_signature g k true ++ m) e
    (in_neither k false (enter_signature g k true) m (in_entered k false g k true (and_false (k == k))) f))))

second_row : (w g : Bool) (k : ℕ) (l m : List Signature) → is_in k true l ≡ false → is_in k true m ≡ false
    → number_behind g (l ++ enter_signature w k false)
    ≡ 6 + place k true (l ++ ((enter_signature w k false ++ enter_signature g k true) ++ m))
second_row w true k l m e f =
    let x : Signature = record { arguments = k; has_result = true } in
    let a : List Signature = enter_signature w k false in
    ap (λ (n : ℕ). 6 + n)
    (sym (found_at k true (l ++ a) x m (in_neither k true l a e (in_entered k true w k false (and_false (k == k))))
    (test_self k true))
    ∙ ap (λ (s : List Signature). place k true s)
    (append_assoc l a (x ∷ m) ∙ ap (λ (s : List Signature). l ++ s) (sym (append_assoc a (x ∷ []) m))))
second_row w false k l m e f =
    let a : List Signature = enter_signature w k false in
    ap (λ (n : ℕ). 6 + n) (sym (lacking k true (l ++ ((a ++ []) ++ m)) (in_neither k true l ((a ++ []) ++ m) e
    (in_neither k true (a ++ []) m (in_neither k true a [] (in_entered k true w k false (and_false (k == k))) refl)
    f))))

-- no type with so many arguments, or more, stands in a list
record Before (k : ℕ) (l : List Signature) : Type 0 where
  of : (n : ℕ) (r : Bool) → k ≤ n → is_in n r l ≡ false

before_more : (k : ℕ) (l : List Signature) (x : Mark) → Before k l → Before (k + 1) (entered_both l k x)
before_more k l x b = record {
  of = λ n r h. in_neither n r (entered_first l k x) (enter_signature x.giving k true)
      (in_neither n r l (enter_signature (is_wanted k x) k false) (b.of n r (omega (arith, h)))
      (in_entered n r (is_wanted k x) k false (test_more n k r false (omega (arith, h)))))
      (in_entered n r x.giving k true (test_more n k r true (omega (arith, h))));
}

grouped : (l a b m : List Signature) → ((l ++ a) ++ b) ++ m ≡ l ++ ((a ++ b) ++ m)
grouped l a b m = append_assoc (l ++ a) b m ∙ append_assoc l a (b ++ m)
    ∙ ap (λ (s : List Signature). l ++ s) (sym (append_assoc a b m))

row_here : (x : Mark) (xs : List Mark) (k : ℕ) (r : Bool) (l : List Signature) → Before k l
    → number_at (Some (numbers_for l k x)) r ≡ 6 + place k r (l ++ lists k (x ∷ xs))
row_here x xs k true l b = second_row (is_wanted k x) x.giving k l (lists (k + 1) xs) (b.of k true (omega arith))
    (later xs (k + 1) k true (omega arith))
row_here x xs k false l b = first_row (is_wanted k x) x.giving k l (lists (k + 1) xs) (b.of k false (omega arith))
    (later xs (k + 1) k false (omega arith))

number_row : (xs : List Mark) (k i n : ℕ) (r : Bool) (l : List Signature) → n ≡ k + i → Before k l
    → number_at (slice_get (rows k l xs) i) r ≡ 6 + place n r (l ++ lists k xs)
unfolding rows
number_row [] k i n r l e b = ap (λ (n : ℕ). 6 + n)
    (sym (lacking n r (l ++ []) (in_neither n r l [] (b.of n r (omega (arith, e))) refl)))
number_row (x ∷ xs) k zero n r l e b = subst
    (λ (j : ℕ). number_at (Some (numbers_for l k x)) r ≡ 6 + place j r (l ++ lists k (x ∷ xs))) (omega (arith, e))
    (row_here x xs k r l b)
number_row (x ∷ xs) k (suc i) n r l e b =
    number_row xs (k + 1) i n r (entered_both l k x) (omega (arith, e)) (before_more k l x b)
    ∙ ap (λ (s : List Signature). 6 + place n r s)
    (grouped l (enter_signature (is_wanted k x) k false) (enter_signature x.giving k true) (lists (k + 1) xs))

-- ---- the table

made : List Signature → List Numbers → Table
made l ns = record { list = l; numbers = ns }

one_longer : (ns : List Numbers) (x : Numbers) → length (ns ++ x ∷ []) ≡ length ns + 1
one_longer ns x = omega (arith, length-append ns (x ∷ []))

fold_is : (xs : List Mark) (t : Table) → fold with_mark t xs
    ≡ made (t.list ++ lists (length t.numbers) xs) (t.numbers ++ rows (length t.numbers) t.list xs)
unfolding rows made
fold_is [] t = ap (λ (l : List Signature). made l t.numbers) (sym (append-nil t.list))
    ∙ ap (λ (ns : List Numbers). made (t.list ++ []) ns) (sym (append-nil t.numbers))
fold_is (x ∷ xs) t =
    let k : ℕ = length t.numbers in
    let l : List Signature = entered_both t.list k x in
    let row : Numbers = numbers_for t.list k x in
    fold_is xs (with_mark t x)
    ∙ ap (λ (n : ℕ). made (l ++ lists n xs) ((t.numbers ++ row ∷ []) ++ rows n l xs)) (one_longer t.numbers row)
    ∙ ap (λ (s : List Signature). made s ((t.numbers ++ row ∷ []) ++ rows (k + 1) l xs))
    (grouped t.list (enter_signature (is_wanted k x) k false) (enter_signature x.giving k true) (lists (k + 1) xs))
    ∙ ap (λ (ns : List Numbers). made (t.list ++ lists k (x ∷ xs)) ns)
    (append_assoc t.numbers (row ∷ []) (rows (k + 1) l xs))

nothing_before : Before 0 []
nothing_before = record { of = λ n r h. refl }

numbers_made : (xs : List Mark) → AreNumbers (lists 0 xs) (rows 0 [] xs)
numbers_made xs n r = ap (λ (m : ℕ). if is_same (signature n r) body_signature then 5 else m)
    (number_row xs 0 n n r [] (omega arith) nothing_before)

pub list_of : (xs : List Mark) → (table_of xs).list ≡ lists 0 xs
unfolding made
list_of xs = ap (λ (t : Table). t.list) (fold_is xs no_table)

pub are_numbers : (xs : List Mark) → AreNumbers (table_of xs).list (table_of xs).numbers
unfolding made
are_numbers xs = subst (λ (t : Table). AreNumbers t.list t.numbers) (sym (fold_is xs no_table)) (numbers_made xs)

-- ---- the table of a module

pub module_list : (m : TypedModule) (t : Table) → t ≡ table_of (marks_of m) → map meaning_of t.list ≡ signatures m
module_list m t e = ap (λ (t : Table). map meaning_of t.list) e
    ∙ ap (λ (l : List Signature). map meaning_of l) (list_of (marks_of m)) ∙ list_is (signatures_needed m)

pub module_numbers : (m : TypedModule) (t : Table) → t ≡ table_of (marks_of m) → AreNumbers t.list t.numbers
module_numbers m t e = subst (λ (t : Table). AreNumbers t.list t.numbers) (sym e) (are_numbers (marks_of m))
