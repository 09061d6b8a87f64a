-- Tables of names, and the first that passes a test.
use Rattle.std.proofs.Common.{◌≡◌, ◌<◌, ℕ, zero, suc, ◌+◌, Bool, true, false, cond, not, ◌&&◌, nat_lt, List, [], ◌∷◌, ◌++◌, length, take, get_or, map, refl, sym, ap, subst, ◌∙◌, inl, inr, arith, Option, Some, None}
use Rattle.std.specs.Option.{option_map, is_some, IfSome}
use Rattle.std.specs.Borrow.{Bor}
use Rattle.std.specs.HashMap.{HashMap}
use Rattle.std.specs.Cmp.Lexicographic.{bytes_decides}
use Rattle.std.proofs.lemmas.Bool.{cases_Bool, false≢true, le-ltb}
use Rattle.std.proofs.lemmas.Bool.Decides.{Decides-ltb, same_from_decides}
use Rattle.std.proofs.lemmas.List.{take_more, length-take-le, length-map}
use Rattle.m2_tree.specs.declared.decl.Module.{Module}
use Rattle.m2_graph.specs.declared.program.Part.{Part}
use Rattle.m2_graph.specs.declared.program.Part.TheVariants.{Definition, Body}
use Rattle.m2_tree.specs.Names.{same_name}
use Rattle.m2_graph.specs.Imports.{first_that, is_definition}
use Rattle.m2_graph.specs.Parts.{bears, number_at, or_first, is_earlier}
use Rattle.m2_graph.specs.Refused.{are_one_part}
use Rattle.m2_graph.proofs.Importing.{module_at, first_within}

shifted : (r : Option ℕ) (b : Bool) (n : ℕ)
    → option_map suc (or_first r (cond b (Some n) None)) ≡ or_first (option_map suc r) (cond b (Some (suc n)) None)
shifted (Some k) b n = refl
shifted None true n = refl
shifted None false n = refl

push_case : (b c : Bool) (r r' : Option ℕ) (n : ℕ) → r' ≡ or_first r (cond c (Some n) None)
    → cond b (Some 0) (option_map suc r') ≡ or_first (cond b (Some 0) (option_map suc r)) (cond c (Some (suc n)) None)
push_case true c r r' n e = refl
push_case false c r r' n e = ap (option_map suc) e ∙ shifted r c n

first_push : {X : Type 0} (t : X → Bool) (xs : List X) (x : X) (n : ℕ) → length xs ≡ n
    → first_that t (xs ++ x ∷ []) ≡ or_first (first_that t xs) (cond (t x) (Some n) None)
first_push t [] x n e = subst (λ (k : ℕ). first_that t (x ∷ []) ≡ cond (t x) (Some k) None) e refl
first_push t (y ∷ ys) x n e = subst (λ (k : ℕ). first_that t (y ∷ (ys ++ x ∷ []))
    ≡ or_first (first_that t (y ∷ ys)) (cond (t x) (Some k) None)) e
    (push_case (t y) (t x) (first_that t ys) (first_that t (ys ++ x ∷ [])) (length ys)
    (first_push t ys x (length ys) refl))

pub first_more : {X : Type 0} (t : X → Bool) (xs : List X) (i : ℕ) (d : X) → i < length xs
    → first_that t (take (i + 1) xs) ≡ or_first (first_that t (take i xs)) (cond (t (get_or xs i d)) (Some i) None)
first_more t xs i d l = ap (first_that t) (take_more xs i d l)
    ∙ first_push t (take i xs) (get_or xs i d) i (length-take-le i xs (omega arith))

pub table_more : (part : Part) (xs : List (Bor Module)) (i : ℕ) (b : Bor Module) (before after : List ℕ → Option ℕ)
    → i < length xs → b ≡ get_or xs i b →
    ((name : List ℕ) → before name ≡ first_that (bears part name) (take i (map (λ (m : Bor Module). m.now) xs)))
    → ((name : List ℕ) → after name ≡ or_first (before name) (cond (bears part name b.now) (Some i) None)) →
    (name : List ℕ) → after name ≡ first_that (bears part name) (take (i + 1) (map (λ (m : Bor Module). m.now) xs))
table_more part xs i b before after l e h1 h2 name =
    let ms = map (λ (m : Bor Module). m.now) xs in
    let inside : i < length ms = rw length-map l in
    h2 name ∙ ap (λ o. or_first o (cond (bears part name b.now) (Some i) None)) (h1 name)
    ∙ ap (λ m. or_first (first_that (bears part name) (take i ms)) (cond (bears part name m) (Some i) None))
    (sym (module_at xs i b b.now l e))
    ∙ sym (first_more (bears part name) ms i b.now inside)

-- ---- a name is put into a table

abbrev at : List ℕ → Bor (List ℕ)
at name = record { ref_ptr = (0, 0); now = name }

same : (xs ys : List ℕ) → same_name xs ys ≡ true → xs ≡ ys
same xs ys e = (bytes_decides xs ys).0 e

other_name : (b : Bool) (o : Option ℕ) (n : Option ℕ) → b ≡ false → o ≡ or_first o (cond b n None)
other_name true o n e = absurd (false≢true (sym e))
other_name false None n e = refl
other_name false (Some k) n e = refl

has_one : (o : Option ℕ) (n : Option ℕ) → is_some o ≡ true → o ≡ or_first o n
has_one None n e = absurd (false≢true e)
has_one (Some k) n e = refl

has_none : (o : Option ℕ) → is_some o ≡ false → o ≡ None
has_none None e = refl
has_none (Some k) e = absurd (false≢true (sym e))

pub stays : {S : Type 0} (table : HashMap (Bor (List ℕ)) ℕ S) (name : List ℕ) (number : ℕ)
    → is_some (number_at table name) ≡ true → (other : List ℕ)
    → number_at table other ≡ or_first (number_at table other) (cond (same_name other name) (Some number) None)
stays table name number h other = elim (cases_Bool (same_name other name)) [
  | inl e ↦ has_one (number_at table other) (cond (same_name other name) (Some number) None)
      (ap (λ n. is_some (number_at table n)) (same other name e) ∙ h)
  | inr e ↦ other_name (same_name other name)
      (number_at table other) (Some number) e
]

put_case : (b c : Bool) (o o' : Option ℕ) (number : ℕ) → b ≡ c → (c ≡ true → o ≡ None) → o' ≡ cond b (Some number) o
    → o' ≡ or_first o (cond c (Some number) None)
put_case true true o o' number e h is = is ∙ ap (λ x. or_first x (Some number)) (sym (h refl))
put_case true false o o' number e h is = absurd (false≢true (sym e))
put_case false true o o' number e h is = absurd (false≢true e)
put_case false false o o' number e h is = is ∙ other_name false o (Some number) refl

flipped : (xs ys : List ℕ) → same_name xs ys ≡ same_name ys xs
flipped xs ys = same_from_decides {P = xs ≡ ys} (same_name xs ys) (same_name ys xs) (bytes_decides xs ys)
    ((λ e. sym (same ys xs e)), (λ e. (bytes_decides ys xs).1 (sym e)))

pub put : {S : Type 0} (old new : HashMap (Bor (List ℕ)) ℕ S) (name : List ℕ) (number : ℕ)
    → is_some (number_at old name) ≡ false →
    ((q : Bor (List ℕ)) → number_at new q.now ≡ cond (same_name name q.now) (Some number) (number_at old q.now)) →
    (other : List ℕ) → number_at new other
    ≡ or_first (number_at old other) (cond (same_name other name) (Some number) None)
put old new name number h is other = put_case (same_name name other) (same_name other name) (number_at old other)
    (number_at new other) number (flipped name other)
    (λ e. ap (number_at old) (same other name e) ∙ has_none (number_at old name) h) (is (at other))

-- ---- earlier than a number

pub lt_suc : (j n : ℕ) → nat_lt j n ≡ nat_lt (suc j) (suc n)
lt_suc j n = same_from_decides {P = j < n} (nat_lt j n) (nat_lt (suc j) (suc n)) (Decides-ltb j n) (
  (λ e. let h : suc j < suc n = (Decides-ltb (suc j) (suc n)).0 e in omega (arith, h)),
  (λ l. (Decides-ltb (suc j) (suc n)).1 (omega (arith, l))),
)

earlier_case : (b : Bool) (r r' : Option ℕ) (n : ℕ) → is_some r' ≡ is_earlier r n
    → is_some (cond b (Some 0) (option_map suc r')) ≡ is_earlier (cond b (Some 0) (option_map suc r)) (suc n)
earlier_case true r r' n e = sym ((Decides-ltb 0 (suc n)).1 (omega arith))
earlier_case false None None n e = refl
earlier_case false None (Some k) n e = e
earlier_case false (Some j) None n e = e ∙ lt_suc j n
earlier_case false (Some j) (Some k) n e = e ∙ lt_suc j n

none_earlier : (b : Bool) (r : Option ℕ) → false ≡ is_earlier (cond b (Some 0) (option_map suc r)) 0
none_earlier true r = refl
none_earlier false None = refl
none_earlier false (Some k) = sym (le-ltb (suc k) 0 (omega arith))

pub any_earlier : {X : Type 0} (t : X → Bool) (xs : List X) (n : ℕ)
    → is_some (first_that t (take n xs)) ≡ is_earlier (first_that t xs) n
any_earlier t [] zero = refl
any_earlier t [] (suc n) = refl
any_earlier t (x ∷ xs) zero = none_earlier (t x) (first_that t xs)
any_earlier t (x ∷ xs) (suc n) = earlier_case (t x) (first_that t xs) (first_that t (take n xs)) n (any_earlier t xs n)

-- ---- the first file of the same part

pub first_definition : (m : Module) (ms : List Module) (found : Option ℕ) → is_definition m ≡ true
    → found ≡ first_that (bears Definition m.name.name) ms → found ≡ first_that (are_one_part m) ms
first_definition m ms found e h = subst (λ (b : Bool). found
    ≡ first_that (λ other. cond b (is_definition other) (not (is_definition other)) && same_name m.name.name
    other.name.name) ms) (sym e) h

pub first_body : (m : Module) (ms : List Module) (found : Option ℕ) → is_definition m ≡ false
    → found ≡ first_that (bears Body m.name.name) ms → found ≡ first_that (are_one_part m) ms
first_body m ms found e h = subst (λ (b : Bool). found
    ≡ first_that (λ other. cond b (is_definition other) (not (is_definition other)) && same_name m.name.name
    other.name.name) ms) (sym e) h

-- ---- the number of a module

pub found_within : {X : Type 0} (t : X → Bool) (xs : List X) (found : Option ℕ) → found ≡ first_that t xs
    → IfSome found (λ number. number < length xs)
found_within t xs None e = tt
found_within t xs (Some i) e = first_within t xs i (sym e)
