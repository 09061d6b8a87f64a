-- Tables and entries are found by their names.
use Rattle.std.proofs.Common.{◌≡◌, ℕ, suc, ◌+◌, Bool, cond, List, [], ◌∷◌, Option, Some, None, refl, sym, ap, subst, ◌∙◌, arith}
use Rattle.std.specs.Prelude.{slice_get}
use Rattle.std.specs.List.{fold, position, position_from}
use Rattle.std.specs.Option.{is_some}
use Rattle.std.proofs.lemmas.Iterator.Adapters.{position_from-zero}
use Rattle.typed_tree.specs.declared.table.Table.{Table}
use Rattle.typed_tree.specs.Names.{find_name, enter_name}
use Rattle.check_definition.specs.Importing.{with_place, with_numbered, numbered_modules}
use Rattle.law_typing.proofs.Combining.{Decided, holds, fails_it}
use Rattle.law_typing.proofs.Entering.{entered_all}
use Rattle.def_typing.specs.Imports.{IsFoundAt, found_here, found_later}

-- ---- the first with a property

module _ {A : Type 0} (P : A → Type 0) where
  pub found_same : {a b : A} {xs : List A} {i k : ℕ} → IsFoundAt P a xs i → IsFoundAt P b xs k → (a ≡ b) × (i ≡ k)
  found_same (found_here p) (found_here q) = (refl, refl)
  found_same (found_here p) (found_later n f) = absurd (n p)
  found_same (found_later n f) (found_here q) = absurd (n q)
  found_same (found_later n f) (found_later m h) = let z = found_same f h in (z.0, ap suc z.1)

  pub found_get : {a : A} {xs : List A} {k : ℕ} → IsFoundAt P a xs k → slice_get xs k ≡ Some a
  found_get (found_here p) = refl
  found_get (found_later n f) = found_get f

  pub not_later : {x a : A} {xs : List A} {k : ℕ} → (P x → ⊥) → ((a : A) (k : ℕ) → IsFoundAt P a xs k → ⊥)
      → IsFoundAt P a (x ∷ xs) k → ⊥
  not_later n c (found_here p) = n p
  not_later {a = a} n c (found_later {k = k} m f) = c a k f

  -- what a search from a number on answers
  data FoundFrom (i : ℕ) (xs : List A) : Option ℕ → Type 0 where
    found_from : {a : A} {k l : ℕ} → IsFoundAt P a xs k → l ≡ i + k → FoundFrom i xs (Some l)
    nowhere_from : ((a : A) (k : ℕ) → IsFoundAt P a xs k → ⊥) → FoundFrom i xs None

  found_head : {x : A} {xs : List A} {i : ℕ} {b : Bool} {o : Option ℕ} → Decided (P x) b → FoundFrom (i + 1) xs o
      → FoundFrom i (x ∷ xs) (cond b (Some i) o)
  found_head (holds h) r = found_from (found_here h) (omega arith)
  found_head (fails_it n) (found_from f e) = found_from (found_later n f) (omega (arith, e))
  found_head (fails_it n) (nowhere_from c) = nowhere_from (λ a k h. not_later n c h)

  found_all : (p : A → Bool) → ((x : A) → Decided (P x) (p x)) → (i : ℕ) (xs : List A)
      → FoundFrom i xs (position_from p i xs)
  found_all p d i [] = nowhere_from (λ a k h. elim h [ ])
  found_all p d i (x ∷ xs) = found_head (d x) (found_all p d (i + 1) xs)

  pub data Found (xs : List A) : Option ℕ → Type 0 where
    is_found : {a : A} {k : ℕ} → IsFoundAt P a xs k → Found xs (Some k)
    is_nowhere : ((a : A) (k : ℕ) → IsFoundAt P a xs k → ⊥) → Found xs None

  found_zero : {xs : List A} {o : Option ℕ} → FoundFrom 0 xs o → Found xs o
  found_zero {xs = xs} (found_from {a = a} {k = k} {l = l} f e) = let z : k ≡ l = omega (arith, e) in
      is_found (subst (λ (k : ℕ). IsFoundAt P a xs k) z f)
  found_zero (nowhere_from c) = is_nowhere c

  pub found_position : (p : A → Bool) → ((x : A) → Decided (P x) (p x)) → (xs : List A) → Found xs (position p xs)
  found_position p d xs = subst (λ (o : Option ℕ). Found xs o) (sym (position_from-zero p xs))
      (found_zero (found_all p d 0 xs))

-- ---- modules by name

abbrev pub Named : List ℕ → Table → Type 0
Named name t = t.name ≡ name

-- what is found of a name if another one is placed
data Placed (name n : List ℕ) (i : ℕ) (old : Option ℕ) : Option ℕ → Type 0 where
  kept : {o : Option ℕ} → (old ≡ None → name ≡ n → ⊥) → old ≡ o → Placed name n i old o
  put : old ≡ None → name ≡ n → Placed name n i old (Some i)

placed_by : (name : List ℕ) (i : ℕ) (ms : List (List ℕ × ℕ)) (n : List ℕ) (o : Option ℕ) → find_name name ms ≡ o
    → Placed name n i (find_name n ms) (find_name n (cond (is_some o) ms (enter_name name i ms)))
placed_by name i ms n (Some k) e = kept (λ q h. let z : find_name name ms ≡ None =
    subst (λ (m : List ℕ). find_name m ms ≡ None) (sym h) q in let y : Some k ≡ None = sym e ∙ z in absurd cc) refl
placed_by name i ms n None e = entered_all (λ n o. Placed name n i (find_name n ms) o) name i ms (put e refl)
    (λ n c. kept (λ q h. c h) refl) n

-- what is found of a name in the numbers of modules
data Numbered (name : List ℕ) (ms : List (List ℕ × ℕ)) (i : ℕ) (ts : List Table) : Option ℕ → Type 0 where
  earlier : {k : ℕ} → find_name name ms ≡ Some k → Numbered name ms i ts (Some k)
  now : {t : Table} {k l : ℕ} → find_name name ms ≡ None → IsFoundAt (Named name) t ts k → l ≡ i + k
      → Numbered name ms i ts (Some l)
  never : find_name name ms ≡ None → ((t : Table) (k : ℕ) → IsFoundAt (Named name) t ts k → ⊥)
      → Numbered name ms i ts None

numbered_none : (name : List ℕ) (ms : List (List ℕ × ℕ)) (i : ℕ) (o : Option ℕ) → find_name name ms ≡ o
    → Numbered name ms i [] o
numbered_none name ms i None e = never e (λ t k h. elim h [ ])
numbered_none name ms i (Some k) e = earlier e

some_number : {i k : ℕ} → Some i ≡ Some k → i ≡ k
some_number e = cc

numbered_more : {name : List ℕ} {ms more : List (List ℕ × ℕ)} {i : ℕ} {t : Table} {ts : List Table} {p o : Option ℕ}
    → p ≡ find_name name more → Placed t.name name i (find_name name ms) p → Numbered name more (i + 1) ts o
    → Numbered name ms i (t ∷ ts) o
numbered_more w (kept c e) (earlier q) = earlier (e ∙ w ∙ q)
numbered_more w (kept c e) (now q f l) = now (e ∙ w ∙ q) (found_later (c (e ∙ w ∙ q)) f) (omega (arith, l))
numbered_more {name = name} w (kept c e) (never q n) =
    never (e ∙ w ∙ q) (λ t k h. not_later (Named name) (c (e ∙ w ∙ q)) n h)
numbered_more {i = i} w (put e h) (earlier {k = k} q) = let z : i ≡ k = some_number (w ∙ q) in
    now e (found_here h) (omega (arith, z))
numbered_more {i = i} w (put e h) (now q f l) = let z : Some i ≡ None = w ∙ q in absurd cc
numbered_more {i = i} w (put e h) (never q n) = let z : Some i ≡ None = w ∙ q in absurd cc

numbered : (name : List ℕ) (ts : List Table) (ms : List (List ℕ × ℕ)) (i : ℕ)
    → Numbered name ms i ts (find_name name (fold with_numbered (ms, i) ts).0)
numbered name [] ms i = numbered_none name ms i (find_name name ms) refl
numbered name (t ∷ ts) ms i = numbered_more refl (placed_by t.name i ms name (find_name t.name ms) refl)
    (numbered name ts (with_place t.name i ms) (i + 1))

first_numbered : {name : List ℕ} {ts : List Table} {o : Option ℕ} → Numbered name [] 0 ts o → Found (Named name) ts o
first_numbered (earlier {k = k} e) = let z : None ≡ Some k = e in absurd cc
first_numbered {name = name} {ts = ts} (now {t = t} {k = k} {l = l} e f h) = let z : k ≡ l = omega (arith, h) in
    is_found (subst (λ (k : ℕ). IsFoundAt (Named name) t ts k) z f)
first_numbered (never e n) = is_nowhere n

pub module_found_by : (name : List ℕ) (tables : List Table)
    → Found (Named name) tables (find_name name (numbered_modules tables).0)
module_found_by name tables = first_numbered (numbered name tables [] 0)
