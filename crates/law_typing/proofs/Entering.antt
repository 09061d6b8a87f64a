-- Names that are entered in a list, and found there.
use Rattle.std.proofs.Common.{◌≡◌, ℕ, Bool, true, false, cond, List, [], ◌∷◌, ◌++◌, Option, Some, None, ◌⊎◌, inl, inr, refl, sym, ap, subst, ◌∙◌}
use Rattle.std.specs.List.{list_any}
use lib.Pointwise.{bytes_decides}
use Rattle.m2_tree.specs.Names.{same_name}
use Rattle.m2_tree.specs.declared.name.Ident.{Ident}
use Rattle.typed_tree.specs.Names.{find_name, enter_name}
use Rattle.def_typing.specs.Parts.{Among, here, later, Named}
use Rattle.law_typing.specs.Exact.{AreOnce, no_names, one_name}
use Rattle.law_typing.proofs.Combining.{Decided, holds, fails_it, decided_as}
use Rattle.law_typing.proofs.Meeting.{either_decided}

same_refl : (name : List ℕ) → same_name name name ≡ true
same_refl name = (bytes_decides name name).1 refl

-- one name or two, and what the test says
pub data Compared (a b : List ℕ) : Type 0 where
  are_one : a ≡ b → Compared a b
  are_two : (a ≡ b → ⊥) → same_name a b ≡ false → Compared a b

compared_by : (a b : List ℕ) (t : Bool) → same_name a b ≡ t → Compared a b
compared_by a b true h = are_one ((bytes_decides a b).0 h)
compared_by a b false h = are_two (λ e. let n : same_name a b ≡ true = (bytes_decides a b).1 e in absurd cc) h

pub compared : (a b : List ℕ) → Compared a b
compared a b = compared_by a b (same_name a b) refl

decided_name : {a b : List ℕ} → Compared a b → Decided (a ≡ b) (same_name a b)
decided_name {a = a} {b = b} (are_one e) =
    subst (λ (t : Bool). Decided (a ≡ b) t) (sym ((bytes_decides a b).1 e)) (holds e)
decided_name {a = a} {b = b} (are_two c h) = subst (λ (t : Bool). Decided (a ≡ b) t) (sym h) (fails_it c)

pub name_decided : (a b : List ℕ) → Decided (a ≡ b) (same_name a b)
name_decided a b = decided_name (compared a b)

module _ {V : Type 0} where
  found_cond : (other : List ℕ) (b : Bool) (xs ys : List (List ℕ × V))
      → find_name other (cond b xs ys) ≡ cond b (find_name other xs) (find_name other ys)
  found_cond other true xs ys = refl
  found_cond other false xs ys = refl

  self_at : (v old : V) (b : Bool) (there rest : Option V) → rest ≡ Some v
      → cond b (cond b (Some v) there) (cond b (Some old) rest) ≡ Some v
  self_at v old true there rest k = refl
  self_at v old false there rest k = k

  found_self : (name : List ℕ) (v : V) (es : List (List ℕ × V)) → find_name name (enter_name name v es) ≡ Some v
  found_self name v [] = ap (λ (b : Bool). cond b (Some v) None) (same_refl name)
  found_self name v (e ∷ es) = found_cond name (same_name name e.0) ((e.0, v) ∷ es) (e ∷ enter_name name v es)
      ∙ self_at v e.1 (same_name name e.0) (find_name name es) (find_name name (enter_name name v es))
      (found_self name v es)

  other_at : (v old : V) (b c : Bool) (there new : Option V) → (b ≡ true → c ≡ false) → new ≡ there
      → cond b (cond c (Some v) there) (cond c (Some old) new) ≡ cond c (Some old) there
  other_at v old true true there new n k = let e : true ≡ false = n refl in absurd cc
  other_at v old true false there new n k = refl
  other_at v old false true there new n k = refl
  other_at v old false false there new n k = k

  found_other : (name other : List ℕ) (v : V) (es : List (List ℕ × V)) → same_name other name ≡ false
      → find_name other (enter_name name v es) ≡ find_name other es
  found_other name other v [] h = ap (λ (b : Bool). cond b (Some v) None) h
  found_other name other v (e ∷ es) h = found_cond other (same_name name e.0) ((e.0, v) ∷ es) (e ∷ enter_name name v es)
      ∙ other_at v e.1 (same_name name e.0) (same_name other e.0) (find_name other es)
      (find_name other (enter_name name v es))
      (λ q. ap (λ (n : List ℕ). same_name other n) (sym ((bytes_decides name e.0).0 q)) ∙ h)
      (found_other name other v es h)

  -- what holds of the name that is entered, and of all others
  pub entered_all : (P : List ℕ → Option V → Type 0) (name : List ℕ) (v : V) (es : List (List ℕ × V)) → P name (Some v)
      → ((n : List ℕ) → (name ≡ n → ⊥) → P n (find_name n es)) → (n : List ℕ) → P n (find_name n (enter_name name v es))
  entered_all P name v es h k n = by (compared n name)
    where
      by : Compared n name → P n (find_name n (enter_name name v es))
      by (are_one e) = subst (λ (m : List ℕ). P m (find_name m (enter_name name v es))) (sym e)
          (subst (λ (o : Option V). P name o) (sym (found_self name v es)) h)
      by (are_two c t) = subst (λ (o : Option V). P n o) (sym (found_other name n v es t)) (k n (λ e. c (sym e)))

  -- ---- names that are there once

  pub once_more : (name : List ℕ) (v : V) {es : List (List ℕ × V)} → AreOnce es → AreOnce (enter_name name v es)
  once_more name v no_names = one_name refl no_names
  once_more name v (one_name {e = e} {es = es} n o) = by (name_decided name e.0) (once_more name v o)
    where
      by : {b : Bool} → Decided (name ≡ e.0) b → AreOnce (enter_name name v es)
          → AreOnce (cond b ((e.0, v) ∷ es) (e ∷ enter_name name v es))
      by (holds q) more = one_name n o
      by (fails_it c) more = one_name (entered_all (λ m r. m ≡ e.0 → r ≡ None) name v es (λ q. absurd (c q))
          (λ m w q. subst (λ (k : List ℕ). find_name k es ≡ None) (sym q) n) e.0 refl) more

-- ---- names in lists

among_left : {x : Ident} {xs : List Ident} (ys : List Ident) → Among x xs → Among x (xs ++ ys)
among_left ys here = here
among_left ys (later m) = later (among_left ys m)

among_right : {x : Ident} (xs : List Ident) {ys : List Ident} → Among x ys → Among x (xs ++ ys)
among_right [] m = m
among_right (y ∷ xs) m = later (among_right xs m)

among_split : {x : Ident} (xs : List Ident) {ys : List Ident} → Among x (xs ++ ys) → Among x xs ⊎ Among x ys
among_split [] m = inr m
among_split (y ∷ xs) here = inl here
among_split (y ∷ xs) (later m) = elim (among_split xs m) [ inl q ↦ inl (later q) | inr q ↦ inr q ]

pub named_left : {xs : List Ident} (ys : List Ident) {n : List ℕ} → Named xs n → Named (xs ++ ys) n
named_left ys h = (h.0, among_left ys h.1, h.2)

pub named_right : (xs : List Ident) {ys : List Ident} {n : List ℕ} → Named ys n → Named (xs ++ ys) n
named_right xs h = (h.0, among_right xs h.1, h.2)

pub named_split : (xs : List Ident) {ys : List Ident} {n : List ℕ} → Named (xs ++ ys) n → Named xs n ⊎ Named ys n
named_split xs h = elim (among_split xs h.1) [ inl m ↦ inl (h.0, m, h.2) | inr m ↦ inr (h.0, m, h.2) ]

pub among_decided : (xs : List Ident) (n : List ℕ) → Decided (Named xs n) (list_any (λ x. same_name x.name n) xs)
among_decided [] n = fails_it (λ z. elim z.1 [ ])
among_decided (x ∷ xs) n = decided_as (λ z. more z) (λ z. parts z)
    (either_decided (name_decided x.name n) (among_decided xs n))
  where
    more : (x.name ≡ n) ⊎ Named xs n → Named (x ∷ xs) n
    more (inl e) = (x, here, e)
    more (inr (y, m, e)) = (y, later m, e)

    parts : Named (x ∷ xs) n → (x.name ≡ n) ⊎ Named xs n
    parts (y, here, e) = inl e
    parts (y, later m, e) = inr (y, m, e)
