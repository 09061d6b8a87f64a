-- Lists of names, and what holds of each.
use Rattle.std.proofs.Common.{◌≡◌, ℕ, Bool, true, false, ◌||◌, cond, List, [], ◌∷◌, ◌++◌, length, Option, Some, refl, subst, ◌∙◌}
use Rattle.std.specs.Prelude.{slice_get, All}
use Rattle.std.specs.List.{list_any, flat_map, AllByRecursion}
use Rattle.std.proofs.lemmas.List.Folds.{list_any-append}
use Rattle.std.proofs.lemmas.List.Elements.{All-nil, All-cons}
use Rattle.std.proofs.lemmas.Option.{same_Some}
use lib.Pointwise.{bytes_decides}
use Rattle.m2_tree.specs.declared.name.Ident.{Ident}
use Rattle.m2_tree.specs.declared.decl.Import.{Import}
use Rattle.m2_graph.specs.Imports.{named_by}
use Rattle.m2_tree.specs.Names.{same_name}
use Rattle.typed_tree.specs.Names.{find_name, enter_name}

pub same_refl : (name : List ℕ) → same_name name name ≡ true
same_refl name = (bytes_decides name name).1 refl

pub same_is : (a b : List ℕ) → same_name a b ≡ true → a ≡ b
same_is a b h = (bytes_decides a b).0 h

pub or_left : (a b : Bool) → a ≡ true → (a || b) ≡ true
or_left true b h = refl
or_left false b h = absurd cc

pub or_right : (a b : Bool) → b ≡ true → (a || b) ≡ true
or_right true b h = refl
or_right false b h = h

-- ---- what holds of each

pub all_each : {X : Type 0} (P : X → Type 0) (xs : List X) → AllByRecursion P xs → All P xs
all_each P [] h = All-nil P
all_each P (x ∷ xs) h = All-cons P x xs h.0 (all_each P xs h.1)

pub each_push : {X : Type 0} (P : X → Type 0) (xs : List X) (x : X) → AllByRecursion P xs → P x
    → AllByRecursion P (xs ++ x ∷ [])
each_push P [] x h p = (p, tt)
each_push P (y ∷ xs) x h p = (h.0, each_push P xs x h.1 p)

module _ {V : Type 0} (P : List ℕ × V → Type 0) where
  abbrev pub Each : List (List ℕ × V) → Type 0
  Each es = AllByRecursion P es

  each_by : (b : Bool) (v : V) (e : List ℕ × V) (es more : List (List ℕ × V)) → (b ≡ true → P (e.0, v)) → Each (e ∷ es)
      → Each more → Each (cond b ((e.0, v) ∷ es) (e ∷ more))
  each_by true v e es more p all q = (p refl, all.1)
  each_by false v e es more p all q = (all.0, q)

  pub each_entered : (name : List ℕ) (v : V) (es : List (List ℕ × V))
      → ((other : List ℕ) → same_name name other ≡ true → P (other, v)) → Each es → Each (enter_name name v es)
  each_entered name v [] p all = (p name (same_refl name), tt)
  each_entered name v (e ∷ es) p all = each_by (same_name name e.0) v e es (enter_name name v es) (p e.0) all
      (each_entered name v es p all.1)

  abbrev pub IsFound : List ℕ → V → Type 0
  IsFound name v = (key : List ℕ) × (same_name name key ≡ true) × P (key, v)

  found_by : (name : List ℕ) (b : Bool) (e : List ℕ × V) (o : Option V) (v : V) → same_name name e.0 ≡ b → P e
      → (o ≡ Some v → IsFound name v) → cond b (Some e.1) o ≡ Some v → IsFound name v
  found_by name true e o v s p k h = (e.0, s, subst (λ (x : V). P (e.0, x)) (same_Some e.1 v h) p)
  found_by name false e o v s p k h = k h

  pub found_each : (name : List ℕ) (es : List (List ℕ × V)) (v : V) → Each es → find_name name es ≡ Some v
      → IsFound name v
  found_each name [] v all h = absurd cc
  found_each name (e ∷ es) v all h = found_by name (same_name name e.0) e (find_name name es) v refl all.0
      (found_each name es v all.1) h

-- ---- names of lists

pub keys_in : {V : Type 0} (Q : List ℕ → Type 0) (es : List (List ℕ × V))
    → ((name : List ℕ) → list_any (λ e. same_name e.0 name) es ≡ true → Q name) → AllByRecursion (λ e. Q e.0) es
keys_in Q [] k = tt
keys_in Q (e ∷ es) k = (
  k e.0 (or_left (same_name e.0 e.0) (list_any (λ x. same_name x.0 e.0) es) (same_refl e.0)),
  keys_in Q es (λ name h. k name (or_right (same_name e.0 name) (list_any (λ x. same_name x.0 name) es) h)),
)

pub names_in : (Q : List ℕ → Type 0) (xs : List Ident)
    → ((name : List ℕ) → list_any (λ i. same_name i.name name) xs ≡ true → Q name) → AllByRecursion (λ i. Q i.name) xs
names_in Q [] k = tt
names_in Q (x ∷ xs) k = (
  k x.name (or_left (same_name x.name x.name) (list_any (λ i. same_name i.name x.name) xs)
      (same_refl x.name)),
  names_in Q xs (λ name h. k name
      (or_right (same_name x.name name) (list_any (λ i. same_name i.name name) xs) h)),
)

any_left : (name : List ℕ) (xs ys : List Ident) → list_any (λ i. same_name i.name name) xs ≡ true
    → list_any (λ i. same_name i.name name) (xs ++ ys) ≡ true
any_left name xs ys h = list_any-append (λ i. same_name i.name name) xs ys
    ∙ or_left _ (list_any (λ i. same_name i.name name) ys) h

any_right : (name : List ℕ) (xs ys : List Ident) → list_any (λ i. same_name i.name name) ys ≡ true
    → list_any (λ i. same_name i.name name) (xs ++ ys) ≡ true
any_right name xs ys h = list_any-append (λ i. same_name i.name name) xs ys
    ∙ or_right (list_any (λ i. same_name i.name name) xs) _ h

-- the names of modules that imports name
abbrev pub EachImported : (Q : List ℕ → Type 0) → List Import → Type 0
EachImported Q is = AllByRecursion (λ i. AllByRecursion (λ x. Q x.name) (named_by i.from i.names)) is

pub imports_in : (Q : List ℕ → Type 0) (is : List Import)
    → ((name : List ℕ) → list_any (λ i. same_name i.name name) (flat_map (λ i. named_by i.from i.names) is) ≡ true
    → Q name) → EachImported Q is
imports_in Q [] k = tt
imports_in Q (i ∷ is) k = (
  names_in Q (named_by i.from i.names) (λ name h. k name
      (any_left name (named_by i.from i.names) (flat_map (λ i. named_by i.from i.names) is) h)),
  imports_in Q is (λ name h. k name (any_right name (named_by i.from i.names)
      (flat_map (λ i. named_by i.from i.names) is) h)),
)

-- ---- places

pub get_last : {A : Type 0} (xs : List A) (y : A) (ys : List A) → slice_get (xs ++ y ∷ ys) (length xs) ≡ Some y
get_last [] y ys = refl
get_last (x ∷ xs) y ys = get_last xs y ys
