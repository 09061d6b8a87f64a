-- Pieces of blocks and bodies, with other numbers of modules.
use Rattle.std.proofs.Common.{◌≡◌, ℕ, nat_eq, Bool, ◌&&◌, cond, if◌then◌else◌, List, [], ◌∷◌, ◌++◌, map, Option, Some, None, refl, sym, ap, ap₂, ◌∙◌, option_map}
use Rattle.std.specs.Cmp.Lexicographic.{pointwise}
use Rattle.std.specs.Map.{lookup}
use Rattle.std.specs.Option.{is_some}
use Rattle.std.proofs.lemmas.List.{map-append}
use Rattle.indexmap.specs.IndexMap.{insert_entry}
use Rattle.typed_tree.specs.Names.{find_name, enter_name}
use Rattle.check_scope.specs.Inwards.{split_last}
use Rattle.check_block.specs.Inner.{unless_found}
use Rattle.def_exchange.specs.Moved.{Exchange}
use Rattle.law_exchange_types.specs.Pieces.{moved_pair, moved_entries}
use Rattle.law_exchange_types.proofs.Basics.{same_number, find_moves, enter_moves, cond_moves, if_in}

pub some_moves : {A B : Type 0} (f : A → B) (o : Option A) → is_some (option_map f o) ≡ is_some o
some_moves f None = refl
some_moves f (Some a) = refl

pub pointwise_moves : {A B : Type 0} (f : A → B) (E : A → A → Bool) (D : B → B → Bool)
    → ((a c : A) → D (f a) (f c) ≡ E a c) → (xs ys : List A) → pointwise D (map f xs) (map f ys) ≡ pointwise E xs ys
pointwise_moves f E D e [] [] = refl
pointwise_moves f E D e [] (y ∷ ys) = refl
pointwise_moves f E D e (x ∷ xs) [] = refl
pointwise_moves f E D e (x ∷ xs) (y ∷ ys) =
    ap₂ (λ (p q : Bool). p && q) (e x y) (pointwise_moves f E D e xs ys)

pub map_same : {A B C D : Type 0} (f : B → C) (h : A → B) (k : A → D) (l : D → C)
    → ((a : A) → f (h a) ≡ l (k a)) → (us : List A) → map f (map h us) ≡ map l (map k us)
map_same f h k l e [] = refl
map_same f h k l e (a ∷ us) = ap₂ (λ c cs. c ∷ cs) (e a) (map_same f h k l e us)

pub map_each : {A B C : Type 0} (f : B → C) (h : A → B) (k : A → C)
    → ((a : A) → f (h a) ≡ k a) → (us : List A) → map f (map h us) ≡ map k us
map_each f h k e [] = refl
map_each f h k e (a ∷ us) = ap₂ (λ c cs. c ∷ cs) (e a) (map_each f h k e us)

pub push_moves : {A B : Type 0} (f : A → B) (us : List A) (a : A) → map f us ++ f a ∷ [] ≡ map f (us ++ a ∷ [])
push_moves f us a = sym (map-append f us (a ∷ []))

pub unless_found_moves : {V W : Type 0} (f : V → W) (name : List ℕ) (v : V) (es : List (List ℕ × V))
    → unless_found name (f v) (moved_entries f es) ≡ moved_entries f (unless_found name v es)
unless_found_moves {V} {W} f name v es =
    ap₂ (λ (b : Bool) (ts : List (List ℕ × W)). cond b (moved_entries f es) ts)
    (ap is_some (find_moves f name es) ∙ some_moves f (find_name name es)) (enter_moves f name v es)
    ∙ cond_moves (moved_entries f) (is_some (find_name name es)) es (enter_name name v es)

last_moves : {A B : Type 0} (f : A → B) (a : A) (o : Option (List A × A))
    → elim (option_map (moved_pair (map f) f) o) [ None ↦ Some ([], f a) | Some p ↦ Some (f a ∷ p.0, p.1) ]
    ≡ option_map (moved_pair (map f) f) (elim o [ None ↦ Some ([], a) | Some p ↦ Some (a ∷ p.0, p.1) ])
last_moves f a None = refl
last_moves f a (Some p) = refl

pub split_moves : {A B : Type 0} (f : A → B) (us : List A)
    → split_last (map f us) ≡ option_map (moved_pair (map f) f) (split_last us)
split_moves f [] = refl
split_moves {A} {B} f (a ∷ us) =
    ap (λ (o : Option (List B × B)). elim o [ None ↦ Some ([], f a) | Some p ↦ Some (f a ∷ p.0, p.1) ])
    (split_moves f us)
    ∙ last_moves f a (split_last us)

-- ---- lists by numbers of modules

module _ (x : Exchange) {V : Type 0} (f : V → V) where
  abbrev pub moved_numbered_list : List (ℕ × V) → List (ℕ × V)
  moved_numbered_list os = map (λ o. (x.there o.0, f o.1)) os

  pub lookup_moves : (n : ℕ) (os : List (ℕ × V))
      → lookup (nat_eq (x.there n)) (moved_numbered_list os) ≡ option_map f (lookup (nat_eq n) os)
  lookup_moves n [] = refl
  lookup_moves n (o ∷ os) =
      ap₂ (λ (b : Bool) (r : Option V). cond b (Some (f o.1)) r) (same_number x n o.0) (lookup_moves n os)
      ∙ cond_moves (option_map f) (nat_eq n o.0) (Some o.1) (lookup (nat_eq n) os)

  pub insert_moves : (os : List (ℕ × V)) (n : ℕ) (v : V)
      → insert_entry nat_eq (moved_numbered_list os) (x.there n) (f v)
      ≡ moved_numbered_list (insert_entry nat_eq os n v)
  insert_moves [] n v = refl
  insert_moves (o ∷ os) n v =
      ap₂ (λ (b : Bool) (r : List (ℕ × V)). if b then (x.there o.0, f v) ∷ moved_numbered_list os
      else (x.there o.0, f o.1) ∷ r) (same_number x n o.0) (insert_moves os n v)
      ∙ sym (if_in moved_numbered_list (nat_eq n o.0) ((o.0, v) ∷ os) (o ∷ insert_entry nat_eq os n v))
