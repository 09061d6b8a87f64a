-- What is found of the types of all modules is what is to be kept of their trees.
use Rattle.std.proofs.Common.{◌≡◌, ℕ, zero, suc, Bool, true, false, cond, List, [], ◌∷◌, ◌++◌, map, length, Option, Some, None, refl, sym, ap, ◌∙◌, subst, eqb-true}
use Rattle.std.specs.Prelude.{nat_eq, slice_get, Result, Ok, Err, IfOk}
use Rattle.std.specs.List.{fold}
use Rattle.std.specs.Map.{lookup}
use Rattle.std.specs.Option.{option_map}
use Rattle.std.proofs.lemmas.List.{length-map, map-append}
use Rattle.indexmap.specs.IndexMap.{insert_entry}
use Rattle.typed_tree.specs.declared.types.Home.{Home}
use Rattle.typed_tree.specs.declared.types.Home.TheVariants.{Predeclared, Module}
use Rattle.typed_tree.specs.declared.types.TypeNo.{TypeNo}
use Rattle.typed_tree.specs.declared.shape.Scalar.{Scalar as Range}
use Rattle.typed_tree.specs.declared.shape.Shape.{Shape}
use Rattle.typed_tree.specs.declared.shape.Shape.TheVariants as shape
use Rattle.typed_tree.specs.declared.shape.Made.{Made}
use Rattle.typed_tree.specs.declared.known_types.Types.{Types}
use Rattle.typed_tree.specs.Known.{predeclared_scalar, scalar_at}
use Rattle.layout_storage.specs.declared.making.Making.{Making}
use Rattle.layout_storage.specs.declared.row.Row.{Row}
use Rattle.layout_storage.specs.declared.extent.Extent.{Extent}
use Rattle.layout_storage.specs.declared.extent.Extent.TheVariants as extent
use Rattle.layout_storage.specs.Capped.{cap_size}
use Rattle.layout_storage.specs.Types.{Ty, Array, row}
use Rattle.layout_storage.specs.Sizes.{size}
use Rattle.layout_storage.specs.Shapes.{Trees, or_nothing, in_module, scalar_tree, tree_from, tree_in, shape_tree, with_made, module_trees, with_module, other_trees, known_trees, elements_of}
use Rattle.layout_storage.specs.Extents.{Known, extent_of, extent_from, extent_in, scalar_extent, size_in, begin_row, with_part, row_of, IsMade, AreExtents}
use Rattle.layout_storage.specs.Extents.{or_nothing as or_none, in_module as among}
use Rattle.layout_storage.specs.Making.{known_in, part_size, with_field, shape_extent, array_extent, next_type, with_type, added_if, add_module, replace_module, known_extents}
use Rattle.layout_storage.specs.Making.{with_module as with_extents}
use Rattle.layout_storage.proofs.Capping.{product_both}
use Rattle.layout_storage.proofs.Rows.{parts, fields_row, row_is, size_is}

abbrev extents : List Ty → List Extent
extents ts = map extent_of ts

-- ---- trees and what is kept of them, side by side

abbrev ListMade : List Ty → Type 0
ListMade ts = (n : ℕ) → IsMade (or_nothing (slice_get ts n))

pub record Beside (before : Trees) (known : Known) : Type 0 where
  pub at : (h : ℕ) → lookup (nat_eq h) known ≡ option_map extents (lookup (nat_eq h) before)
  pub are_made : (h n : ℕ) → IsMade (in_module (lookup (nat_eq h) before) n)

-- ---- look-ups

get_is : (ts : List Ty) (n : ℕ) → or_none (slice_get (extents ts) n) ≡ extent_of (or_nothing (slice_get ts n))
get_is [] n = refl
get_is (t ∷ ts) zero = refl
get_is (t ∷ ts) (suc n) = get_is ts n

found_is : (o : Option (List Ty)) (n : ℕ) → or_none (among (option_map extents o) n) ≡ extent_of (in_module o n)
found_is None n = refl
found_is (Some ts) n = get_is ts n

scalar_is : (t : TypeNo) (o : Option Range) → scalar_extent t o ≡ extent_of (scalar_tree t o)
scalar_is t None = refl
scalar_is t (Some s) = refl

from_is : (before : Trees) (known : Known) → Beside before known → (t : TypeNo) (h : Home)
    → extent_from known t h ≡ extent_of (tree_from before t h)
from_is before known p t Predeclared = scalar_is t (predeclared_scalar t.number)
from_is before known p t (Module home) = ap (λ o. or_none (among o t.number)) (p.at home)
    ∙ found_is (lookup (nat_eq home) before) t.number

pub in_is : (before : Trees) (known : Known) → Beside before known → (t : TypeNo)
    → extent_in known t ≡ extent_of (tree_in before t)
in_is before known p t = from_is before known p t t.home

scalar_made : (t : TypeNo) (o : Option Range) → IsMade (scalar_tree t o)
scalar_made t None = tt
scalar_made t (Some s) = tt

made_from : (before : Trees) (known : Known) → Beside before known → (t : TypeNo) (h : Home)
    → IsMade (tree_from before t h)
made_from before known p t Predeclared = scalar_made t (predeclared_scalar t.number)
made_from before known p t (Module home) = p.are_made home t.number

pub made_in : (before : Trees) (known : Known) → Beside before known → (t : TypeNo) → IsMade (tree_in before t)
made_in before known p t = made_from before known p t t.home

-- ---- one type

row_made : (ts : List Ty) → IsMade (row ts)
row_made [] = tt
row_made (t ∷ ts) = row_is ts

shape_made : (types : Types) (before : Trees) (t : TypeNo) (s : Shape) → IsMade (shape_tree types before t s)
shape_made types before t (shape.Scalar s) = tt
shape_made types before t shape.Set = tt
shape_made types before t (shape.Array i e) = tt
shape_made types before t (shape.Record fs) = row_made (map (λ f. tree_in before f.1) fs)
shape_made types before t (shape.Procedure p) = tt
shape_made types before t (shape.Open e) = tt

row_extent : (ts : List Ty) → extent_of (row ts) ≡ extent.Row (row_of 0 (map size ts))
row_extent [] = refl
row_extent (t ∷ ts) = ap (λ (ns : List ℕ). extent.Row (row_of 0 ns)) (fields_row (t ∷ ts))

module _ (types : Types) (before : Trees) (x : Making) (p : Beside before (known_in x)) where
  part_is : (t : TypeNo) → part_size x t ≡ cap_size (size (tree_in before t))
  part_is t = ap size_in (in_is before (known_in x) p t) ∙ size_is (tree_in before t) (made_in before (known_in x) p t)

  fields_are : (r : Row) (fs : List (List ℕ × TypeNo))
      → fold (with_field x) r fs ≡ fold with_part r (map cap_size (map size (map (λ f. tree_in before f.1) fs)))
  fields_are r [] = refl
  fields_are r (f ∷ fs) =
      ap (λ (n : ℕ). fold (with_field x) (with_part r n) fs) (part_is f.1)
      ∙ fields_are (with_part r (cap_size (size (tree_in before f.1)))) fs

  array_is : (count : ℕ) (e : TypeNo) → array_extent (cap_size count) (part_size x e)
      ≡ extent_of (Array count (tree_in before e))
  array_is count e =
      ap (λ (n : ℕ). array_extent (cap_size count) n) (part_is e)
      ∙ ap (λ (n : ℕ). extent.Array (cap_size (size (tree_in before e))) n)
      (product_both count (size (tree_in before e)))

  record_is : (fs : List (List ℕ × TypeNo))
      → extent.Row (fold (with_field x) (begin_row 0) fs) ≡ extent_of (row (map (λ f. tree_in before f.1) fs))
  record_is fs =
      ap (λ (r : Row). extent.Row r) (fields_are (begin_row 0) fs
      ∙ parts 0 [] (map size (map (λ f. tree_in before f.1) fs)))
      ∙ sym (row_extent (map (λ f. tree_in before f.1) fs))

  pub shape_is : (t : TypeNo) (s : Shape) → shape_extent types x t s ≡ extent_of (shape_tree types before t s)
  shape_is t (shape.Scalar s) = refl
  shape_is t shape.Set = refl
  shape_is t (shape.Array i e) = array_is (elements_of (scalar_at types i)) e
  shape_is t (shape.Record fs) = record_is fs
  shape_is t (shape.Procedure p) = refl
  shape_is t (shape.Open e) = refl

-- ---- the types of a module

cond_at : (b : Bool) (ts : List Ty) (o : Option (List Extent)) (o' : Option (List Ty)) → o ≡ option_map extents o'
    → cond b (Some (extents ts)) o ≡ option_map extents (cond b (Some ts) o')
cond_at true ts o o' h = refl
cond_at false ts o o' h = h

cond_made : (b : Bool) (ts : List Ty) (o : Option (List Ty)) (n : ℕ) → ListMade ts → IsMade (in_module o n)
    → IsMade (in_module (cond b (Some ts) o) n)
cond_made true ts o n h k = h n
cond_made false ts o n h k = k

one_more : (ts : List Ty) (t : Ty) → ListMade ts → IsMade t → ListMade (ts ++ t ∷ [])
one_more [] t h m zero = m
one_more [] t h m (suc n) = tt
one_more (u ∷ us) t h m zero = h 0
one_more (u ∷ us) t h m (suc n) = one_more us t (λ k. h (suc k)) m n

in_front : (before : Trees) (known : Known) → Beside before known → (home : ℕ) (ts : List Ty) → ListMade ts
    → Beside ((home, ts) ∷ before) ((home, extents ts) ∷ known)
in_front before known p home ts m = record {
  at = λ h. cond_at (nat_eq h home) ts (lookup (nat_eq h) known) (lookup (nat_eq h) before) (p.at h);
  are_made = λ h n. cond_made (nat_eq h home) ts (lookup (nat_eq h) before) n m (p.are_made h n);
}

abbrev making : Known → ℕ → List Extent → Making
making known home xs = record { modules = known; home = home; own = xs }

module _ (types : Types) (before : Trees) (known : Known) (p : Beside before known) (home : ℕ) where
  abbrev tree_next : List Ty → Made → Ty
  tree_next ts m = shape_tree types ((home, ts) ∷ before) (record { home = Module home; number = length ts }) m.shape

  next_is : (ts : List Ty) (m : Made) → ListMade ts
      → shape_extent types (making known home (extents ts)) (next_type (making known home (extents ts))) m.shape
      ≡ extent_of (tree_next ts m)
  next_is ts m h =
      ap (λ (n : ℕ). shape_extent types (making known home (extents ts)) (record { home = Module home; number = n })
      m.shape) (length-map ts extent_of)
      ∙ shape_is types ((home, ts) ∷ before) (making known home (extents ts)) (in_front before known p home ts h)
      (record { home = Module home; number = length ts }) m.shape

  own_is : (ts : List Ty) (ms : List Made) → ListMade ts
      → fold (with_type types) (making known home (extents ts)) ms
      ≡ making known home (extents (fold (with_made types before home) ts ms))
  own_is ts [] h = refl
  own_is ts (m ∷ ms) h =
      ap (λ (e : Extent). fold (with_type types) (making known home (extents ts ++ e ∷ [])) ms) (next_is ts m h)
      ∙ ap (λ (xs : List Extent). fold (with_type types) (making known home xs) ms)
      (sym (map-append extent_of ts (tree_next ts m ∷ [])))
      ∙ own_is (ts ++ tree_next ts m ∷ []) ms
      (one_more ts (tree_next ts m) h (shape_made types ((home, ts) ∷ before)
      (record { home = Module home; number = length ts }) m.shape))

  own_made : (ts : List Ty) (ms : List Made) → ListMade ts → ListMade (fold (with_made types before home) ts ms)
  own_made ts [] h = h
  own_made ts (m ∷ ms) h =
      own_made (ts ++ tree_next ts m ∷ []) ms
      (one_more ts (tree_next ts m) h (shape_made types ((home, ts) ∷ before)
      (record { home = Module home; number = length ts }) m.shape))

-- ---- one module behind others

abbrev first_of : {A : Type 0} → Option A → Option A → Option A
first_of (Some a) o = Some a
first_of None o = o

first_cond : {A : Type 0} (b : Bool) (a : A) (o o' : Option A)
    → first_of (cond b (Some a) o) o' ≡ cond b (Some a) (first_of o o')
first_cond true a o o' = refl
first_cond false a o o' = refl

cond_same : {A : Type 0} (b : Bool) (a : A) (o o' : Option A) → o ≡ o' → cond b (Some a) o ≡ cond b (Some a) o'
cond_same b a o o' e = ap (λ x. cond b (Some a) x) e

at_end : {A : Type 0} (es : List (ℕ × A)) (home : ℕ) (a : A) (h : ℕ)
    → lookup (nat_eq h) (es ++ (home, a) ∷ []) ≡ first_of (lookup (nat_eq h) es) (cond (nat_eq h home) (Some a) None)
at_end [] home a h = refl
at_end (e ∷ es) home a h =
    cond_same (nat_eq h e.0) e.1 (lookup (nat_eq h) (es ++ (home, a) ∷ []))
    (first_of (lookup (nat_eq h) es) (cond (nat_eq h home) (Some a) None)) (at_end es home a h)
    ∙ sym (first_cond (nat_eq h e.0) e.1 (lookup (nat_eq h) es) (cond (nat_eq h home) (Some a) None))

absent_case : (b : Bool) (e : ℕ × List Extent) (es : Known) (home : ℕ) (xs : List Extent)
    → cond b (Some e.1) (lookup (nat_eq home) es) ≡ None
    → (lookup (nat_eq home) es ≡ None → insert_entry nat_eq es home xs ≡ es ++ (home, xs) ∷ [])
    → cond b ((e.0, xs) ∷ es) (e ∷ insert_entry nat_eq es home xs) ≡ e ∷ es ++ (home, xs) ∷ []
absent_case true e es home xs h f = cc h
absent_case false e es home xs h f = ap (λ (ys : Known). e ∷ ys) (f h)

absent_end : (es : Known) (home : ℕ) (xs : List Extent) → lookup (nat_eq home) es ≡ None
    → insert_entry nat_eq es home xs ≡ es ++ (home, xs) ∷ []
absent_end [] home xs h = refl
absent_end (e ∷ es) home xs h = absent_case (nat_eq home e.0) e es home xs h (absent_end es home xs)

there : (o : Option (List Extent)) (b : Bool) (xs found : List Extent) → (b ≡ true → o ≡ Some found)
    → o ≡ first_of o (cond b (Some xs) None)
there (Some y) b xs found f = refl
there None false xs found f = refl
there None true xs found f = cc (f refl)

added_case : (known : Known) (home : ℕ) (xs : List Extent) (h : ℕ) (o : Option (List Extent))
    → lookup (nat_eq home) known ≡ o
    → lookup (nat_eq h) (added_if o known home xs)
    ≡ first_of (lookup (nat_eq h) known) (cond (nat_eq h home) (Some xs) None)
added_case known home xs h None e = ap (λ (k : Known). lookup (nat_eq h) k) (absent_end known home xs e)
    ∙ at_end known home xs h
added_case known home xs h (Some found) e =
    there (lookup (nat_eq h) known) (nat_eq h home) xs found
    (λ q. ap (λ (n : ℕ). lookup (nat_eq n) known) (eqb-true h home q) ∙ e)

mapped : (b : Bool) (ts : List Ty) (o : Option (List Ty))
    → first_of (option_map extents o) (cond b (Some (extents ts)) None)
    ≡ option_map extents (first_of o (cond b (Some ts) None))
mapped b ts (Some us) = refl
mapped true ts None = refl
mapped false ts None = refl

made_first : (b : Bool) (ts : List Ty) (o : Option (List Ty)) (n : ℕ) → ListMade ts → IsMade (in_module o n)
    → IsMade (in_module (first_of o (cond b (Some ts) None)) n)
made_first b ts (Some us) n h k = k
made_first true ts None n h k = h n
made_first false ts None n h k = k

behind : (before : Trees) (known : Known) → Beside before known → (home : ℕ) (ts : List Ty) → ListMade ts
    → Beside (before ++ (home, ts) ∷ []) (added_if (lookup (nat_eq home) known) known home (extents ts))
behind before known p home ts m = record {
  at = λ h.
      added_case known home (extents ts) h (lookup (nat_eq home) known) refl
      ∙ ap (λ (o : Option (List Extent)). first_of o (cond (nat_eq h home) (Some (extents ts)) None)) (p.at h)
      ∙ mapped (nat_eq h home) ts (lookup (nat_eq h) before)
      ∙ ap (λ (o : Option (List Ty)). option_map extents o) (sym (at_end before home ts h));
  are_made = λ h n.
      subst (λ (o : Option (List Ty)). IsMade (in_module o n)) (sym (at_end before home ts h))
      (made_first (nat_eq h home) ts (lookup (nat_eq h) before) n m (p.are_made h n));
}

-- ---- the module's own types before all others

one_place : (c : Bool) (xs ys : List Extent) (o : Option (List Extent))
    → cond c (Some xs) o ≡ cond c (Some xs) (cond c (Some ys) o)
one_place true xs ys o = refl
one_place false xs ys o = refl

two_places : (c d : Bool) (xs ys : List Extent) (o : Option (List Extent)) → (c ≡ true → d ≡ false)
    → cond c (Some ys) (cond d (Some xs) o) ≡ cond d (Some xs) (cond c (Some ys) o)
two_places true true xs ys o f = cc (f refl)
two_places true false xs ys o f = refl
two_places false d xs ys o f = refl

not_both : (home other h : ℕ) (d : Bool) → nat_eq h home ≡ d → h ≡ other → nat_eq home other ≡ false
    → nat_eq h home ≡ false
not_both home other h false r s f = r
not_both home other h true r s f =
    let same : h ≡ home = eqb-true h home r in
    let found : nat_eq home home ≡ true = subst (λ (n : ℕ). nat_eq n home ≡ true) same r in
    let both : nat_eq home other ≡ true = subst (λ (n : ℕ). nat_eq home n ≡ true) (sym same ∙ s) found in
    cc (both, f)

insert_case : (b : Bool) (e : ℕ × List Extent) (es : Known) (home : ℕ) (xs : List Extent) (h : ℕ) → nat_eq home e.0 ≡ b
    → lookup (nat_eq h) (insert_entry nat_eq es home xs) ≡ cond (nat_eq h home) (Some xs) (lookup (nat_eq h) es)
    → lookup (nat_eq h) (cond b ((e.0, xs) ∷ es) (e ∷ insert_entry nat_eq es home xs))
    ≡ cond (nat_eq h home) (Some xs) (cond (nat_eq h e.0) (Some e.1) (lookup (nat_eq h) es))
insert_case true e es home xs h q rec =
    subst (λ (n : ℕ). cond (nat_eq h n) (Some xs) (lookup (nat_eq h) es)
    ≡ cond (nat_eq h home) (Some xs) (cond (nat_eq h n) (Some e.1) (lookup (nat_eq h) es)))
    (eqb-true home e.0 q) (one_place (nat_eq h home) xs e.1 (lookup (nat_eq h) es))
insert_case false e es home xs h q rec =
    ap (λ (o : Option (List Extent)). cond (nat_eq h e.0) (Some e.1) o) rec
    ∙ two_places (nat_eq h e.0) (nat_eq h home) xs e.1 (lookup (nat_eq h) es)
    (λ c. not_both home e.0 h (nat_eq h home) refl (eqb-true h e.0 c) q)

insert_at : (es : Known) (home : ℕ) (xs : List Extent) (h : ℕ)
    → lookup (nat_eq h) (insert_entry nat_eq es home xs) ≡ cond (nat_eq h home) (Some xs) (lookup (nat_eq h) es)
insert_at [] home xs h = refl
insert_at (e ∷ es) home xs h = insert_case (nat_eq home e.0) e es home xs h refl (insert_at es home xs h)

before_all : (before : Trees) (known : Known) → Beside before known → (home : ℕ) (ts : List Ty) → ListMade ts
    → Beside ((home, ts) ∷ before) (insert_entry nat_eq known home (extents ts))
before_all before known p home ts m = record {
  at = λ h. insert_at known home (extents ts) h
      ∙ cond_at (nat_eq h home) ts (lookup (nat_eq h) known) (lookup (nat_eq h) before) (p.at h);
  are_made = λ h n. cond_made (nat_eq h home) ts (lookup (nat_eq h) before) n m (p.are_made h n);
}

-- ---- all modules

module _ (types : Types) where
  module_beside : (before : Trees) (known : Known) → Beside before known → (e : ℕ × List Made)
      → Beside (with_module types before e) (with_extents types known e)
  module_beside before known p e =
      subst (λ (k : Known). Beside (before ++ (e.0, module_trees types before e.0 e.1) ∷ []) k)
      (sym (ap add_module (own_is types before known p e.0 [] e.1 (λ n. tt))))
      (behind before known p e.0 (module_trees types before e.0 e.1)
      (own_made types before known p e.0 [] e.1 (λ n. tt)))

  all_beside : (before : Trees) (known : Known) → Beside before known → (es : List (ℕ × List Made))
      → Beside (fold (with_module types) before es) (fold (with_extents types) known es)
  all_beside before known p [] = p
  all_beside before known p (e ∷ es) = all_beside (with_module types before e) (with_extents types known e)
      (module_beside before known p e) es

  none : Beside [] []
  none = record { at = λ h. refl; are_made = λ h n. tt }

  abbrev other_extents : Known
  other_extents = fold (with_extents types) [] types.others

  others_beside : Beside (other_trees types) other_extents
  others_beside = all_beside [] [] none types.others

  whole : Beside (known_trees types) (known_extents types)
  unfolding known_trees
  whole =
      subst (λ (k : Known). Beside ((types.home, module_trees types (other_trees types) types.home types.own)
      ∷ other_trees types) k)
      (sym (ap replace_module (own_is types (other_trees types) other_extents others_beside types.home [] types.own
      (λ n. tt))))
      (before_all (other_trees types) other_extents others_beside types.home
      (module_trees types (other_trees types) types.home types.own)
      (own_made types (other_trees types) other_extents others_beside types.home [] types.own (λ n. tt)))

  pub are_extents : AreExtents types (known_extents types)
  are_extents = record {
    of = in_is (known_trees types) (known_extents types) whole;
    are_made =
        made_in (known_trees types) (known_extents types) whole;
  }

pub ok_are : {E : Type 0} (types : Types) (r : Result Known E) → IfOk r (λ x. x ≡ known_extents types)
    → IfOk r (λ x. AreExtents types x)
ok_are types (Err e) h = tt
ok_are types (Ok x) h = subst (λ (k : Known). AreExtents types k) (sym h) (are_extents types)
