-- Where sizes are kept uncut, no size of a type or of an element is cut.
use Rattle.std.proofs.Common.{◌≡◌, ℕ, zero, suc, ◌+◌, ◌≤◌, ◌<◌, Bool, true, false, cond, List, [], ◌∷◌, ◌++◌, map, length, Option, Some, None, refl, sym, ap, subst, ◌∙◌, arith, eqb-true, lit≤, append_assoc}
use Rattle.std.specs.Prelude.{◌&&◌, nat_lt, nat_eq, slice_get}
use Rattle.std.specs.List.{fold}
use Rattle.std.specs.Map.{lookup}
use Rattle.std.specs.Option.{option_map}
use Rattle.std.proofs.lemmas.Bool.{ltb-true, ltb-false, lt-ltb, le-ltb, eqb-false}
use Rattle.std.proofs.lemmas.Option.{slice_get_within}
use Rattle.std.proofs.lemmas.List.{length-append, map-append, append-nil}
use Rattle.typed_tree.specs.declared.types.Home.{Home}
use Rattle.typed_tree.specs.declared.types.Home.TheVariants.{Predeclared, Module}
use Rattle.typed_tree.specs.declared.types.TypeNo.{TypeNo}
use Rattle.typed_tree.specs.declared.shape.Scalar.{Scalar as Range}
use Rattle.typed_tree.specs.declared.shape.Made.{Made}
use Rattle.typed_tree.specs.declared.known_types.Types.{Types}
use Rattle.typed_tree.specs.Known.{predeclared_scalar}
use Rattle.layout_storage.specs.Capped.{cap_size}
use Rattle.layout_storage.specs.Types.{Ty, Nothing}
use Rattle.layout_storage.specs.Sizes.{Room, One, Two, Four, bytes_in, room_of, size}
use Rattle.layout_storage.specs.Shapes.{Trees, shape_tree, or_nothing, in_module, scalar_kind, scalar_tree, tree_from, with_made, module_trees, with_module, other_trees, known_trees, tree}
use Rattle.layout_storage.specs.Extents.{element_tree}
use Rattle.layout_storage.specs.Fitting.{made_type, types_fit}
use Rattle.layout_storage.specs.Layouts.{max_storage}
use Rattle.layout_storage.proofs.Fitted.{all_small}
use Rattle.emit_buffer.specs.Fitting.{cut_size, size_fits, first_fit, module_fits, sizes_fit}

-- ---- tests

both_true : (a b : Bool) → (a && b) ≡ true → (a ≡ true) × (b ≡ true)
both_true true b h = (refl, h)
both_true false b h = cc h

less_case : (n : ℕ) (b : Bool) → nat_lt n cut_size ≡ b → nat_lt (cap_size n) cut_size ≡ b
less_case n true e = let h : n < cut_size = ltb-true n cut_size e in lt-ltb (cap_size n) cut_size (omega arith)
less_case n false e = let h : cut_size ≤ n = ltb-false n cut_size e in le-ltb (cap_size n) cut_size (omega arith)

-- a test of a cut size is one of the size
pub less_cut : (n : ℕ) → nat_lt (cap_size n) cut_size ≡ nat_lt n cut_size
less_cut n = less_case n (nat_lt n cut_size) refl

-- the size of a type and of its elements
abbrev Small : Ty → Type 0
Small t = (size t < cut_size) × (size (element_tree t) < cut_size)

small : (t : Ty) → size_fits t ≡ true → Small t
small t h =
    let p = both_true (nat_lt (size t) cut_size) (nat_lt (size (element_tree t)) cut_size) h in
    (ltb-true (size t) cut_size p.0, ltb-true (size (element_tree t)) cut_size p.1)

-- ---- numbers

number_case : (types : Types) (home m n : ℕ) → size_fits (tree types (made_type home m)) ≡ true
    → (n < m → size_fits (tree types (made_type home n)) ≡ true)
    → (b : Bool) → nat_eq n m ≡ b → n < suc m → size_fits (tree types (made_type home n)) ≡ true
number_case types home m n h rec true e l =
    subst (λ (k : ℕ). size_fits (tree types (made_type home k)) ≡ true) (sym (eqb-true n m e)) h
number_case types home m n h rec false e l = let d : n ≡ m → ⊥ = eqb-false n m e in rec (omega (arith, d))

number_fits : (types : Types) (home count n : ℕ) → first_fit types home count ≡ true → n < count
    → size_fits (tree types (made_type home n)) ≡ true
number_fits types home zero n h l = absurd (omega arith)
number_fits types home (suc m) n h l =
    let p = both_true (first_fit types home m) (size_fits (tree types (made_type home m))) h in
    number_case types home m n p.1 (number_fits types home m n p.0) (nat_eq n m) refl l

-- ---- how many types each module makes

abbrev lengths : {A : Type 0} → List (ℕ × List A) → List (ℕ × ℕ)
lengths es = map (λ e. (e.0, length e.1)) es

abbrev tree_next : Types → Trees → ℕ → List Ty → Made → Ty
tree_next types before home ts m = shape_tree types ((home, ts) ∷ before) (made_type home (length ts)) m.shape

one_longer : (ts : List Ty) (t : Ty) (n : ℕ) → length (ts ++ t ∷ []) + n ≡ length ts + suc n
one_longer ts t n = omega (arith, length-append ts (t ∷ []))

trees_length : (types : Types) (before : Trees) (home : ℕ) (ts : List Ty) (ms : List Made)
    → length (fold (with_made types before home) ts ms) ≡ length ts + length ms
trees_length types before home ts [] = omega arith
trees_length types before home ts (m ∷ ms) =
    trees_length types before home (ts ++ tree_next types before home ts m ∷ []) ms
    ∙ one_longer ts (tree_next types before home ts m) (length ms)

from_none : (n : ℕ) → 0 + n ≡ n
from_none n = omega arith

known_lengths : (types : Types) (before : Trees) (es : List (ℕ × List Made))
    → lengths (fold (with_module types) before es) ≡ lengths before ++ lengths es
known_lengths types before [] = sym (append-nil (lengths before))
known_lengths types before (e ∷ es) =
    known_lengths types (with_module types before e) es
    ∙ ap (λ (xs : List (ℕ × ℕ)). xs ++ lengths es)
    (map-append (λ (x : ℕ × List Ty). (x.0, length x.1)) before ((e.0, module_trees types before e.0 e.1) ∷ []))
    ∙ ap (λ (n : ℕ). (lengths before ++ (e.0, n) ∷ []) ++ lengths es)
    (trees_length types before e.0 [] e.1 ∙ from_none (length e.1))
    ∙ append_assoc (lengths before) ((e.0, length e.1) ∷ []) (lengths es)

cond_length : {A : Type 0} (b : Bool) (xs : List A) (o : Option (List A))
    → cond b (Some (length xs)) (option_map length o) ≡ option_map length (cond b (Some xs) o)
cond_length true xs o = refl
cond_length false xs o = refl

lookup_length : {A : Type 0} (test : ℕ → Bool) (es : List (ℕ × List A))
    → lookup test (lengths es) ≡ option_map length (lookup test es)
lookup_length test [] = refl
lookup_length test (e ∷ es) = ap (λ (o : Option ℕ). cond (test e.0) (Some (length e.1)) o) (lookup_length test es)
    ∙ cond_length (test e.0) e.1 (lookup test es)

-- ---- modules

entry_case : (types : Types) (home n h k : ℕ) (o : Option ℕ) → first_fit types home n ≡ true
    → (o ≡ Some k → first_fit types h k ≡ true)
    → (b : Bool) → nat_eq h home ≡ b → cond b (Some n) o ≡ Some k → first_fit types h k ≡ true
entry_case types home n h k o f rec true e q =
    let same : n ≡ k = cc q in
    subst (λ (j : ℕ). first_fit types h j ≡ true) same
    (subst (λ (j : ℕ). first_fit types j n ≡ true) (sym (eqb-true h home e)) f)
entry_case types home n h k o f rec false e q = rec q

entry_fits : (types : Types) (es : List (ℕ × List Made)) (b : Bool) → fold (module_fits types) b es ≡ true
    → (b ≡ true) × ((h k : ℕ) → lookup (nat_eq h) (lengths es) ≡ Some k → first_fit types h k ≡ true)
entry_fits types [] b f = (f, λ h k q. cc q)
entry_fits types (e ∷ es) b f =
    let r = entry_fits types es (b && first_fit types e.0 (length e.1)) f in
    let p = both_true b (first_fit types e.0 (length e.1)) r.0 in (
      p.0,
      λ h k q. entry_case types e.0 (length e.1) h k (lookup (nat_eq h) (lengths es)) p.1 (r.1 h k) (nat_eq h e.0)
          refl q,
    )

nothing_small : Small Nothing
unfolding size
nothing_small = (lit≤ tt, lit≤ tt)

room_small : (r : Room) → bytes_in r < cut_size
room_small One = lit≤ tt
room_small Two = lit≤ tt
room_small Four = lit≤ tt

module _ (types : Types) (fit : sizes_fit types ≡ true) where
  parts_fit : (fold (module_fits types) true types.others ≡ true)
      × (first_fit types types.home (length types.own) ≡ true)
  unfolding sizes_fit
  parts_fit = both_true (fold (module_fits types) true types.others) (first_fit types types.home (length types.own)) fit

  lengths_known : lengths (known_trees types) ≡ (types.home, length types.own) ∷ lengths types.others
  unfolding known_trees
  lengths_known =
      ap (λ (n : ℕ). (types.home, n) ∷ lengths (other_trees types))
      (trees_length types (other_trees types) types.home [] types.own ∙ from_none (length types.own))
      ∙ ap (λ (es : List (ℕ × ℕ)). (types.home, length types.own) ∷ es) (known_lengths types [] types.others)

  of_length : (h k : ℕ) → option_map length (lookup (nat_eq h) (known_trees types)) ≡ Some k
      → first_fit types h k ≡ true
  of_length h k q =
      entry_case types types.home (length types.own) h k (lookup (nat_eq h) (lengths types.others)) parts_fit.1
      ((entry_fits types types.others true parts_fit.0).1 h k) (nat_eq h types.home) refl
      (ap (λ (es : List (ℕ × ℕ)). lookup (nat_eq h) es) (sym lengths_known)
      ∙ lookup_length (nat_eq h) (known_trees types) ∙ q)

  at_number : (home n : ℕ) (ts : List Ty) → lookup (nat_eq home) (known_trees types) ≡ Some ts → (x : Option Ty)
      → slice_get ts n ≡ x → Small (in_module (lookup (nat_eq home) (known_trees types)) n)
  at_number home n ts e None f =
      subst (λ (o : Option (List Ty)). Small (in_module o n)) (sym e)
      (subst (λ (x : Option Ty). Small (or_nothing x)) (sym f) nothing_small)
  at_number home n ts e (Some t) f =
      small (tree types (made_type home n)) (number_fits types home (length ts) n
      (of_length home (length ts) (ap (λ (o : Option (List Ty)). option_map length o) e))
      (slice_get_within ts n t f))

  in_home : (home n : ℕ) (o : Option (List Ty)) → lookup (nat_eq home) (known_trees types) ≡ o
      → Small (in_module (lookup (nat_eq home) (known_trees types)) n)
  in_home home n None e = subst (λ (o : Option (List Ty)). Small (in_module o n)) (sym e) nothing_small
  in_home home n (Some ts) e = at_number home n ts e (slice_get ts n) refl

  scalar_small : (t : TypeNo) (o : Option Range) → Small (scalar_tree t o)
  unfolding size
  scalar_small t None = (lit≤ tt, lit≤ tt)
  scalar_small t (Some s) = (room_small (room_of (scalar_kind t s)), lit≤ tt)

  from_small : (t : TypeNo) (h : Home) → Small (tree_from (known_trees types) t h)
  from_small t Predeclared = scalar_small t (predeclared_scalar t.number)
  from_small t (Module home) = in_home home t.number (lookup (nat_eq home) (known_trees types)) refl

  all_uncut : (t : TypeNo) → Small (tree types t)
  all_uncut t = from_small t t.home

-- ---- what is kept

uncut : (n : ℕ) → n < cut_size → cap_size n ≡ n
uncut n h = omega arith

pub size_is : (types : Types) (t : TypeNo) → sizes_fit types ≡ true
    → cap_size (size (tree types t)) ≡ size (tree types t)
size_is types t f = uncut (size (tree types t)) (all_uncut types f t).0

pub element_is : (types : Types) (t : TypeNo) → sizes_fit types ≡ true
    → cap_size (size (element_tree (tree types t))) ≡ size (element_tree (tree types t))
element_is types t f = uncut (size (element_tree (tree types t))) (all_uncut types f t).1

-- ---- where all types are small, and no element is larger than its array, sizes are kept

below : (n : ℕ) → n ≤ max_storage → nat_lt n cut_size ≡ true
below n h = lt-ltb n cut_size (omega arith)

both : (a b : Bool) → a ≡ true → b ≡ true → (a && b) ≡ true
both true b h k = k
both false b h k = cc h

module _ (types : Types) (fit : types_fit types ≡ true)
    (within : (t : TypeNo) → size (element_tree (tree types t)) ≤ size (tree types t)) where
  up_to : (a b c : ℕ) → a ≤ b → b ≤ c → a ≤ c
  up_to a b c h k = omega arith

  each : (t : TypeNo) → size_fits (tree types t) ≡ true
  each t =
      both (nat_lt (size (tree types t)) cut_size) (nat_lt (size (element_tree (tree types t))) cut_size)
      (below (size (tree types t)) (all_small types fit t))
      (below (size (element_tree (tree types t)))
      (up_to (size (element_tree (tree types t))) (size (tree types t)) max_storage (within t)
      (all_small types fit t)))

  firsts : (home n : ℕ) → first_fit types home n ≡ true
  firsts home zero = refl
  firsts home (suc n) = both (first_fit types home n) (size_fits (tree types (made_type home n))) (firsts home n)
      (each (made_type home n))

  modules : (es : List (ℕ × List Made)) (b : Bool) → b ≡ true → fold (module_fits types) b es ≡ true
  modules [] b h = h
  modules (e ∷ es) b h = modules es (b && first_fit types e.0 (length e.1))
      (both b (first_fit types e.0 (length e.1)) h (firsts e.0 (length e.1)))

  pub sizes_are_kept : sizes_fit types ≡ true
  unfolding sizes_fit
  sizes_are_kept =
      both (fold (module_fits types) true types.others) (first_fit types types.home (length types.own))
      (modules types.others true refl) (firsts types.home (length types.own))
