-- Where all types fit, no size and no offset is cut.
use Rattle.std.proofs.Common.{◌≡◌, ℕ, zero, suc, ◌+◌, ◌≤◌, ◌<◌, Bool, true, false, not, cond, List, [], ◌∷◌, ◌++◌, map, length, Option, Some, None, refl, sym, ap, subst, ◌∙◌, arith, eqb-true, lit≤, append_assoc}
use Rattle.std.specs.Prelude.{◌&&◌, ◌*◌, nat_lt, nat_eq, slice_get, if◌then◌else◌}
use Rattle.std.specs.List.{fold}
use Rattle.std.specs.Map.{lookup}
use Rattle.std.specs.Option.{option_map}
use Rattle.std.proofs.lemmas.Bool.{ltb-true, ltb-false, eqb-false}
use Rattle.std.proofs.lemmas.Option.{slice_get_within}
use Rattle.std.proofs.lemmas.List.{length-append, map-append, append-nil}
use Rattle.std.proofs.Math.Nat.{suc-mul, mul-le-mul_right}
use Rattle.typed_tree.specs.declared.types.Home.{Home}
use Rattle.typed_tree.specs.declared.types.Home.TheVariants.{Predeclared, Module}
use Rattle.typed_tree.specs.declared.types.TypeNo.{TypeNo}
use Rattle.typed_tree.specs.declared.shape.Scalar.{Scalar as Range}
use Rattle.typed_tree.specs.declared.shape.Made.{Made}
use Rattle.typed_tree.specs.declared.known_types.Types.{Types}
use Rattle.typed_tree.specs.Known.{predeclared_scalar}
use Rattle.layout_storage.specs.Capped.{cap_size}
use Rattle.layout_storage.specs.Types.{Ty, Cell, Hidden, Array, Nothing, Field, component}
use Rattle.layout_storage.specs.Sizes.{Room, One, Two, Four, bytes_in, room_of, size, offset}
use Rattle.layout_storage.specs.Shapes.{Trees, shape_tree, or_nothing, in_module, scalar_kind, scalar_tree, tree_from, with_made, module_trees, with_module, other_trees, known_trees, tree}
use Rattle.layout_storage.specs.Extents.{element_tree}
use Rattle.layout_storage.specs.Layouts.{max_storage}
use Rattle.layout_storage.specs.Fitting.{type_fits, made_type, numbers_fit, module_fits, types_fit}
use Rattle.layout_storage.proofs.Sized.{less_capped}

-- ---- tests

both_true : (a b : Bool) → (a && b) ≡ true → (a ≡ true) × (b ≡ true)
both_true true b h = (refl, h)
both_true false b h = cc h

not_true : (b : Bool) → not b ≡ true → b ≡ false
not_true true h = cc h
not_true false h = refl

small : (t : Ty) → type_fits t ≡ true → size t ≤ max_storage
small t h = ltb-false max_storage (size t) (not_true (nat_lt max_storage (size t)) h)

-- a test of a capped size is one of the size
pub fits_is : (n : ℕ) (t : Ty) → n ≡ cap_size (size t) → not (nat_lt max_storage n) ≡ type_fits t
fits_is n t e = ap (λ (k : ℕ). not (nat_lt max_storage k)) e ∙ ap not (less_capped (size t))

-- ---- numbers

number_case : (types : Types) (home m n : ℕ) → type_fits (tree types (made_type home m)) ≡ true
    → (n < m → type_fits (tree types (made_type home n)) ≡ true)
    → (b : Bool) → nat_eq n m ≡ b → n < suc m → type_fits (tree types (made_type home n)) ≡ true
number_case types home m n h rec true e l =
    subst (λ (k : ℕ). type_fits (tree types (made_type home k)) ≡ true) (sym (eqb-true n m e)) h
number_case types home m n h rec false e l = let d : n ≡ m → ⊥ = eqb-false n m e in rec (omega (arith, d))

number_fits : (types : Types) (home count n : ℕ) → numbers_fit types home count ≡ true → n < count
    → type_fits (tree types (made_type home n)) ≡ true
number_fits types home zero n h l = absurd (omega arith)
number_fits types home (suc m) n h l =
    let p = both_true (numbers_fit types home m) (type_fits (tree types (made_type home m))) h in
    number_case types home m n p.1 (number_fits types home m n p.0) (nat_eq n m) refl l

-- ---- how many types each module makes

abbrev lengths : {A : Type 0} → List (ℕ × List A) → List (ℕ × ℕ)
lengths es = map (λ e. (e.0, length e.1)) es

abbrev tree_next : Types → Trees → ℕ → List Ty → Made → Ty
tree_next types before home ts m = shape_tree types ((home, ts) ∷ before) (made_type home (length ts)) m.shape

one_longer : (ts : List Ty) (t : Ty) (n : ℕ) → length (ts ++ t ∷ []) + n ≡ length ts + suc n
one_longer ts t n = omega (arith, length-append ts (t ∷ []))

trees_length : (types : Types) (before : Trees) (home : ℕ) (ts : List Ty) (ms : List Made)
    → length (fold (with_made types before home) ts ms) ≡ length ts + length ms
trees_length types before home ts [] = omega arith
trees_length types before home ts (m ∷ ms) =
    trees_length types before home (ts ++ tree_next types before home ts m ∷ []) ms
    ∙ one_longer ts (tree_next types before home ts m) (length ms)

from_none : (n : ℕ) → 0 + n ≡ n
from_none n = omega arith

known_lengths : (types : Types) (before : Trees) (es : List (ℕ × List Made))
    → lengths (fold (with_module types) before es) ≡ lengths before ++ lengths es
known_lengths types before [] = sym (append-nil (lengths before))
known_lengths types before (e ∷ es) =
    known_lengths types (with_module types before e) es
    ∙ ap (λ (xs : List (ℕ × ℕ)). xs ++ lengths es)
    (map-append (λ (x : ℕ × List Ty). (x.0, length x.1)) before ((e.0, module_trees types before e.0 e.1) ∷ []))
    ∙ ap (λ (n : ℕ). (lengths before ++ (e.0, n) ∷ []) ++ lengths es)
    (trees_length types before e.0 [] e.1 ∙ from_none (length e.1))
    ∙ append_assoc (lengths before) ((e.0, length e.1) ∷ []) (lengths es)

cond_length : {A : Type 0} (b : Bool) (xs : List A) (o : Option (List A))
    → cond b (Some (length xs)) (option_map length o) ≡ option_map length (cond b (Some xs) o)
cond_length true xs o = refl
cond_length false xs o = refl

lookup_length : {A : Type 0} (test : ℕ → Bool) (es : List (ℕ × List A))
    → lookup test (lengths es) ≡ option_map length (lookup test es)
lookup_length test [] = refl
lookup_length test (e ∷ es) = ap (λ (o : Option ℕ). cond (test e.0) (Some (length e.1)) o) (lookup_length test es)
    ∙ cond_length (test e.0) e.1 (lookup test es)

-- ---- modules

entry_case : (types : Types) (home n h k : ℕ) (o : Option ℕ) → numbers_fit types home n ≡ true
    → (o ≡ Some k → numbers_fit types h k ≡ true)
    → (b : Bool) → nat_eq h home ≡ b → cond b (Some n) o ≡ Some k → numbers_fit types h k ≡ true
entry_case types home n h k o f rec true e q =
    let same : n ≡ k = cc q in
    subst (λ (j : ℕ). numbers_fit types h j ≡ true) same
    (subst (λ (j : ℕ). numbers_fit types j n ≡ true) (sym (eqb-true h home e)) f)
entry_case types home n h k o f rec false e q = rec q

entry_fits : (types : Types) (es : List (ℕ × List Made)) (b : Bool) → fold (module_fits types) b es ≡ true
    → (b ≡ true) × ((h k : ℕ) → lookup (nat_eq h) (lengths es) ≡ Some k → numbers_fit types h k ≡ true)
entry_fits types [] b f = (f, λ h k q. cc q)
entry_fits types (e ∷ es) b f =
    let r = entry_fits types es (b && numbers_fit types e.0 (length e.1)) f in
    let p = both_true b (numbers_fit types e.0 (length e.1)) r.0 in (
      p.0,
      λ h k q. entry_case types e.0 (length e.1) h k (lookup (nat_eq h) (lengths es)) p.1 (r.1 h k) (nat_eq h e.0)
          refl q,
    )

module _ (types : Types) (fit : types_fit types ≡ true) where
  parts_fit : (fold (module_fits types) true types.others ≡ true)
      × (numbers_fit types types.home (length types.own) ≡ true)
  parts_fit = both_true (fold (module_fits types) true types.others) (numbers_fit types types.home (length types.own))
      fit

  lengths_known : lengths (known_trees types) ≡ (types.home, length types.own) ∷ lengths types.others
  unfolding known_trees
  lengths_known =
      ap (λ (n : ℕ). (types.home, n) ∷ lengths (other_trees types))
      (trees_length types (other_trees types) types.home [] types.own ∙ from_none (length types.own))
      ∙ ap (λ (es : List (ℕ × ℕ)). (types.home, length types.own) ∷ es) (known_lengths types [] types.others)

  of_length : (h k : ℕ) → option_map length (lookup (nat_eq h) (known_trees types)) ≡ Some k
      → numbers_fit types h k ≡ true
  of_length h k q =
      entry_case types types.home (length types.own) h k (lookup (nat_eq h) (lengths types.others)) parts_fit.1
      ((entry_fits types types.others true parts_fit.0).1 h k) (nat_eq h types.home) refl
      (ap (λ (es : List (ℕ × ℕ)). lookup (nat_eq h) es) (sym lengths_known)
      ∙ lookup_length (nat_eq h) (known_trees types) ∙ q)

  at_number : (home n : ℕ) (ts : List Ty) → lookup (nat_eq home) (known_trees types) ≡ Some ts → (x : Option Ty)
      → slice_get ts n ≡ x → size (in_module (lookup (nat_eq home) (known_trees types)) n) ≤ max_storage
  unfolding size
  at_number home n ts e None f =
      subst (λ (o : Option (List Ty)). size (in_module o n) ≤ max_storage) (sym e)
      (subst (λ (x : Option Ty). size (or_nothing x) ≤ max_storage) (sym f) (lit≤ tt))
  at_number home n ts e (Some t) f =
      small (tree types (made_type home n)) (number_fits types home (length ts) n
      (of_length home (length ts) (ap (λ (o : Option (List Ty)). option_map length o) e))
      (slice_get_within ts n t f))

  in_home : (home n : ℕ) (o : Option (List Ty)) → lookup (nat_eq home) (known_trees types) ≡ o
      → size (in_module (lookup (nat_eq home) (known_trees types)) n) ≤ max_storage
  unfolding size
  in_home home n None e = subst (λ (o : Option (List Ty)). size (in_module o n) ≤ max_storage) (sym e) (lit≤ tt)
  in_home home n (Some ts) e = at_number home n ts e (slice_get ts n) refl

  room_small : (r : Room) → bytes_in r ≤ max_storage
  room_small One = lit≤ tt
  room_small Two = lit≤ tt
  room_small Four = lit≤ tt

  scalar_small : (t : TypeNo) (o : Option Range) → size (scalar_tree t o) ≤ max_storage
  unfolding size
  scalar_small t None = lit≤ tt
  scalar_small t (Some s) = room_small (room_of (scalar_kind t s))

  from_small : (t : TypeNo) (h : Home) → size (tree_from (known_trees types) t h) ≤ max_storage
  from_small t Predeclared = scalar_small t (predeclared_scalar t.number)
  from_small t (Module home) = in_home home t.number (lookup (nat_eq home) (known_trees types)) refl

  pub all_small : (t : TypeNo) → size (tree types t) ≤ max_storage
  all_small t = from_small t t.home

-- what is not cut
pub uncut : (n : ℕ) → n ≤ max_storage → cap_size n ≡ n
uncut n h = omega arith

-- ---- components

no_part : {A : Type 0} (t : Ty) (u : A) → offset t [] ≡ 0
unfolding offset
no_part (Cell c) u = refl
no_part (Hidden n) u = refl
no_part (Array n t) u = refl
no_part Nothing u = refl
no_part (Field t others) u = refl

in_array : (b : Bool) (k n : ℕ) (t u : Ty) → nat_lt k n ≡ b → (if b then component t [] else None) ≡ Some u → suc k ≤ n
in_array true k n t u e h = ltb-true k n e
in_array false k n t u e h = cc h

array_within : (k n s : ℕ) → suc k ≤ n → k * s + 0 ≤ n * s
array_within k n s h = omega (arith, mul-le-mul_right {m = suc k} {n = n} s h, suc-mul k s)

-- a component that is there lies within
within : (t : Ty) (k : ℕ) (u : Ty) → component t (k ∷ []) ≡ Some u → offset t (k ∷ []) ≤ size t
unfolding component offset size
within (Cell c) k u h = cc h
within (Hidden n) k u h = cc h
within (Array n t) k u h =
    let e : offset t [] ≡ 0 = no_part t u in
    subst (λ (x : ℕ). k * size t + x ≤ n * size t) (sym e)
    (array_within k n (size t) (in_array (nat_lt k n) k n t u refl h))
within Nothing k u h = cc h
within (Field t others) zero u h = let e : offset t [] ≡ 0 = no_part t u in omega (arith, e)
within (Field t others) (suc k) u h = let r : offset others (k ∷ []) ≤ size others = within others k u h in
    omega (arith, r)

some_array : (n s : ℕ) → suc zero ≤ n → s ≤ n * s
some_array n s h = omega (arith, mul-le-mul_right {m = suc zero} {n = n} s h, suc-mul zero s)

element_within : (t : Ty) (k : ℕ) (u : Ty) → component t (k ∷ []) ≡ Some u → size (element_tree t) ≤ size t
unfolding component size
element_within (Cell c) k u h = cc h
element_within (Hidden n) k u h = cc h
element_within (Array n t) k u h = let l : suc k ≤ n = in_array (nat_lt k n) k n t u refl h in
    some_array n (size t) (omega arith)
element_within Nothing k u h = cc h
element_within (Field t others) k u h = omega arith

-- ---- where all types fit

pub size_exact : (types : Types) (t : TypeNo) (n : ℕ) → n ≡ cap_size (size (tree types t)) → types_fit types ≡ true
    → n ≡ size (tree types t)
size_exact types t n e f = e ∙ uncut (size (tree types t)) (all_small types f t)

pub element_exact : (types : Types) (t : TypeNo) (n : ℕ) → n ≡ cap_size (size (element_tree (tree types t)))
    → types_fit types ≡ true
    → (k : ℕ) (u : Ty) → component (tree types t) (k ∷ []) ≡ Some u → n ≡ size (element_tree (tree types t))
element_exact types t n e f k u h =
    let l : size (element_tree (tree types t)) ≤ size (tree types t) = element_within (tree types t) k u h in
    let m : size (tree types t) ≤ max_storage = all_small types f t in
    e ∙ uncut (size (element_tree (tree types t))) (omega arith)

pub field_exact : (types : Types) (t : TypeNo) (k n : ℕ) → n ≡ cap_size (offset (tree types t) (k ∷ []))
    → types_fit types ≡ true
    → (u : Ty) → component (tree types t) (k ∷ []) ≡ Some u → n ≡ offset (tree types t) (k ∷ [])
field_exact types t k n e f u h =
    let l : offset (tree types t) (k ∷ []) ≤ size (tree types t) = within (tree types t) k u h in
    let m : size (tree types t) ≤ max_storage = all_small types f t in
    e ∙ uncut (offset (tree types t) (k ∷ [])) (omega arith)
