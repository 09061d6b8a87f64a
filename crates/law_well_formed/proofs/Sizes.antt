-- Types in order have few bytes: at most four for each of their cells.
use Rattle.std.proofs.Common.{◌≡◌, ◌⊎◌, inl, inr, ℕ, zero, suc, ◌+◌, ◌*◌, ◌≤◌, ◌<◌, ◌==◌, Bool, true, false, ◌&&◌, cond, not, List, [], ◌∷◌, ◌++◌, length, Option, Some, None, refl, sym, ap, subst, ◌∙◌, arith}
use Rattle.std.proofs.lemmas.Bool.{eqb-true}
use Rattle.std.proofs.lemmas.Int.{ints}
use Rattle.std.proofs.lemmas.Nat.{mul-le}
use Rattle.std.proofs.Math.Nat.{mul_assoc, mul-zero}
use Rattle.std.specs.Prelude.{slice_get, nat_eq, nat_lt, int_lt, unsigned_abs, ◌-ℤ◌, ◌≤ℤ◌, map}
use Rattle.std.specs.List.{AllByRecursion, fold}
use Rattle.std.specs.Option.{is_some}
use Rattle.typed_tree.specs.declared.types.Home.{Home}
use Rattle.typed_tree.specs.declared.types.Home.TheVariants.{Predeclared, Module}
use Rattle.typed_tree.specs.declared.types.TypeNo.{TypeNo}
use Rattle.typed_tree.specs.declared.shape.Scalar.{Scalar as Range}
use Rattle.typed_tree.specs.declared.shape.Shape.{Shape}
use Rattle.typed_tree.specs.declared.shape.Shape.TheVariants as shape
use Rattle.typed_tree.specs.declared.shape.Made.{Made}
use Rattle.typed_tree.specs.declared.known_types.Types.{Types}
use Rattle.typed_tree.specs.Known.{in_list, made_in, made_at, made_from, cells_made, cells_at, scalar_at, predeclared_scalar}
use Rattle.check_type_expr.specs.Cells.{count_up, count_of, count_at}
use Rattle.layout_storage.specs.Types.{Ty, Scalar, Natural, Callable, Cell, Array, Nothing, Field, row}
use Rattle.layout_storage.specs.Sizes.{Room, One, Two, Four, bytes_in, room_of, width, size}
use Rattle.layout_storage.specs.Shapes.{elements_of, scalar_tree, scalar_kind, heading_tree, shape_tree, known_trees, tree}
use Rattle.layout_storage.specs.Fitting.{type_fits, made_type, numbers_fit, module_fits, types_fit}
use Rattle.law_modules.specs.Ranges.{AreRanged}
use Rattle.law_modules.proofs.Known.{range_at}
use Rattle.law_well_formed.specs.Ordered.{named_by, is_known_from, is_known, AreKnown, max_cells, cells_of_fields, cells_of, Follows, AreOrderedFrom, OthersOrdered, BeginsWith, AreOrdered}
use Rattle.law_well_formed.proofs.Trees.{at, at_more, at_placed, append_more, get_more, itself, made_by, is_among, some_of, in_some}
use Rattle.law_well_formed.proofs.Shaped.{tree_shaped}
use Rattle.law_well_formed.proofs.Folds.{and_both}
use Rattle.law_well_formed.proofs.Cells.{StayMade, counted_stays}
use Rattle.law_well_formed.proofs.Prefixes.{get_here, type_no, HoldIn, Steps, all_hold, Hold, none_own, all_others}

-- ---- cells

bytes_few : (r : Room) → bytes_in r ≤ 4
bytes_few One = omega arith
bytes_few Two = omega arith
bytes_few Four = omega arith

cell_few : (c : Scalar) → size (Cell c) ≤ 4
unfolding size
cell_few c = bytes_few (room_of c)

scalar_few : (t : TypeNo) (o : Option Range) → size (scalar_tree t o) ≤ 4
scalar_few t None = cell_few (Natural 4294967295)
scalar_few t (Some s) = cell_few (scalar_kind t s)

-- ---- arrays

saturated : (d c : ℕ) → count_up d * suc c ≤ max_cells → count_up d ≡ d + 1
saturated d c = by (nat_lt 131072 d) where
  by : (q : Bool) → cond q 131073 (d + 1) * suc c ≤ max_cells → cond q 131073 (d + 1) ≡ d + 1
  by true l = let k : 131073 * 1 ≤ 131073 * suc c = mul-le 131073 1 131073 (suc c) (omega arith) (omega arith) in
      absurd (omega (arith, l, k))
  by false l = refl

abbrev distance : Range → ℕ
distance r = unsigned_abs (r.high -ℤ r.low)

filled : (r : Range) → r.low ≤ℤ r.high → count_of (Some r) ≡ count_up (distance r)
filled r l = by (int_lt r.high r.low) refl where
  by : (q : Bool) → int_lt r.high r.low ≡ q → cond q 0 (count_up (distance r)) ≡ count_up (distance r)
  by true e = absurd (grind (arith, l, e))
  by false e = refl

times_four : (k z c : ℕ) → z ≤ c * 4 → k * z ≤ k * c * 4
times_four k z c l = let a : k * z ≤ k * (c * 4) = mul-le k z k (c * 4) (omega arith) l in
    subst (λ (n : ℕ). k * z ≤ n) (sym (mul_assoc k c 4)) a

array_few : (o : Option Range) → ((r : Range) → o ≡ Some r → r.low ≤ℤ r.high) → (z c : ℕ) → z ≤ c * 4
    → count_of o * c ≤ max_cells → elements_of o * z ≤ count_of o * c * 4
array_few None ranged z c l few = omega arith
array_few (Some r) ranged zero c l few =
    subst (λ (n : ℕ). n ≤ count_of (Some r) * c * 4) (sym (mul-zero (elements_of (Some r)))) (omega arith)
array_few (Some r) ranged (suc z) zero l few = absurd (omega (arith, l))
array_few (Some r) ranged (suc z) (suc c) l few =
    let full : count_of (Some r) ≡ count_up (distance r) = filled r (ranged r refl) in
    let same : count_of (Some r) ≡ elements_of (Some r) = full
    ∙ saturated (distance r) c (subst (λ (n : ℕ). n * suc c ≤ max_cells) full few) in
    subst (λ (n : ℕ). elements_of (Some r) * suc z ≤ n * suc c * 4) (sym same)
    (times_four (elements_of (Some r)) (suc z) (suc c) l)

-- ---- types in order

module _ (types : Types) (o : AreOrdered types) (ranged : AreRanged types) where
  abbrev pub Small : TypeNo → Type 0
  Small u = (size (tree types u) ≤ cells_at types u * 4) × (cells_at types u ≤ max_cells)

  pub plain_small : (n : ℕ) → Small (type_no Predeclared n)
  plain_small n = (scalar_few (type_no Predeclared n) (predeclared_scalar n), omega arith)

  row_few : (fs : List (List ℕ × TypeNo)) → AllByRecursion Small (map (λ f. f.1) fs)
      → size (row (map (λ f. tree types f.1) fs)) ≤ cells_of_fields types fs * 4
  unfolding size
  row_few [] h = omega arith
  row_few (f ∷ fs) h = let one = h.0.0 in let rest = row_few fs h.1 in omega (arith, one, rest)

  shape_few : (t : TypeNo) (s : Shape) → cells_of types s ≤ max_cells → AllByRecursion Small (named_by s)
      → size (shape_tree types (known_trees types) t s) ≤ cells_of types s * 4
  unfolding size
  shape_few t (shape.Scalar s) few h = cell_few (scalar_kind t s)
  shape_few t shape.Set few h = cell_few (Natural 4294967295)
  shape_few t (shape.Array i e) few h = array_few (scalar_at types i) (λ r q. (range_at types ranged i r q).some)
      (size (tree types e)) (cells_at types e) h.1.0.0 few
  shape_few t (shape.Record fs) few h = row_few fs h
  shape_few t (shape.Procedure p) few h = cell_few (Callable (heading_tree (known_trees types) p.formals p.result))
  shape_few t (shape.Open e) few h = omega arith

  each_named : (before : Types) (us : List TypeNo) → ((u : TypeNo) → is_known before u ≡ true → Small u)
      → AreKnown before us → AllByRecursion Small us
  each_named before [] small h = tt
  each_named before (u ∷ us) small h = (small u h.0, each_named before us small h.1)

  made_small : (before : Types) → StayMade before types → ((u : TypeNo) → is_known before u ≡ true → Small u)
      → (t : TypeNo) (x : Made) → made_at types t ≡ Some x → Follows before x → Small t
  made_small before stay small t x made f =
      let cells : cells_at types t ≡ x.cells = ap cells_made made in
      let counts : x.cells ≡ cells_of types x.shape = f.counted
      ∙ sym (counted_stays before types stay x.shape f.known) in
      let all : cells_of types x.shape ≡ cells_at types t = sym (cells ∙ counts) in
      let few : cells_at types t ≤ max_cells = subst (λ (n : ℕ). n ≤ max_cells) (sym cells) f.few in
      let shaped = shape_few t x.shape (subst (λ (n : ℕ). n ≤ max_cells) (sym all) few)
      (each_named before (named_by x.shape) small f.known) in (
        subst (λ (y : Ty). size y ≤ cells_at types t * 4) (sym (tree_shaped types o t x made))
            (subst (λ (n : ℕ). size (shape_tree types (known_trees types) t x.shape) ≤ n * 4) all shaped),
        few,
      )

  -- ---- what is made in a module

  abbrev pub Has : List (ℕ × List Made) → Type 0
  Has es = (k : ℕ) (l : List Made) → at k es ≡ Some l → (n : ℕ) (x : Made) → slice_get l n ≡ Some x
      → made_in types k n ≡ Some x

  step_small : (before : List (ℕ × List Made)) (k : ℕ) (all : List Made) → Has before
      → ((n : ℕ) (x : Made) → slice_get all n ≡ Some x → made_in types k n ≡ Some x)
      → Steps Small plain_small before k all
  step_small before k all has here own x more e f small =
      made_small (made_by k own before) stay small (type_no (Module k) (length own)) x
      (here (length own) x (ap (λ (l : List Made). slice_get l (length own)) (sym e) ∙ get_here own x more)) f
    where
      in_own : (n : ℕ) → is_some (slice_get own n) ≡ true → made_in types k n ≡ slice_get own n
      in_own n g =
          let y = some_of (slice_get own n) g in
          here n y.0 (ap (λ (l : List Made). slice_get l n) (sym e) ∙ get_more own (x ∷ more) n g ∙ y.1) ∙ sym y.1

      in_before : (j n : ℕ) (l : Option (List Made)) → at j before ≡ l → is_some (in_list n l) ≡ true
          → made_in types j n ≡ in_list n l
      in_before j n None q g = absurd cc
      in_before j n (Some l) q g = let y = some_of (slice_get l n) g in has j l q n y.0 y.1 ∙ sym y.1

      by : (j n : ℕ) (b : Bool) → (j == k) ≡ b → is_some (cond b (slice_get own n) (in_list n (at j before))) ≡ true
          → made_in types j n ≡ cond b (slice_get own n) (in_list n (at j before))
      by j n true q g = ap (λ (i : ℕ). made_in types i n) (eqb-true j k q) ∙ in_own n g
      by j n false q g = in_before j n (at j before) refl g

      from : (h : Home) (n : ℕ) → is_known_from (made_by k own before) h n ≡ true
          → made_from types h n ≡ made_from (made_by k own before) h n
      from Predeclared n g = refl
      from (Module j) n g = by j n (j == k) refl g

      stay : StayMade (made_by k own before) types
      stay u g = from u.home u.number g

  -- the types of others are made as they are there
  pub has_others : Has types.others
  has_others k l q n x g = by (k == types.home) refl where
    here : k ≡ types.home → slice_get types.own n ≡ Some x
    here same =
        let b : BeginsWith types.own (Some l) =
        subst (λ (e : Option (List Made)). BeginsWith types.own e)
        (ap (λ (i : ℕ). at i types.others) (sym same) ∙ q) o.alike in
        ap (λ (ms : List Made). slice_get ms n) b.1 ∙ get_more l b.0 n (ap is_some g) ∙ g

    by : (c : Bool) → (k == types.home) ≡ c → cond c (slice_get types.own n) (in_list n (at k types.others)) ≡ Some x
    by true i = here (eqb-true k types.home i)
    by false i = ap (in_list n) q ∙ g

  pub has_own : (n : ℕ) (x : Made) → slice_get types.own n ≡ Some x → made_in types types.home n ≡ Some x
  has_own n x g = ap (λ (c : Bool). cond c (slice_get types.own n) (in_list n (at types.home types.others)))
      (itself types.home) ∙ g

  module _ (before rest : List (ℕ × List Made)) (k : ℕ) (all : List Made)
      (is : before ++ (k, all) ∷ rest ≡ types.others) (free : at k before ≡ None) where
    one_small : Steps Small plain_small before k all
    one_small =
        step_small before k all
        (λ j l q n x g. has_others j l (ap (λ (es : List (ℕ × List Made)). at j es) (sym is)
        ∙ at_more j before ((k, all) ∷ rest) l q) n x g)
        (λ n x g. has_others k all (ap (λ (es : List (ℕ × List Made)). at k es) (sym is)
        ∙ at_placed k before all rest free) n x g)

  others_small : Hold Small plain_small types.others
  others_small = all_others Small plain_small types.others one_small o.others

  pub own_small : HoldIn Small plain_small types.others types.home types.own
  own_small =
      all_hold Small plain_small types.others types.home types.own
      (step_small types.others types.home types.own has_others has_own) types.own [] refl o.own
      (none_own Small plain_small types.others types.home others_small)

  -- ---- all types fit

  type_small : (u : TypeNo) → Small u → type_fits (tree types u) ≡ true
  type_small u s = let few : size (tree types u) ≤ 16777216 = omega (arith, s.0, s.1) in grind (arith, few)

  numbers_small : (home count : ℕ) → ((n : ℕ) → n < count → Small (type_no (Module home) n))
      → numbers_fit types home count ≡ true
  numbers_small home zero h = refl
  numbers_small home (suc n) h = and_both (numbers_fit types home n) (type_fits (tree types (made_type home n)))
      (numbers_small home n (λ j l. h j (omega (arith, l)))) (type_small (made_type home n) (h n (omega arith)))

  pub there : (xs : List Made) (n : ℕ) → n < length xs → is_some (slice_get xs n) ≡ true
  there [] n l = absurd (omega (arith, l))
  there (x ∷ xs) zero l = refl
  there (x ∷ xs) (suc n) l = there xs n (omega (arith, l))

  modules_small : (rest before : List (ℕ × List Made)) → before ++ rest ≡ types.others → OthersOrdered before rest
      → fold (module_fits types) true rest ≡ true
  modules_small [] before e h = refl
  modules_small (x ∷ rest) before e h =
      let found : at x.0 types.others ≡ Some x.1 = ap (λ (es : List (ℕ × List Made)). at x.0 es) (sym e)
      ∙ at_placed x.0 before x.1 rest h.0 in
      let fit : numbers_fit types x.0 (length x.1) ≡ true =
      numbers_small x.0 (length x.1) (λ n l. others_small (type_no (Module x.0) n)
      (ap (λ (m : Option (List Made)). is_some (in_list n m)) found ∙ there x.1 n l)) in
      ap (λ (b : Bool). fold (module_fits types) b rest) fit
      ∙ modules_small rest (before ++ x ∷ []) (append_more before x rest ∙ e) h.1.1

  pub all_fit : types_fit types ≡ true
  all_fit =
      and_both (fold (module_fits types) true types.others) (numbers_fit types types.home (length types.own))
      (modules_small types.others [] refl o.others)
      (numbers_small types.home (length types.own)
      (λ n l. own_small (type_no (Module types.home) n)
      (ap (λ (c : Bool). is_some (cond c (slice_get types.own n) (in_list n (at types.home types.others))))
      (itself types.home) ∙ there types.own n l)))
