-- A variable of a type that is no array and no record is one cell.
use Rattle.std.proofs.Common.{◌≡◌, ℕ, zero, suc, ◌+◌, ◌==◌, Bool, true, false, List, [], ◌∷◌, ◌++◌, length, Some, None, Option, refl, ap, ◌∙◌, arith}
use Rattle.std.specs.Prelude.{slice_get, cond, nat_eq}
use Rattle.std.specs.List.{fold}
use Rattle.std.specs.Map.{lookup}
use Rattle.std.proofs.lemmas.List.{length-append}
use Rattle.typed_tree.specs.declared.known_types.Types.{Types}
use Rattle.typed_tree.specs.declared.shape.Made.{Made}
use Rattle.typed_tree.specs.declared.shape.Scalar.{Scalar as Range}
use Rattle.typed_tree.specs.declared.shape.Shape.{Shape}
use Rattle.typed_tree.specs.declared.shape.Shape.TheVariants as shape
use Rattle.typed_tree.specs.declared.types.Home.{Home}
use Rattle.typed_tree.specs.declared.types.Home.TheVariants.{Predeclared, Module}
use Rattle.typed_tree.specs.declared.types.TypeNo.{TypeNo}
use Rattle.typed_tree.specs.Known.{in_list, is_result_shape, is_result_made, is_result_from, is_result, predeclared_scalar}
use Rattle.layout_storage.specs.Types.{Ty, Cell, Hidden, Array, Nothing, Field}
use Rattle.layout_storage.specs.Shapes.{Trees, scalar_tree, shape_tree, with_made, module_trees, with_module, other_trees, known_trees, in_module, or_nothing, tree_from, tree}

abbrev pub is_cell : Ty → Bool
is_cell (Cell c) = true
is_cell (Hidden n) = false
is_cell (Array n t) = false
is_cell Nothing = false
is_cell (Field t others) = false

shape_cell : (types : Types) (before : Trees) (t : TypeNo) (s : Shape) → is_result_shape s ≡ true
    → is_cell (shape_tree types before t s) ≡ true
shape_cell types before t (shape.Scalar s) h = refl
shape_cell types before t shape.Set h = refl
shape_cell types before t (shape.Array i e) h = absurd cc
shape_cell types before t (shape.Record fs) h = absurd cc
shape_cell types before t (shape.Procedure p) h = refl
shape_cell types before t (shape.Open e) h = absurd cc

scalar_cell : (t : TypeNo) (o : Option Range) → is_cell (scalar_tree t o) ≡ true
scalar_cell t None = refl
scalar_cell t (Some s) = refl

-- ---- the trees of a module's types

front_at : {A : Type 0} (xs ys : List A) (k : ℕ) (x : A) → slice_get xs k ≡ Some x → slice_get (xs ++ ys) k ≡ Some x
front_at [] ys k x h = absurd cc
front_at (y ∷ xs) ys zero x h = h
front_at (y ∷ xs) ys (suc k) x h = front_at xs ys k x h

last_at : {A : Type 0} (xs : List A) (x : A) → slice_get (xs ++ x ∷ []) (length xs) ≡ Some x
last_at [] x = refl
last_at (y ∷ xs) x = last_at xs x

module _ (types : Types) (before : Trees) (home : ℕ) where
  kept : (ms : List Made) (ts : List Ty) (k : ℕ) (t : Ty) → slice_get ts k ≡ Some t
      → slice_get (fold (with_made types before home) ts ms) k ≡ Some t
  kept [] ts k t h = h
  kept (m ∷ ms) ts k t h = kept ms (with_made types before home ts m) k t (front_at ts _ k t h)

  -- the cell of the k-th type, behind those that stand there
  record HasCell (ms : List Made) (ts : List Ty) (k : ℕ) : Type 0 where
    is : Ty
    there : slice_get (fold (with_made types before home) ts ms) (length ts + k) ≡ Some is
    cell : is_cell is ≡ true

  made_cell : (ms : List Made) (ts : List Ty) (k : ℕ) (m : Made) → slice_get ms k ≡ Some m
      → is_result_shape m.shape ≡ true → HasCell ms ts k
  made_cell [] ts k m h r = absurd cc
  made_cell (x ∷ ms) ts zero m h r =
      let same : x ≡ m = cc in
      let t : Ty = shape_tree types ((home, ts) ∷ before) (record { home = Module home; number = length ts }) x.shape in
      let e : length ts + 0 ≡ length ts = omega arith in record {
        is = t;
        there = kept ms (with_made types before home ts x) (length ts + 0) t
            (ap (λ (j : ℕ). slice_get (ts ++ t ∷ []) j) e ∙ last_at ts t);
        cell = shape_cell types ((home, ts) ∷ before) (record { home = Module home; number = length ts }) x.shape
            (ap (λ (y : Made). is_result_shape y.shape) same ∙ r);
      }
  made_cell (x ∷ ms) ts (suc k) m h r =
      let more : List Ty = with_made types before home ts x in
      let one = made_cell ms more k m h r in
      let e : length ts + suc k ≡ length more + k =
      (let i = length-append ts (shape_tree types ((home, ts) ∷ before)
      (record { home = Module home; number = length ts }) x.shape ∷ []) in omega (arith, i)) in record {
        is = one.is;
        there = ap (λ (j : ℕ). slice_get (fold (with_made types before home) more ms) j) e ∙ one.there;
        cell = one.cell;
      }

  -- where the list of types has such a one, the tree is a cell
  at_number : (o : Option Made) (ms : List Made) (n : ℕ) → slice_get ms n ≡ o → is_result_made o ≡ true
      → is_cell (in_module (Some (module_trees types before home ms)) n) ≡ true
  at_number None ms n e r = absurd cc
  at_number (Some m) ms n e r =
      let one = made_cell ms [] n m e r in
      let i : n ≡ 0 + n = omega arith in
      ap (λ (j : ℕ). is_cell (or_nothing (slice_get (module_trees types before home ms) j))) i
      ∙ ap (λ (o : Option Ty). is_cell (or_nothing o)) one.there ∙ one.cell

-- ---- the modules around it

later : {A : Type 0} (q : Bool) (x a b : Option A) (y : A) → (a ≡ Some y → b ≡ Some y) → cond q x a ≡ Some y
    → cond q x b ≡ Some y
later true x a b y f h = h
later false x a b y f h = f h

none_first : {A : Type 0} (q : Bool) (x : A) (a : Option A) → cond q (Some x) a ≡ None → (q ≡ false) × (a ≡ None)
none_first true x a h = absurd cc
none_first false x a h = (refl, h)

module _ (types : Types) (home : ℕ) where
  first_found : (acc more : Trees) (ts : List Ty) → lookup (nat_eq home) acc ≡ Some ts
      → lookup (nat_eq home) (acc ++ more) ≡ Some ts
  first_found [] more ts h = absurd cc
  first_found (e ∷ acc) more ts h = later (nat_eq home e.0) (Some e.1) (lookup (nat_eq home) acc)
      (lookup (nat_eq home) (acc ++ more)) ts (first_found acc more ts) h

  last_found : (acc : Trees) (e : ℕ × List Ty) → lookup (nat_eq home) acc ≡ None
      → lookup (nat_eq home) (acc ++ e ∷ []) ≡ cond (nat_eq home e.0) (Some e.1) None
  last_found [] e h = refl
  last_found (x ∷ acc) e h =
      let both = none_first (nat_eq home x.0) x.1 (lookup (nat_eq home) acc) h in
      ap (λ (q : Bool). cond q (Some x.1) (lookup (nat_eq home) (acc ++ e ∷ []))) both.0 ∙ last_found acc e both.1

  found_stays : (es : List (ℕ × List Made)) (acc : Trees) (ts : List Ty) → lookup (nat_eq home) acc ≡ Some ts
      → lookup (nat_eq home) (fold (with_module types) acc es) ≡ Some ts
  found_stays [] acc ts h = h
  found_stays (e ∷ es) acc ts h = found_stays es (with_module types acc e) ts
      (first_found acc ((e.0, module_trees types acc e.0 e.1) ∷ []) ts h)

  -- the trees of a module that is there
  record HasTrees (trees : Trees) (ms : List Made) : Type 0 where
    before : Trees
    number : ℕ
    there : lookup (nat_eq home) trees ≡ Some (module_trees types before number ms)

  found : (es : List (ℕ × List Made)) (acc : Trees) (ms : List Made) → lookup (nat_eq home) acc ≡ None
      → lookup (nat_eq home) es ≡ Some ms → HasTrees (fold (with_module types) acc es) ms
  found [] acc ms none h = absurd cc
  found (e ∷ es) acc ms none h = by (nat_eq home e.0) refl (λ next h. found es (with_module types acc e) ms next h) h
    where
      by : (q : Bool) → nat_eq home e.0 ≡ q →
          (lookup (nat_eq home) (with_module types acc e) ≡ None → lookup (nat_eq home) es ≡ Some ms
          → HasTrees (fold (with_module types) (with_module types acc e) es) ms)
          → cond q (Some e.1) (lookup (nat_eq home) es) ≡ Some ms
          → HasTrees (fold (with_module types) (with_module types acc e) es) ms
      by true is on h =
          let same : e.1 ≡ ms = cc in
          let here : lookup (nat_eq home) (with_module types acc e) ≡ Some (module_trees types acc e.0 e.1) =
          last_found acc (e.0, module_trees types acc e.0 e.1) none
          ∙ ap (λ (q : Bool). cond {A = Option (List Ty)} q (Some (module_trees types acc e.0 e.1)) None) is
          in
          record {
            before = acc;
            number = e.0;
            there =
                found_stays es (with_module types acc e) (module_trees types acc e.0 e.1) here
                ∙ ap (λ (ns : List Made). Some (module_trees types acc e.0 ns)) same;
          }
      by false is on h = on (last_found acc (e.0, module_trees types acc e.0 e.1) none
          ∙ ap (λ (q : Bool). cond {A = Option (List Ty)} q (Some (module_trees types acc e.0 e.1)) None) is) h

  -- a type of another module
  other_cell : (n : ℕ) (o : Option (List Made)) → lookup (nat_eq home) types.others ≡ o
      → is_result_made (in_list n o) ≡ true → is_cell (in_module (lookup (nat_eq home) (other_trees types)) n) ≡ true
  other_cell n None e r = absurd cc
  other_cell n (Some ms) e r =
      let one = found types.others [] ms refl e in
      ap (λ (o : Option (List Ty)). is_cell (in_module o n)) one.there
      ∙ at_number types one.before one.number (slice_get ms n) ms n refl r

  module_cell : (n : ℕ) (q : Bool) → is_result_made
      (cond q (slice_get types.own n) (in_list n (lookup (nat_eq home) types.others))) ≡ true
      → is_cell (in_module (cond q (Some (module_trees types (other_trees types) types.home types.own))
      (lookup (nat_eq home) (other_trees types))) n) ≡ true
  module_cell n true r = at_number types (other_trees types) types.home (slice_get types.own n) types.own n refl r
  module_cell n false r = other_cell n (lookup (nat_eq home) types.others) refl r

-- ---- any type

cell_from : (types : Types) (t : TypeNo) (home : Home) → is_result_from types home t.number ≡ true
    → is_cell (tree_from (known_trees types) t home) ≡ true
unfolding known_trees
cell_from types t Predeclared r = scalar_cell t (predeclared_scalar t.number)
cell_from types t (Module home) r = module_cell types home t.number (home == types.home) r

pub cell_of : (types : Types) (t : TypeNo) → is_result types t ≡ true → is_cell (tree types t) ≡ true
cell_of types t r = cell_from types t t.home r
