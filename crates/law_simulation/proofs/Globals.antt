-- The variables, texts and slots of modules are where the code looks for them.
use Rattle.std.proofs.Common.{◌≡◌, ℕ, zero, suc, ◌+◌, ◌*◌, ◌<◌, ◌==◌, ◌||◌, Bool, true, false, List, [], ◌∷◌, ◌++◌, length, map, Option, Some, if◌then◌else◌, refl, sym, ap, subst, ◌∙◌, arith}
use Rattle.std.specs.Prelude.{slice_get, All}
use Rattle.std.specs.List.{list_any}
use Rattle.std.specs.Option.{option_and_then}
use Rattle.std.proofs.lemmas.Bool.{eqb-true}
use Rattle.std.proofs.lemmas.List.{length-append}
use Rattle.std.proofs.lemmas.List.Elements.{All-head, All-tail}
use Rattle.wasm_tree.specs.declared.store.Value.{Value}
use Rattle.wasm_tree.specs.declared.store.Value.TheVariants.{I32}
use Rattle.wasm_tree.specs.Validity.{AreDistinct}
use Rattle.wasm_tree.specs.Machine.{global_at}
use Rattle.law_effect.specs.Effect.{store_of}
use Rattle.typed_tree.specs.declared.meaning.Variable.{Variable}
use Rattle.typed_tree.specs.declared.typed_module.Imported.{Imported}
use Rattle.typed_tree.specs.declared.typed_module.TypedModule.{TypedModule}
use Rattle.layout_storage.specs.Types.{Ty, Hidden, row, component}
use Rattle.layout_storage.specs.Sizes.{size, offset}
use Rattle.layout_storage.specs.Shapes.{tree}
use Rattle.layout_storage.specs.Frames.{module_row}
use Rattle.layout_storage.specs.Texts.{characters, module_texts}
use Rattle.def_meaning.specs.Environment.{module_place}
use Rattle.def_scheme.specs.Exprs.{is_own, import_place, base_global, variables_row, imported_row}
use Rattle.law_modules.specs.Linked.{Program, names, imported_names, variables, values, place_of, base_at, text_at, tab_at, imported_places, link_values, slots_in, bytes_in}
use Rattle.law_modules.proofs.Stores.{slot_is, text_is}
use Rattle.law_modules.proofs.Placed.{own_place}
use Rattle.law_modules.proofs.Numbers.{position_at, mapped_at}
use Rattle.law_simulation.specs.RunsPrograms.{module_type, fixtures_of}
use Rattle.law_simulation.proofs.Grounds.{top_is}
use Rattle.law_simulation.specs.Knows.{known_variables, imported_variables, IsKnown, Knows, IsCoherent}
use Rattle.law_simulation.proofs.LinkedPlaces.{global_in, base_is}

-- ---- lists

pub record Split (p : Program) (j : ℕ) (m : TypedModule) : Type 0 where
  pub before : Program
  pub rest : Program
  pub is : p ≡ before ++ m ∷ rest
  pub long : length before ≡ j

pub split : (p : Program) (j : ℕ) (m : TypedModule) → slice_get p j ≡ Some m → Split p j m
split [] j m h = absurd cc
split (x ∷ xs) zero m h = let e : x ≡ m = cc in
    record { before = []; rest = xs; is = ap (λ (y : TypedModule). y ∷ xs) e; long = refl }
split (x ∷ xs) (suc j) m h =
    let s = split xs j m h in
    record { before = x ∷ s.before; rest = s.rest; is = ap (λ (ys : Program). x ∷ ys) s.is; long = ap suc s.long }

pub each_at : {A : Type 0} (P : A → Type 0) (xs : List A) (k : ℕ) (x : A) → slice_get xs k ≡ Some x → All P xs → P x
each_at P [] k x h all = absurd cc
each_at P (y ∷ ys) zero x h all = let e : y ≡ x = cc in subst P e (All-head P y ys all)
each_at P (y ∷ ys) (suc k) x h all = each_at P ys k x h (All-tail P y ys all)

-- the globals of an imported module
imported_base : (p : Program) (ns : List (List ℕ)) (k : ℕ) (name : List ℕ) → slice_get ns k ≡ Some name
    → slice_get (imported_places p ns) (2 * k) ≡ Some (base_at p name)
imported_base p [] k name h = absurd cc
imported_base p (n ∷ ns) zero name h = let e : n ≡ name = cc in ap (λ (x : List ℕ). Some (base_at p x)) e
imported_base p (n ∷ ns) (suc k) name h =
    let i : 2 * suc k ≡ suc (suc (2 * k)) = omega arith in
    ap (slice_get (imported_places p (n ∷ ns))) i ∙ imported_base p ns k name h

pub imported_tab : (p : Program) (ns : List (List ℕ)) (k : ℕ) (name : List ℕ) → slice_get ns k ≡ Some name
    → slice_get (imported_places p ns) (suc (2 * k)) ≡ Some (tab_at p name)
imported_tab p [] k name h = absurd cc
imported_tab p (n ∷ ns) zero name h = let e : n ≡ name = cc in ap (λ (x : List ℕ). Some (tab_at p x)) e
imported_tab p (n ∷ ns) (suc k) name h =
    let i : suc (2 * suc k) ≡ suc (suc (suc (2 * k))) = omega arith in
    ap (slice_get (imported_places p (n ∷ ns))) i ∙ imported_tab p ns k name h

-- ---- rows

offset_front : (xs ys : List Ty) (j : ℕ) → j < length xs → offset (row (xs ++ ys)) (j ∷ []) ≡ offset (row xs) (j ∷ [])
unfolding offset
offset_front [] ys j h = absurd (omega (arith, h))
offset_front (x ∷ xs) ys zero h = refl
offset_front (x ∷ xs) ys (suc j) h = ap (λ (o : ℕ). size x + o) (offset_front xs ys j (omega (arith, h)))

pub component_module : (before rest : Program) (m : TypedModule) (q : List ℕ)
    → component (row (map module_type (before ++ m ∷ rest))) (length before ∷ q) ≡ component (module_type m) q
unfolding component
component_module [] rest m q = refl
component_module (x ∷ before) rest m q = component_module before rest m q

pub offset_module : (before rest : Program) (m : TypedModule) (q : List ℕ)
    → offset (row (map module_type (before ++ m ∷ rest))) (length before ∷ q)
    ≡ size (row (map module_type before)) + offset (module_type m) q
unfolding offset size
offset_module [] rest m q = omega arith
offset_module (x ∷ before) rest m q = let e = offset_module before rest m q in omega (arith, e)

-- ---- what link's globals hold

module _ (p : Program) (pages : ℕ) (distinct : AreDistinct (names p)) (before rest : Program) (m : TypedModule)
    (is : p ≡ before ++ m ∷ rest) where
  named_place : place_of m.name (names p) ≡ length before
  named_place = ap (λ (q : Program). place_of m.name (names q)) is
      ∙ own_place before rest m (subst (λ (q : Program). AreDistinct (names q)) is distinct)

  pub base_value : slice_get (link_values p pages) (base_at p m.name) ≡ Some (I32 (bytes_in before))
  base_value =
      ap (λ (j : ℕ). slice_get (link_values p pages) (1 + 3 * j)) named_place
      ∙ ap (slice_get (link_values p pages))
      (let i : 1 + 3 * length before ≡ suc (3 * length before) = omega arith in i)
      ∙ ap (λ (q : Program). slice_get (values 0 1 q) (3 * length before)) is
      ∙ base_is 0 1 before rest m
      ∙ ap (λ (n : ℕ). Some (I32 n)) (omega arith)

  pub text_value : slice_get (link_values p pages) (text_at p m.name) ≡ Some (I32 (bytes_in before + variables m))
  text_value =
      ap (λ (j : ℕ). slice_get (link_values p pages) (2 + 3 * j)) named_place
      ∙ ap (slice_get (link_values p pages))
      (let i : 2 + 3 * length before ≡ suc (1 + 3 * length before) = omega arith in i)
      ∙ ap (λ (q : Program). slice_get (values 0 1 q) (1 + 3 * length before)) is
      ∙ text_is 0 1 before rest m
      ∙ ap (λ (n : ℕ). Some (I32 n)) (omega arith)

  pub tab_value : slice_get (link_values p pages) (tab_at p m.name) ≡ Some (I32 (1 + slots_in before))
  tab_value =
      ap (λ (j : ℕ). slice_get (link_values p pages) (3 + 3 * j)) named_place
      ∙ ap (slice_get (link_values p pages))
      (let i : 3 + 3 * length before ≡ suc (2 + 3 * length before) = omega arith in i)
      ∙ ap (λ (q : Program). slice_get (values 0 1 q) (2 + 3 * length before)) is
      ∙ slot_is 0 1 before rest m

  -- variable v of the module is behind the variables of those before it
  variable_at : (v : ℕ) → v < length m.variables
      → offset (row (map module_type p)) (length before ∷ v ∷ []) ≡ bytes_in before + offset (module_row m) (v ∷ [])
  variable_at v h =
      ap (λ (q : Program). offset (row (map module_type q)) (length before ∷ v ∷ [])) is
      ∙ offset_module before rest m (v ∷ [])
      ∙ ap (λ (n : ℕ). n + offset (module_type m) (v ∷ [])) (top_is before)
      ∙ ap (λ (n : ℕ). bytes_in before + n) (offset_front (map (tree m.types) m.variables)
      (Hidden (characters (module_texts m)) ∷ []) v (subst (λ (n : ℕ). v < n) (sym (mapped m.variables)) h))
    where
      mapped : (ts : List _) → length (map (tree m.types) ts) ≡ length ts
      mapped [] = refl
      mapped (t ∷ ts) = ap suc (mapped ts)

-- ---- a module among the others

-- the import of a module that is known and is not the module itself
pub record Import (m : TypedModule) (home : ℕ) : Type 0 where
  pub import : Imported
  pub there : slice_get m.imports (import_place m home) ≡ Some import
  pub number : import.number ≡ home

pub import_of : (m : TypedModule) (home : ℕ) → is_own m home ≡ false → IsKnown m home → Import m home
import_of m home e k =
    let some : list_any (λ i. i.number == home) m.imports ≡ true =
    ap (λ (b : Bool). b || list_any (λ i. i.number == home) m.imports) (sym e) ∙ k in
    let one = position_at (λ (i : Imported). i.number == home) m.imports some in
    record { import = one.0; there = one.1; number = eqb-true one.0.number home one.2 }

module _ (p : Program) (pages place : ℕ) (distinct : AreDistinct (names p)) (m : TypedModule)
    (coherent : IsCoherent p place m) where
  pub here : Split p place m
  here = split p place m coherent.there

  -- a global of the module is this one of link
  pub global_at_place : (bytes : List ℕ) (g a : ℕ) (v : Value)
      → slice_get (0 ∷ base_at p m.name ∷ text_at p m.name ∷ tab_at p m.name ∷ imported_places p (imported_names m)) g
      ≡ Some a → slice_get (link_values p pages) a ≡ Some v
      → global_at (store_of (fixtures_of p pages) bytes) (suc place) g ≡ Some v
  global_at_place bytes g a v e f =
      ap (λ (j : ℕ). global_at (store_of (fixtures_of p pages) bytes) (suc j) g) (sym here.long)
      ∙ global_in p pages here.before here.rest m here.is bytes g
      ∙ ap (λ (o : Option ℕ). option_and_then (λ (a : ℕ). slice_get (link_values p pages) a) o) e
      ∙ f

  -- what is known of an imported module
  pub known : (home : ℕ) (i : Import m home) → Knows p m i.import
  known home i = each_at (Knows p m) m.imports (import_place m home) i.import i.there coherent.imports

  pub name_there : (home : ℕ) (i : Import m home)
      → slice_get (imported_names m) (import_place m home) ≡ Some (known home i).home.name
  name_there home i = mapped_at (λ (x : Imported). x.name) m.imports (import_place m home) i.import i.there
      ∙ ap (λ (n : List ℕ). Some n) (known home i).name

  pub its_place : (home : ℕ) (i : Import m home) → Split p (module_place p home) (known home i).home
  its_place home i = split p (module_place p home) (known home i).home
      (ap (λ (n : ℕ). slice_get p (module_place p n)) (sym i.number) ∙ (known home i).there)

  -- ---- variables

  pub base_own : (bytes : List ℕ) (home : ℕ) → is_own m home ≡ true
      → global_at (store_of (fixtures_of p pages) bytes) (suc place) (base_global m home)
      ≡ Some (I32 (bytes_in here.before))
  base_own bytes home e =
      ap (λ (b : Bool). global_at (store_of (fixtures_of p pages) bytes) (suc place)
      (if b then 1 else 4 + 2 * import_place m home)) e
      ∙ global_at_place bytes 1 (base_at p m.name) (I32 (bytes_in here.before)) refl
      (base_value p pages distinct here.before here.rest m here.is)

  pub base_imported : (bytes : List ℕ) (home : ℕ) → is_own m home ≡ false → (i : Import m home)
      → global_at (store_of (fixtures_of p pages) bytes) (suc place) (base_global m home)
      ≡ Some (I32 (bytes_in (its_place home i).before))
  base_imported bytes home e i =
      ap (λ (b : Bool). global_at (store_of (fixtures_of p pages) bytes) (suc place)
      (if b then 1 else 4 + 2 * import_place m home)) e
      ∙ global_at_place bytes (4 + 2 * import_place m home) (base_at p (known home i).home.name)
      (I32 (bytes_in (its_place home i).before))
      (ap (slice_get (0 ∷ base_at p m.name ∷ text_at p m.name ∷ tab_at p m.name ∷ imported_places p (imported_names m)))
      (let j : 4 + 2 * import_place m home ≡ suc (suc (suc (suc (2 * import_place m home)))) = omega arith in j)
      ∙ imported_base p (imported_names m) (import_place m home) (known home i).home.name (name_there home i))
      (base_value p pages distinct (its_place home i).before (its_place home i).rest (known home i).home
      (its_place home i).is)

  pub length_mapped : {A B : Type 0} (f : A → B) (xs : List A) → length (map f xs) ≡ length xs
  length_mapped f [] = refl
  length_mapped f (x ∷ xs) = ap suc (length_mapped f xs)

  pub own_offset : (v : Variable) → is_own m v.home ≡ true → v.number < length (known_variables m v.home)
      → bytes_in here.before + offset (variables_row m v.home) (v.number ∷ [])
      ≡ offset (row (map module_type p)) (module_place p v.home ∷ v.number ∷ [])
  own_offset v e h =
      let less : v.number < length m.variables =
      subst (λ (b : Bool). v.number < length
      (if b then m.variables else imported_variables (slice_get m.imports (import_place m v.home)))) e h in
      let at : module_place p v.home ≡ length here.before = ap (module_place p) (eqb-true v.home m.types.home e)
      ∙ coherent.own ∙ sym here.long in
      ap (λ (b : Bool). bytes_in here.before + offset
      (if b then module_row m else imported_row m.types (slice_get m.imports (import_place m v.home)))
      (v.number ∷ [])) e
      ∙ sym (variable_at p pages distinct here.before here.rest m here.is v.number less)
      ∙ ap (λ (j : ℕ). offset (row (map module_type p)) (j ∷ v.number ∷ [])) (sym at)

  pub imported_offset : (v : Variable) → is_own m v.home ≡ false → (i : Import m v.home)
      → v.number < length (known_variables m v.home)
      → bytes_in (its_place v.home i).before + offset (variables_row m v.home) (v.number ∷ [])
      ≡ offset (row (map module_type p)) (module_place p v.home ∷ v.number ∷ [])
  imported_offset v e i h =
      let s = its_place v.home i in
      let k = known v.home i in
      let less : v.number < length i.import.variables =
      subst (λ (o : Option Imported). v.number < length (imported_variables o)) i.there
      (subst (λ (b : Bool). v.number < length
      (if b then m.variables else imported_variables (slice_get m.imports (import_place m v.home)))) e h)
      in
      let long = length-append (map (tree m.types) i.import.variables) k.more in
      let same = ap (λ (ts : List Ty). length ts) k.variables in
      let one = length_mapped (tree k.home.types) k.home.variables in
      let two = length_mapped (tree m.types) i.import.variables in
      ap (λ (b : Bool). bytes_in s.before + offset
      (if b then module_row m else imported_row m.types (slice_get m.imports (import_place m v.home)))
      (v.number ∷ [])) e
      ∙ ap (λ (o : Option Imported). bytes_in s.before + offset (imported_row m.types o) (v.number ∷ [])) i.there
      ∙ ap (λ (n : ℕ). bytes_in s.before + n)
      (sym (offset_front (map (tree m.types) i.import.variables) k.more v.number (omega (arith, less, two)))
      ∙ ap (λ (ts : List Ty). offset (row ts) (v.number ∷ [])) (sym k.variables))
      ∙ sym (variable_at p pages distinct s.before s.rest k.home s.is v.number
      (omega (arith, less, long, same, one, two)))
      ∙ ap (λ (j : ℕ). offset (row (map module_type p)) (j ∷ v.number ∷ [])) s.long
