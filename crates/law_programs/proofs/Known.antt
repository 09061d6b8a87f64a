-- Types that a scope knows: what they are in the module, and their bases, cells and components.
use Rattle.std.proofs.Common.{◌≡◌, ℕ, ◌≤ℤ◌, ℤ, pos, Bool, true, false, List, [], ◌∷◌, map, Option, Some, None, refl, sym, ap, subst, ◌∙◌}
use Rattle.std.specs.Prelude.{not, ◌&&◌, ◌||◌}
use Rattle.std.specs.Option.{option_map, is_some}
use Rattle.typed_tree.specs.declared.known_types.Types.{Types}
use Rattle.typed_tree.specs.declared.shape.Made.{Made}
use Rattle.typed_tree.specs.declared.shape.Scalar.{Scalar as Range}
use Rattle.typed_tree.specs.declared.shape.Shape.{Shape}
use Rattle.typed_tree.specs.declared.shape.Shape.TheVariants as shape
use Rattle.typed_tree.specs.declared.shape.Signature.{Signature}
use Rattle.typed_tree.specs.declared.types.Home.{Home}
use Rattle.typed_tree.specs.declared.types.Home.TheVariants.{Predeclared, Module}
use Rattle.typed_tree.specs.declared.types.TypeNo.{TypeNo}
use Rattle.typed_tree.specs.Known.{made_in, made_at, scalar_at, scalar_shape, scalar_made, scalar_from, predeclared_scalar, is_result, is_result_shape, is_result_made}
use Rattle.typed_tree.specs.Types.{are_same, is_integer, integer}
use Rattle.check_scope.specs.Scopes.{fields_shape, fields_made, fields_at}
use Rattle.check_value.specs.declared.class.Class.{Class}
use Rattle.check_value.specs.declared.class.Class.TheVariants as class
use Rattle.check_value.specs.Classes.{class_shape, class_made, class_range, class_from, class_at, signature_shape, signature_made, signature_at, array_shape, array_made, array_at}
use Rattle.layout_storage.specs.Types.{Ty, Scalar, Natural, Callable, Cell, Array, Heading, row}
use Rattle.layout_storage.specs.Shapes.{scalar_kind, elements_of, heading_tree, shape_tree, known_trees, tree}
use Rattle.law_memory.specs.Relation.{heading_in, heading_made, heading_at}
use Rattle.def_scheme.specs.Cells.{base_in, base_of, is_subrange, is_free}
use Rattle.def_scheme.specs.Exprs.{index_shape, index_made, index_of}
use Rattle.law_simulation.specs.Scene.{IsIn, IsValue, AreAmong, AreNatural, IsCell}
use Rattle.law_simulation.specs.Passing.{ByCopy, value_form, result_in, result_made, result_of}
use Rattle.law_simulation.proofs.Cells.{cell_is, set_is, procedure_tree_is}
use Rattle.law_well_formed.proofs.Basics.{Grows}
use Rattle.law_modules.specs.Ranges.{IsRange, AreRanged}
use Rattle.law_modules.proofs.Known.{range_at}
use Rattle.law_well_formed.specs.FormedRanges.{IsNumber}
use Rattle.law_well_formed.proofs.RangesTypes.{same_types}
use Rattle.law_well_formed.proofs.Subranges.{type_itself, through, based_at}
use Rattle.law_programs.specs.Typing.{HasBase, is_known_from, is_known, IsIndexed, TypesTyped}

-- ---- types that are known

-- a set type
pub record IsBits (types : Types) (t : TypeNo) : Type 0 where
  pub none : scalar_at types t ≡ None
  pub result : is_result types t ≡ true
  pub headless : heading_at types t ≡ None

-- a procedure type
pub record IsRoutine (types : Types) (t : TypeNo) : Type 0 where
  pub none : scalar_at types t ≡ None
  pub heading : Heading
  pub is : heading_at types t ≡ Some heading

abbrev pub ClassIs : Types → TypeNo → Class → Type 0
ClassIs types t (class.Scalar s) = scalar_at types t ≡ Some s
ClassIs types t class.Set = IsBits types t
ClassIs types t class.Procedure = IsRoutine types t
ClassIs types t class.Whole = Unit {0}

abbrev pub type_of : (home n : ℕ) → TypeNo
type_of home n = record { home = Module home; number = n }

-- a type that is made so
pub record MadeSo {B : Type 0} (types : Types) (t : TypeNo) (view : Shape → Option B) (b : B) : Type 0 where
  pub made : Made
  pub is : made_at types t ≡ Some made
  pub so : view made.shape ≡ Some b

module _ (known all : Types) (grows : Grows known all) where
  class_by_shape : (home n : ℕ) (x : Made) (s : Shape) → made_in all home n ≡ Some x → x.shape ≡ s
      → ClassIs all (type_of home n) (class_shape s)
  class_by_shape home n x (shape.Scalar r) e q = ap scalar_made e ∙ ap scalar_shape q
  class_by_shape home n x shape.Set e q =
      record {
        none = ap scalar_made e ∙ ap scalar_shape q;
        result = ap is_result_made e ∙ ap is_result_shape q;
        headless = ap (heading_made all) e ∙ ap (heading_in all) q;
      }
  class_by_shape home n x (shape.Array i j) e q = tt
  class_by_shape home n x (shape.Record fs) e q = tt
  class_by_shape home n x (shape.Procedure p) e q =
      record {
        none = ap scalar_made e ∙ ap scalar_shape q;
        heading = heading_tree (known_trees all) p.formals p.result;
        is = ap (heading_made all) e ∙ ap (heading_in all) q;
      }
  class_by_shape home n x (shape.Open j) e q = tt

  class_by_made : (home n : ℕ) (o : Option Made) → made_in known home n ≡ o
      → ClassIs all (type_of home n) (class_made o)
  class_by_made home n None e = tt
  class_by_made home n (Some x) e = class_by_shape home n x x.shape (grows (type_of home n) x e) refl

  class_by_range : (n : ℕ) (o : Option Range) → predeclared_scalar n ≡ o
      → ClassIs all (record { home = Predeclared; number = n }) (class_range o)
  class_by_range n None e = record { none = e; result = refl; headless = refl }
  class_by_range n (Some r) e = e

  class_by : (home : Home) (n : ℕ) → ClassIs all (record { home = home; number = n })
      (class_from known (record { home = home; number = n }) home)
  class_by Predeclared n = class_by_range n (predeclared_scalar n) refl
  class_by (Module home) n = class_by_made home n (made_in known home n) refl

  -- what a type is in the scope it is in the module
  pub class_is : (t : TypeNo) → ClassIs all t (class_at known t)
  class_is t = class_by t.home t.number

  -- ---- the same of ranges, headings, arrays and records

  scalar_by_shape : (home n : ℕ) (x : Made) (r : Range) → made_in all home n ≡ Some x → scalar_shape x.shape ≡ Some r
      → scalar_at all (type_of home n) ≡ Some r
  scalar_by_shape home n x r e q = ap scalar_made e ∙ q

  scalar_by_made : (home n : ℕ) (o : Option Made) (r : Range) → made_in known home n ≡ o → scalar_made o ≡ Some r
      → scalar_at all (type_of home n) ≡ Some r
  scalar_by_made home n None r e q = absurd cc
  scalar_by_made home n (Some x) r e q = scalar_by_shape home n x r (grows (type_of home n) x e) q

  scalar_by : (home : Home) (n : ℕ) (r : Range) → scalar_from known home n ≡ Some r → scalar_from all home n ≡ Some r
  scalar_by Predeclared n r e = e
  scalar_by (Module home) n r e = scalar_by_made home n (made_in known home n) r refl e

  pub scalar_known : (t : TypeNo) (r : Range) → scalar_at known t ≡ Some r → scalar_at all t ≡ Some r
  scalar_known t r e = scalar_by t.home t.number r e

  signature_made_so : (t : TypeNo) (o : Option Made) (h : Signature) → made_at known t ≡ o → signature_made o ≡ Some h
      → MadeSo all t signature_shape h
  signature_made_so t None h e q = absurd cc
  signature_made_so t (Some x) h e q = record { made = x; is = grows t x e; so = q }

  pub signature_known : (t : TypeNo) (h : Signature) → signature_at known t ≡ Some h → MadeSo all t signature_shape h
  signature_known t h e = signature_made_so t (made_at known t) h refl e

  array_made_so : (t : TypeNo) (o : Option Made) (a : TypeNo × TypeNo) → made_at known t ≡ o → array_made o ≡ Some a
      → MadeSo all t array_shape a
  array_made_so t None a e q = absurd cc
  array_made_so t (Some x) a e q = record { made = x; is = grows t x e; so = q }

  pub array_known : (t : TypeNo) (a : TypeNo × TypeNo) → array_at known t ≡ Some a → MadeSo all t array_shape a
  array_known t a e = array_made_so t (made_at known t) a refl e

  fields_made_so : (t : TypeNo) (o : Option Made) (fs : List (List ℕ × TypeNo)) → made_at known t ≡ o
      → fields_made o ≡ Some fs → MadeSo all t fields_shape fs
  fields_made_so t None fs e q = absurd cc
  fields_made_so t (Some x) fs e q = record { made = x; is = grows t x e; so = q }

  pub fields_known : (t : TypeNo) (fs : List (List ℕ × TypeNo)) → fields_at known t ≡ Some fs
      → MadeSo all t fields_shape fs
  fields_known t fs e = fields_made_so t (made_at known t) fs refl e

-- ---- numbers of types

module _ (types : Types) where
  pub within_range : (t : TypeNo) (r : Range) (n : ℤ) → scalar_at types t ≡ Some r → r.low ≤ℤ n → n ≤ℤ r.high
      → IsValue types t n
  within_range t r n e l h = subst (λ (o : Option Range). IsIn o n) (sym e) (l, h)

  pub value_of : (t : TypeNo) (r : Range) (n : ℤ) → scalar_at types t ≡ Some r → IsValue types t n → (r.low ≤ℤ n)
      × (n ≤ℤ r.high)
  value_of t r n e h = subst (λ (o : Option Range). IsIn o n) e h

  pub number_value : (t base : TypeNo) (n : ℤ) → IsNumber types t base n → IsValue types t n
  number_value t base n p = within_range t p.range n p.at p.low p.high

  pub among_itself : (t u : TypeNo) → t ≡ u → AreAmong types t u
  among_itself t u e = λ v h. subst (λ (k : TypeNo). IsValue types k v) e h

  pub among_words : (t u : TypeNo) → scalar_at types t ≡ None → scalar_at types u ≡ None → AreAmong types t u
  among_words t u e f = λ v h. subst (λ (o : Option Range). IsIn o v) (e ∙ sym f) h

  one_range : (a b : Range) → Some a ≡ Some b → a ≡ b
  one_range a b e = cc

  -- the values of a type are values of its base
  pub among_base : (t b : TypeNo) → HasBase types t b → AreAmong types t b
  among_base t b k = λ v h.
      let r : Range = k.range in
      let low = k.based.low in
      let high = k.based.high in
      let same : high.range ≡ low.range = one_range high.range low.range (sym high.at ∙ low.at) in
      let at : scalar_at types b ≡ Some low.range = ap (λ (u : TypeNo). scalar_at types u) (sym k.own) ∙ low.at in
      let within = value_of t r v k.at h in
      within_range b low.range v at (through low.range.low r.low v low.low within.0)
      (through v r.high low.range.high within.1 (subst (λ (z : Range). r.high ≤ℤ z.high) same high.high))

  pub base_is : (t b : TypeNo) → HasBase types t b → base_of types t ≡ b
  base_is t b k = ap (λ (o : Option Range). base_in t o) k.at ∙ k.own

  pub has_range : (t b : TypeNo) → HasBase types t b → scalar_at types t ≡ None → ⊥
  has_range t b k e = let z : None ≡ Some k.range = sym e ∙ k.at in cc z

  -- where the base is not INTEGER, no value is negative
  pub among_natural : AreRanged types → (t b : TypeNo) → HasBase types t b → are_same b integer ≡ false
      → AreNatural types t
  among_natural ranged t b k e = λ v h.
      let r : Range = k.range in
      let low = k.based.low in
      let is : IsRange r.base low.range = range_at types ranged r.base low.range low.at in
      let zero : low.range.low ≡ pos 0 = is.base
      (subst (λ (u : TypeNo). are_same r.base u ≡ true) (sym low.own) (type_itself r.base))
      (ap is_integer k.own ∙ e) in
      through (pos 0) r.low v (subst (λ (n : ℤ). n ≤ℤ r.low) zero low.low) (value_of t r v k.at h).0

  -- ---- values that are taken as ones of other types

  pub free_among : (t u b : TypeNo) (c : Bool) → HasBase types u b → c ≡ false → is_free types t c u ≡ true
      → AreAmong types u t
  free_among t u b true k e f = absurd cc
  free_among t u b false k e f = by (are_same t u) refl (is_subrange types t) (are_same t (base_of types u)) refl f
    where
      by : (p : Bool) → are_same t u ≡ p → (q s : Bool) → are_same t (base_of types u) ≡ s → (p || (not q && s)) ≡ true
          → AreAmong types u t
      by true e q s g h = among_itself u t (sym (same_types t u e))
      by false e true s g h = absurd cc
      by false e false false g h = absurd cc
      by false e false true g h = λ v w. subst (λ (z : TypeNo). IsValue types z v)
          (sym (same_types t (base_of types u) g ∙ base_is u b k)) (among_base u b k v w)

-- ---- cells

-- a variable of the type has one cell
pub record HasCell (types : Types) (t : TypeNo) : Type 0 where
  pub cell : Scalar
  pub is : IsCell types t cell

pub ranged_cell : (types : Types) → TypesTyped types → (t : TypeNo) (r : Range) → scalar_at types t ≡ Some r
    → HasCell types t
ranged_cell types h t r e = record { cell = scalar_kind t r; is = cell_is types h.ranged t r e }

pub bits_cell : (types : Types) → (t : TypeNo) → IsBits types t → HasCell types t
bits_cell types t b = record { cell = Natural 4294967295; is = set_is types t b.none b.result b.headless }

-- and one of a procedure type has one for procedures with its heading
pub routine_tree : (types : Types) → TypesTyped types → (t : TypeNo) (i : IsRoutine types t)
    → tree types t ≡ Cell (Callable i.heading)
routine_tree types h t i = procedure_tree_is types h.trees t i.heading i.is

pub has_base : (types : Types) → TypesTyped types → (t : TypeNo) (r : Range) → scalar_at types t ≡ Some r
    → HasBase types t r.base
has_base types h t r e = record { range = r; at = e; own = refl; based = based_at types h.own h.others t r e }

-- ---- trees

module _ (types : Types) (h : TypesTyped types) where
  array_by_shape : (t : TypeNo) (a : TypeNo × TypeNo) (x : Made) (s : Shape) → made_at types t ≡ Some x → x.shape ≡ s
      → array_shape s ≡ Some a
      → (tree types t ≡ Array (elements_of (scalar_at types a.0)) (tree types a.1))
      × (index_of types t ≡ scalar_at types a.0) × (array_at types t ≡ Some a)
  array_by_shape t a x (shape.Array i e) m q so =
      let same : (i, e) ≡ a = cc in
      subst (λ (c : TypeNo × TypeNo). (tree types t ≡ Array (elements_of (scalar_at types c.0)) (tree types c.1))
      × (index_of types t ≡ scalar_at types c.0) × (array_at types t ≡ Some c)) same (
        h.trees t x m ∙ ap (λ (z : Shape). shape_tree types (known_trees types) t z) q,
        ap (index_made types) m
            ∙ ap (index_shape types) q,
        ap array_made m ∙ ap array_shape q,
      )
  array_by_shape t a x (shape.Scalar r) m q so = absurd cc
  array_by_shape t a x shape.Set m q so = absurd cc
  array_by_shape t a x (shape.Record fs) m q so = absurd cc
  array_by_shape t a x (shape.Procedure p) m q so = absurd cc
  array_by_shape t a x (shape.Open e) m q so = absurd cc

  -- an array, with the range of its index
  pub record IsArray (t i e : TypeNo) : Type 0 where
    pub range : Range
    pub at : scalar_at types i ≡ Some range
    pub index : index_of types t ≡ Some range
    pub elements : tree types t ≡ Array (elements_of (Some range)) (tree types e)

  pub array_is : (t : TypeNo) (a : TypeNo × TypeNo) → MadeSo types t array_shape a → IsArray t a.0 a.1
  array_is t a k =
      let c = array_by_shape t a k.made k.made.shape k.is refl k.so in
      let i : IsIndexed types a.0 = h.indexed t a.0 a.1 c.2 in
      record {
        range = i.range;
        at = i.at;
        index = c.1 ∙ i.at;
        elements = c.0 ∙ ap (λ (o : Option Range). Array (elements_of o) (tree types a.1)) i.at;
      }

  record_by_shape : (t : TypeNo) (fs : List (List ℕ × TypeNo)) (x : Made) (s : Shape) → made_at types t ≡ Some x
      → x.shape ≡ s → fields_shape s ≡ Some fs → tree types t ≡ row (map (λ (f : List ℕ × TypeNo). tree types f.1) fs)
  record_by_shape t fs x (shape.Record gs) m q so =
      let same : gs ≡ fs = cc in
      subst (λ (es : List (List ℕ × TypeNo)). tree types t ≡ row (map (λ (f : List ℕ × TypeNo). tree types f.1) es))
      same (h.trees t x m ∙ ap (λ (z : Shape). shape_tree types (known_trees types) t z) q)
  record_by_shape t fs x (shape.Scalar r) m q so = absurd cc
  record_by_shape t fs x shape.Set m q so = absurd cc
  record_by_shape t fs x (shape.Array i e) m q so = absurd cc
  record_by_shape t fs x (shape.Procedure p) m q so = absurd cc
  record_by_shape t fs x (shape.Open e) m q so = absurd cc

  pub record_is : (t : TypeNo) (fs : List (List ℕ × TypeNo)) → MadeSo types t fields_shape fs
      → tree types t ≡ row (map (λ (f : List ℕ × TypeNo). tree types f.1) fs)
  record_is t fs k = record_by_shape t fs k.made k.made.shape k.is refl k.so

  -- ---- what is no cell is passed as a copy

  abbrev Copied : Ty → Type 0
  Copied u = value_form u ≡ ByCopy u

  row_copied : (ts : List Ty) → Copied (row ts)
  row_copied [] = refl
  row_copied (t ∷ ts) = refl

  shape_copied : (t : TypeNo) (x : Made) (s : Shape) → made_at types t ≡ Some x → x.shape ≡ s
      → class_shape s ≡ class.Whole → Copied (tree types t)
  shape_copied t x (shape.Array i e) m q w =
      subst Copied (sym (h.trees t x m ∙ ap (λ (z : Shape). shape_tree types (known_trees types) t z) q)) refl
  shape_copied t x (shape.Record fs) m q w =
      subst Copied (sym (h.trees t x m ∙ ap (λ (z : Shape). shape_tree types (known_trees types) t z) q)) (row_copied _)
  shape_copied t x (shape.Open e) m q w =
      subst Copied (sym (h.trees t x m ∙ ap (λ (z : Shape). shape_tree types (known_trees types) t z) q)) refl
  shape_copied t x (shape.Scalar r) m q w = absurd cc
  shape_copied t x shape.Set m q w = absurd cc
  shape_copied t x (shape.Procedure p) m q w = absurd cc

  module _ (known : Types) (grows : Grows known types) where
    made_copied : (home n : ℕ) (o : Option Made) → made_in known home n ≡ o → is_some o ≡ true
        → class_made o ≡ class.Whole → Copied (tree types (type_of home n))
    made_copied home n None e k w = absurd cc
    made_copied home n (Some x) e k w = shape_copied (type_of home n) x x.shape (grows (type_of home n) x e) refl w

    range_copied : (n : ℕ) (o : Option Range) → class_range o ≡ class.Whole
        → Copied (tree types (record { home = Predeclared; number = n }))
    range_copied n None w = absurd cc
    range_copied n (Some r) w = absurd cc

    copied_by : (home : Home) (n : ℕ) → is_known_from known home n ≡ true
        → class_from known (record { home = home; number = n }) home ≡ class.Whole
        → Copied (tree types (record { home = home; number = n }))
    copied_by Predeclared n k w = range_copied n (predeclared_scalar n) w
    copied_by (Module home) n k w = made_copied home n (made_in known home n) refl k w

    pub whole_copied : (t : TypeNo) → is_known known t ≡ true → class_at known t ≡ class.Whole → Copied (tree types t)
    whole_copied t k w = copied_by t.home t.number k w

-- ---- results of headings

result_by_shape : (types : Types) (t : TypeNo) (h : Signature) (x : Made) (s : Shape) → made_at types t ≡ Some x
    → x.shape ≡ s → signature_shape s ≡ Some h → result_of types t ≡ option_map (tree types) h.result
result_by_shape types t h x (shape.Procedure p) m q so =
    let same : p ≡ h = cc in ap (result_made types) m ∙ ap (result_in types) q
    ∙ ap (λ (i : Signature). option_map (tree types) i.result) same
result_by_shape types t h x (shape.Scalar r) m q so = absurd cc
result_by_shape types t h x shape.Set m q so = absurd cc
result_by_shape types t h x (shape.Array i e) m q so = absurd cc
result_by_shape types t h x (shape.Record fs) m q so = absurd cc
result_by_shape types t h x (shape.Open e) m q so = absurd cc

pub result_is : (types : Types) (t : TypeNo) (h : Signature) → MadeSo types t signature_shape h
    → result_of types t ≡ option_map (tree types) h.result
result_is types t h k = result_by_shape types t h k.made k.made.shape k.is refl k.so

-- a heading is no scalar type
heading_by_shape : (types : Types) (home n : ℕ) (h : Signature) (x : Made) (s : Shape) → made_in types home n ≡ Some x
    → x.shape ≡ s → signature_shape s ≡ Some h → scalar_at types (type_of home n) ≡ None
heading_by_shape types home n h x (shape.Procedure p) m q so = ap scalar_made m ∙ ap scalar_shape q
heading_by_shape types home n h x (shape.Scalar r) m q so = absurd cc
heading_by_shape types home n h x shape.Set m q so = absurd cc
heading_by_shape types home n h x (shape.Array i e) m q so = absurd cc
heading_by_shape types home n h x (shape.Record fs) m q so = absurd cc
heading_by_shape types home n h x (shape.Open e) m q so = absurd cc

heading_by : (types : Types) (home : Home) (n : ℕ) (h : Signature) (x : Made)
    → made_at types (record { home = home; number = n }) ≡ Some x → signature_shape x.shape ≡ Some h
    → scalar_from types home n ≡ None
heading_by types Predeclared n h x m so = absurd cc
heading_by types (Module home) n h x m so = heading_by_shape types home n h x x.shape m refl so

pub heading_is : (types : Types) (t : TypeNo) (h : Signature) → MadeSo types t signature_shape h
    → scalar_at types t ≡ None
heading_is types t h k = heading_by types t.home t.number h k.made k.is k.so

-- the heading of a procedure type is by its formals and its result
named_by_shape : (types : Types) (s : Shape) (h : Signature) → signature_shape s ≡ Some h
    → heading_in types s ≡ Some (heading_tree (known_trees types) h.formals h.result)
named_by_shape types (shape.Procedure p) h so = let same : p ≡ h = cc in
    ap (λ (i : Signature). Some (heading_tree (known_trees types) i.formals i.result)) same
named_by_shape types (shape.Scalar r) h so = absurd cc
named_by_shape types shape.Set h so = absurd cc
named_by_shape types (shape.Array i e) h so = absurd cc
named_by_shape types (shape.Record fs) h so = absurd cc
named_by_shape types (shape.Open e) h so = absurd cc

pub heading_by_signature : (types : Types) (t : TypeNo) (h : Signature) → MadeSo types t signature_shape h
    → heading_at types t ≡ Some (heading_tree (known_trees types) h.formals h.result)
heading_by_signature types t h k = ap (heading_made types) k.is ∙ named_by_shape types k.made.shape h k.so
