-- Type expressions lead from scopes with ranges of the language to such scopes.
use Rattle.std.proofs.Common.{◌≡◌, ℕ, zero, suc, ◌+◌, ◌<◌, ◌≤◌, pos, ◌-ℤ◌, Bool, true, false, List, [], ◌∷◌, length, Option, Some, None, Result, Ok, Err, refl, sym, ap, ◌∙◌, arith}
use Rattle.std.proofs.lemmas.Int.{ints}
use Rattle.std.specs.Prelude.{slice_get, cond, map, nat_lt}
use Rattle.std.specs.List.{fold, list_all}
use Rattle.m2_rule.specs.declared.rule.Rule.TheVariants as rule
use Rattle.m2_tree.specs.declared.pos.Pos.{Pos}
use Rattle.m2_tree.specs.declared.name.Ident.{Ident}
use Rattle.m2_tree.specs.declared.decl.Heading.{Heading}
use Rattle.m2_tree.specs.declared.decl.Simple.{Simple}
use Rattle.m2_tree.specs.declared.decl.Simple.TheVariants as simple
use Rattle.m2_tree.specs.declared.decl.TypeExpr.{TypeExpr, TypeExpr-F, out-TypeExpr, roll-TypeExpr, out-roll-TypeExpr, map-TypeExpr, fold_out-TypeExpr}
use Rattle.m2_tree.specs.declared.decl.TypeExpr.TheOpen as layer
use Rattle.m2_tree.specs.declared.decl.Field.{Field, Field-F, out-Field, roll-Field, out-roll-Field, map-Field, fold_out-Field, fold-Field}
use Rattle.typed_tree.specs.declared.types.TypeNo.{TypeNo}
use Rattle.typed_tree.specs.declared.shape.Formal.{Formal}
use Rattle.typed_tree.specs.declared.shape.Scalar.{Scalar as Range}
use Rattle.typed_tree.specs.declared.shape.Shape.TheVariants as shape
use Rattle.typed_tree.specs.declared.shape.Made.{Made}
use Rattle.typed_tree.specs.declared.meaning.Meaning.{Meaning}
use Rattle.typed_tree.specs.declared.known_types.Types.{Types}
use Rattle.typed_tree.specs.Known.{scalar_at, cells_at, range}
use Rattle.m2_tree.specs.Names.{same_name}
use Rattle.typed_tree.specs.Names.{find_name, enter_name}
use Rattle.check_scope.specs.declared.known.Known.{Known}
use Rattle.check_scope.specs.declared.known.Known.TheVariants.{Declared}
use Rattle.check_scope.specs.declared.known.Origin.TheVariants.{Here}
use Rattle.check_scope.specs.declared.scope.Scope.{Scope}
use Rattle.check_scope.specs.Scopes.{State, is_free, with_known, unless_declared, declare_name, is_begun, finish_name, unless_marked, mark_name}
use Rattle.check_scope.specs.Elaborated.{Gathers, report, both, beside}
use Rattle.check_type_expr.specs.declared.field.Fields.{Fields}
use Rattle.check_type_expr.specs.Cells.{array_cells, count_at}
use Rattle.check_type_expr.specs.Fields.{no_fields, with_field, with_name}
use Rattle.check_type_expr.specs.Headings.{procedure_made, with_section, result_of, heading_of}
use Rattle.check_type_expr.specs.Made.{next_type, with_shape, with_made, reported_at, too_many, enumeration_constant, enumeration_scalar, enumerate_name, enumeration, simple_type, simple_place, array_in, index_type, field_type, nothing_of, Makes, MakesFields, then_fields, array_type, record_type, fields_named, type_layer, field_layer, type_of, field_list}
use Rattle.law_folds.proofs.TypeFolds.{Typed, Fielded, bare, bare_field, all_trees, types_opened, fields_opened, types_at, fields_at}
use Rattle.law_well_formed.specs.Formed.{Holds, fine, broken}
use Rattle.law_well_formed.proofs.Basics.{then_holds, holds_weaker, reported_holds, where_holds, any_holds}
use Rattle.law_modules.specs.Ranges.{IsRange, IsRanged}
use Rattle.law_well_formed.specs.FormedRanges.{IsBased, itself, has_names, fits, fits_simple, fits_type_layer, fits_field, fits_type, IsNumber, ShapeBased, MeaningRanged, KnownRanged, NamesRanged, ScopeRanged, StateRanged, ConstantsAreRanged}
use Rattle.law_well_formed.proofs.RangesTypes.{both_left, both_right, number_kept, more_kept, scope_more, next_is, sub_range}
use Rattle.law_well_formed.proofs.Subranges.{SubRanged, subrange_ranged}

-- ---- results in order

module _ (g : Gathers) where
  both_ok : {A B Q : Type 0} (x : A) {b : Result B g.Reported} → Holds (λ y. Q) b → Holds (λ y. Q) (both g (Ok x) b)
  both_ok x (fine y q) = fine (x, y) q
  both_ok x (broken e) = broken e

  pub both_then : {A B P Q : Type 0} {a : Result A g.Reported} (b : Result B g.Reported) → Holds (λ x. P) a
      → (P → Holds (λ x. Q) b) → Holds (λ x. Q) (both g a b)
  both_then b (fine x p) k = both_ok x (k p)
  both_then (Ok y) (broken e) k = broken e
  both_then (Err f) (broken e) k = broken (g.join e f)

  pub beside_then : {P Q : Type 0} {a : Result (Unit {0}) g.Reported} (b : Result (Unit {0}) g.Reported)
      → Holds (λ x. P) a → (P → Holds (λ x. Q) b) → Holds (λ x. Q) (beside g a b)
  beside_then b p k = then_holds (both_then b p k) (λ x q. fine tt q)

pub const_holds : {A T P : Type 0} → P → (r : Result A T) → Holds (λ x. P) r
const_holds p (Ok x) = fine x p
const_holds p (Err e) = broken e

-- ---- one name more

names_by : {T : Type 0} (types : Types) (b : Bool) (k : Known T) (e : List ℕ × Known T)
    (es more : List (List ℕ × Known T)) → KnownRanged types k → NamesRanged types (e ∷ es) → NamesRanged types more
    → NamesRanged types (cond b ((e.0, k) ∷ es) (e ∷ more))
names_by types true k e es more p all q = (p, all.1)
names_by types false k e es more p all q = (all.0, q)

pub names_more : {T : Type 0} (types : Types) (name : List ℕ) (k : Known T) (es : List (List ℕ × Known T))
    → KnownRanged types k → NamesRanged types es → NamesRanged types (enter_name name k es)
names_more types name k [] p all = (p, tt)
names_more types name k (e ∷ es) p all =
    names_by types (same_name name e.0) k e es (enter_name name k es) p all (names_more types name k es p all.1)

pub known_ranged : {T : Type 0} (s : Scope T) (name : List ℕ) (k : Known T) → ScopeRanged s → KnownRanged s.types k
    → ScopeRanged (with_known name k s)
known_ranged s name k h p = record {
  types = h.types;
  own = h.own;
  others = h.others;
  names =
      names_more s.types name k s.own p h.names;
  outer = h.outer;
  tables = h.tables;
}

module _ (g : Gathers) where
  unless_by : (s : Scope g.Reported) (name : Ident) (b : Bool) (k : Known g.Reported) → ScopeRanged s
      → KnownRanged s.types k → ScopeRanged (cond {A = State (Unit {0}) g.Reported} b (with_known name.name k s, Ok tt)
      (s, report g name.pos rule.DeclaredTwice)).0
  unless_by s name true k h p = known_ranged s name.name k h p
  unless_by s name false k h p = h

  pub unless_ranged : (s : Scope g.Reported) (name : Ident) (k : Known g.Reported) → ScopeRanged s
      → KnownRanged s.types k → ScopeRanged (unless_declared g s name k).0
  unless_ranged s name k h p = unless_by s name (is_free (find_name name.name s.own)) k h p

  types_by : (s : Scope g.Reported) (name : Ident) (b : Bool) (k : Known g.Reported)
      → (cond {A = State (Unit {0}) g.Reported} b (with_known name.name k s, Ok tt)
      (s, report g name.pos rule.DeclaredTwice)).0.types ≡ s.types
  types_by s name true k = refl
  types_by s name false k = refl

  pub unless_types : (s : Scope g.Reported) (name : Ident) (k : Known g.Reported)
      → (unless_declared g s name k).0.types ≡ s.types
  unless_types s name k = types_by s name (is_free (find_name name.name s.own)) k

finished_by : {T : Type 0} (s : Scope T) (name : List ℕ) (k : Known T) (b : Bool) → ScopeRanged s
    → KnownRanged s.types k → ScopeRanged (cond b (with_known name k s) s)
finished_by s name k true h p = known_ranged s name k h p
finished_by s name k false h p = h

pub finished_ranged : {T : Type 0} (s : Scope T) (name : Ident) (r : Result Meaning T) → ScopeRanged s
    → Holds (MeaningRanged s.types) r → ScopeRanged (finish_name s name r)
finished_ranged s name r h p = finished_by s name.name (Declared Here r) (is_begun (find_name name.name s.own)) h p

marked_by : {T : Type 0} (s : Scope T) (name : List ℕ) (k : Known T) (o : Option (Known T)) → ScopeRanged s
    → KnownRanged s.types k → ScopeRanged (unless_marked name k s o)
marked_by s name k (Some x) h p = h
marked_by s name k None h p = known_ranged s name k h p

pub marked_ranged : {T : Type 0} (s : Scope T) (name : Ident) (k : Known T) → ScopeRanged s → KnownRanged s.types k
    → ScopeRanged (mark_name name k s)
marked_ranged s name k h p = marked_by s name.name k (find_name name.name s.own) h p

-- ---- one type more

-- what is to be known of a type
abbrev pub MadeRanged : {T : Type 0} → Scope T → Made → Type 0
MadeRanged s m = IsRanged (next_type s) m.shape × ShapeBased (with_shape s m).types m.shape

pub made_ranged : {T : Type 0} (s : Scope T) {r : Result Made T} → Holds (λ m. ScopeRanged s × MadeRanged s m) r
    → StateRanged (with_made s r)
made_ranged s (fine m p) = fine (next_type s) (scope_more s m p.0 p.1.0 p.1.1)
made_ranged s (broken e) = broken e

-- ---- enumerations

few : (xs : List Ident) (n : ℕ) → slice_get xs n ≡ None → length xs ≤ n
few [] n e = omega arith
few (x ∷ xs) zero e = absurd cc
few (x ∷ xs) (suc n) e = let k : length xs ≤ n = few xs n e in omega (arith, k)

has_some : (xs : List Ident) → has_names xs ≡ true → 0 < length xs
has_some [] e = absurd cc
has_some (x ∷ xs) e = omega arith

module _ (g : Gathers) where
  reported_few : (names : List Ident) (o : Option Ident) → slice_get names 256 ≡ o
      → Holds (λ x. length names ≤ 256) (reported_at g o)
  reported_few names None e = fine tt (few names 256 e)
  reported_few names (Some name) e = reported_holds g name.pos rule.ConstantCount

  abbrev constants : TypeNo → ℕ → Range
  constants t n = range t (pos 0) (pos n -ℤ pos 1)

  -- a scope while the constants are declared
  abbrev Listing : TypeNo → ℕ → Scope g.Reported → Type 0
  Listing t n s = ScopeRanged s × (scalar_at s.types t ≡ Some (constants t n))

  constant_number : (types : Types) (t : TypeNo) (n k : ℕ) → k < n → scalar_at types t ≡ Some (constants t n)
      → IsNumber types t t (pos k)
  constant_number types t n k less e = record {
    range = constants t n;
    at = e;
    own = refl;
    low = omega (arith, ints);
    high = omega (arith, ints, less);
  }

  listed_one : (t : TypeNo) (n : ℕ) (l : Scope g.Reported × ℕ × Result (Unit {0}) g.Reported) (x : Ident) → l.1 < n
      → Holds (λ u. Listing t n l.0) l.2 → Holds (λ u. Listing t n (enumerate_name g t l x).0)
      (enumerate_name g t l x).2
  listed_one t n l x less p =
      let k : Known g.Reported = Declared Here (Ok (enumeration_constant t (pos l.1))) in
      beside_then g (declare_name g l.0 x (Ok (enumeration_constant t (pos l.1)))).1 p (λ q.
      let number : IsNumber l.0.types t t (pos l.1) = constant_number l.0.types t n l.1 less q.1 in
      const_holds (
        unless_ranged g l.0 x k q.0 (fine _ (number, number)),
        ap (λ (types : Types). scalar_at types t)
            (unless_types g l.0 x k) ∙ q.1,
      ) (declare_name g l.0 x (Ok (enumeration_constant t (pos l.1)))).1)

  listed_all : (t : TypeNo) (n : ℕ) (names : List Ident) (l : Scope g.Reported × ℕ × Result (Unit {0}) g.Reported)
      → l.1 + length names ≡ n → Holds (λ u. Listing t n l.0) l.2
      → Holds (λ u. Listing t n (fold (enumerate_name g t) l names).0) (fold (enumerate_name g t) l names).2
  listed_all t n [] l e p = p
  listed_all t n (x ∷ xs) l e p = listed_all t n xs (enumerate_name g t l x) (omega (arith, e))
      (listed_one t n l x (omega (arith, e)) p)

  enumeration_range : (s : Scope g.Reported) (n : ℕ) → 0 < n → n ≤ 256
      → IsRange (next_type s) (constants (next_type s) n)
  enumeration_range s n some most = record {
    low = omega (arith, ints);
    high = omega (arith, ints, most);
    some = omega (arith, ints, some);
    narrow = omega (arith, ints, most);
    integer = λ a b. absurd cc;
    base = λ a b. refl;
  }

  enumeration_begins : (s : Scope g.Reported) (names : List Ident) → ScopeRanged s → has_names names ≡ true
      → length names ≤ 256 → Listing (next_type s) (length names)
      (with_shape s (enumeration_scalar (next_type s) names))
  enumeration_begins s names h e most =
      let t : TypeNo = next_type s in
      let x : Made = enumeration_scalar t names in
      let some : 0 < length names = has_some names e in
      let there : scalar_at (with_shape s x).types t ≡ Some (constants t (length names)) = next_is s x in (
        scope_more s x h (enumeration_range s (length names) some most) (record {
          low = record {
            range = constants t (length names);
            at = there;
            own = refl;
            low = omega (arith, ints);
            high =
                omega (arith, ints, some);
          };
          high = record {
            range = constants t (length names);
            at = there;
            own = refl;
            low = omega (arith, ints, some);
            high = omega (arith, ints);
          };
        }),
        there,
      )

  enumeration_ranged : (s : Scope g.Reported) (names : List Ident) → ScopeRanged s → has_names names ≡ true
      → StateRanged (enumeration g s names)
  enumeration_ranged s names h e =
      then_holds (listed_all (next_type s) (length names) names
      (with_shape s (enumeration_scalar (next_type s) names), 0, too_many g names) (omega arith)
      (holds_weaker (λ x k. enumeration_begins s names h e k) (reported_few names (slice_get names 256) refl)))
      (λ x k. fine (next_type s) k.0)

  -- ---- procedure types

  procedure_plain : (s : Scope g.Reported) → ScopeRanged s
      → (formals : Result (List Formal) g.Reported) (of : Result (Option TypeNo) g.Reported)
      → Holds (λ m. ScopeRanged s × MadeRanged s m) (procedure_made g formals of)
  procedure_plain s h formals of = then_holds (any_holds (both g formals of)) (λ p k. fine _ (h, (tt, tt)))

  pub heading_ranged : (s : Scope g.Reported) → ScopeRanged s → (x : Heading)
      → Holds (λ m. ScopeRanged s × MadeRanged s m) (heading_of g s x)
  heading_ranged s h x = procedure_plain s h (fold (with_section g s) (Ok []) x.formals) (result_of g s x.result)

-- ---- type expressions

module _ (g : Gathers) (known : ConstantsAreRanged g) where
  sub_based : (s : Scope g.Reported) (r : Range) → SubRanged s.types r
      → IsBased (with_shape s (record { shape = shape.Scalar r; cells = 1 })).types r
  sub_based s r p =
      let x : Made = record { shape = shape.Scalar r; cells = 1 } in
      record {
        low = number_kept s.types (with_shape s x).types (more_kept s.types x) r.base r.base r.low p.low;
        high = number_kept s.types (with_shape s x).types (more_kept s.types x) r.base r.base r.high p.high;
      }

  sub_made : (s : Scope g.Reported) → ScopeRanged s → (r : Range) → SubRanged s.types r
      → MadeRanged s (record { shape = shape.Scalar r; cells = 1 })
  sub_made s h r p = (sub_range s h r.base r.low r.high p.low p.high p.some, sub_based s r p)

  simple_ranged : (s : Scope g.Reported) → ScopeRanged s → (t : Simple) → fits_simple t ≡ true
      → StateRanged (simple_type g s t)
  simple_ranged s h (simple.Named q) e = const_holds h _
  simple_ranged s h (simple.Enumeration at names) e = enumeration_ranged g s names h e
  simple_ranged s h (simple.Subrange of at low high) e =
      made_ranged s (then_holds (subrange_ranged g known s h of low high (both_left (fits low) (fits high) e)
      (both_right (fits low) (fits high) e))
      (λ r k. fine (record { shape = shape.Scalar r; cells = 1 }) (h, sub_made s h r k)))

  index_ranged : (s : Scope g.Reported) → ScopeRanged s → (t : Simple) → fits_simple t ≡ true
      → StateRanged (index_type g s t)
  index_ranged s h t e = then_holds (simple_ranged s h t e)
      (λ x k. where_holds g _ (simple_place t) rule.NoIndex (fine x k))

  array_plain : (s : Scope g.Reported) (at : Pos) (i e : TypeNo) → ScopeRanged s
      → Holds (λ m. ScopeRanged s × MadeRanged s m) (array_in g s.types at i e)
  array_plain s at i e h = then_holds (any_holds (array_cells g at (count_at s.types i) (cells_at s.types e)))
      (λ n k. fine _ (h, (tt, tt)))

  array_ranged : (at : Pos) (i : State TypeNo g.Reported) (f : Makes g) → StateRanged i
      → (ScopeRanged i.0 → StateRanged (f i.0)) → StateRanged (array_type g at i f)
  array_ranged at i f p k = made_ranged (f i.0).0
      (then_holds (both_then g (f i.0).1 p k) (λ x h. array_plain (f i.0).0 at x.0 x.1 h))

  -- the fields so far
  abbrev FieldsRanged : Scope g.Reported × Fields × Result (Unit {0}) g.Reported → Type 0
  FieldsRanged st = Holds (λ x. ScopeRanged st.0) st.2

  record_ranged : (at : Pos) (st : Scope g.Reported × Fields × Result (Unit {0}) g.Reported) → FieldsRanged st
      → StateRanged (record_type g at st)
  record_ranged at st p = made_ranged st.0
      (then_holds p (λ x h. where_holds g (nat_lt 131072 st.1.cells) at rule.LargeType (fine _ (h, (tt, tt)))))

  names_ranged : {P : Type 0} (t : TypeNo) (cells : ℕ) (names : List Ident) (st : Fields × Result (Unit {0}) g.Reported)
      → Holds (λ x. P) st.1 → Holds (λ x. P) (fold (with_name g t cells) st names).1
  names_ranged t cells [] st p = p
  names_ranged t cells (x ∷ xs) st p = names_ranged t cells xs (with_name g t cells st x)
      (beside_then g (with_field g t cells st.0 x).1 p (λ q. const_holds q (with_field g t cells st.0 x).1))

  named_ranged : (m : State TypeNo g.Reported) (names : List Ident) (fs : Fields)
      (before : Result (Unit {0}) g.Reported) {P : Type 0} → Holds (λ x. P) before → (P → StateRanged m)
      → FieldsRanged (fields_named g m names fs before)
  named_ranged m names fs before p k =
      names_ranged (field_type m.1) (cells_at m.0.types (field_type m.1)) names (fs, beside g before (nothing_of m.1))
      (beside_then g (nothing_of m.1) p (λ q. then_holds (k q) (λ x h. fine tt h)))

  -- ---- the induction

  abbrev RangedMakes : Makes g → Type 0
  RangedMakes f = (s : Scope g.Reported) → ScopeRanged s → StateRanged (f s)

  abbrev RangedFields : MakesFields g → Type 0
  RangedFields f = (st : Scope g.Reported × Fields × Result (Unit {0}) g.Reported) → FieldsRanged st
      → FieldsRanged (f st)

  abbrev fits_fields : Field → Bool
  fits_fields f = fold-Field Bool Bool fits_type_layer fits_field f

  abbrev PT : TypeExpr → Makes g → Type 0
  PT t f = fits_type t ≡ true → RangedMakes f

  abbrev PF : Field → MakesFields g → Type 0
  PF d f = fits_fields d ≡ true → RangedFields f

  abbrev ST : Type 0
  ST = Typed (type_of g) (field_list g) PT PF

  abbrev SF : Type 0
  SF = Fielded (type_of g) (field_list g) PT PF

  abbrev stripped : TypeExpr-F ST SF → TypeExpr-F TypeExpr Field
  stripped y = bare (type_of g) (field_list g) PT PF y

  abbrev stripped_field : Field-F ST SF → Field-F TypeExpr Field
  stripped_field y = bare_field (type_of g) (field_list g) PT PF y

  abbrev elaborated : TypeExpr-F TypeExpr Field → TypeExpr-F Bool Bool
  elaborated x = map-TypeExpr TypeExpr Field Bool Bool fits_type fits_fields x

  abbrev elaborated_field : Field-F TypeExpr Field → Field-F Bool Bool
  elaborated_field x = map-Field TypeExpr Field Bool Bool fits_type fits_fields x

  fits_at : (t : TypeExpr) (x : TypeExpr-F TypeExpr Field) → out-TypeExpr t ≡ x
      → fits_type t ≡ fits_type_layer (elaborated x)
  unfolding fits_type
  fits_at t x h = fold_out-TypeExpr Bool Bool fits_type_layer fits_field t
      ∙ ap (λ (y : TypeExpr-F TypeExpr Field). fits_type_layer (elaborated y)) h

  fits_at_field : (f : Field) (x : Field-F TypeExpr Field) → out-Field f ≡ x
      → fits_fields f ≡ fits_field (elaborated_field x)
  unfolding fits_type
  fits_at_field f x h = fold_out-Field Bool Bool fits_type_layer fits_field f
      ∙ ap (λ (y : Field-F TypeExpr Field). fits_field (elaborated_field y)) h

  fields_all : (fs : List SF) → list_all itself (map fits_fields (map (λ (f : SF). f.0) fs)) ≡ true
      → (st : Scope g.Reported × Fields × Result (Unit {0}) g.Reported) → FieldsRanged st
      → FieldsRanged (fold (then_fields g) st (map (field_list g) (map (λ (f : SF). f.0) fs)))
  fields_all [] e st p = p
  fields_all (f ∷ fs) e st p =
      let rest : Bool = list_all itself (map fits_fields (map (λ (f : SF). f.0) fs)) in
      fields_all fs (both_right (fits_fields f.0) (list_all itself (map fits_fields (map (λ (f : SF). f.0) fs))) e)
      (field_list g f.0 st) (f.1 (both_left (fits_fields f.0)
      (list_all itself (map fits_fields (map (λ (f : SF). f.0) fs))) e) st p)

  type_ranged : (y : TypeExpr-F ST SF) → fits_type_layer (elaborated (stripped y)) ≡ true
      → RangedMakes (type_layer g (types_opened g (stripped y)))
  type_ranged (layer.Simple t) e = λ s h. simple_ranged s h t e
  type_ranged (layer.Array at index t) e = λ s h.
      array_ranged at (index_type g s index) (type_of g t.0)
      (index_ranged s h index (both_left (fits_simple index) (fits_type t.0) e))
      (λ k. t.1 (both_right (fits_simple index) (fits_type t.0) e) (index_type g s index).0 k)
  type_ranged (layer.Record at fields) e =
      λ s h. record_ranged at _ (fields_all fields e (s, no_fields, Ok tt) (fine tt h))
  type_ranged (layer.Procedure at formals t) e = λ s h. made_ranged s (procedure_plain g s h _ _)

  field_ranged : (y : Field-F ST SF) → fits_field (elaborated_field (stripped_field y)) ≡ true
      → RangedFields (field_layer g (fields_opened g (stripped_field y)))
  field_ranged y e = λ st p. named_ranged (type_of g y.of.0 st.0) y.names st.1 st.2 p (λ h. y.of.1 e st.0 h)

  type_step : (y : TypeExpr-F ST SF) → PT (roll-TypeExpr (stripped y)) (type_layer g (types_opened g (stripped y)))
  type_step y e =
      let x : TypeExpr-F TypeExpr Field = stripped y in
      type_ranged y (sym (fits_at (roll-TypeExpr x) x (out-roll-TypeExpr x)) ∙ e)

  field_step : (y : Field-F ST SF)
      → PF (roll-Field (stripped_field y)) (field_layer g (fields_opened g (stripped_field y)))
  field_step y e =
      let x : Field-F TypeExpr Field = stripped_field y in
      field_ranged y (sym (fits_at_field (roll-Field x) x (out-roll-Field x)) ∙ e)

  pub type_of_ranged : (t : TypeExpr) → fits_type t ≡ true → RangedMakes (type_of g t)
  type_of_ranged =
      all_trees (type_of g) (field_list g) PT PF (type_layer g) (field_layer g) (types_at g)
      (fields_at g) type_step field_step
