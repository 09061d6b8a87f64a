-- Type expressions lead from scopes with types in order to such scopes.
use Rattle.std.proofs.Common.{◌≡◌, ℕ, pos, Bool, true, false, cond, List, [], ◌∷◌, ◌++◌, Option, Some, None, Result, Ok, Err, refl, sym, ap, ◌∙◌, arith}
use Rattle.std.specs.Prelude.{◌+◌, ◌*◌, ◌≤◌, map, nat_lt}
use Rattle.std.specs.List.{fold, AllByRecursion}
use Rattle.std.specs.Option.{is_some}
use Rattle.m2_rule.specs.declared.rule.Rule.TheVariants as rule
use Rattle.m2_tree.specs.declared.pos.Pos.{Pos}
use Rattle.m2_tree.specs.declared.name.Ident.{Ident}
use Rattle.m2_tree.specs.declared.expr.Qualified.{Qualified}
use Rattle.m2_tree.specs.declared.decl.FormalType.{FormalType}
use Rattle.m2_tree.specs.declared.decl.Parameter.{Parameter}
use Rattle.m2_tree.specs.declared.decl.Section.{Section}
use Rattle.m2_tree.specs.declared.decl.Heading.{Heading}
use Rattle.m2_tree.specs.declared.decl.Simple.{Simple}
use Rattle.m2_tree.specs.declared.decl.Simple.TheVariants as simple
use Rattle.m2_tree.specs.declared.decl.TypeExpr.{TypeExpr, TypeExpr-F}
use Rattle.m2_tree.specs.declared.decl.TypeExpr.TheOpen as layer
use Rattle.m2_tree.specs.declared.decl.Field.{Field, Field-F}
use Rattle.typed_tree.specs.declared.types.TypeNo.{TypeNo}
use Rattle.typed_tree.specs.declared.shape.Formal.{Formal}
use Rattle.typed_tree.specs.declared.shape.Made.{Made}
use Rattle.typed_tree.specs.declared.known_types.Types.{Types}
use Rattle.typed_tree.specs.Known.{cells_at}
use Rattle.m2_tree.specs.Names.{same_name}
use Rattle.typed_tree.specs.Names.{find_name, enter_name}
use Rattle.check_scope.specs.declared.known.Known.{Known}
use Rattle.check_scope.specs.declared.known.Known.TheVariants.{Declared}
use Rattle.check_scope.specs.declared.known.Origin.TheVariants.{Here}
use Rattle.check_scope.specs.declared.scope.Scope.{Scope}
use Rattle.check_scope.specs.Scopes.{State, declare_name}
use Rattle.check_scope.specs.Elaborated.{Gathers, report, both, beside}
use Rattle.check_expr.specs.Meanings.{part}
use Rattle.check_type_expr.specs.declared.field.Fields.{Fields}
use Rattle.check_type_expr.specs.Cells.{array_cells, count_at, plus}
use Rattle.check_type_expr.specs.Fields.{no_fields, with_field, with_name}
use Rattle.check_type_expr.specs.Named.{first_of}
use Rattle.check_type_expr.specs.Headings.{formal_of, result_of, procedure_made, joined_formal, with_parameter, procedure_type, formal_for_each, joined_formals, with_section, heading_of}
use Rattle.check_type_expr.specs.Made.{next_type, with_shape, with_made, too_many, enumeration_constant, enumeration_scalar, enumerate_name, enumeration, subrange, simple_type, simple_place, array_in, index_type, field_type, nothing_of, Makes, MakesFields, then_fields, array_type, record_type, fields_named, type_layer, field_layer, type_of, field_list}
use Rattle.law_folds.proofs.TypeFolds.{Typed, Fielded, bare, bare_field, all_trees, types_opened, fields_opened, types_at, fields_at}
use Rattle.law_well_formed.specs.Formed.{Holds, fine, broken}
use Rattle.law_well_formed.proofs.Basics.{then_holds, holds_weaker, where_holds, unless_holds, both_holds, any_holds}
use Rattle.law_well_formed.proofs.Order.{has, keys, other_way, still_apart, keys_entered}
use Rattle.law_well_formed.proofs.RangesMade.{beside_then, const_holds}
use Rattle.law_well_formed.specs.Ordered.{result_named, is_known, AreKnown, max_cells, cells_of_fields}
use Rattle.law_well_formed.proofs.Cells.{made_kept, fields_stay}
use Rattle.law_well_formed.specs.FormedOrder.{StandOnce, StartedFrom, ScopeOrdered, MadeOrdered}
use Rattle.law_well_formed.proofs.OrderTypes.{known_kept, all_kept, ShapeOrdered, scope_more, next_known, based_on, based_here}
use Rattle.law_well_formed.proofs.Named.{named_ordered, known_ordered, unless_as}

-- ---- results in order

module _ (g : Gathers) where
  both_one : {A B : Type 0} (P : A → Type 0) {Q : B → Type 0} (x : A) {b : Result B g.Reported} → P x → Holds Q b
      → Holds (λ (z : A × B). P z.0 × Q z.1) (both g (Ok x) b)
  both_one P x p (fine y q) = fine (x, y) (p, q)
  both_one P x p (broken e) = broken e

  -- where the second holds because the first does
  pub both_on : {A B : Type 0} {P : A → Type 0} {Q : B → Type 0} {a : Result A g.Reported} (b : Result B g.Reported)
      → Holds P a → ((x : A) → P x → Holds Q b) → Holds (λ (z : A × B). P z.0 × Q z.1) (both g a b)
  both_on b (fine x p) k = both_one _ x p (k x p)
  both_on (Ok y) (broken e) k = broken e
  both_on (Err f) (broken e) k = broken (g.join e f)

-- ---- lists of types that are known

pub each_append : {X : Type 0} (P : X → Type 0) (xs ys : List X) → AllByRecursion P xs → AllByRecursion P ys
    → AllByRecursion P (xs ++ ys)
each_append P [] ys p q = q
each_append P (x ∷ xs) ys p q = (p.0, each_append P xs ys p.1 q)

abbrev of_formals : List Formal → List TypeNo
of_formals fs = map (λ f. f.of) fs

module _ (types : Types) where
  formals_more : (fs gs : List Formal) → AreKnown types (of_formals fs) → AreKnown types (of_formals gs)
      → AreKnown types (of_formals (fs ++ gs))
  formals_more [] gs p q = q
  formals_more (f ∷ fs) gs p q = (p.0, formals_more fs gs p.1 q)

  formals_repeated : (f : Formal) (names : List Ident) → is_known types f.of ≡ true
      → AreKnown types (of_formals (formal_for_each f names))
  formals_repeated f [] p = tt
  formals_repeated f (x ∷ xs) p = (p, formals_repeated f xs p)

  abbrev fields_of : List (List ℕ × TypeNo) → List TypeNo
  fields_of fs = map (λ f. f.1) fs

  entered_by : (b : Bool) (t : TypeNo) (e : List ℕ × TypeNo) (es more : List (List ℕ × TypeNo))
      → is_known types t ≡ true → AreKnown types (fields_of (e ∷ es)) → AreKnown types (fields_of more)
      → AreKnown types (fields_of (cond b ((e.0, t) ∷ es) (e ∷ more)))
  entered_by true t e es more p h q = (p, h.1)
  entered_by false t e es more p h q = (h.0, q)

  entered_known : (name : List ℕ) (t : TypeNo) (es : List (List ℕ × TypeNo)) → is_known types t ≡ true
      → AreKnown types (fields_of es) → AreKnown types (fields_of (enter_name name t es))
  entered_known name t [] p h = (p, tt)
  entered_known name t (e ∷ es) p h = entered_by (same_name name e.0) t e es (enter_name name t es) p h
      (entered_known name t es p h.1)

once_by : {V : Type 0} (name : List ℕ) (k : V) (e : List ℕ × V) (es : List (List ℕ × V)) (b : Bool)
    → same_name name e.0 ≡ b → StandOnce (e ∷ es) → StandOnce (enter_name name k es)
    → StandOnce (cond b ((e.0, k) ∷ es) (e ∷ enter_name name k es))
once_by name k e es true q d h = d
once_by name k e es false q d h = (
  ap (λ (ks : List (List ℕ)). has e.0 ks) (keys_entered name k es)
      ∙ still_apart e.0 name (has name (keys es)) (keys es) d.0 (other_way name e.0 q),
  h,
)

once_entered : {V : Type 0} (name : List ℕ) (k : V) (es : List (List ℕ × V)) → StandOnce es
    → StandOnce (enter_name name k es)
once_entered name k [] d = (refl, tt)
once_entered name k (e ∷ es) d = once_by name k e es (same_name name e.0) refl d (once_entered name k es d.1)

-- ---- cells

few_by : (n : ℕ) → nat_lt 131072 n ≡ false → n ≤ max_cells
few_by n e = grind (arith, e)

plus_few : (a b : ℕ) → plus a b ≤ max_cells → plus a b ≡ a + b
plus_few a b = by (nat_lt 131072 (a + b)) where
  by : (q : Bool) → cond q 131073 (a + b) ≤ max_cells → cond q 131073 (a + b) ≡ a + b
  by true l = absurd (omega (arith, l))
  by false l = refl

module _ (types : Types) where
  entered_cells : (name : List ℕ) (t : TypeNo) (es : List (List ℕ × TypeNo)) → is_some (find_name name es) ≡ false
      → cells_of_fields types (enter_name name t es) ≡ cells_of_fields types es + cells_at types t
  entered_cells name t [] e = omega arith
  entered_cells name t (x ∷ es) e = by (same_name name x.0) e (entered_cells name t es) where
    by : (q : Bool) → is_some (cond q (Some x.1) (find_name name es)) ≡ false
        → (is_some (find_name name es) ≡ false
        → cells_of_fields types (enter_name name t es) ≡ cells_of_fields types es + cells_at types t)
        → cells_of_fields types (cond q ((x.0, t) ∷ es) (x ∷ enter_name name t es))
        ≡ cells_at types x.1 + cells_of_fields types es + cells_at types t
    by true f on = absurd (let clash : true ≡ false = f in cc)
    by false f on = let k = on f in omega (arith, k)

-- ---- one type more

pub made_ordered : {T : Type 0} (base : Types) (s : Scope T) {r : Result Made T}
    → Holds (λ m. ScopeOrdered base s × ShapeOrdered s m) r → MadeOrdered base (with_made s r)
made_ordered base s (fine m p) = fine (next_type s) (scope_more base s m p.0 p.1, next_known s m)
made_ordered base s (broken e) = broken e

module _ (g : Gathers) (base : Types) where
  -- ---- enumerations

  abbrev Listing : TypeNo → Scope g.Reported → Type 0
  Listing t s = ScopeOrdered base s × (is_known s.types t ≡ true)

  listed_one : (t : TypeNo) (l : Scope g.Reported × ℕ × Result (Unit {0}) g.Reported) (x : Ident)
      → Holds (λ u. Listing t l.0) l.2 → Holds (λ u. Listing t (enumerate_name g t l x).0) (enumerate_name g t l x).2
  listed_one t l x p =
      let m : Known g.Reported = Declared Here (Ok (enumeration_constant t (pos l.1))) in
      beside_then g (declare_name g l.0 x (Ok (enumeration_constant t (pos l.1)))).1 p (λ q.
      const_holds (unless_as g (Listing t) l.0 x m q (known_ordered base l.0 x.name m q.0 (fine _ tt), q.1))
      (declare_name g l.0 x (Ok (enumeration_constant t (pos l.1)))).1)

  listed_all : (t : TypeNo) (names : List Ident) (l : Scope g.Reported × ℕ × Result (Unit {0}) g.Reported)
      → Holds (λ u. Listing t l.0) l.2 → Holds (λ u. Listing t (fold (enumerate_name g t) l names).0)
      (fold (enumerate_name g t) l names).2
  listed_all t [] l p = p
  listed_all t (x ∷ xs) l p = listed_all t xs (enumerate_name g t l x) (listed_one t l x p)

  enumeration_ordered : (s : Scope g.Reported) (names : List Ident) → ScopeOrdered base s
      → MadeOrdered base (enumeration g s names)
  enumeration_ordered s names h =
      let x : Made = enumeration_scalar (next_type s) names in
      then_holds (listed_all (next_type s) names (with_shape s x, 0, too_many g names)
      (const_holds (
        scope_more base s x h (record { known = tt; counted = refl; few = omega arith }, tt),
        next_known
            s x,
      ) (too_many g names))) (λ u k. fine (next_type s) k)

  -- ---- procedure types

  module _ (s : Scope g.Reported) (h : ScopeOrdered base s) where
    pub formal_ordered : (is_var : Bool) (f : FormalType)
        → Holds (λ x. is_known s.types x.of ≡ true) (formal_of g s is_var f)
    formal_ordered is_var f = then_holds (named_ordered g base s h f.of) (λ t p. fine _ p)

    result_ordered : (o : Option Qualified) → Holds (λ r. AreKnown s.types (result_named r)) (result_of g s o)
    result_ordered None = fine None tt
    result_ordered (Some q) = then_holds (named_ordered g base s h q)
        (λ t p. where_holds g _ (first_of q) rule.NoType (fine (Some t) (p, tt)))

    abbrev FormalsOrdered : Result (List Formal) g.Reported → Type 0
    FormalsOrdered r = Holds (λ fs. AreKnown s.types (of_formals fs)) r

    procedure_ordered : (formals : Result (List Formal) g.Reported) (of : Option Qualified) → FormalsOrdered formals
        → Holds (λ m. ScopeOrdered base s × ShapeOrdered s m) (procedure_made g formals (result_of g s of))
    procedure_ordered formals of p =
        then_holds (both_holds g p (result_ordered of)) (λ x k.
        fine _ (
          h,
          (
            record {
              known = each_append (λ t. is_known s.types t ≡ true) (of_formals x.0) (result_named x.1)
                  k.0 k.1;
              counted = refl;
              few = omega arith;
            },
            tt,
          ),
        ))

    joined_ordered : (so : Result (List Formal) g.Reported) (f : Result Formal g.Reported) → FormalsOrdered so
        → Holds (λ x. is_known s.types x.of ≡ true) f → FormalsOrdered (joined_formal g so f)
    joined_ordered so f p q = then_holds (both_holds g p q)
        (λ x k. fine _ (formals_more s.types x.0 (x.1 ∷ []) k.0 (k.1, tt)))

    parameters_ordered : (ps : List Parameter) (so : Result (List Formal) g.Reported) → FormalsOrdered so
        → FormalsOrdered (fold (with_parameter g s) so ps)
    parameters_ordered [] so p = p
    parameters_ordered (x ∷ ps) so p = parameters_ordered ps (with_parameter g s so x)
        (joined_ordered so (formal_of g s x.is_var x.of) p (formal_ordered x.is_var x.of))

    procedure_type_ordered : (ps : List Parameter) (of : Option Qualified)
        → Holds (λ m. ScopeOrdered base s × ShapeOrdered s m) (procedure_type g s ps of)
    procedure_type_ordered ps of = procedure_ordered (fold (with_parameter g s) (Ok []) ps) of
        (parameters_ordered ps (Ok []) (fine [] tt))

    -- ---- headings

    repeated_ordered : (so : Result (List Formal) g.Reported) (f : Result Formal g.Reported) (names : List Ident)
        → FormalsOrdered so → Holds (λ x. is_known s.types x.of ≡ true) f → FormalsOrdered (joined_formals g so f names)
    repeated_ordered so f names p q = then_holds (both_holds g p q)
        (λ x k. fine _ (formals_more s.types x.0 (formal_for_each x.1 names) k.0
        (formals_repeated s.types x.1 names k.1)))

    sections_ordered : (xs : List Section) (so : Result (List Formal) g.Reported) → FormalsOrdered so
        → FormalsOrdered (fold (with_section g s) so xs)
    sections_ordered [] so p = p
    sections_ordered (x ∷ xs) so p = sections_ordered xs (with_section g s so x)
        (repeated_ordered so (formal_of g s x.is_var x.of) x.names p (formal_ordered x.is_var x.of))

    pub heading_ordered : (x : Heading) → Holds (λ m. ScopeOrdered base s × ShapeOrdered s m) (heading_of g s x)
    heading_ordered x = procedure_ordered (fold (with_section g s) (Ok []) x.formals) x.result
        (sections_ordered x.formals (Ok []) (fine [] tt))

  -- ---- simple types

  simple_ordered : (s : Scope g.Reported) → ScopeOrdered base s → (t : Simple) → MadeOrdered base (simple_type g s t)
  simple_ordered s h (simple.Named q) = holds_weaker (λ t p. (h, p)) (named_ordered g base s h q)
  simple_ordered s h (simple.Enumeration at names) = enumeration_ordered s names h
  simple_ordered s h (simple.Subrange of at low high) =
      made_ordered base s (then_holds (any_holds (subrange g s of (part g low) (part g high)))
      (λ r k. fine _ (h, (record { known = tt; counted = refl; few = omega arith }, tt))))

  index_ordered : (s : Scope g.Reported) → ScopeOrdered base s → (t : Simple) → MadeOrdered base (index_type g s t)
  index_ordered s h t = then_holds (simple_ordered s h t)
      (λ x k. where_holds g _ (simple_place t) rule.NoIndex (fine x k))

  -- ---- arrays

  array_few : (at : Pos) (count cells : ℕ)
      → Holds (λ n. (n ≡ count * cells) × (n ≤ max_cells)) (array_cells g at count cells)
  array_few at count cells = unless_holds g (nat_lt 131072 (count * cells)) at rule.LargeType
      (λ e. fine (count * cells) (refl, few_by (count * cells) e))

  array_plain : (s : Scope g.Reported) (at : Pos) (i e : TypeNo) → ScopeOrdered base s → is_known s.types i ≡ true
      → is_known s.types e ≡ true → Holds (λ m. ScopeOrdered base s × ShapeOrdered s m) (array_in g s.types at i e)
  array_plain s at i e h p q =
      then_holds (array_few at (count_at s.types i) (cells_at s.types e))
      (λ n k. fine _ (h, (record { known = (p, (q, tt)); counted = k.0; few = k.1 }, tt)))

  array_ordered : (at : Pos) (i : State TypeNo g.Reported) (f : Makes g) → MadeOrdered base i
      → (ScopeOrdered i.0.types i.0 → MadeOrdered i.0.types (f i.0)) → MadeOrdered base (array_type g at i f)
  array_ordered at i f p k =
      made_ordered base (f i.0).0 (then_holds (both_on g (f i.0).1 p (λ x h. k (based_here base i.0 h.0))) (λ x h.
      array_plain (f i.0).0 at x.0 x.1 (based_on base i.0.types (f i.0).0 h.0.0.started h.1.0)
      (known_kept i.0.types (f i.0).0.types h.1.0.started x.0 h.0.1) h.1.1))

  -- ---- records

  record FieldsKnown (types : Types) (fs : Fields) : Type 0 where
    known : AreKnown types (map (λ f. f.1) fs.names)
    once : StandOnce fs.names
    counted : fs.cells ≤ max_cells → cells_of_fields types fs.names ≡ fs.cells

  -- the fields so far
  abbrev FieldsOrdered : Scope g.Reported × Fields × Result (Unit {0}) g.Reported → Type 0
  FieldsOrdered st = Holds (λ x. ScopeOrdered base st.0 × FieldsKnown st.0.types st.1) st.2

  record_ordered : (at : Pos) (st : Scope g.Reported × Fields × Result (Unit {0}) g.Reported) → FieldsOrdered st
      → MadeOrdered base (record_type g at st)
  record_ordered at st p = made_ordered base st.0
      (then_holds p (λ x h. unless_holds g (nat_lt 131072 st.1.cells) at rule.LargeType (λ e.
      let few : st.1.cells ≤ max_cells = few_by st.1.cells e in
      fine _ (h.0, (record { known = h.1.known; counted = sym (h.1.counted few); few = few }, h.1.once)))))

  field_by : (types : Types) (b : Bool) (fs more : Fields) (name : Ident) → FieldsKnown types fs
      → (b ≡ false → FieldsKnown types more)
      → FieldsKnown types (cond {A = Fields × Result (Unit {0}) g.Reported} b (fs, report g name.pos rule.DeclaredTwice)
      (more, Ok tt)).0
  field_by types true fs more name p q = p
  field_by types false fs more name p q = q refl

  field_ordered : (types : Types) (t : TypeNo) (cells : ℕ) (fs : Fields) (name : Ident) → cells ≡ cells_at types t
      → is_known types t ≡ true → FieldsKnown types fs → FieldsKnown types (with_field g t cells fs name).0
  field_ordered types t cells fs name same e p =
      field_by types (is_some (find_name name.name fs.names)) fs _ name p (λ new. record {
        known = entered_known types name.name t fs.names e p.known;
        once = once_entered name.name t fs.names p.once;
        counted = λ few.
            let both = plus_few fs.cells cells few in
            let before = p.counted (omega (arith, both, few)) in
            let one = entered_cells types name.name t fs.names new in
            omega (arith, both, before, one, same);
      })

  names_ordered : (P : Type 0) (types : Types) (t : TypeNo) (cells : ℕ) → cells ≡ cells_at types t
      → (names : List Ident) (st : Fields × Result (Unit {0}) g.Reported)
      → Holds (λ x. (P × (is_known types t ≡ true)) × FieldsKnown types st.0) st.1
      → Holds (λ x. (P × (is_known types t ≡ true)) × FieldsKnown types (fold (with_name g t cells) st names).0)
      (fold (with_name g t cells) st names).1
  names_ordered P types t cells same [] st p = p
  names_ordered P types t cells same (x ∷ xs) st p =
      names_ordered P types t cells same xs (with_name g t cells st x)
      (beside_then g (with_field g t cells st.0 x).1 p
      (λ q. const_holds (q.0, field_ordered types t cells st.0 x same q.0.1 q.1) (with_field g t cells st.0 x).1))

  fields_kept : (a b : Types) (fs : Fields) → StartedFrom a b → FieldsKnown a fs → FieldsKnown b fs
  fields_kept a b fs p h = record {
    known = all_kept a b (known_kept a b p) (map (λ f. f.1) fs.names) h.known;
    once = h.once;
    counted = λ few. fields_stay a b (made_kept a b p) fs.names h.known ∙ h.counted few;
  }

  type_given : {P : TypeNo → Type 0} {t : Result TypeNo g.Reported} → Holds P t
      → Holds (λ x. P (field_type t)) (nothing_of t)
  type_given (fine x p) = fine tt p
  type_given (broken e) = broken e

  list_ordered : (s : Scope g.Reported) (m : State TypeNo g.Reported) (names : List Ident) (fs : Fields)
      (before : Result (Unit {0}) g.Reported) → FieldsOrdered (s, fs, before)
      → (ScopeOrdered s.types s → MadeOrdered s.types m) → FieldsOrdered (fields_named g m names fs before)
  list_ordered s m names fs before p k =
      let of : TypeNo = field_type m.1 in
      holds_weaker (λ x q. (q.0.0, q.1)) (names_ordered (ScopeOrdered base m.0) m.0.types of (cells_at m.0.types of)
      refl names (fs, beside g before (nothing_of m.1)) (beside_then g (nothing_of m.1) p (λ q.
      holds_weaker (λ u x. (
        (based_on base s.types m.0 q.0.started x.0, x.1),
        (fields_kept s.types m.0.types fs x.0.started q.1),
      )) (type_given (k (based_here base s q.0))))))

-- ---- the induction

module _ (g : Gathers) where
  abbrev OrderedMakes : Makes g → Type 0
  OrderedMakes f = (base : Types) (s : Scope g.Reported) → ScopeOrdered base s → MadeOrdered base (f s)

  abbrev OrderedFields : MakesFields g → Type 0
  OrderedFields f = (base : Types) (st : Scope g.Reported × Fields × Result (Unit {0}) g.Reported)
      → FieldsOrdered g base st → FieldsOrdered g base (f st)

  abbrev ST : Type 0
  ST = Typed (type_of g) (field_list g) (λ t f. OrderedMakes f) (λ d f. OrderedFields f)

  abbrev SF : Type 0
  SF = Fielded (type_of g) (field_list g) (λ t f. OrderedMakes f) (λ d f. OrderedFields f)

  abbrev stripped : TypeExpr-F ST SF → TypeExpr-F TypeExpr Field
  stripped y = bare (type_of g) (field_list g) (λ t f. OrderedMakes f) (λ d f. OrderedFields f) y

  abbrev stripped_field : Field-F ST SF → Field-F TypeExpr Field
  stripped_field y = bare_field (type_of g) (field_list g) (λ t f. OrderedMakes f) (λ d f. OrderedFields f) y

  fields_all : (base : Types) (fs : List SF) (st : Scope g.Reported × Fields × Result (Unit {0}) g.Reported)
      → FieldsOrdered g base st → FieldsOrdered g base
      (fold (then_fields g) st (map (field_list g) (map (λ (f : SF). f.0) fs)))
  fields_all base [] st p = p
  fields_all base (f ∷ fs) st p = fields_all base fs (field_list g f.0 st) (f.1 base st p)

  type_ordered : (y : TypeExpr-F ST SF) → OrderedMakes (type_layer g (types_opened g (stripped y)))
  type_ordered (layer.Simple t) = λ base s h. simple_ordered g base s h t
  type_ordered (layer.Array at index t) =
      λ base s h. array_ordered g base at (index_type g s index) (type_of g t.0) (index_ordered g base s h index)
      (λ k. t.1 (index_type g s index).0.types (index_type g s index).0 k)
  type_ordered (layer.Record at fields) =
      λ base s h. record_ordered g base at _
      (fields_all base fields (s, no_fields, Ok tt)
      (fine tt (h, record { known = tt; once = tt; counted = λ few. refl })))
  type_ordered (layer.Procedure at formals t) =
      λ base s h. made_ordered base s (procedure_type_ordered g base s h formals t)

  field_list_ordered : (y : Field-F ST SF) → OrderedFields (field_layer g (fields_opened g (stripped_field y)))
  field_list_ordered y = λ base st p. list_ordered g base st.0 (type_of g y.of.0 st.0) y.names st.1 st.2 p
      (λ h. y.of.1 st.0.types st.0 h)

  pub type_of_ordered : (t : TypeExpr) → OrderedMakes (type_of g t)
  type_of_ordered =
      all_trees (type_of g) (field_list g) (λ t f. OrderedMakes f) (λ d f. OrderedFields f) (type_layer g)
      (field_layer g) (types_at g) (fields_at g)
      type_ordered field_list_ordered
