-- A type that is written is one type at most, and adds one thing.
use Rattle.std.proofs.Common.{◌≡◌, ℕ, ◌+◌, ◌*◌, List, ◌∷◌, ◌++◌, length, Option, Some, refl, sym, ap, subst, ◌∙◌}
use Rattle.std.specs.Prelude.{ℤ}
use Rattle.m2_tree.specs.declared.name.Ident.{Ident}
use Rattle.m2_tree.specs.declared.pos.Pos.{Pos}
use Rattle.m2_tree.specs.declared.expr.Expr.{Expr}
use Rattle.m2_tree.specs.declared.expr.Qualified.{Qualified}
use Rattle.m2_tree.specs.declared.decl.Simple.{Simple}
use Rattle.m2_tree.specs.declared.decl.TypeExpr.{TypeExpr, TypeExpr-F, out-TypeExpr}
use Rattle.m2_tree.specs.declared.decl.TypeExpr.TheOpen as layer
use Rattle.m2_tree.specs.declared.decl.Field.{Field, out-Field}
use Rattle.m2_tree.specs.declared.decl.Parameter.{Parameter}
use Rattle.m2_tree.specs.declared.decl.Section.{Section}
use Rattle.m2_tree.specs.declared.decl.Heading.{Heading}
use Rattle.typed_tree.specs.declared.types.TypeNo.{TypeNo}
use Rattle.typed_tree.specs.declared.shape.Formal.{Formal}
use Rattle.typed_tree.specs.declared.shape.Signature.{Signature}
use Rattle.typed_tree.specs.declared.shape.Scalar.{Scalar as Range}
use Rattle.typed_tree.specs.declared.shape.Shape.TheVariants as shape
use Rattle.typed_tree.specs.declared.known_types.Types.{Types}
use Rattle.typed_tree.specs.Known.{cells_at}
use Rattle.def_typing.specs.Shapes.{IsMade}
use Rattle.def_typing.specs.Amounts.{Constant, GoTogether}
use Rattle.def_typing.specs.Things.{Thing, AType, AModule, Standing, Known}
use Rattle.def_typing.specs.TypeNames.{NamesType, alone, of_module}
use Rattle.def_typing.specs.Headings as headings
use Rattle.def_typing.specs.Headings.{formals_of, procedure_made, AreFormals, AreParameters, GivesBack, IsHeading}
use Rattle.def_typing.specs.Cases as cases
use Rattle.def_typing.specs.Cases.{SelectsIn}
use Rattle.def_typing.specs.Subranges as subranges
use Rattle.def_typing.specs.Subranges.{IsTypeBound, NamesRange, IsSubrange}
use Rattle.def_typing.specs.TypeExprs as rules
use Rattle.def_typing.specs.TypeExprs.{next_type, Added, nothing_added, type_added, both_added, range_made, array_added, record_made, fields_of, behind, Setting, IsSimpleType, SimpleAdds, IsTypeOf, AreFields, Adds, FieldsAdd}
use Rattle.law_typing.proofs.Shaping.{one_made}
use Rattle.law_readings.proofs.Computing.{both, clash, some_one, together_one}
use Rattle.law_readings.proofs.Fixing.{range_one, scalar_sort, scalar_number, fixes_one}
use Rattle.law_typing.proofs.Fixing.{constant_one}

-- ---- names of types

abbrev thing_in : Thing → Standing → Thing
thing_in x (Known y) = y
thing_in x other = x

abbrev type_in : TypeNo → Thing → TypeNo
type_in t (AType u) = u
type_in t other = t

abbrev module_in : ℕ → Thing → ℕ
module_in k (AModule n) = n
module_in k other = k

type_one : {t u : TypeNo} → Known (AType t) ≡ Known (AType u) → t ≡ u
type_one {t = t} e = ap (type_in t) (ap (thing_in (AType t)) e)

module_one : {k n : ℕ} → Known (AModule k) ≡ Known (AModule n) → k ≡ n
module_one {k = k} e = ap (module_in k) (ap (thing_in (AModule k)) e)

module _ (names : Ident → Standing) (exports : ℕ → Ident → Standing) where
  pub names_one : {q : Qualified} {t u : TypeNo} → NamesType names exports q t
      → NamesType names exports q u → t ≡ u
  names_one (alone e n) (alone f m) = type_one (sym n ∙ m)
  names_one (alone e n) (of_module f m x) = let z = sym e ∙ f in absurd cc
  names_one (of_module f m x) (alone e n) = let z = sym e ∙ f in absurd cc
  names_one {q = q} (of_module e n x) (of_module f m y) =
      type_one (sym x
      ∙ ap (λ (k : ℕ). exports k q.name) (module_one (sym n ∙ ap names (some_one (sym e ∙ f)) ∙ m))
      ∙ y)

  module _ (types : Types) where
    formals_one : {xs : List Section} {fs hs : List Formal} → AreFormals types names exports xs fs
        → AreFormals types names exports xs hs → fs ≡ hs
    formals_one headings.no_formal headings.no_formal = refl
    formals_one (headings.section {x = x} n r) (headings.section m q) =
        both (λ (t : TypeNo) (fs : List Formal). formals_of x t ++ fs) (names_one n m)
        (formals_one r q)

    parameters_one :
        {xs : List Parameter} {fs hs : List Formal} → AreParameters types names exports xs fs
        → AreParameters types names exports xs hs → fs ≡ hs
    parameters_one headings.no_parameter headings.no_parameter = refl
    parameters_one (headings.parameter {x = x} n r) (headings.parameter m q) =
        both
        (λ (t : TypeNo) (fs : List Formal).
        let f : Formal = record { is_var = x.is_var; is_open = x.of.is_open; of = t } in f ∷ fs)
        (names_one n m) (parameters_one r q)

    pub gives_back_one : {q : Option Qualified} {t u : Option TypeNo}
        → GivesBack types names exports q t → GivesBack types names exports q u → t ≡ u
    gives_back_one headings.nothing headings.nothing = refl
    gives_back_one (headings.a_result n r) (headings.a_result m q) = ap Some (names_one n m)

    abbrev signature : List Formal → Option TypeNo → Signature
    signature fs t = record { formals = fs; result = t }

    pub heading_one : {h : Heading} {s t : Signature} → IsHeading types names exports h s
        → IsHeading types names exports h t → s ≡ t
    heading_one p q =
        both signature (formals_one p.formals q.formals) (gives_back_one p.result q.result)

    -- ---- subranges

    bound_sort : {e : Expr} {s t : Option TypeNo} {n m : ℤ} → IsTypeBound types names exports e s n
        → IsTypeBound types names exports e t m → s ≡ t
    bound_sort (subranges.is_type_bound f o) (subranges.is_type_bound h p) =
        scalar_sort (constant_one (fixes_one exports names types f h)) o p

    bound_number : {e : Expr} {s t : Option TypeNo} {n m : ℤ}
        → IsTypeBound types names exports e s n → IsTypeBound types names exports e t m → n ≡ m
    bound_number (subranges.is_type_bound f o) (subranges.is_type_bound h p) =
        scalar_number (constant_one (fixes_one exports names types f h)) o p

    named_range : {q : Qualified} {r s : Range} → NamesRange types names exports q r
        → NamesRange types names exports q s → r ≡ s
    named_range {s = s} (subranges.names_range {t = t} n m) (subranges.names_range k l) =
        range_one (one_made types t m
        (subst (λ (u : TypeNo). IsMade types u (shape.Scalar s)) (sym (names_one n k)) l))

    base_one : {u : Option TypeNo} {n : ℤ} {b c : TypeNo} → SelectsIn (Constant u n) b
        → SelectsIn (Constant u n) c → b ≡ c
    base_one cases.constant_type cases.constant_type = refl
    base_one (cases.negative e) (cases.negative f) = refl
    base_one (cases.negative e) (cases.not_negative f) = absurd (clash e f)
    base_one (cases.not_negative e) (cases.negative f) = absurd (clash f e)
    base_one (cases.not_negative e) (cases.not_negative f) = refl

    base_as : {s t u v : Option TypeNo} {a b : Option TypeNo} {n m : ℤ} {c d : TypeNo}
        → s ≡ a
        → t ≡ b
        → n ≡ m
        → GoTogether s t u
        → GoTogether a b v
        → SelectsIn (Constant u n) c
        → SelectsIn (Constant v m) d
        → c ≡ d
    base_as {s = s} {v = v} {b = b} {n = n} {m = m} {d = d} p q e g h x y =
        let w = together_one g (subst (λ (t : Option TypeNo). GoTogether s t v) (sym q)
        (subst (λ (a : Option TypeNo). GoTogether a b v) (sym p) h)) in
        base_one x (subst (λ (u : Option TypeNo). SelectsIn (Constant u n) d) (sym w)
        (subst (λ (m : ℤ). SelectsIn (Constant v m) d) (sym e) y))

    range_same : {b c : TypeNo} {n m k l : ℤ} → b ≡ c → n ≡ m → k ≡ l → ◌≡◌ {A = Range}
        (record { base = b; low = n; high = k }) (record { base = c; low = m; high = l })
    range_same {b = b} {c = c} {n = n} {m = m} {k = k} {l = l} e f h =
        ap (λ (x : TypeNo). let r : Range = record { base = x; low = n; high = k } in r) e
        ∙ ap (λ (x : ℤ). let r : Range = record { base = c; low = x; high = k } in r) f
        ∙ ap (λ (x : ℤ). let r : Range = record { base = c; low = m; high = x } in r) h

    subrange_one : {low high : Expr} {of : Option Qualified} {r s : Range}
        → IsSubrange types names exports low high of r
        → IsSubrange types names exports low high of s
        → r ≡ s
    subrange_one (subranges.of_bounds l h g b e x y) (subranges.of_bounds m i k c f z w) =
        range_same (base_as (bound_sort l m) (bound_sort h i) (bound_number l m) g k b c)
        (bound_number l m) (bound_number h i)
    subrange_one (subranges.of_type n l h u v e) (subranges.of_type k m i x y f) =
        range_same (ap (λ (r : Range). r.base) (named_range n k)) (bound_number l m)
        (bound_number h i)

-- ---- types that may be an index

module _ (exports : ℕ → Ident → Standing) where
  simple_added : {w : Setting} {x : Simple} {a b : Added} {t u : TypeNo}
      → IsSimpleType exports w x a t → IsSimpleType exports w x b u → a ≡ b
  simple_added (rules.named n) (rules.named m) = refl
  simple_added (rules.enumeration e n) (rules.enumeration f m) = refl
  simple_added {w = w} (rules.subrange r) (rules.subrange q) =
      ap (λ (r : Range). type_added (range_made r)) (subrange_one w.names exports w.types r q)

  simple_type : {w : Setting} {x : Simple} {a b : Added} {t u : TypeNo}
      → IsSimpleType exports w x a t → IsSimpleType exports w x b u → t ≡ u
  simple_type {w = w} (rules.named n) (rules.named m) = names_one w.names exports n m
  simple_type (rules.enumeration e n) (rules.enumeration f m) = refl
  simple_type (rules.subrange r) (rules.subrange q) = refl

  simple_one : {w : Setting} {x : Simple} {a b : Added} → SimpleAdds exports w x a
      → SimpleAdds exports w x b → a ≡ b
  simple_one rules.a_name rules.a_name = refl
  simple_one rules.an_enumeration rules.an_enumeration = refl
  simple_one {w = w} (rules.a_subrange r) (rules.a_subrange q) =
      ap (λ (r : Range). type_added (range_made r)) (subrange_one w.names exports w.types r q)
  simple_one (rules.a_subrange r) (rules.no_subrange n) = absurd (n _ r)
  simple_one (rules.no_subrange n) (rules.a_subrange r) = absurd (n _ r)
  simple_one (rules.no_subrange n) (rules.no_subrange m) = refl

  simple_adds : {w : Setting} {x : Simple} {a : Added} {t : TypeNo} → IsSimpleType exports w x a t
      → SimpleAdds exports w x a
  simple_adds (rules.named n) = rules.a_name
  simple_adds (rules.enumeration e n) = rules.an_enumeration
  simple_adds (rules.subrange r) = rules.a_subrange r

  -- ---- layers

  abbrev simple_in : Simple → TypeExpr-F TypeExpr Field → Simple
  simple_in x (layer.Simple y) = y
  simple_in x (layer.Array at i e) = i
  simple_in x other = x

  abbrev elements_in : TypeExpr → TypeExpr-F TypeExpr Field → TypeExpr
  elements_in e (layer.Array at i f) = f
  elements_in e other = e

  abbrev fields_in : List Field → TypeExpr-F TypeExpr Field → List Field
  fields_in fs (layer.Record at gs) = gs
  fields_in fs other = fs

  abbrev parameters_in : List Parameter → TypeExpr-F TypeExpr Field → List Parameter
  parameters_in xs (layer.Procedure at ys q) = ys
  parameters_in xs other = xs

  abbrev result_in : Option Qualified → TypeExpr-F TypeExpr Field → Option Qualified
  result_in q (layer.Procedure at xs r) = r
  result_in q other = q

  module _ {y : TypeExpr-F TypeExpr Field} where
    same_simple : {a b : Simple} → y ≡ layer.Simple a → y ≡ layer.Simple b → a ≡ b
    same_simple {a = a} p q = ap (simple_in a) (sym p ∙ q)

    same_index : {at au : Pos} {a b : Simple} {e f : TypeExpr} → y ≡ layer.Array at a e
        → y ≡ layer.Array au b f → a ≡ b
    same_index {a = a} p q = ap (simple_in a) (sym p ∙ q)

    same_elements : {at au : Pos} {a b : Simple} {e f : TypeExpr} → y ≡ layer.Array at a e
        → y ≡ layer.Array au b f → e ≡ f
    same_elements {e = e} p q = ap (elements_in e) (sym p ∙ q)

    same_fields : {at au : Pos} {fs gs : List Field} → y ≡ layer.Record at fs
        → y ≡ layer.Record au gs → fs ≡ gs
    same_fields {fs = fs} p q = ap (fields_in fs) (sym p ∙ q)

    same_parameters : {at au : Pos} {xs ys : List Parameter} {q r : Option Qualified}
        → y ≡ layer.Procedure at xs q → y ≡ layer.Procedure au ys r → xs ≡ ys
    same_parameters {xs = xs} p s = ap (parameters_in xs) (sym p ∙ s)

    same_result : {at au : Pos} {xs ys : List Parameter} {q r : Option Qualified}
        → y ≡ layer.Procedure at xs q → y ≡ layer.Procedure au ys r → q ≡ r
    same_result {q = q} p s = ap (result_in q) (sym p ∙ s)

  -- ---- all types

  -- the same is added, and it is the same type
  record SameType (a b : Added) (t u : TypeNo) : Type 0 where
    added : a ≡ b
    type : t ≡ u

  array_same : (w : Setting) {a b c d : Added} {i j t u : TypeNo}
      → a ≡ c
      → b ≡ d
      → i ≡ j
      → t ≡ u
      → SameType (array_added w a b i t) (array_added w c d j u)
      (next_type (behind (behind w a) b).types) (next_type (behind (behind w c) d).types)
  array_same w {a = a} {b = b} {c = c} {d = d} {i = i} {j = j} {t = t} {u = u} e f h k = record {
    added = both (λ (a b : Added). array_added w a b i t) e f
        ∙ both (λ (i t : TypeNo). array_added w c d i t) h k;
    type = both (λ (a b : Added). next_type (behind (behind w a) b).types) e f;
  }

  procedure_added : (w : Setting) {xs ys : List Parameter} {q r : Option Qualified}
      {s t : Signature}
      → xs ≡ ys
      → q ≡ r
      → AreParameters w.types w.names exports xs s.formals
      → AreParameters w.types w.names exports ys t.formals
      → GivesBack w.types w.names exports q s.result
      → GivesBack w.types w.names exports r t.result
      → s ≡ t
  procedure_added w {s = s} {t = t} e f a b c d =
      both (signature w.names exports w.types)
      (parameters_one w.names exports w.types a (subst
      (λ (xs : List Parameter). AreParameters w.types w.names exports xs t.formals) (sym e) b))
      (gives_back_one w.names exports w.types c
      (subst (λ (q : Option Qualified). GivesBack w.types w.names exports q t.result) (sym f) d))

  record SameFields (a b : Added) (xs ys : List (List ℕ × TypeNo)) (n m : ℕ) : Type 0 where
    added : a ≡ b
    fields : xs ≡ ys
    cells : n ≡ m

  index_as : {w : Setting} {x y : Simple} {a : Added} {t : TypeNo} → x ≡ y
      → IsSimpleType exports w y a t → IsSimpleType exports w x a t
  index_as {w = w} {a = a} {t = t} e m =
      subst (λ (x : Simple). IsSimpleType exports w x a t) (sym e) m

  type_as : (w : Setting) {a b c : Added} {e f : TypeExpr} {t : TypeNo} → a ≡ b → e ≡ f
      → IsTypeOf exports (behind w b) f c t → IsTypeOf exports (behind w a) e c t
  type_as w {a = a} {c = c} {f = f} {t = t} p q m =
      subst (λ (e : TypeExpr). IsTypeOf exports (behind w a) e c t) (sym q)
      (subst (λ (a : Added). IsTypeOf exports (behind w a) f c t) (sym p) m)

  mutual
    type_of_one : {w : Setting} {e : TypeExpr} {a b : Added} {t u : TypeNo}
        → IsTypeOf exports w e a t → IsTypeOf exports w e b u → SameType a b t u
    type_of_one (rules.is_simple h m) (rules.is_simple k n) =
        let z = index_as (same_simple h k) n in
        record { added = simple_added m z; type = simple_type m z }
    type_of_one {w = w} (rules.is_array h m i n l) (rules.is_array k o j p r) =
        let z = index_as (same_index h k) o in
        let s = type_of_one n (type_as w (simple_added m z) (same_elements h k) p) in
        array_same w (simple_added m z) s.added (simple_type m z) s.type
    type_of_one {w = w} (rules.is_procedure h m n) (rules.is_procedure k o p) = record {
      added = ap (λ (s : Signature). type_added (procedure_made s))
          (procedure_added w (same_parameters h k) (same_result h k) m o n p);
      type = refl;
    }
    type_of_one {w = w} (rules.is_record h m d l)
        (rules.is_record {a = b} {list = ys} {n = n} k o c r) =
        let s = fields_one m
        (subst (λ (fs : List Field). AreFields exports w fs b ys n) (sym (same_fields h k)) o) in
        record {
          added = both both_added s.added
              (both (λ (xs : List (List ℕ × TypeNo)) (n : ℕ). type_added (record_made xs n))
              s.fields s.cells);
          type = ap (λ (a : Added). next_type (behind w a).types) s.added;
        }
    type_of_one (rules.is_simple h m) (rules.is_array k o j p r) = let z = sym h ∙ k in absurd cc
    type_of_one (rules.is_simple h m) (rules.is_procedure k o p) = let z = sym h ∙ k in absurd cc
    type_of_one (rules.is_simple h m) (rules.is_record k o c r) = let z = sym h ∙ k in absurd cc
    type_of_one (rules.is_array h m i n l) (rules.is_simple k o) = let z = sym h ∙ k in absurd cc
    type_of_one (rules.is_array h m i n l) (rules.is_procedure k o p) =
        let z = sym h ∙ k in absurd cc
    type_of_one (rules.is_array h m i n l) (rules.is_record k o c r) =
        let z = sym h ∙ k in absurd cc
    type_of_one (rules.is_procedure h m n) (rules.is_simple k o) = let z = sym h ∙ k in absurd cc
    type_of_one (rules.is_procedure h m n) (rules.is_array k o j p r) =
        let z = sym h ∙ k in absurd cc
    type_of_one (rules.is_procedure h m n) (rules.is_record k o c r) =
        let z = sym h ∙ k in absurd cc
    type_of_one (rules.is_record h m d l) (rules.is_simple k o) = let z = sym h ∙ k in absurd cc
    type_of_one (rules.is_record h m d l) (rules.is_array k o j p r) =
        let z = sym h ∙ k in absurd cc
    type_of_one (rules.is_record h m d l) (rules.is_procedure k o p) =
        let z = sym h ∙ k in absurd cc

    fields_one :
        {w : Setting} {fs : List Field} {a b : Added} {xs ys : List (List ℕ × TypeNo)} {n m : ℕ}
        → AreFields exports w fs a xs n → AreFields exports w fs b ys m → SameFields a b xs ys n m
    fields_one rules.no_field rules.no_field = record { added = refl; fields = refl; cells = refl }
    fields_one {w = w} (rules.a_field {f = f} {rest = rest} {a = a} {ns = ns} {n = n} m r)
        (rules.a_field {a = c} {b = d} {t = u} {ns = ks} {n = k} o q) =
        let s = type_of_one m o in
        let z = fields_one r
        (subst (λ (a : Added). AreFields exports (behind w a) rest d ks k) (sym s.added) q) in
        record {
          added = both both_added s.added z.added;
          fields = both
              (λ (t : TypeNo) (xs : List (List ℕ × TypeNo)). fields_of (out-Field f).names t ++ xs)
              s.type z.fields;
          cells = both
              (λ (a : Added) (t : TypeNo).
              length (out-Field f).names * cells_at (behind w a).types t + n)
              s.added s.type
              ∙ ap (λ (n : ℕ). length (out-Field f).names * cells_at (behind w c).types u + n)
              z.cells;
        }

  pub type_added_one : {w : Setting} {e : TypeExpr} {a b : Added} {t u : TypeNo}
      → IsTypeOf exports w e a t → IsTypeOf exports w e b u → a ≡ b
  type_added_one m n = (type_of_one m n).added

  pub type_number_one : {w : Setting} {e : TypeExpr} {a b : Added} {t u : TypeNo}
      → IsTypeOf exports w e a t → IsTypeOf exports w e b u → t ≡ u
  type_number_one m n = (type_of_one m n).type

  -- ---- what they add

  simple_whole : {w : Setting} {e : TypeExpr} {x : Simple} {a b : Added} {t : TypeNo}
      → out-TypeExpr e ≡ layer.Simple x
      → SimpleAdds exports w x a
      → IsTypeOf exports w e b t
      → a ≡ b
  simple_whole h s (rules.is_simple k m) = simple_one s (simple_adds (index_as (same_simple h k) m))
  simple_whole h s (rules.is_array k o j p r) = let z = sym h ∙ k in absurd cc
  simple_whole h s (rules.is_procedure k o p) = let z = sym h ∙ k in absurd cc
  simple_whole h s (rules.is_record k o c r) = let z = sym h ∙ k in absurd cc

  adding_as : {w : Setting} {x y : Simple} {a : Added} → x ≡ y → SimpleAdds exports w y a
      → SimpleAdds exports w x a
  adding_as {w = w} {a = a} e m = subst (λ (x : Simple). SimpleAdds exports w x a) (sym e) m

  adds_as : (w : Setting) {a b c : Added} {e f : TypeExpr} → a ≡ b → e ≡ f
      → Adds exports (behind w b) f c → Adds exports (behind w a) e c
  adds_as w {a = a} {c = c} {f = f} p q m =
      subst (λ (e : TypeExpr). Adds exports (behind w a) e c) (sym q)
      (subst (λ (a : Added). Adds exports (behind w a) f c) (sym p) m)

  mutual
    pub adds_one : {w : Setting} {e : TypeExpr} {a b : Added} → Adds exports w e a
        → Adds exports w e b → a ≡ b
    adds_one (rules.simple_adds h s) (rules.simple_adds k r) =
        simple_one s (adding_as (same_simple h k) r)
    adds_one (rules.simple_adds h s) (rules.right_adds m) = simple_whole h s m
    adds_one (rules.simple_adds h s) (rules.parts_add k n r q) = let z = sym h ∙ k in absurd cc
    adds_one (rules.simple_adds h s) (rules.no_procedure k n) = let z = sym h ∙ k in absurd cc
    adds_one (rules.simple_adds h s) (rules.fields_add k n q) = let z = sym h ∙ k in absurd cc
    adds_one (rules.right_adds m) (rules.simple_adds h s) = sym (simple_whole h s m)
    adds_one (rules.right_adds m) (rules.right_adds n) = type_added_one m n
    adds_one (rules.right_adds m) (rules.parts_add k n r q) = absurd (n _ _ m)
    adds_one (rules.right_adds m) (rules.no_procedure k n) = absurd (n _ _ m)
    adds_one (rules.right_adds m) (rules.fields_add k n q) = absurd (n _ _ m)
    adds_one (rules.parts_add h n s p) (rules.simple_adds k r) = let z = sym h ∙ k in absurd cc
    adds_one (rules.parts_add h n s p) (rules.right_adds m) = absurd (n _ _ m)
    adds_one {w = w} (rules.parts_add h n s p) (rules.parts_add k m r q) =
        let z = simple_one s (adding_as (same_index h k) r) in
        both both_added z (adds_one p (adds_as w z (same_elements h k) q))
    adds_one (rules.parts_add h n s p) (rules.no_procedure k m) = let z = sym h ∙ k in absurd cc
    adds_one (rules.parts_add h n s p) (rules.fields_add k m q) = let z = sym h ∙ k in absurd cc
    adds_one (rules.no_procedure h n) (rules.simple_adds k r) = let z = sym h ∙ k in absurd cc
    adds_one (rules.no_procedure h n) (rules.right_adds m) = absurd (n _ _ m)
    adds_one (rules.no_procedure h n) (rules.parts_add k m r q) = let z = sym h ∙ k in absurd cc
    adds_one (rules.no_procedure h n) (rules.no_procedure k m) = refl
    adds_one (rules.no_procedure h n) (rules.fields_add k m q) = let z = sym h ∙ k in absurd cc
    adds_one (rules.fields_add h n p) (rules.simple_adds k r) = let z = sym h ∙ k in absurd cc
    adds_one (rules.fields_add h n p) (rules.right_adds m) = absurd (n _ _ m)
    adds_one (rules.fields_add h n p) (rules.parts_add k m r q) = let z = sym h ∙ k in absurd cc
    adds_one (rules.fields_add h n p) (rules.no_procedure k m) = let z = sym h ∙ k in absurd cc
    adds_one {w = w} {b = b} (rules.fields_add h n p) (rules.fields_add k m q) =
        fields_add_one p
        (subst (λ (fs : List Field). FieldsAdd exports w fs b) (sym (same_fields h k)) q)

    fields_add_one : {w : Setting} {fs : List Field} {a b : Added} → FieldsAdd exports w fs a
        → FieldsAdd exports w fs b → a ≡ b
    fields_add_one rules.nothing_adds rules.nothing_adds = refl
    fields_add_one {w = w} (rules.each_adds {rest = rest} p r) (rules.each_adds {b = d} q s) =
        let z = adds_one p q in
        both both_added z
        (fields_add_one r (subst (λ (a : Added). FieldsAdd exports (behind w a) rest d) (sym z) s))
