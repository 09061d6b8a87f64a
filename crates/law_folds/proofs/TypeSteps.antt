-- What a new shape and the constants of an enumeration keep, all types keep that are made.
use Rattle.std.proofs.Common.{◌≡◌, ℕ, true, ℤ, pos, List, [], ◌∷◌, Result, Ok, Err, refl, sym, subst}
use Rattle.std.specs.Prelude.{map}
use Rattle.std.specs.List.{fold}
use Rattle.m2_rule.specs.declared.rule.Rule.TheVariants as rule
use Rattle.m2_tree.specs.declared.name.Ident.{Ident}
use Rattle.m2_tree.specs.declared.decl.Heading.{Heading}
use Rattle.m2_tree.specs.declared.decl.Simple.{Simple}
use Rattle.m2_tree.specs.declared.decl.Simple.TheVariants as simple
use Rattle.m2_tree.specs.declared.decl.TypeExpr.{TypeExpr, TypeExpr-F}
use Rattle.m2_tree.specs.declared.decl.TypeExpr.TheOpen as layer
use Rattle.m2_tree.specs.declared.decl.Field.{Field, out-Field}
use Rattle.typed_tree.specs.declared.shape.Made.{Made}
use Rattle.typed_tree.specs.declared.types.TypeNo.{TypeNo}
use Rattle.typed_tree.specs.Names.{find_name}
use Rattle.check_scope.specs.Elaborated.{Gathers, report}
use Rattle.check_scope.specs.Scopes.{is_free, with_known, unless_declared}
use Rattle.check_scope.specs.declared.known.Known.{Known}
use Rattle.check_scope.specs.declared.known.Known.TheVariants.{Declared}
use Rattle.check_scope.specs.declared.known.Origin.TheVariants.{Here}
use Rattle.check_scope.specs.declared.scope.Scope.{Scope}
use Rattle.check_type_expr.specs.declared.field.Fields.{Fields}
use Rattle.check_type_expr.specs.Fields.{no_fields}
use Rattle.check_type_expr.specs.Headings.{heading_of}
use Rattle.check_type_expr.specs.Made.{next_type, with_shape, with_made, enumeration_constant, enumeration_scalar, too_many, enumerate_name, simple_type, index_type, Makes, MakesFields, then_fields, type_layer, field_layer, type_of, field_list}
use Rattle.law_folds.proofs.Orders.{IsOrder, either, steps}
use Rattle.law_folds.proofs.TypeFolds.{Typed, Fielded, bare, all_trees, types_opened, types_at, fields_at}

-- a name that is free is declared
module _ (g : Gathers) {R : Scope g.Reported → Scope g.Reported → Type 0} (o : IsOrder R) where
  pub unless_keeps : (s : Scope g.Reported) (name : Ident) (k : Known g.Reported)
      → (is_free (find_name name.name s.own) ≡ true → R s (with_known name.name k s))
      → R s (unless_declared g s name k).0
  unless_keeps s name k h =
      either o s (is_free (find_name name.name s.own)) (with_known name.name k s, Ok tt)
      (s, report g name.pos rule.DeclaredTwice) h (o.same s)

pub record KeepsShapes (g : Gathers) (R : Scope g.Reported → Scope g.Reported → Type 0) : Type 0 where
  pub order : IsOrder R
  pub shaped : (s : Scope g.Reported) (m : Made) → R s (with_shape s m)
  pub listed : (s : Scope g.Reported) (name : List ℕ) (t : TypeNo) (n : ℤ) → is_free (find_name name s.own) ≡ true
      → R s (with_known name (Declared Here (Ok (enumeration_constant t n))) s)

module _ (g : Gathers) {R : Scope g.Reported → Scope g.Reported → Type 0} (k : KeepsShapes g R) where
  abbrev Listed : Type 0
  Listed = Scope g.Reported × ℕ × Result (Unit {0}) g.Reported

  abbrev WithFields : Type 0
  WithFields = Scope g.Reported × Fields × Result (Unit {0}) g.Reported

  pub made_keeps : (s : Scope g.Reported) (r : Result Made g.Reported) → R s (with_made s r).0
  made_keeps s (Ok m) = k.shaped s m
  made_keeps s (Err e) = k.order.same s

  pub listed_keeps : (t : TypeNo) (l : Listed) (x : Ident) → R l.0 (enumerate_name g t l x).0
  listed_keeps t l x =
      unless_keeps g k.order l.0 x (Declared Here (Ok (enumeration_constant t (pos l.1))))
      (k.listed l.0 x.name t (pos l.1))

  pub simple_keeps : (s : Scope g.Reported) (t : Simple) → R s (simple_type g s t).0
  simple_keeps s (simple.Named q) = k.order.same s
  simple_keeps s (simple.Enumeration at names) =
      let t : TypeNo = next_type s in
      let a : Scope g.Reported = with_shape s (enumeration_scalar t names) in
      k.order.next s a _ (k.shaped s (enumeration_scalar t names))
      (steps k.order (λ (l : Listed). l.0) (enumerate_name g t) (listed_keeps t) names (a, 0, too_many g names))
  simple_keeps s (simple.Subrange of at low high) = made_keeps s _

  abbrev AreKept : Makes g → Type 0
  AreKept f = (s : Scope g.Reported) → R s (f s).0

  abbrev FieldsKept : MakesFields g → Type 0
  FieldsKept f = (st : WithFields) → R st.0 (f st).0

  abbrev Trees : Type 0
  Trees = Typed (type_of g) (field_list g) (λ t f. AreKept f) (λ d f. FieldsKept f)

  abbrev Lists : Type 0
  Lists = Fielded (type_of g) (field_list g) (λ t f. AreKept f) (λ d f. FieldsKept f)

  lists_keep : (fs : List Lists) (st : WithFields)
      → R st.0 (fold (then_fields g) st (map (field_list g) (map (λ (f : Lists). f.0) fs))).0
  lists_keep [] st = k.order.same st.0
  lists_keep (f ∷ fs) st = k.order.next st.0 (field_list g f.0 st).0 _ (f.1 st) (lists_keep fs (field_list g f.0 st))

  abbrev stripped : TypeExpr-F Trees Lists → TypeExpr-F TypeExpr Field
  stripped y = bare (type_of g) (field_list g) (λ t f. AreKept f) (λ d f. FieldsKept f) y

  layer_keeps : (y : TypeExpr-F Trees Lists) → AreKept (type_layer g (types_opened g (stripped y)))
  layer_keeps (layer.Simple t) s = simple_keeps s t
  layer_keeps (layer.Array at index t) s =
      let i : Scope g.Reported = (index_type g s index).0 in
      k.order.next s i _ (simple_keeps s index)
      (k.order.next i (type_of g t.0 i).0 _ (t.1 i) (made_keeps (type_of g t.0 i).0 _))
  layer_keeps (layer.Record at fields) s =
      let st : WithFields = (s, no_fields, Ok tt) in k.order.next s _ _ (lists_keep fields st) (made_keeps _ _)
  layer_keeps (layer.Procedure at formals of) s = made_keeps s _

  pub type_keeps : (t : TypeExpr) (s : Scope g.Reported) → R s (type_of g t s).0
  type_keeps =
      all_trees (type_of g) (field_list g) (λ t f. AreKept f) (λ d f. FieldsKept f) (type_layer g) (field_layer g)
      (types_at g) (fields_at g) layer_keeps (λ y st. y.of.1 st.0)

  pub field_list_keeps : (d : Field) (st : WithFields) → R st.0 (field_list g d st).0
  field_list_keeps d st =
      subst (λ (f : MakesFields g). R st.0 (f st).0) (sym (fields_at g d (out-Field d) refl))
      (type_keeps (out-Field d).of st.0)

-- ---- types, and the headings of procedures

pub record KeepsTypes (g : Gathers) (R : Scope g.Reported → Scope g.Reported → Type 0) : Type 0 where
  pub order : IsOrder R
  pub types : (t : TypeExpr) (s : Scope g.Reported) → R s (type_of g t s).0
  pub headings : (s : Scope g.Reported) (h : Heading) → R s (with_made s (heading_of g s h)).0

pub by_shapes : (g : Gathers) {R : Scope g.Reported → Scope g.Reported → Type 0} → KeepsShapes g R → KeepsTypes g R
by_shapes g k =
    record { order = k.order; types = type_keeps g k; headings = λ s h. made_keeps g k s (heading_of g s h) }
