-- The types that type expressions make.
use Rattle.std.specs.Prelude.{ℕ, ◌+◌, ℤ, pos, ◌-ℤ◌, Bool, not, cond, nat_lt, List, [], ◌∷◌, ◌++◌, length, Option, Some, None, Result, Ok, Err, slice_get}
use Rattle.std.specs.List.{fold}
use Rattle.m2_rule.specs.declared.rule.Rule.TheVariants as rule
use Rattle.m2_tree.specs.declared.pos.Pos.{Pos}
use Rattle.m2_tree.specs.declared.name.Ident.{Ident}
use Rattle.m2_tree.specs.declared.expr.Qualified.{Qualified}
use Rattle.m2_tree.specs.declared.decl.Simple.{Simple}
use Rattle.m2_tree.specs.declared.decl.Simple.TheVariants as simple
use Rattle.m2_tree.specs.declared.decl.TypeExpr.{TypeExpr, TypeExpr-F, fold-TypeExpr}
use Rattle.m2_tree.specs.declared.decl.TypeExpr.TheOpen as layer
use Rattle.m2_tree.specs.declared.decl.Field.{Field, Field-F, fold-Field}
use Rattle.typed_tree.specs.declared.types.Home.TheVariants.{Module}
use Rattle.typed_tree.specs.declared.types.TypeNo.{TypeNo}
use Rattle.typed_tree.specs.declared.shape.Scalar.{Scalar}
use Rattle.typed_tree.specs.declared.shape.Shape.TheVariants as shape
use Rattle.typed_tree.specs.declared.shape.Made.{Made}
use Rattle.typed_tree.specs.declared.meaning.Value.TheVariants as value
use Rattle.typed_tree.specs.declared.meaning.Meaning.{Meaning}
use Rattle.typed_tree.specs.declared.meaning.Meaning.TheVariants as meaning
use Rattle.typed_tree.specs.Types.{integer}
use Rattle.typed_tree.specs.declared.known_types.Types.{Types}
use Rattle.check_scope.specs.declared.scope.Scope.{Scope}
use Rattle.typed_tree.specs.Known.{scalar_at, cells_at}
use Rattle.check_scope.specs.Scopes.{State, declare_name}
use Rattle.check_scope.specs.Elaborated.{Gathers, least, report, reported_where, both, beside, ◌▷◌}
use Rattle.check_const.specs.declared.operand.Ordinal.{Ordinal}
use Rattle.check_const.specs.Parts.{Part, constant}
use Rattle.check_expr.specs.Meanings.{part}
use Rattle.check_type_expr.specs.declared.field.Fields.{Fields}
use Rattle.check_type_expr.specs.Named.{first_of, named_type}
use Rattle.check_type_expr.specs.Cells.{count_at, array_cells, is_index}
use Rattle.check_type_expr.specs.Subranges.{bound_of, subrange_between, under}
use Rattle.check_type_expr.specs.Fields.{no_fields, with_name}
use Rattle.check_type_expr.specs.Headings.{procedure_type}
use Rattle.m2_tree.specs.Limits.{max_cells, max_constants}

-- ---- new types: each constructor makes one

abbrev pub next_type : {T : Type 0} → Scope T → TypeNo
next_type s = record { home = Module s.types.home; number = length s.types.own }

abbrev pub with_shape : {T : Type 0} → Scope T → Made → Scope T
with_shape s m = record s { types = record s.types { own = s.types.own ++ m ∷ [] } }

abbrev pub with_made : {T : Type 0} → Scope T → Result Made T → State TypeNo T
with_made s (Ok m) = (with_shape s m, Ok (next_type s))
with_made s (Err e) = (s, Err e)

abbrev pub scalar_made : {T : Type 0} → Result Scalar T → Result Made T
scalar_made sc = sc ▷ λ x. Ok (record { shape = shape.Scalar x; cells = 1 })

-- ---- enumerations

abbrev pub reported_at : (g : Gathers) → Option Ident → Result (Unit {0}) g.Reported
reported_at g None = Ok tt
reported_at g (Some name) = report g name.pos rule.ConstantCount

-- the 257th constant
abbrev pub too_many : (g : Gathers) → List Ident → Result (Unit {0}) g.Reported
too_many g names = reported_at g (slice_get names max_constants)

abbrev pub enumeration_constant : TypeNo → ℤ → Meaning
enumeration_constant t n = meaning.Constant (value.Scalar (record { of = t; base = t; number = n }))

abbrev pub enumeration_scalar : TypeNo → List Ident → Made
enumeration_scalar t names = record {
  shape = shape.Scalar (record { base = t; low = pos 0; high = pos (length names) -ℤ pos 1 });
  cells = 1;
}

-- the constants: names so far, the next number, and what is reported
abbrev pub enumerate_name : (g : Gathers) → TypeNo
    → Scope g.Reported × ℕ × Result (Unit {0}) g.Reported → Ident
    → Scope g.Reported × ℕ × Result (Unit {0}) g.Reported
enumerate_name g t l name =
    let d = declare_name g l.0 name (Ok (enumeration_constant t (pos l.1))) in
    (d.0, l.1 + 1, beside g l.2 d.1)

abbrev pub enumeration_of : (g : Gathers) → TypeNo → Scope g.Reported → Result (Unit {0}) g.Reported
    → List Ident → Scope g.Reported × ℕ × Result (Unit {0}) g.Reported
enumeration_of g t s before names = fold (enumerate_name g t) (s, 0, before) names

abbrev pub enumeration : (g : Gathers) → Scope g.Reported → List Ident → State TypeNo g.Reported
enumeration g s names =
    let t = next_type s in
    let l =
    enumeration_of g t (with_shape s (enumeration_scalar t names)) (too_many g names) names in
    (l.0, l.2 ▷ λ fine. Ok t)

-- ---- subranges

abbrev pub scalar_or : (g : Gathers) → Pos → Option Scalar → Result Scalar g.Reported
scalar_or g at None = report g at rule.NoType
scalar_or g at (Some sc) = Ok sc

abbrev pub scalar_in : (g : Gathers) → Types → Pos → Result TypeNo g.Reported
    → Result Scalar g.Reported
scalar_in g types at t = t ▷ λ x. scalar_or g at (scalar_at types x)

-- the scalar type of a subrange's name
abbrev pub scalar_named : (g : Gathers) → Scope g.Reported → Qualified → Result Scalar g.Reported
scalar_named g s q = scalar_in g s.types (first_of q) (named_type g s q)

abbrev pub bound_at : (g : Gathers) → Scope g.Reported → Part g.Reported → Result Ordinal g.Reported
bound_at g s e = bound_of g e.at (constant g s e)

abbrev pub subrange : (g : Gathers) → Scope g.Reported → Option Qualified → Part g.Reported
    → Part g.Reported → Result Scalar g.Reported
subrange g s None low high =
    subrange_between g low.at (bound_at g s low) high.at (bound_at g s high)
subrange g s (Some q) low high =
    under g (scalar_named g s q) low.at (bound_at g s low) high.at (bound_at g s high)

-- ---- simple types

abbrev pub subrange_place : Option Qualified → Pos → Pos
subrange_place None at = at
subrange_place (Some q) at = first_of q

abbrev pub simple_place : Simple → Pos
simple_place (simple.Named q) = first_of q
simple_place (simple.Enumeration at names) = at
simple_place (simple.Subrange of at low high) = subrange_place of at

abbrev pub simple_type : (g : Gathers) → Scope g.Reported → Simple → State TypeNo g.Reported
simple_type g s (simple.Named q) = (s, named_type g s q)
simple_type g s (simple.Enumeration at names) = enumeration g s names
simple_type g s (simple.Subrange of at low high) =
    with_made s (scalar_made (subrange g s of (part g low) (part g high)))

-- ---- arrays

abbrev pub index_in : (g : Gathers) → Types → Pos → Result TypeNo g.Reported
    → Result TypeNo g.Reported
index_in g types at t = t ▷ λ x. reported_where g (not (is_index types x)) at rule.NoIndex (Ok x)

abbrev pub array_in : (g : Gathers) → Types → Pos → TypeNo → TypeNo → Result Made g.Reported
array_in g types at i e =
    array_cells g at (count_at types i) (cells_at types e) ▷ λ n.
    Ok (record { shape = shape.Array i e; cells = n })

abbrev pub array_of : (g : Gathers) → Types → Pos → Result TypeNo g.Reported
    → Result TypeNo g.Reported → Result Made g.Reported
array_of g types at i e = both g i e ▷ λ p. array_in g types at p.0 p.1

abbrev pub index_type : (g : Gathers) → Scope g.Reported → Simple → State TypeNo g.Reported
index_type g s t = let i = simple_type g s t in (i.0, index_in g i.0.types (simple_place t) i.1)

abbrev pub array_made : (g : Gathers) → Pos → Scope g.Reported → Result TypeNo g.Reported
    → Result TypeNo g.Reported → State TypeNo g.Reported
array_made g at s i e = with_made s (array_of g s.types at i e)

-- ---- records

-- a field whose type is broken stands for its name alone
abbrev pub field_type : {T : Type 0} → Result TypeNo T → TypeNo
field_type (Ok t) = t
field_type (Err e) = integer

abbrev pub nothing_of : {T : Type 0} → Result TypeNo T → Result (Unit {0}) T
nothing_of t = t ▷ λ x. Ok tt

abbrev pub record_in : (g : Gathers) → Pos → Fields → Result Made g.Reported
record_in g at fs =
    reported_where g (nat_lt max_cells fs.cells) at rule.LargeType
    (Ok (record { shape = shape.Record fs.names; cells = fs.cells }))

abbrev pub record_of : (g : Gathers) → Pos → Fields → Result (Unit {0}) g.Reported
    → Result Made g.Reported
record_of g at fs elaborated = elaborated ▷ λ fine. record_in g at fs

-- ---- type expressions

module _ (g : Gathers) where
  abbrev pub Makes : Type 0
  Makes = Scope g.Reported → State TypeNo g.Reported

  -- the scope, the fields so far, and what is reported
  abbrev pub MakesFields : Type 0
  MakesFields =
      Scope g.Reported × Fields × Result (Unit {0}) g.Reported
      → Scope g.Reported × Fields × Result (Unit {0}) g.Reported

  abbrev pub then_fields : Scope g.Reported × Fields × Result (Unit {0}) g.Reported → MakesFields
      → Scope g.Reported × Fields × Result (Unit {0}) g.Reported
  then_fields st f = f st

  abbrev pub array_type : Pos → State TypeNo g.Reported → Makes → State TypeNo g.Reported
  array_type at i of = let e = of i.0 in array_made g at e.0 i.1 e.1

  abbrev pub record_type : Pos → Scope g.Reported × Fields × Result (Unit {0}) g.Reported
      → State TypeNo g.Reported
  record_type at st = with_made st.0 (record_of g at st.1 st.2)

  abbrev pub type_layer : TypeExpr-F Makes MakesFields → Makes
  type_layer (layer.Simple t) = λ s. simple_type g s t
  type_layer (layer.Array at index of) = λ s. array_type at (index_type g s index) of
  type_layer (layer.Record at fields) =
      λ s. record_type at (fold then_fields (s, no_fields, Ok tt) fields)
  type_layer (layer.Procedure at formals of) = λ s. with_made s (procedure_type g s formals of)

  abbrev pub fields_named : State TypeNo g.Reported → List Ident → Fields
      → Result (Unit {0}) g.Reported → Scope g.Reported × Fields × Result (Unit {0}) g.Reported
  fields_named m names fs before =
      let of = field_type m.1 in
      let all =
      fold (with_name g of (cells_at m.0.types of)) (fs, beside g before (nothing_of m.1)) names in
      (m.0, all.0, all.1)

  abbrev pub field_layer : Field-F Makes MakesFields → MakesFields
  field_layer f = λ st. fields_named (f.of st.0) f.names st.1 st.2

  unfoldable pub type_of : TypeExpr → Makes
  type_of = fold-TypeExpr Makes MakesFields type_layer field_layer

  unfoldable pub field_list : Field → MakesFields
  field_list = fold-Field Makes MakesFields type_layer field_layer

abbrev pub with_field_list : Scope (least).Reported × Fields × Result (Unit {0}) (least).Reported
    → Field → Scope (least).Reported × Fields × Result (Unit {0}) (least).Reported
with_field_list st f = field_list least f st
