-- What an implementation module knows of its own definition.
use Rattle.std.specs.Prelude.{ℕ, ◌==◌, cond, List, [], ◌∷◌, ◌++◌, map, Ok}
use Rattle.std.specs.List.{fold}
use Rattle.typed_tree.specs.declared.types.TypeNo.{TypeNo}
use Rattle.typed_tree.specs.declared.shape.Shape.{Shape}
use Rattle.typed_tree.specs.declared.shape.Shape.TheVariants as shape
use Rattle.typed_tree.specs.declared.shape.Made.{Made}
use Rattle.typed_tree.specs.declared.meaning.Meaning.{Meaning}
use Rattle.typed_tree.specs.declared.meaning.Meaning.TheVariants as meaning
use Rattle.typed_tree.specs.declared.known_types.Types.{Types}
use Rattle.typed_tree.specs.declared.table.ModuleTypes.{ModuleTypes}
use Rattle.typed_tree.specs.declared.table.Table.{Table}
use Rattle.typed_tree.specs.Names.{enter_name}
use Rattle.check_scope.specs.declared.known.Origin.TheVariants.{Here}
use Rattle.check_scope.specs.declared.known.Known.{Known}
use Rattle.check_scope.specs.declared.known.Known.TheVariants.{Declared}
use Rattle.check_scope.specs.declared.scope.Scope.{Scope}
use Rattle.check_definition.specs.Predeclared.{with_table, first_scope}

-- ---- names: all that the definition declares

abbrev pub with_own_name : {T : Type 0} → List (List ℕ × Known T) → List ℕ × Meaning
    → List (List ℕ × Known T)
with_own_name ns e = enter_name e.0 (Declared Here (Ok e.1)) ns

abbrev pub own_names : {T : Type 0} → List (List ℕ × Meaning) → List (List ℕ × Known T)
own_names exported = fold with_own_name [] exported

-- ---- variables and procedures, by their numbers

abbrev pub with_variable_of : List TypeNo → Meaning → List TypeNo
with_variable_of ts (meaning.Variable v) = ts ++ v.of ∷ []
with_variable_of ts (meaning.Constant v) = ts
with_variable_of ts (meaning.Type t n) = ts
with_variable_of ts (meaning.Local v) = ts
with_variable_of ts (meaning.Field f) = ts
with_variable_of ts (meaning.Procedure p) = ts
with_variable_of ts (meaning.LocalProcedure p) = ts
with_variable_of ts meaning.Ahead = ts
with_variable_of ts (meaning.Standard f) = ts
with_variable_of ts (meaning.Module k) = ts

abbrev pub with_exported_variable : List TypeNo → List ℕ × Meaning → List TypeNo
with_exported_variable ts e = with_variable_of ts e.1

abbrev pub exported_variables : List (List ℕ × Meaning) → List TypeNo
exported_variables exported = fold with_exported_variable [] exported

abbrev pub with_heading_of : List TypeNo → Meaning → List TypeNo
with_heading_of ts (meaning.Procedure p) = ts ++ p.heading ∷ []
with_heading_of ts (meaning.Constant v) = ts
with_heading_of ts (meaning.Type t n) = ts
with_heading_of ts (meaning.Variable v) = ts
with_heading_of ts (meaning.Local v) = ts
with_heading_of ts (meaning.Field f) = ts
with_heading_of ts (meaning.LocalProcedure p) = ts
with_heading_of ts meaning.Ahead = ts
with_heading_of ts (meaning.Standard f) = ts
with_heading_of ts (meaning.Module k) = ts

abbrev pub with_exported_heading : List TypeNo → List ℕ × Meaning → List TypeNo
with_exported_heading ts e = with_heading_of ts e.1

abbrev pub exported_headings : List (List ℕ × Meaning) → List TypeNo
exported_headings exported = fold with_exported_heading [] exported

-- ---- types

abbrev pub with_field_copy : List (List ℕ × TypeNo) → List ℕ × TypeNo → List (List ℕ × TypeNo)
with_field_copy fs e = enter_name e.0 e.1 fs

-- a record has each field once, so these are the same fields
abbrev pub fields_copy : List (List ℕ × TypeNo) → List (List ℕ × TypeNo)
fields_copy fs = fold with_field_copy [] fs

abbrev pub shape_copy : Shape → Shape
shape_copy (shape.Record fs) = shape.Record (fields_copy fs)
shape_copy (shape.Scalar s) = shape.Scalar s
shape_copy shape.Set = shape.Set
shape_copy (shape.Array i e) = shape.Array i e
shape_copy (shape.Procedure h) = shape.Procedure h
shape_copy (shape.Open e) = shape.Open e

abbrev pub made_copy : Made → Made
made_copy m = record { shape = shape_copy m.shape; cells = m.cells }

-- the types that a module makes
abbrev pub types_made_in : ℕ → List ModuleTypes → List Made
types_made_in home [] = []
types_made_in home (m ∷ ms) = cond (m.number == home) m.made (types_made_in home ms)

abbrev pub own_types : Table → List Made
own_types own = map made_copy (types_made_in own.number own.reached)

-- the types of the definition come first among the module's own
abbrev pub with_own_types : Types → Table → Types
with_own_types types own =
    record { home = types.home; own = own_types own; others = with_table types.others own }

-- ---- where an implementation module begins

abbrev pub with_own : {T : Type 0} → Scope T → Table → Scope T
with_own s own = record s {
  types = with_own_types s.types own;
  variables = exported_variables own.exported;
  procedures = exported_headings own.exported;
  own = own_names own.exported;
}

abbrev pub implementation_scope : {T : Type 0} → Table → List Table → Scope T
implementation_scope own tables = with_own (first_scope own.number tables) own
