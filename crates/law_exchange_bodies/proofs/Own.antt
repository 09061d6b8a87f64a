-- Own of check_body, with other numbers of modules.
use Rattle.check_body.specs.Own.{with_own, shape_copy, implementation_scope, with_own_name, with_heading_of, fields_copy, types_made_in, with_exported_heading, with_field_copy, made_copy, own_types, with_own_types, own_names, with_variable_of, exported_headings, with_exported_variable, exported_variables}
use Rattle.check_scope.specs.declared.known.Known.{Known}
use Rattle.check_scope.specs.declared.scope.Scope.{Scope}
use Rattle.def_exchange.specs.Moved.{moved_made, moved_meaning, moved_reached, moved_shape, moved_table, moved_type, moved_types, Exchange}
use Rattle.law_exchange_bodies.proofs.Predeclared.{with_table_moves}
use Rattle.law_exchange_types.proofs.Basics.{cond_map, same_number, folds_move, enter_moves}
use Rattle.law_exchange_types.specs.Pieces.{moved_entries, moved_pair, same}
use Rattle.law_exchange_types.specs.Scopes.{moved_names, moved_scope, moved_known}
use Rattle.std.proofs.Common.{◌≡◌, refl, List, map, ℕ, ◌∷◌, [], ap, ap₂, ◌∙◌, Ok}
use Rattle.std.proofs.lemmas.List.{map-append}
use Rattle.typed_tree.specs.declared.known_types.Types.{Types}
use Rattle.typed_tree.specs.declared.meaning.Meaning.{Meaning}
use Rattle.typed_tree.specs.declared.shape.Made.{Made}
use Rattle.typed_tree.specs.declared.shape.Shape.{Shape}
use Rattle.typed_tree.specs.declared.table.ModuleTypes.{ModuleTypes}
use Rattle.typed_tree.specs.declared.table.Table.{Table}
use Rattle.typed_tree.specs.declared.types.TypeNo.{TypeNo}
use Rattle.typed_tree.specs.declared.shape.Shape.TheVariants as shape
use Rattle.typed_tree.specs.declared.meaning.Meaning.TheVariants as meaning
use Rattle.check_scope.specs.declared.known.Origin.TheVariants.{Here}
use Rattle.check_scope.specs.declared.known.Known.TheVariants.{Declared}
use Rattle.law_exchange_bodies.proofs.Pieces.{map_same}
use Rattle.check_definition.specs.Predeclared.{first_scope}
use Rattle.law_exchange_types.proofs.Begin.{first_moves}

pub with_own_name_moves : (z : Exchange) {T : Type 0} (ns : List (List ℕ × Known T)) (e : List ℕ × Meaning)
    → with_own_name (moved_names z ns) (moved_pair same (moved_meaning z) e) ≡ moved_names z (with_own_name ns e)
with_own_name_moves z ns e = enter_moves (moved_known z) e.0 (Declared Here (Ok e.1)) ns

pub own_names_moves : (z : Exchange) {T : Type 0} (exported : List (List ℕ × Meaning))
    → own_names {T = T} (moved_entries (moved_meaning z) exported) ≡ moved_names z (own_names {T = T} exported)
own_names_moves z {T} exported =
    folds_move (moved_names z {T = T}) (moved_pair same (moved_meaning z)) with_own_name with_own_name
    (with_own_name_moves z {T = T}) [] exported

pub with_variable_of_moves : (z : Exchange) (ts : List TypeNo) (m : Meaning)
    → with_variable_of (map (moved_type z) ts) (moved_meaning z m) ≡ map (moved_type z) (with_variable_of ts m)
with_variable_of_moves z ts (meaning.Variable v) = simp (map-append)
with_variable_of_moves z ts (meaning.Constant v) = refl
with_variable_of_moves z ts (meaning.Type t n) = refl
with_variable_of_moves z ts (meaning.Local v) = refl
with_variable_of_moves z ts (meaning.Field f) = refl
with_variable_of_moves z ts (meaning.Procedure p) = refl
with_variable_of_moves z ts (meaning.LocalProcedure p) = refl
with_variable_of_moves z ts meaning.Ahead = refl
with_variable_of_moves z ts (meaning.Standard f) = refl
with_variable_of_moves z ts (meaning.Module k) = refl

pub with_exported_variable_moves : (z : Exchange) (ts : List TypeNo) (e : List ℕ × Meaning)
    → with_exported_variable (map (moved_type z) ts) (moved_pair same (moved_meaning z) e)
    ≡ map (moved_type z) (with_exported_variable ts e)
with_exported_variable_moves z ts e = with_variable_of_moves z ts e.1

pub exported_variables_moves : (z : Exchange) (exported : List (List ℕ × Meaning))
    → exported_variables (moved_entries (moved_meaning z) exported) ≡ map (moved_type z) (exported_variables exported)
exported_variables_moves z exported =
    folds_move (map (moved_type z)) (moved_pair same (moved_meaning z)) with_exported_variable with_exported_variable
    (with_exported_variable_moves z) [] exported

pub with_heading_of_moves : (z : Exchange) (ts : List TypeNo) (m : Meaning)
    → with_heading_of (map (moved_type z) ts) (moved_meaning z m) ≡ map (moved_type z) (with_heading_of ts m)
with_heading_of_moves z ts (meaning.Procedure p) = simp (map-append)
with_heading_of_moves z ts (meaning.Constant v) = refl
with_heading_of_moves z ts (meaning.Type t n) = refl
with_heading_of_moves z ts (meaning.Variable v) = refl
with_heading_of_moves z ts (meaning.Local v) = refl
with_heading_of_moves z ts (meaning.Field f) = refl
with_heading_of_moves z ts (meaning.LocalProcedure p) = refl
with_heading_of_moves z ts meaning.Ahead = refl
with_heading_of_moves z ts (meaning.Standard f) = refl
with_heading_of_moves z ts (meaning.Module k) = refl

pub with_exported_heading_moves : (z : Exchange) (ts : List TypeNo) (e : List ℕ × Meaning)
    → with_exported_heading (map (moved_type z) ts) (moved_pair same (moved_meaning z) e)
    ≡ map (moved_type z) (with_exported_heading ts e)
with_exported_heading_moves z ts e = with_heading_of_moves z ts e.1

pub exported_headings_moves : (z : Exchange) (exported : List (List ℕ × Meaning))
    → exported_headings (moved_entries (moved_meaning z) exported) ≡ map (moved_type z) (exported_headings exported)
exported_headings_moves z exported =
    folds_move (map (moved_type z)) (moved_pair same (moved_meaning z)) with_exported_heading with_exported_heading
    (with_exported_heading_moves z) [] exported

pub with_field_copy_moves : (z : Exchange) (fs : List (List ℕ × TypeNo)) (e : List ℕ × TypeNo)
    → with_field_copy (moved_entries (moved_type z) fs) (moved_pair same (moved_type z) e)
    ≡ moved_entries (moved_type z) (with_field_copy fs e)
with_field_copy_moves z fs e = enter_moves (moved_type z) e.0 e.1 fs

pub fields_copy_moves : (z : Exchange) (fs : List (List ℕ × TypeNo))
    → fields_copy (moved_entries (moved_type z) fs) ≡ moved_entries (moved_type z) (fields_copy fs)
fields_copy_moves z fs =
    folds_move (moved_entries (moved_type z)) (moved_pair same (moved_type z)) with_field_copy with_field_copy
    (with_field_copy_moves z) [] fs

pub shape_copy_moves : (z : Exchange) (s : Shape)
    → shape_copy (moved_shape z s) ≡ moved_shape z (shape_copy s)
shape_copy_moves z (shape.Record fs) = ap shape.Record (fields_copy_moves z fs)
shape_copy_moves z (shape.Scalar s) = refl
shape_copy_moves z shape.Set = refl
shape_copy_moves z (shape.Array i e) = refl
shape_copy_moves z (shape.Procedure h) = refl
shape_copy_moves z (shape.Open e) = refl

pub made_copy_moves : (z : Exchange) (m : Made)
    → made_copy (moved_made z m) ≡ moved_made z (made_copy m)
made_copy_moves z m = ap (λ (s : Shape). record { shape = s; cells = m.cells }) (shape_copy_moves z m.shape)

pub types_made_in_moves : (z : Exchange) (home : ℕ) (ms : List ModuleTypes)
    → types_made_in (z.there home) (map (moved_reached z) ms) ≡ map (moved_made z) (types_made_in home ms)
types_made_in_moves z home [] = refl
types_made_in_moves z home (m ∷ ms) = simp (types_made_in_moves z home ms, cond_map, same_number)

pub own_types_moves : (z : Exchange) (own : Table)
    → own_types (moved_table z own) ≡ map (moved_made z) (own_types own)
own_types_moves z own =
    ap (map made_copy) (types_made_in_moves z own.number own.reached)
    ∙ map_same made_copy (moved_made z) made_copy (moved_made z) (made_copy_moves z)
    (types_made_in own.number own.reached)

pub with_own_types_moves : (z : Exchange) (types : Types) (own : Table)
    → with_own_types (moved_types z types) (moved_table z own) ≡ moved_types z (with_own_types types own)
with_own_types_moves z types own =
    ap₂ (λ (ms : List Made) (os : List (ℕ × List Made)). record (moved_types z types) { own = ms; others = os })
    (own_types_moves z own) (with_table_moves z types.others own)

pub with_own_moves : (z : Exchange) {T : Type 0} (s : Scope T) (own : Table)
    → with_own (moved_scope z s) (moved_table z own) ≡ moved_scope z (with_own s own)
with_own_moves z {T} s own =
    ap₂ (λ (ts : Types) (ns : List (List ℕ × Known T)).
    record (moved_scope z s) {
      types = ts;
      variables = exported_variables (moved_table z own).exported;
      procedures = exported_headings (moved_table z own).exported;
      own = ns;
    }) (with_own_types_moves z s.types own) (own_names_moves z {T = T} own.exported)
    ∙ ap₂ (λ (vs hs : List TypeNo).
    record (moved_scope z s) {
      types = moved_types z (with_own_types s.types own);
      variables = vs;
      procedures = hs;
      own = moved_names z (own_names own.exported);
    }) (exported_variables_moves z own.exported) (exported_headings_moves z own.exported)

pub implementation_scope_moves : (z : Exchange) {T : Type 0} (own : Table) (tables : List Table)
    → implementation_scope {T = T} (moved_table z own) (map (moved_table z) tables)
    ≡ moved_scope z (implementation_scope {T = T} own tables)
implementation_scope_moves z {T} own tables =
    ap (λ (s : Scope T). with_own s (moved_table z own)) (first_moves z {T = T} own.number tables)
    ∙ with_own_moves z (first_scope {T = T} own.number tables) own
