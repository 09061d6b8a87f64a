-- Where a module begins, and its imports, with other numbers of modules.
use Rattle.check_definition.specs.Importing.{with_module_as, with_module_name, numbered_modules, with_imports, with_entry, brings_of, from_place, module_named, with_import, from_module, unless_taken, with_numbered, brings_in, reported_of_taken, with_from, exports_of}
use Rattle.check_definition.specs.Marking.{type_layer, marked_in, marked_simple, Marks, marked_constant, marked_variables, then_marks, field_layer, marked_type, marked_field, marked_later, marked_def}
use Rattle.check_definition.specs.Predeclared.{predeclared_names, others_of, with_table, with_reached, first_scope}
use Rattle.check_scope.specs.Elaborated.{Gathers, beside}
use Rattle.check_scope.specs.Scopes.{mark_name, State}
use Rattle.check_scope.specs.declared.known.Known.{Known}
use Rattle.check_scope.specs.declared.known.Known.TheVariants.{Later, Ahead, Declared, Begun, Headed}
use Rattle.check_scope.specs.declared.known.Origin.TheVariants.{Module, Export}
use Rattle.check_scope.specs.declared.scope.Scope.{Scope}
use Rattle.indexmap.specs.IndexMap.{insert_entry}
use Rattle.def_exchange.specs.Moved.{moved_made, moved_meaning, moved_reached, moved_table, Exchange}
use Rattle.law_exchange_types.proofs.Basics.{cond_moves, find_moves, fold_moves, folds_move, if_in, place_moves, same_number}
use Rattle.law_exchange_types.proofs.Fields.{some_moves}
use Rattle.law_exchange_types.proofs.InScope.{import_name_moves, mark_name_moves}
use Rattle.law_exchange_types.proofs.Known.{lookup_moves}
use Rattle.law_exchange_types.specs.Scopes.{moved_known, moved_names, moved_scope, moved_state}
use Rattle.law_folds.proofs.TypeFolds.{all_trees, bare, bare_field, marks_opened, marks_opened_field, marks_at, marks_at_field}
use Rattle.m2_tree.specs.declared.decl.Constant.{Constant}
use Rattle.m2_tree.specs.declared.decl.Def.{Def}
use Rattle.m2_tree.specs.declared.decl.Field.{Field, Field-F}
use Rattle.m2_tree.specs.declared.decl.Import.{Import}
use Rattle.m2_tree.specs.declared.decl.Simple.{Simple}
use Rattle.m2_tree.specs.declared.decl.TypeDecl.{TypeDecl}
use Rattle.m2_tree.specs.declared.decl.TypeExpr.{TypeExpr, TypeExpr-F}
use Rattle.m2_tree.specs.declared.decl.Variables.{Variables}
use Rattle.m2_tree.specs.declared.name.Ident.{Ident}
use Rattle.m2_tree.specs.declared.pos.Pos.{Pos}
use Rattle.std.proofs.Common.{if◌then◌else◌, ◌≡◌, Bool, Err, List, None, Ok, Option, Result, Some, ap, ap₂, cond, drop, fold, is_some, length, map, nat_eq, option_map, refl, slice_get, sym, take, ℕ, ◌∷◌, ◌∙◌, []}
use Rattle.std.proofs.lemmas.List.{take-map, drop-map}
use Rattle.std.proofs.lemmas.Option.{slice_get-map}
use Rattle.std.specs.Map.{lookup}
use Rattle.typed_tree.specs.Names.{find_name, place_of}
use Rattle.typed_tree.specs.declared.meaning.Meaning.{Meaning}
use Rattle.typed_tree.specs.declared.shape.Made.{Made}
use Rattle.typed_tree.specs.declared.table.ModuleTypes.{ModuleTypes}
use Rattle.typed_tree.specs.declared.table.Table.{Table}
use Rattle.check_definition.specs.Marking as marking
use Rattle.check_scope.specs.declared.known.Origin.TheVariants as origin
use Rattle.m2_tree.specs.declared.decl.Def.TheVariants as def
use Rattle.m2_tree.specs.declared.decl.Simple.TheVariants as simple
use Rattle.m2_tree.specs.declared.decl.TypeExpr.TheOpen as layer
use Rattle.typed_tree.specs.declared.meaning.Meaning.TheVariants as meaning

-- ---- names that are marked

module _ (z : Exchange) (T : Type 0) where
  abbrev MarkMoves : Marks T → Type 0
  MarkMoves f = (s : Scope T) → f (moved_scope z s) ≡ moved_scope z (f s)

  later_moves : (s : Scope T) (name : Ident) → marked_later (moved_scope z s) name ≡ moved_scope z (marked_later s name)
  later_moves s name = mark_name_moves z name Later s

  laters_move : (names : List Ident) (s : Scope T)
      → fold marked_later (moved_scope z s) names ≡ moved_scope z (fold marked_later s names)
  laters_move names s = fold_moves (moved_scope z {T = T}) marked_later marked_later later_moves s names

  simple_marks : (t : Simple) (s : Scope T) → marked_simple t (moved_scope z s) ≡ moved_scope z (marked_simple t s)
  simple_marks (simple.Named q) s = refl
  simple_marks (simple.Enumeration at names) s = laters_move names s
  simple_marks (simple.Subrange q at low high) s = refl

  abbrev Marked : Type 0
  Marked = (t : TypeExpr) × MarkMoves (marked_in t)

  abbrev MarkedField : Type 0
  MarkedField = (d : Field) × MarkMoves (marked_field d)

  field_marks : (ds : List MarkedField) (s : Scope T)
      → fold then_marks (moved_scope z s) (map (marked_field {T = T}) (map (λ (d : MarkedField). d.0) ds))
      ≡ moved_scope z (fold then_marks s (map (marked_field {T = T}) (map (λ (d : MarkedField). d.0) ds)))
  field_marks [] s = refl
  field_marks (d ∷ ds) s =
      ap (λ (u : Scope T). fold then_marks u (map (marked_field {T = T}) (map (λ (d : MarkedField). d.0) ds))) (d.1 s)
      ∙ field_marks ds (marked_field d.0 s)

  abbrev bared : TypeExpr-F Marked MarkedField → TypeExpr-F TypeExpr Field
  bared y = bare (marked_in {T = T}) marked_field (λ t a. MarkMoves a) (λ d a. MarkMoves a) y

  abbrev bared_field : Field-F Marked MarkedField → Field-F TypeExpr Field
  bared_field y = bare_field (marked_in {T = T}) marked_field (λ t a. MarkMoves a) (λ d a. MarkMoves a) y

  type_marks : (y : TypeExpr-F Marked MarkedField) → MarkMoves (marking.type_layer (marks_opened (bared y)))
  type_marks (layer.Simple t) s = simple_marks t s
  type_marks (layer.Array at index m) s = ap (marked_in m.0) (simple_marks index s) ∙ m.1 (marked_simple index s)
  type_marks (layer.Record at ds) s = field_marks ds s
  type_marks (layer.Procedure at formals q) s = refl

  list_marks : (y : Field-F Marked MarkedField) → MarkMoves (marking.field_layer (marks_opened_field (bared_field y)))
  list_marks y s = y.of.1 s

  marks_move : (t : TypeExpr) → MarkMoves (marked_in t)
  marks_move =
      all_trees (marked_in {T = T}) marked_field (λ t a. MarkMoves a) (λ d a. MarkMoves a) marking.type_layer
      marking.field_layer marks_at marks_at_field type_marks list_marks

  constant_marks : (s : Scope T) (c : Constant)
      → marked_constant (moved_scope z s) c ≡ moved_scope z (marked_constant s c)
  constant_marks s c = mark_name_moves z c.name Later s

  type_is_marked : (s : Scope T) (t : TypeDecl) → marked_type (moved_scope z s) t ≡ moved_scope z (marked_type s t)
  type_is_marked s t =
      ap (marked_in t.of) (mark_name_moves z t.name Later s) ∙ marks_move t.of (mark_name t.name Later s)

  variables_marked : (s : Scope T) (v : Variables)
      → marked_variables (moved_scope z s) v ≡ moved_scope z (marked_variables s v)
  variables_marked s v =
      ap (marked_in v.of) (laters_move v.names s) ∙ marks_move v.of (fold marked_later s v.names)

  pub marked_moves : (s : Scope T) (d : Def) → marked_def (moved_scope z s) d ≡ moved_scope z (marked_def s d)
  marked_moves s (def.Constants cs) =
      fold_moves (moved_scope z {T = T}) marked_constant marked_constant constant_marks s cs
  marked_moves s (def.Types ts) = fold_moves (moved_scope z {T = T}) marked_type marked_type type_is_marked s ts
  marked_moves s (def.Variables vs) =
      fold_moves (moved_scope z {T = T}) marked_variables marked_variables variables_marked s vs
  marked_moves s (def.Procedure h) = mark_name_moves z h.name Ahead s

-- ---- where a module begins

abbrev moved_others : Exchange → List (ℕ × List Made) → List (ℕ × List Made)
moved_others z os = map (λ o. (z.there o.0, map (moved_made z) o.1)) os

inserted_moves : (z : Exchange) (n : ℕ) (ms : List Made) (os : List (ℕ × List Made))
    → insert_entry nat_eq (moved_others z os) (z.there n) (map (moved_made z) ms)
    ≡ moved_others z (insert_entry nat_eq os n ms)
inserted_moves z n ms [] = refl
inserted_moves z n ms (o ∷ os) =
    ap₂ (λ (b : Bool) (us : List (ℕ × List Made)). if b then (z.there o.0, map (moved_made z) ms) ∷ moved_others z os
    else (z.there o.0, map (moved_made z) o.1) ∷ us) (same_number z n o.0) (inserted_moves z n ms os)
    ∙ sym (if_in (moved_others z) (nat_eq n o.0) ((o.0, ms) ∷ os) (o ∷ insert_entry nat_eq os n ms))

reached_moves : (z : Exchange) (so : List (ℕ × List Made)) (m : ModuleTypes)
    → with_reached (moved_others z so) (moved_reached z m) ≡ moved_others z (with_reached so m)
reached_moves z so m =
    ap₂ (λ (b : Bool) (us : List (ℕ × List Made)). cond b (moved_others z so) us)
    (ap is_some (lookup_moves z m.number so) ∙ some_moves (map (moved_made z)) (lookup (nat_eq m.number) so))
    (inserted_moves z m.number m.made so)
    ∙ cond_moves (moved_others z) (is_some (lookup (nat_eq m.number) so)) so (insert_entry nat_eq so m.number m.made)

table_moves : (z : Exchange) (so : List (ℕ × List Made)) (t : Table)
    → with_table (moved_others z so) (moved_table z t) ≡ moved_others z (with_table so t)
table_moves z so t =
    folds_move (moved_others z) (moved_reached z) with_reached with_reached (reached_moves z) so t.reached

others_move : (z : Exchange) (tables : List Table)
    → others_of (map (moved_table z) tables) ≡ moved_others z (others_of tables)
others_move z tables = folds_move (moved_others z) (moved_table z) with_table with_table (table_moves z) [] tables

predeclared_move : (z : Exchange) {T : Type 0} → moved_names z (predeclared_names {T = T}) ≡ predeclared_names {T = T}
unfolding predeclared_names
predeclared_move z = refl

abbrev begun_with : {T : Type 0} → ℕ → List Table → List (ℕ × List Made) → List (List ℕ × Known T) → Scope T
begun_with {T} home tables os ns = record {
  tables = tables;
  types = record { home = home; own = []; others = os };
  variables = [];
  procedures = [];
  level = 0;
  own = [];
  outer = record { names = ns; seen = length (predeclared_names {T = T}) } ∷ [];
  withs = [];
}

pub first_moves : (z : Exchange) {T : Type 0} (home : ℕ) (tables : List Table)
    → first_scope {T = T} (z.there home) (map (moved_table z) tables) ≡ moved_scope z (first_scope {T = T} home tables)
first_moves z {T} home tables =
    ap₂ (λ (os : List (ℕ × List Made)) (ns : List (List ℕ × Known T)). begun_with (z.there home)
    (map (moved_table z) tables) os ns)
    (others_move z tables) (sym (predeclared_move z))

-- ---- modules by name

pub numbered_moves : (z : Exchange) (tables : List Table)
    → numbered_modules (map (moved_table z) tables) ≡ numbered_modules tables
numbered_moves z tables = folds_move (λ st. st) (moved_table z) with_numbered with_numbered (λ st t. refl) ([], 0)
    tables

-- ---- imports

module _ (z : Exchange) (g : Gathers) where
  abbrev St : Type 0
  St = State (Unit {0}) g.Reported

  abbrev followed : St → St → St
  followed st one = (one.0, beside g st.1 one.1)

  module_as_moves : (s : Scope g.Reported) (name : Ident) (k : Result ℕ g.Reported)
      → with_module_as g (moved_scope z s) name k ≡ moved_state z (with_module_as g s name k)
  module_as_moves s name (Ok k) =
      import_name_moves z g s name.pos name.name (origin.Module k) (Ok (meaning.Module k))
  module_as_moves s name (Err e) = refl

  module_name_moves : (modules : List (List ℕ × ℕ)) (st : St) (name : Ident)
      → with_module_name g modules (moved_state z st) name ≡ moved_state z (with_module_name g modules st name)
  module_name_moves modules st name = ap (followed st) (module_as_moves st.0 name (module_named g modules name))

  abbrev moved_entry : List ℕ × Meaning → List ℕ × Meaning
  moved_entry e = (e.0, moved_meaning z e.1)

  entry_moves : (at : Pos) (k : ℕ) (st : St) (e : List ℕ × Meaning)
      → with_entry g at k (moved_state z st) (moved_entry e) ≡ moved_state z (with_entry g at k st e)
  entry_moves at k st e = ap (followed st) (import_name_moves z g st.0 at e.0 (origin.Export k) (Ok e.1))

  brings_move : (m : Meaning) → brings_of (moved_meaning z m) ≡ brings_of m
  brings_move (meaning.«Type» t n) = refl
  brings_move (meaning.Constant v) = refl
  brings_move (meaning.Variable v) = refl
  brings_move (meaning.Local v) = refl
  brings_move (meaning.Field f) = refl
  brings_move (meaning.Procedure p) = refl
  brings_move (meaning.LocalProcedure p) = refl
  brings_move meaning.Ahead = refl
  brings_move (meaning.Standard f) = refl
  brings_move (meaning.Module k) = refl

  brings_in_moves : (e : Option (List ℕ × Meaning)) → brings_in (option_map moved_entry e) ≡ brings_in e
  brings_in_moves None = refl
  brings_in_moves (Some e) = brings_move e.1

  taken_moves : (at : Pos) (k : ℕ) (o : Option (Known g.Reported))
      → reported_of_taken g at k (option_map (moved_known z) o) ≡ reported_of_taken g at k o
  taken_moves at k None = refl
  taken_moves at k (Some Later) = refl
  taken_moves at k (Some Ahead) = refl
  taken_moves at k (Some Begun) = refl
  taken_moves at k (Some (Headed m)) = refl
  taken_moves at k (Some (Declared o m)) = refl

  brought_moves : (n i : ℕ) (es : List (List ℕ × Meaning))
      → take n (drop i (map moved_entry es)) ≡ map moved_entry (take n (drop i es))
  brought_moves n i es = ap (take n) (drop-map moved_entry i es) ∙ take-map moved_entry n (drop i es)

  unless_taken_moves : (s : Scope g.Reported) (at : Pos) (k : ℕ) (es : List (List ℕ × Meaning)) (i : ℕ)
      (o : Option (Result (Unit {0}) g.Reported))
      → unless_taken g (moved_scope z s) at k (map moved_entry es) i o ≡ moved_state z (unless_taken g s at k es i o)
  unless_taken_moves s at k es i (Some j) = refl
  unless_taken_moves s at k es i None =
      ap (λ (us : List (List ℕ × Meaning)). fold (with_entry g at k) (moved_scope z s, Ok tt) us)
      (ap (λ (n : ℕ). take n (drop i (map moved_entry es)))
      (ap brings_in (slice_get-map moved_entry es i) ∙ brings_in_moves (slice_get es i))
      ∙ brought_moves (brings_in (slice_get es i)) i es)
      ∙ folds_move (moved_state z) moved_entry (with_entry g at k) (with_entry g at k) (entry_moves at k) (s, Ok tt)
      (take (brings_in (slice_get es i)) (drop i es))

  from_place_moves : (s : Scope g.Reported) (name : Ident) (k : ℕ) (es : List (List ℕ × Meaning)) (o : Option ℕ)
      → from_place g (moved_scope z s) name k (map moved_entry es) o ≡ moved_state z (from_place g s name k es o)
  from_place_moves s name k es None = refl
  from_place_moves s name k es (Some i) =
      ap (unless_taken g (moved_scope z s) name.pos k (map moved_entry es) i)
      (ap (reported_of_taken g name.pos k) (find_moves (moved_known z) name.name s.own)
      ∙ taken_moves name.pos k (find_name name.name s.own))
      ∙ unless_taken_moves s name.pos k es i (reported_of_taken g name.pos k (find_name name.name s.own))

  with_from_moves : (k : ℕ) (es : List (List ℕ × Meaning)) (st : St) (name : Ident)
      → with_from g k (map moved_entry es) (moved_state z st) name ≡ moved_state z (with_from g k es st name)
  with_from_moves k es st name =
      ap (followed st) (ap (from_place g (moved_scope z st.0) name k (map moved_entry es))
      (place_moves (moved_meaning z) name.name es) ∙ from_place_moves st.0 name k es (place_of name.name es))

  exports_of_moves : (t : Option Table) → exports_of (option_map (moved_table z) t) ≡ map moved_entry (exports_of t)
  exports_of_moves None = refl
  exports_of_moves (Some t) = refl

  from_module_moves : (k : Result ℕ g.Reported) (st : St) (names : List Ident)
      → from_module g k (moved_state z st) names ≡ moved_state z (from_module g k st names)
  from_module_moves (Ok k) st names =
      ap (λ (es : List (List ℕ × Meaning)). fold (with_from g k es) (moved_state z st) names)
      (ap exports_of (slice_get-map (moved_table z) st.0.tables k) ∙ exports_of_moves (slice_get st.0.tables k))
      ∙ fold_moves (moved_state z) (with_from g k (exports_of (slice_get st.0.tables k)))
      (with_from g k (map moved_entry (exports_of (slice_get st.0.tables k))))
      (with_from_moves k (exports_of (slice_get st.0.tables k))) st names
  from_module_moves (Err e) st names = refl

  imports_move : (modules : List (List ℕ × ℕ)) (st : St) (from : Option Ident) (names : List Ident)
      → with_imports g modules (moved_state z st) from names ≡ moved_state z (with_imports g modules st from names)
  imports_move modules st None names =
      fold_moves (moved_state z) (with_module_name g modules) (with_module_name g modules) (module_name_moves modules)
      st names
  imports_move modules st (Some m) names = from_module_moves (module_named g modules m) st names

  pub import_moves : (modules : List (List ℕ × ℕ)) (st : St) (i : Import)
      → with_import g modules (moved_state z st) i ≡ moved_state z (with_import g modules st i)
  import_moves modules st i = imports_move modules st i.from i.names
