-- The table of a definition, with other numbers of modules.
use Rattle.check_const.specs.Parts.{constant}
use Rattle.check_definition.specs.Again.{Passing, again_def}
use Rattle.check_definition.specs.Compiled.{of_contents, definition_table, declared_in, table_of, table_or, of_definition}
use Rattle.check_definition.specs.Declare.{with_def, brings_with, with_type, finished_variable, nothing_reported, with_procedure, with_variables, begun_name, with_procedure_type, with_constant, declared_procedure, variable_meaning, procedure_meaning, type_meaning, with_variable_type, constant_meaning}
use Rattle.check_definition.specs.Export.{exports, reached_of, imported_modules, with_meaning, with_import_of, with_imported, with_types, own_types, with_table_if, with_imports_of, with_export, with_known, with_place_if}
use Rattle.check_definition.specs.Importing.{numbered_modules, with_import}
use Rattle.check_definition.specs.Marking.{marked_def}
use Rattle.check_definition.specs.Predeclared.{console, first_scope}
use Rattle.check_expr.specs.Meanings.{part}
use Rattle.check_scope.specs.Elaborated.{least, beside, Gathers}
use Rattle.check_scope.specs.Scopes.{State, heading_means, begin_name, head_name, finish_name}
use Rattle.check_scope.specs.declared.known.Known.{Known}
use Rattle.check_scope.specs.declared.known.Known.TheVariants.{Later, Ahead, Begun, Headed, Declared}
use Rattle.check_scope.specs.declared.known.Origin.TheVariants.{Here, Export}
use Rattle.check_scope.specs.declared.scope.Scope.{Scope}
use Rattle.check_type_expr.specs.Headings.{heading_of, names_of}
use Rattle.check_type_expr.specs.Made.{type_of, nothing_of, with_made}
use Rattle.def_exchange.specs.Moved.{moved_made, moved_meaning, moved_reached, moved_table, moved_type, moved_types, moved_value, Exchange}
use Rattle.law_exchange_types.proofs.Again.{nothing_moves, defs_again}
use Rattle.law_exchange_types.proofs.Basics.{enter_moves, fold_moves, folds_move}
use Rattle.law_exchange_types.proofs.Begin.{first_moves, import_moves, marked_moves, numbered_moves}
use Rattle.law_exchange_types.proofs.Exprs.{part_moves}
use Rattle.law_exchange_types.proofs.Fixed.{constant_moves}
use Rattle.law_exchange_types.proofs.Headings.{heading_of_moves}
use Rattle.law_exchange_types.proofs.InScope.{begin_name_moves, head_name_moves, finish_name_moves, heading_means_moves}
use Rattle.law_exchange_types.proofs.MadePieces.{nothing_of_moves, with_made_moves}
use Rattle.law_exchange_types.proofs.Types.{type_moves}
use Rattle.law_exchange_types.specs.Laws.{DefinitionsMove}
use Rattle.law_exchange_types.specs.Pieces.{map_ok, moved_entries}
use Rattle.law_exchange_types.specs.Scopes.{moved_known, moved_names, moved_scope, moved_state, moved_state_of}
use Rattle.m2_tree.specs.declared.decl.Constant.{Constant}
use Rattle.m2_tree.specs.declared.decl.Contents.{Contents}
use Rattle.m2_tree.specs.declared.decl.Def.{Def}
use Rattle.m2_tree.specs.declared.decl.Heading.{Heading}
use Rattle.m2_tree.specs.declared.decl.Import.{Import}
use Rattle.m2_tree.specs.declared.decl.Module.{Module}
use Rattle.m2_tree.specs.declared.decl.TypeDecl.{TypeDecl}
use Rattle.m2_tree.specs.declared.decl.Variables.{Variables}
use Rattle.m2_tree.specs.declared.name.Ident.{Ident}
use Rattle.std.proofs.Common.{◌≡◌, Err, List, None, Ok, Option, Result, Some, ap, ap₂, false, fold, length, map, option_map, refl, slice_get, sym, ℕ, ◌∷◌, ◌++◌, ◌∙◌, []}
use Rattle.std.proofs.lemmas.List.{map-append, length-map}
use Rattle.std.proofs.lemmas.Option.{slice_get-map}
use Rattle.typed_tree.specs.Names.{find_name}
use Rattle.typed_tree.specs.declared.known_types.Types.{Types}
use Rattle.typed_tree.specs.declared.meaning.Meaning.{Meaning}
use Rattle.typed_tree.specs.declared.meaning.Value.{Value}
use Rattle.typed_tree.specs.declared.shape.Made.{Made}
use Rattle.typed_tree.specs.declared.table.ModuleTypes.{ModuleTypes}
use Rattle.typed_tree.specs.declared.table.Table.{Table}
use Rattle.typed_tree.specs.declared.types.TypeNo.{TypeNo}
use Rattle.check_definition.specs.Export as exporting
use Rattle.check_scope.specs.declared.known.Origin.TheVariants as origin
use Rattle.m2_tree.specs.declared.decl.Contents.TheVariants as contents
use Rattle.m2_tree.specs.declared.decl.Def.TheVariants as def

module _ (z : Exchange) (g : Gathers) where
  abbrev St : Type 0
  St = State (Unit {0}) g.Reported

  -- ---- constants

  value_meaning : (v : Result Value g.Reported)
      → constant_meaning (map_ok (moved_value z) v) ≡ map_ok (moved_meaning z) (constant_meaning v)
  value_meaning (Ok v) = refl
  value_meaning (Err e) = refl

  abbrev ended : Ident → St → St → Result Value g.Reported → St
  ended name st b v = (finish_name b.0 name (constant_meaning v), beside g st.1 (beside g b.1 (nothing_reported v)))

  ended_moves : (name : Ident) (st b : St) (v : Result Value g.Reported)
      → ended name (moved_state z st) (moved_state z b) (map_ok (moved_value z) v) ≡ moved_state z (ended name st b v)
  ended_moves name st b v =
      ap₂ (λ (m : Result Meaning g.Reported) (r : Result (Unit {0}) g.Reported).
      (finish_name (moved_scope z b.0) name m, beside g st.1 (beside g b.1 r)))
      (value_meaning v) (nothing_moves z g v)
      ∙ ap (λ (s : Scope g.Reported). (s, beside g st.1 (beside g b.1 (nothing_reported v))))
      (finish_name_moves z b.0 name (constant_meaning v))

  constant_declared : (st : St) (c : Constant)
      → with_constant g (moved_state z st) c ≡ moved_state z (with_constant g st c)
  constant_declared st c =
      ap (λ (b : St). ended c.name (moved_state z st) b (constant g b.0 (part g c.value)))
      (begin_name_moves z g st.0 c.name)
      ∙ (ap (ended c.name (moved_state z st) (moved_state z (begin_name g st.0 c.name)))
      (constant_moves z g (begin_name g st.0 c.name).0 (part g c.value) (part_moves z g c.value))
      ∙ ended_moves c.name st (begin_name g st.0 c.name) (constant g (begin_name g st.0 c.name).0 (part g c.value)))

  -- ---- types

  made_meaning : (t : Result TypeNo g.Reported) (n : ℕ)
      → type_meaning (map_ok (moved_type z) t) n ≡ map_ok (moved_meaning z) (type_meaning t n)
  made_meaning (Ok t) n = refl
  made_meaning (Err e) n = refl

  abbrev typed : TypeDecl → St → St → State TypeNo g.Reported → St
  typed d st b t = (
    finish_name t.0 d.name (type_meaning t.1 (brings_with d.of)),
    beside g st.1 (beside g b.1 (nothing_of t.1)),
  )

  typed_moves : (d : TypeDecl) (st b : St) (t : State TypeNo g.Reported)
      → typed d (moved_state z st) (moved_state z b) (moved_state_of z (moved_type z) t)
      ≡ moved_state z (typed d st b t)
  typed_moves d st b t =
      ap₂ (λ (m : Result Meaning g.Reported) (r : Result (Unit {0}) g.Reported).
      (finish_name (moved_scope z t.0) d.name m, beside g st.1 (beside g b.1 r)))
      (made_meaning t.1 (brings_with d.of)) (nothing_of_moves z t.1)
      ∙ ap (λ (s : Scope g.Reported). (s, beside g st.1 (beside g b.1 (nothing_of t.1))))
      (finish_name_moves z t.0 d.name (type_meaning t.1 (brings_with d.of)))

  type_declared : (st : St) (d : TypeDecl) → with_type g (moved_state z st) d ≡ moved_state z (with_type g st d)
  type_declared st d =
      ap (λ (b : St). typed d (moved_state z st) b (type_of g d.of b.0)) (begin_name_moves z g st.0 d.name)
      ∙ (ap (typed d (moved_state z st) (moved_state z (begin_name g st.0 d.name)))
      (type_moves z g d.of (begin_name g st.0 d.name).0)
      ∙ typed_moves d st (begin_name g st.0 d.name) (type_of g d.of (begin_name g st.0 d.name).0))

  -- ---- variables

  begun_moves : (st : St) (name : Ident) → begun_name g (moved_state z st) name ≡ moved_state z (begun_name g st name)
  begun_moves st name = ap (λ (b : St). (b.0, beside g st.1 b.1)) (begin_name_moves z g st.0 name)

  variable_is : (home n : ℕ) (t : Result TypeNo g.Reported)
      → variable_meaning (z.there home) n (map_ok (moved_type z) t)
      ≡ map_ok (moved_meaning z) (variable_meaning home n t)
  variable_is home n (Ok t) = refl
  variable_is home n (Err e) = refl

  variable_type_moves : (s : Scope g.Reported) (t : Result TypeNo g.Reported)
      → with_variable_type (moved_scope z s) (map_ok (moved_type z) t) ≡ moved_scope z (with_variable_type s t)
  variable_type_moves s (Ok t) =
      ap (λ (ts : List TypeNo). record (moved_scope z s) { variables = ts })
      (sym (map-append (moved_type z) s.variables (t ∷ [])))
  variable_type_moves s (Err e) = refl

  finished_moves : (t : Result TypeNo g.Reported) (s : Scope g.Reported) (name : Ident)
      → finished_variable (map_ok (moved_type z) t) (moved_scope z s) name ≡ moved_scope z (finished_variable t s name)
  finished_moves t s name =
      ap₂ (λ (u : Scope g.Reported) (n : ℕ). finish_name u name
      (variable_meaning (z.there s.types.home) n (map_ok (moved_type z) t)))
      (variable_type_moves s t) (length-map s.variables (moved_type z))
      ∙ (ap (finish_name (moved_scope z (with_variable_type s t)) name)
      (variable_is s.types.home (length s.variables) t)
      ∙ finish_name_moves z (with_variable_type s t) name (variable_meaning s.types.home (length s.variables) t))

  abbrev all_varied : Variables → St → State TypeNo g.Reported → St
  all_varied v b t = (fold (finished_variable t.1) t.0 v.names, beside g b.1 (nothing_of t.1))

  varied_moves : (v : Variables) (b : St) (t : State TypeNo g.Reported)
      → all_varied v (moved_state z b) (moved_state_of z (moved_type z) t) ≡ moved_state z (all_varied v b t)
  varied_moves v b t =
      ap₂ (λ (s : Scope g.Reported) (r : Result (Unit {0}) g.Reported). (s, beside g b.1 r))
      (fold_moves (moved_scope z) (finished_variable t.1) (finished_variable (map_ok (moved_type z) t.1))
      (finished_moves t.1) t.0 v.names) (nothing_of_moves z t.1)

  variables_declared : (st : St) (v : Variables)
      → with_variables g (moved_state z st) v ≡ moved_state z (with_variables g st v)
  variables_declared st v =
      ap (λ (b : St). all_varied v b (type_of g v.of b.0))
      (fold_moves (moved_state z) (begun_name g) (begun_name g) begun_moves st v.names)
      ∙ (ap (all_varied v (moved_state z (fold (begun_name g) st v.names)))
      (type_moves z g v.of (fold (begun_name g) st v.names).0)
      ∙ varied_moves v (fold (begun_name g) st v.names) (type_of g v.of (fold (begun_name g) st v.names).0))

  -- ---- procedures

  procedure_is : (home n : ℕ) (t : Result TypeNo g.Reported)
      → procedure_meaning (z.there home) n (map_ok (moved_type z) t)
      ≡ map_ok (moved_meaning z) (procedure_meaning home n t)
  procedure_is home n (Ok t) = refl
  procedure_is home n (Err e) = refl

  procedure_type_noted : (s : Scope g.Reported) (t : Result TypeNo g.Reported)
      → with_procedure_type (moved_scope z s) (map_ok (moved_type z) t) ≡ moved_scope z (with_procedure_type s t)
  procedure_type_noted s (Ok t) =
      ap (λ (ts : List TypeNo). record (moved_scope z s) { procedures = ts })
      (sym (map-append (moved_type z) s.procedures (t ∷ [])))
  procedure_type_noted s (Err e) = refl

  heading_is : (home n : ℕ) (t : Result TypeNo g.Reported)
      → heading_means false (procedure_meaning (z.there home) n (map_ok (moved_type z) t))
      ≡ map_ok (moved_meaning z) (heading_means false (procedure_meaning home n t))
  heading_is home n t =
      ap (heading_means false) (procedure_is home n t) ∙ heading_means_moves z false (procedure_meaning home n t)

  procedure_named : (s : Scope g.Reported) (name : Ident) (t : Result TypeNo g.Reported)
      → declared_procedure g (moved_scope z s) name (map_ok (moved_type z) t)
      ≡ moved_state z (declared_procedure g s name t)
  procedure_named s name t =
      ap₂ (λ (u : Scope g.Reported) (n : ℕ). head_name g u name
      (heading_means false (procedure_meaning (z.there s.types.home) n (map_ok (moved_type z) t))))
      (procedure_type_noted s t) (length-map s.procedures (moved_type z))
      ∙ (ap (head_name g (moved_scope z (with_procedure_type s t)) name)
      (heading_is s.types.home (length s.procedures) t)
      ∙ head_name_moves z g (with_procedure_type s t) name
      (heading_means false (procedure_meaning s.types.home (length s.procedures) t)))

  abbrev headed : Heading → St → Result TypeNo g.Reported → St → St
  headed h st t d = (d.0, beside g st.1 (beside g (names_of g h) (beside g (nothing_of t) d.1)))

  made_and_named : (h : Heading) (st : St) (t : State TypeNo g.Reported)
      → headed h (moved_state z st) (map_ok (moved_type z) t.1)
      (declared_procedure g (moved_scope z t.0) h.name (map_ok (moved_type z) t.1))
      ≡ moved_state z (headed h st t.1 (declared_procedure g t.0 h.name t.1))
  made_and_named h st t =
      ap₂ (λ (d : St) (r : Result (Unit {0}) g.Reported).
      (d.0, beside g st.1 (beside g (names_of g h) (beside g r d.1))))
      (procedure_named t.0 h.name t.1) (nothing_of_moves z t.1)

  procedure_declared : (st : St) (h : Heading)
      → with_procedure g (moved_state z st) h ≡ moved_state z (with_procedure g st h)
  procedure_declared st h =
      ap (λ (t : State TypeNo g.Reported). headed h (moved_state z st) t.1 (declared_procedure g t.0 h.name t.1))
      (ap (with_made (moved_scope z st.0)) (heading_of_moves z g st.0 h) ∙ with_made_moves z st.0 (heading_of g st.0 h))
      ∙ made_and_named h st (with_made st.0 (heading_of g st.0 h))

  def_moves : (st : St) (d : Def) → with_def g (moved_state z st) d ≡ moved_state z (with_def g st d)
  def_moves st (def.Constants cs) = fold_moves (moved_state z) (with_constant g) (with_constant g) constant_declared st
      cs
  def_moves st (def.Types ts) = fold_moves (moved_state z) (with_type g) (with_type g) type_declared st ts
  def_moves st (def.Variables vs) = fold_moves (moved_state z) (with_variables g) (with_variables g) variables_declared
      st vs
  def_moves st (def.Procedure h) = procedure_declared st h

  -- ---- all that stands in it

  -- constant expressions, read again
  abbrev read_again : List Def → ℕ → St → St
  read_again defs n d = (d.0, (fold (again_def g d.0) (d.1, n) defs).0)

  abbrev behind_imports : List Def → St → St
  behind_imports defs i =
      read_again defs (length i.0.own) (fold (with_def g) (fold marked_def i.0 defs, i.1) defs)

  defs_move : (i : St) (defs : List Def)
      → fold (with_def g) (fold marked_def (moved_scope z i.0) defs, i.1) defs
      ≡ moved_state z (fold (with_def g) (fold marked_def i.0 defs, i.1) defs)
  defs_move i defs =
      ap (λ (u : Scope g.Reported). fold (with_def g) (u, i.1) defs)
      (fold_moves (moved_scope z) marked_def marked_def (marked_moves z g.Reported) i.0 defs)
      ∙ fold_moves (moved_state z) (with_def g) (with_def g) def_moves (fold marked_def i.0 defs, i.1) defs

  pub declared_moves : (m : Module) (modules : List (List ℕ × ℕ)) (s : Scope g.Reported) (defs : List Def)
      → declared_in g m modules (moved_scope z s) defs ≡ moved_state z (declared_in g m modules s defs)
  declared_moves m modules s defs =
      let i : St = fold (with_import g modules) (s, Ok tt) m.imports in
      let d : St = fold (with_def g) (fold marked_def i.0 defs, i.1) defs in
      ap (behind_imports defs)
      (fold_moves (moved_state z) (with_import g modules) (with_import g modules) (import_moves z g modules)
      (s, Ok tt) m.imports)
      ∙ (ap₂ (read_again defs)
      (length-map i.0.own (λ (e : List ℕ × Known g.Reported). (e.0, moved_known z e.1))) (defs_move i defs)
      ∙ ap (λ (p : Passing g.Reported). (moved_scope z d.0, p.0))
      (defs_again z g d.0 (d.1, length i.0.own) defs))

-- ---- exports

module _ (z : Exchange) {T : Type 0} where
  meaning_entered : (so : List (List ℕ × Meaning)) (name : List ℕ) (m : Result Meaning T)
      → exporting.with_meaning (moved_entries (moved_meaning z) so) name (map_ok (moved_meaning z) m)
      ≡ moved_entries (moved_meaning z) (exporting.with_meaning so name m)
  meaning_entered so name (Ok m) = enter_moves (moved_meaning z) name m so
  meaning_entered so name (Err e) = refl

  known_exported : (so : List (List ℕ × Meaning)) (name : List ℕ) (k : Known T)
      → exporting.with_known (moved_entries (moved_meaning z) so) name (moved_known z k)
      ≡ moved_entries (moved_meaning z) (exporting.with_known so name k)
  known_exported so name Later = refl
  known_exported so name Ahead = refl
  known_exported so name Begun = refl
  known_exported so name (Headed (Ok m)) = enter_moves (moved_meaning z) name m so
  known_exported so name (Headed (Err e)) = refl
  known_exported so name (Declared origin.Here m) = meaning_entered so name m
  known_exported so name (Declared (origin.Module k) m) = refl
  known_exported so name (Declared (origin.Export k) m) = refl

  exports_move : (own : List (List ℕ × Known T))
      → exports (moved_names z own) ≡ moved_entries (moved_meaning z) (exports own)
  exports_move own =
      folds_move (moved_entries (moved_meaning z)) (λ (e : List ℕ × Known T). (e.0, moved_known z e.1))
      exporting.with_export
      exporting.with_export (λ so e. known_exported so e.0 e.1) [] own

others_reached : (z : Exchange) (os : List (ℕ × List Made)) (so : List ModuleTypes)
    → fold exporting.with_types (map (moved_reached z) so) (map (λ o. (z.there o.0, map (moved_made z) o.1)) os)
    ≡ map (moved_reached z) (fold exporting.with_types so os)
others_reached z os so =
    folds_move (map (moved_reached z)) (λ (o : ℕ × List Made). (z.there o.0, map (moved_made z) o.1))
    exporting.with_types
    exporting.with_types (λ so o. sym (map-append (moved_reached z) so (record { number = o.0; made = o.1 } ∷ []))) so
    os

own_moves : (z : Exchange) (home : ℕ) (ms : List Made)
    → own_types (z.there home) (map (moved_made z) ms) ≡ map (moved_reached z) (own_types home ms)
own_moves z home [] = refl
own_moves z home (m ∷ ms) = refl

reached_of_moves : (z : Exchange) (ts : Types) → reached_of (moved_types z ts) ≡ map (moved_reached z) (reached_of ts)
reached_of_moves z ts =
    ap₂ (λ (us vs : List ModuleTypes). us ++ vs) (others_reached z ts.others []) (own_moves z ts.home ts.own)
    ∙ sym (map-append (moved_reached z) (fold exporting.with_types [] ts.others) (own_types ts.home ts.own))

-- ---- modules that are imported

module _ (z : Exchange) (modules : List (List ℕ × ℕ)) (tables : List Table) where
  abbrev Imported : Type 0
  Imported = List (List ℕ × ℕ)

  abbrev renumbered : Imported → Imported
  renumbered is = map (λ i. (i.0, z.there i.1)) is

  entered : (so : Imported) (name : List ℕ) (t : Option Table)
      → with_table_if (renumbered so) name (option_map (moved_table z) t) ≡ renumbered (with_table_if so name t)
  entered so name None = refl
  entered so name (Some t) = enter_moves z.there name t.number so

  placed : (so : Imported) (name : List ℕ) (k : Option ℕ)
      → with_place_if (map (moved_table z) tables) (renumbered so) name k ≡ renumbered (with_place_if tables so name k)
  placed so name None = refl
  placed so name (Some k) =
      ap (with_table_if (renumbered so) name) (slice_get-map (moved_table z) tables k)
      ∙ entered so name (slice_get tables k)

  one_imported : (so : Imported) (name : Ident)
      → with_imported modules (map (moved_table z) tables) (renumbered so) name
      ≡ renumbered (with_imported modules tables so name)
  one_imported so name = placed so name.name (find_name name.name modules)

  several_imported : (so : Imported) (from : Option Ident) (names : List Ident)
      → with_imports_of modules (map (moved_table z) tables) (renumbered so) from names
      ≡ renumbered (with_imports_of modules tables so from names)
  several_imported so None names =
      fold_moves renumbered (with_imported modules tables) (with_imported modules (map (moved_table z) tables))
      one_imported
      so names
  several_imported so (Some m) names = one_imported so m

  imported_moves : (is : List Import)
      → imported_modules modules (map (moved_table z) tables) is ≡ renumbered (imported_modules modules tables is)
  imported_moves is =
      fold_moves renumbered (with_import_of modules tables) (with_import_of modules (map (moved_table z) tables))
      (λ so i. several_imported so i.from i.names) [] is

-- ---- the table of a definition

console_stays : (z : Exchange) → z.there console.number ≡ console.number → moved_table z console ≡ console
unfolding console
console_stays z fixed = ap (λ (n : ℕ). record console { number = n }) fixed

module _ (z : Exchange) (g : Gathers) (m : Module) where
  abbrev tabled : List (List ℕ × ℕ) → List (List ℕ × Meaning) → List ModuleTypes → Scope g.Reported → Table
  tabled is es rs s = record {
    number = z.there s.types.home;
    name = m.name.name;
    imports = is;
    exported = es;
    reached = rs;
  }

  abbrev stated : List (List ℕ × ℕ) → State (Unit {0}) g.Reported → Result Table g.Reported
  stated modules st = table_or m modules st.0 st.1

  table_is : (modules : List (List ℕ × ℕ)) (s : Scope g.Reported)
      → table_of m modules (moved_scope z s) ≡ moved_table z (table_of m modules s)
  table_is modules s =
      ap₂ (λ (is : List (List ℕ × ℕ)) (es : List (List ℕ × Meaning)). tabled is es (reached_of (moved_types z s.types))
      s)
      (imported_moves z modules s.tables m.imports) (exports_move z s.own)
      ∙ ap (λ (rs : List ModuleTypes). tabled
      (map (λ i. (i.0, z.there i.1)) (imported_modules modules s.tables m.imports))
      (moved_entries (moved_meaning z) (exports s.own)) rs s) (reached_of_moves z s.types)

  table_or_moves : (modules : List (List ℕ × ℕ)) (s : Scope g.Reported) (r : Result (Unit {0}) g.Reported)
      → table_or m modules (moved_scope z s) r ≡ map_ok (moved_table z) (table_or m modules s r)
  table_or_moves modules s (Ok fine) = ap Ok (table_is modules s)
  table_or_moves modules s (Err e) = refl

  definition_moves : (number : ℕ) (tables : List Table) (defs : List Def)
      → of_definition g (z.there number) m (map (moved_table z) tables) defs
      ≡ map_ok (moved_table z) (of_definition g number m tables defs)
  definition_moves number tables defs =
      ap₂ (λ (modules : List (List ℕ × ℕ)) (s : Scope g.Reported). stated modules (declared_in g m modules s defs))
      (ap (λ (p : List (List ℕ × ℕ) × ℕ). p.0) (numbered_moves z tables)) (first_moves z number tables)
      ∙ (ap (stated (numbered_modules tables).0)
      (declared_moves z g m (numbered_modules tables).0 (first_scope number tables) defs)
      ∙ table_or_moves (numbered_modules tables).0
      (declared_in g m (numbered_modules tables).0 (first_scope number tables) defs).0
      (declared_in g m (numbered_modules tables).0 (first_scope number tables) defs).1)

  contents_move : (number : ℕ) (tables : List Table) (c : Contents)
      → of_contents g (z.there number) m (map (moved_table z) tables) c
      ≡ map_ok (moved_table z) (of_contents g number m tables c)
  contents_move number tables (contents.Definition defs) = definition_moves number tables defs
  contents_move number tables (contents.Implementation b) = refl
  contents_move number tables (contents.Program b) = refl

  pub definition_table_moves : z.there console.number ≡ console.number → (number : ℕ) (imports : List Table)
      → definition_table g (z.there number) m (map (moved_table z) imports)
      ≡ map_ok (moved_table z) (definition_table g number m imports)
  definition_table_moves fixed number imports =
      ap (λ (ts : List Table). of_contents g (z.there number) m ts m.contents)
      (ap (λ (c : Table). map (moved_table z) imports ++ c ∷ []) (sym (console_stays z fixed))
      ∙ sym (map-append (moved_table z) imports (console ∷ [])))
      ∙ contents_move number (imports ++ console ∷ []) m.contents

pub definitions_move : DefinitionsMove
definitions_move x fixed number m tables = definition_table_moves x least m fixed number tables
