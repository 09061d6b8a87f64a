-- What the table of a definition exports is the module's own.
use Rattle.std.proofs.Common.{ℕ, List, [], ◌∷◌, ◌++◌, Result, Ok, Err}
use Rattle.std.specs.Prelude.{IfOk}
use Rattle.std.specs.List.{fold}
use Rattle.m2_tree.specs.declared.decl.Contents.{Contents}
use Rattle.m2_tree.specs.declared.decl.Contents.TheVariants as contents
use Rattle.m2_tree.specs.declared.decl.Def.{Def}
use Rattle.m2_tree.specs.declared.decl.Module.{Module}
use Rattle.typed_tree.specs.declared.meaning.Meaning.{Meaning}
use Rattle.typed_tree.specs.declared.table.Table.{Table}
use Rattle.check_scope.specs.Elaborated.{Gathers}
use Rattle.check_scope.specs.Scopes.{State}
use Rattle.check_scope.specs.declared.known.Origin.{Origin}
use Rattle.check_scope.specs.declared.known.Origin.TheVariants as origin
use Rattle.check_scope.specs.declared.known.Known.{Known}
use Rattle.check_scope.specs.declared.known.Known.TheVariants.{Later, Ahead, Begun, Headed, Declared}
use Rattle.check_scope.specs.declared.scope.Scope.{Scope}
use Rattle.check_definition.specs.Compiled.{table_or, declared_in, of_definition, of_contents, definition_table}
use Rattle.check_definition.specs.Declare.{with_def}
use Rattle.check_definition.specs.Export.{with_meaning, with_declared, with_known, with_export, exports}
use Rattle.check_definition.specs.Importing.{numbered_modules, with_import}
use Rattle.check_definition.specs.Marking.{marked_def}
use Rattle.check_definition.specs.Predeclared.{console, first_scope}
use Rattle.law_well_formed.proofs.ImportsLists.{each_entered}
use Rattle.law_well_formed.specs.FormedTables.{IsExport, AreExports}
use Rattle.law_well_formed.proofs.Own.{OwnFrom, OwnKnown, AreOwn, Leads, ◌⨾◌, fold_leads, def_marks, def_leads, import_leads}

module _ (home : ℕ) where
  meaning_exported : {E : Type 0} (so : List (List ℕ × Meaning)) (name : List ℕ) (r : Result Meaning E)
      → IfOk r (IsExport home) → AreExports home so → AreExports home (with_meaning so name r)
  meaning_exported so name (Ok m) p all =
      each_entered (λ (e : List ℕ × Meaning). IsExport home e.1) name m so (λ other e. p) all
  meaning_exported so name (Err e) p all = all

module _ {T : Type 0} (home : ℕ) where
  declared_exported : (so : List (List ℕ × Meaning)) (name : List ℕ) (o : Origin) (r : Result Meaning T)
      → OwnFrom home o r → AreExports home so → AreExports home (with_declared so name o r)
  declared_exported so name origin.Here r p all = meaning_exported home so name r p all
  declared_exported so name (origin.Module k) r p all = all
  declared_exported so name (origin.Export k) r p all = all

  known_exported : (so : List (List ℕ × Meaning)) (name : List ℕ) (k : Known T) → OwnKnown home k → AreExports home so
      → AreExports home (with_known so name k)
  known_exported so name Later p all = all
  known_exported so name Ahead p all = all
  known_exported so name Begun p all = all
  known_exported so name (Headed r) p all = meaning_exported home so name r p all
  known_exported so name (Declared o r) p all = declared_exported so name o r p all

  from_exports : (own : List (List ℕ × Known T)) (so : List (List ℕ × Meaning)) → AreOwn home own → AreExports home so
      → AreExports home (fold with_export so own)
  from_exports [] so p all = all
  from_exports (e ∷ es) so p all = from_exports es (with_export so e) p.1 (known_exported so e.0 e.1 p.0 all)

  own_exported : (own : List (List ℕ × Known T)) → AreOwn home own → AreExports home (exports own)
  own_exported own p = from_exports own [] p tt

module _ (g : Gathers) (home : ℕ) (m : Module) where
  exported_or : (modules : List (List ℕ × ℕ)) (s : Scope g.Reported) (r : Result (Unit {0}) g.Reported)
      → AreOwn home s.own → IfOk (table_or m modules s r) (λ t. AreExports home t.exported)
  exported_or modules s (Ok x) p = own_exported home s.own p
  exported_or modules s (Err f) p = tt

  declared_leads : (modules : List (List ℕ × ℕ)) (s : Scope g.Reported) (defs : List Def)
      → Leads s (declared_in g m modules s defs).0
  declared_leads modules s defs =
      let i : State (Unit {0}) g.Reported = fold (with_import g modules) (s, Ok tt) m.imports in
      fold_leads (λ (st : State (Unit {0}) g.Reported). st.0) (with_def g) (def_leads g) defs
      (fold marked_def i.0 defs, i.1)
      ⨾ (fold_leads (λ (s : Scope g.Reported). s) marked_def (def_marks g.Reported) defs i.0
      ⨾ import_leads g modules m.imports (s, Ok tt))

  definition_exports : (tables : List Table) (defs : List Def)
      → IfOk (of_definition g home m tables defs) (λ t. AreExports home t.exported)
  definition_exports tables defs =
      let modules = (numbered_modules tables).0 in
      let s : Scope g.Reported = first_scope home tables in
      let st = declared_in g m modules s defs in
      exported_or modules st.0 st.1 ((declared_leads modules s defs).own tt)

  contents_export : (tables : List Table) (c : Contents)
      → IfOk (of_contents g home m tables c) (λ t. AreExports home t.exported)
  contents_export tables (contents.Definition defs) = definition_exports tables defs
  contents_export tables (contents.Implementation b) = tt
  contents_export tables (contents.Program b) = tt

pub tables_export : (g : Gathers) (home : ℕ) (m : Module) (tables : List Table)
    → IfOk (definition_table g home m tables) (λ t. AreExports home t.exported)
tables_export g home m tables = contents_export g home m (tables ++ console ∷ []) m.contents
