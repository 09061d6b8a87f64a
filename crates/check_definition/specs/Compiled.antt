-- The table of a definition.
use Rattle.std.specs.Prelude.{ℕ, List, [], ◌∷◌, ◌++◌, length, Result, Ok}
use Rattle.std.specs.List.{fold}
use Rattle.m2_rule.specs.declared.rule.Rule.TheVariants as rule
use Rattle.m2_tree.specs.declared.decl.Def.{Def}
use Rattle.m2_tree.specs.declared.decl.Contents.{Contents}
use Rattle.m2_tree.specs.declared.decl.Contents.TheVariants as contents
use Rattle.m2_tree.specs.declared.decl.Module.{Module}
use Rattle.typed_tree.specs.declared.table.Table.{Table}
use Rattle.check_scope.specs.declared.scope.Scope.{Scope}
use Rattle.check_scope.specs.Scopes.{State}
use Rattle.check_scope.specs.Elaborated.{Gathers, report, ◌▷◌}
use Rattle.check_definition.specs.Marking.{marked_def}
use Rattle.check_definition.specs.Predeclared.{console, first_scope}
use Rattle.check_definition.specs.Importing.{numbered_modules, with_import}
use Rattle.check_definition.specs.Declare.{with_def}
use Rattle.check_definition.specs.Again.{again_def}
use Rattle.check_definition.specs.Export.{exports, reached_of, imported_modules}

abbrev pub table_of : {T : Type 0} → Module → List (List ℕ × ℕ) → Scope T → Table
table_of m modules s = record {
  number = s.types.home;
  name = m.name.name;
  imports = imported_modules modules s.tables m.imports;
  exported = exports s.own;
  reached = reached_of s.types;
}

abbrev pub table_or : {T : Type 0} → Module → List (List ℕ × ℕ) → Scope T → Result (Unit {0}) T
    → Result Table T
table_or m modules s elaborated = elaborated ▷ λ fine. Ok (table_of m modules s)

-- Its imports and its declarations, in order. The names that it declares are known to be declared
-- wherever they stand. Behind all headings constant expressions are read again.
abbrev pub declared_in : (g : Gathers) → Module → List (List ℕ × ℕ) → Scope g.Reported → List Def
    → State (Unit {0}) g.Reported
declared_in g m modules s defs =
    let i = fold (with_import g modules) (s, Ok tt) m.imports in
    let d = fold (with_def g) (fold marked_def i.0 defs, i.1) defs in
    (d.0, (fold (again_def g d.0) (d.1, length i.0.own) defs).0)

abbrev pub of_definition : (g : Gathers) → ℕ → Module → List Table → List Def
    → Result Table g.Reported
of_definition g number m tables defs =
    let modules = (numbered_modules tables).0 in
    let st = declared_in g m modules (first_scope number tables) defs in
    table_or m modules st.0 st.1

abbrev pub of_contents : (g : Gathers) → ℕ → Module → List Table → Contents
    → Result Table g.Reported
of_contents g number m tables (contents.Definition defs) = of_definition g number m tables defs
of_contents g number m tables (contents.Implementation b) = report g m.name.pos rule.LonelyModule
of_contents g number m tables (contents.Program b) = report g m.name.pos rule.LonelyModule

-- the table of a definition, given the tables of those that it imports; the table of Console is
-- always there
abbrev pub definition_table : (g : Gathers) → ℕ → Module → List Table → Result Table g.Reported
definition_table g number m imports = of_contents g number m (imports ++ console ∷ []) m.contents
