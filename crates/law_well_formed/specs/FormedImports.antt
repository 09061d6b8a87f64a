-- The modules that a table or a typed module names are imported.
use Rattle.std.specs.Prelude.{◌≡◌, ℕ, Bool, false, true, ◌||◌, List, Option, Some, None, codes, All, IfOk}
use Rattle.std.specs.List.{list_any}
use Rattle.m2_tree.specs.declared.decl.Module.{Module}
use Rattle.m2_graph.specs.Imports.{imports_of}
use Rattle.typed_tree.specs.declared.table.Table.{Table}
use Rattle.typed_tree.specs.declared.typed_module.Imported.{Imported}
use Rattle.typed_tree.specs.declared.typed_module.TypedModule.{TypedModule}
use Rattle.m2_tree.specs.Names.{same_name}
use Rattle.check_scope.specs.Elaborated.{Gathers}
use Rattle.check_definition.specs.Compiled.{definition_table}
use Rattle.check_body.specs.Elaborating.{Elaborates}
use Rattle.check_body.specs.Checked.{body_module}

-- the tree imports a module of this name
abbrev pub is_imported : Module → List ℕ → Bool
is_imported m name = list_any (λ i. same_name i.name name) (imports_of m)

-- so does the definition of this table
abbrev pub is_imported_by : Option Table → List ℕ → Bool
is_imported_by None name = false
is_imported_by (Some t) name = list_any (λ e. same_name e.0 name) t.imports

-- a module that is imported by a tree, or by its own definition. It is not Console, which has no
-- instance
pub record IsImport (m : Module) (own : Option Table) (i : Imported) : Type 0 where
  pub known : (is_imported_by own i.name || is_imported m i.name) ≡ true
  pub instance : same_name i.name (codes "Console") ≡ false

-- ---- tables of definitions

pub record NamesImports (m : Module) (home : ℕ) (t : Table) : Type 0 where
  pub name : t.name ≡ m.name.name
  pub number : t.number ≡ home
  pub imports : All (λ e. is_imported m e.0 ≡ true) t.imports

abbrev pub TablesNameImports : Gathers → Type 0
TablesNameImports g = (home : ℕ) (m : Module) (tables : List Table)
    → IfOk (definition_table g home m tables) (NamesImports m home)

-- ---- typed modules

pub record StandsOnImports (m : Module) (own : Option Table) (t : TypedModule) : Type 0 where
  pub name : t.name ≡ m.name.name
  pub imports : All (IsImport m own) t.imports

-- whatever the statements of its bodies come to
abbrev pub ModulesNameImports : Gathers → Type 0
ModulesNameImports g =
    (elaborates : Elaborates g.Reported) (number : ℕ) (m : Module) (own : Option Table)
    (tables : List Table)
    → IfOk (body_module g elaborates number m own tables) (StandsOnImports m own)
