-- The modules that a body stands on.
use Rattle.std.specs.Prelude.{ℕ, cond, List, [], ◌∷◌, ◌++◌, Option, Some, None, slice_get}
use Rattle.std.specs.List.{fold}
use Rattle.m2_tree.specs.declared.decl.Import.{Import}
use Rattle.typed_tree.specs.declared.table.Table.{Table}
use Rattle.typed_tree.specs.declared.typed_module.Imported.{Imported}
use Rattle.m2_tree.specs.Names.{is_console}
use Rattle.typed_tree.specs.Names.{find_name, enter_name}
use Rattle.check_definition.specs.Export.{with_import_of}
use Rattle.check_body.specs.Own.{exported_variables}

-- ---- names: those that the definition imports, and then those that the body imports, each once

abbrev pub with_import_copy : List (List ℕ × ℕ) → List ℕ × ℕ → List (List ℕ × ℕ)
with_import_copy so e = enter_name e.0 e.1 so

abbrev pub definition_imports : Option Table → List (List ℕ × ℕ)
definition_imports None = []
definition_imports (Some own) = fold with_import_copy [] own.imports

abbrev pub all_imports : (modules : List (List ℕ × ℕ)) → List Table → Option Table → List Import
    → List (List ℕ × ℕ)
all_imports modules tables own is = fold (with_import_of modules tables) (definition_imports own) is

-- ---- their variables. Console has none, and no instance.

abbrev pub imported_as : Table → Imported
imported_as t =
    record { name = t.name; number = t.number; variables = exported_variables t.exported }

abbrev pub with_table_of : List Imported → Option Table → List Imported
with_table_of so None = so
with_table_of so (Some t) = cond (is_console t.name) so (so ++ imported_as t ∷ [])

-- a module that the definition alone imports: the body can name none of its variables
abbrev pub with_name_of : List Imported → List ℕ × ℕ → List Imported
with_name_of so e =
    cond (is_console e.0) so (so ++ record { name = e.0; number = e.1; variables = [] } ∷ [])

abbrev pub with_place_of : List Table → List Imported → List ℕ × ℕ → Option ℕ → List Imported
with_place_of tables so e None = with_name_of so e
with_place_of tables so e (Some k) = with_table_of so (slice_get tables k)

abbrev pub with_module_of : (modules : List (List ℕ × ℕ)) → List Table → List Imported → List ℕ × ℕ
    → List Imported
with_module_of modules tables so e = with_place_of tables so e (find_name e.0 modules)

abbrev pub typed_imports : (modules : List (List ℕ × ℕ)) → List Table → List (List ℕ × ℕ)
    → List Imported
typed_imports modules tables names = fold (with_module_of modules tables) [] names
