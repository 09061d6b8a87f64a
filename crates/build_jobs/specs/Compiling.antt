-- What becomes of a module, from what became of those that it needs.
use Rattle.std.specs.Prelude.{ℕ, Bool, true, false, cond, List, [], ◌∷◌, Option, Some, None, Result, Ok, Err}
use Rattle.std.specs.List.{flat_map, list_all}
use Rattle.m2_rule.specs.Breaches.{breach}
use Rattle.m2_rule.specs.declared.rule.Rule.TheVariants as rule
use Rattle.m2_tree.specs.declared.pos.Pos.{Pos}
use Rattle.m2_tree.specs.declared.decl.Contents.{Contents}
use Rattle.m2_tree.specs.declared.decl.Contents.TheVariants as contents
use Rattle.m2_tree.specs.declared.decl.Module.{Module}
use Rattle.typed_tree.specs.declared.table.Table.{Table}
use Rattle.typed_tree.specs.declared.typed_module.TypedModule.{TypedModule}
use Rattle.m2_rule.specs.declared.breach.Breach.{Breach}
use Rattle.check_scope.specs.Elaborated.{least}
use Rattle.check_definition.specs.Compiled as types
use Rattle.check_body.specs.Checks.{body_module}
use Rattle.layout_storage.specs.Layouts.{too_large}
use Rattle.m2_emit.specs.Emitted.{emitted}
use Rattle.build_jobs.specs.declared.outcome.Compiled.{Compiled}
use Rattle.build_jobs.specs.declared.outcome.Compiled.TheVariants.{Defined, Built, Refused, Blocked}
use Rattle.build_jobs.specs.Own.{own_table, tables_behind}

-- other modules can be compiled from it
abbrev pub is_sound : Compiled → Bool
is_sound (Defined t) = true
is_sound (Built b) = true
is_sound (Refused f) = false
is_sound Blocked = false

abbrev pub table_in : Compiled → List Table
table_in (Defined t) = t ∷ []
table_in (Built b) = []
table_in (Refused f) = []
table_in Blocked = []

abbrev pub tables_of : List Compiled → List Table
tables_of needed = flat_map table_in needed

-- ---- definitions

abbrev pub of_definition : Result Table Breach → Compiled
of_definition (Ok t) = Defined t
of_definition (Err f) = Refused f

-- ---- bodies

-- the body of a module in which no rule is broken
abbrev pub typed_body : Module → (number : ℕ) → List Table → Result TypedModule Breach
typed_body m number tables =
    let own = own_table m tables in body_module least number m own (tables_behind own tables)

-- Variables, texts or a frame that are too large are refused with 60. Else the module is emitted.
abbrev pub of_fit : TypedModule → Option Pos → Compiled
of_fit t None = Built (emitted t)
of_fit t (Some at) = Refused (breach at rule.LargeStorage)

abbrev pub of_checked : Result TypedModule Breach → Compiled
of_checked (Ok t) = of_fit t (too_large t)
of_checked (Err f) = Refused f

-- ---- modules

abbrev pub of_contents : Module → (number : ℕ) → List Table → Contents → Compiled
of_contents m number tables (contents.Definition defs) =
    of_definition (types.definition_table least number m tables)
of_contents m number tables (contents.Implementation b) = of_checked (typed_body m number tables)
of_contents m number tables (contents.Program b) = of_checked (typed_body m number tables)

-- A module is blocked if one that it needs is refused or blocked.
unfoldable pub compilation_of : Module → (number : ℕ) → List Compiled → Compiled
compilation_of m number needed =
    cond (list_all is_sound needed) (of_contents m number (tables_of needed) m.contents) Blocked
