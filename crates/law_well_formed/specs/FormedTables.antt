-- What the table of a definition exports is the module's own.
use Rattle.std.specs.Prelude.{◌≡◌, ℕ, List, Some, IfOk, slice_get}
use Rattle.std.specs.List.{AllByRecursion}
use Rattle.m2_tree.specs.declared.decl.Module.{Module}
use Rattle.typed_tree.specs.declared.meaning.Meaning.{Meaning}
use Rattle.typed_tree.specs.declared.meaning.Meaning.TheVariants as meaning
use Rattle.typed_tree.specs.declared.table.Table.{Table}
use Rattle.typed_tree.specs.declared.types.TypeNo.{TypeNo}
use Rattle.check_scope.specs.Elaborated.{Gathers}
use Rattle.check_definition.specs.Compiled.{definition_table}
use Rattle.check_body.specs.Own.{exported_headings}

-- a constant, a type, a variable or a procedure of this module, or a standard procedure
abbrev pub IsExport : (home : ℕ) → Meaning → Type 0
IsExport home (meaning.Constant v) = Unit {0}
IsExport home (meaning.Type t n) = Unit {0}
IsExport home (meaning.Variable v) = v.home ≡ home
IsExport home (meaning.Local v) = ⊥
IsExport home (meaning.Field f) = ⊥
IsExport home (meaning.Procedure p) = p.home ≡ home
IsExport home (meaning.LocalProcedure p) = ⊥
IsExport home meaning.Ahead = ⊥
IsExport home (meaning.Standard f) = Unit {0}
IsExport home (meaning.Module k) = ⊥

abbrev pub AreExports : (home : ℕ) → List (List ℕ × Meaning) → Type 0
AreExports home es = AllByRecursion (λ e. IsExport home e.1) es

abbrev pub TablesExportOwn : Gathers → Type 0
TablesExportOwn g = (home : ℕ) (m : Module) (tables : List Table)
    → IfOk (definition_table g home m tables) (λ t. AreExports home t.exported)

-- ---- numbers

-- a procedure that is exported has its place among those that are exported
abbrev pub IsNumbered : List TypeNo → Meaning → Type 0
IsNumbered hs (meaning.Procedure p) = slice_get hs p.number ≡ Some p.heading
IsNumbered hs (meaning.Constant v) = Unit {0}
IsNumbered hs (meaning.Type t n) = Unit {0}
IsNumbered hs (meaning.Variable v) = Unit {0}
IsNumbered hs (meaning.Local v) = Unit {0}
IsNumbered hs (meaning.Field f) = Unit {0}
IsNumbered hs (meaning.LocalProcedure p) = Unit {0}
IsNumbered hs meaning.Ahead = Unit {0}
IsNumbered hs (meaning.Standard f) = Unit {0}
IsNumbered hs (meaning.Module k) = Unit {0}

abbrev pub AreNumberedBy : List TypeNo → List (List ℕ × Meaning) → Type 0
AreNumberedBy hs es = AllByRecursion (λ e. IsNumbered hs e.1) es

abbrev pub TablesNumberProcedures : Gathers → Type 0
TablesNumberProcedures g =
    (home : ℕ) (m : Module) (tables : List Table) → IfOk (definition_table g home m tables) (λ t.
    AreNumberedBy (exported_headings t.exported) t.exported)
