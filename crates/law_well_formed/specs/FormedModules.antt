-- What the checker makes of modules is well formed.
use Rattle.std.specs.Prelude.{◌≡◌, ℕ, ◌==◌, Bool, false, List, Option, Some, None}
use Rattle.std.specs.List.{AllByRecursion}
use Rattle.m2_tree.specs.declared.decl.Contents.{Contents}
use Rattle.m2_tree.specs.declared.decl.Contents.TheVariants as contents
use Rattle.m2_tree.specs.declared.decl.Module.{Module}
use Rattle.typed_tree.specs.declared.table.Table.{Table}
use Rattle.m2_tree.specs.Names.{is_console}
use Rattle.check_scope.specs.Elaborated.{Gathers}
use Rattle.check_body.specs.Own.{exported_headings}
use Rattle.check_body.specs.Checks.{body_module}
use Rattle.law_modules.specs.WellFormed.{IsWellFormed}
use Rattle.law_well_formed.specs.Formed.{Holds}
use Rattle.law_well_formed.specs.FormedTables.{AreExports, AreNumberedBy}

-- ---- tables

abbrev pub is_console_table : Table → Bool
is_console_table t = is_console t.name

-- of another module's definition, which exports what is its own
pub record IsTable (home : ℕ) (t : Table) : Type 0 where
  pub exports : AreExports t.number t.exported
  pub named : is_console_table t ≡ false
  pub other : (t.number == home) ≡ false

abbrev pub AreTables : (home : ℕ) → List Table → Type 0
AreTables home ts = AllByRecursion (IsTable home) ts

-- of the module's own definition
pub record IsOwn (t : Table) : Type 0 where
  pub exports : AreExports t.number t.exported
  pub numbers : AreNumberedBy (exported_headings t.exported) t.exported

-- ---- modules

-- the tables by which an implementation is checked
abbrev pub AreForOwn : Option Table → List Table → Type 0
AreForOwn None tables = Unit {0}
AreForOwn (Some own) tables = IsOwn own × AreTables own.number tables

-- the tables by which a body is checked
abbrev pub AreFor : (number : ℕ) → Option Table → List Table → Contents → Type 0
AreFor number own tables (contents.Program b) = AreTables number tables
AreFor number own tables (contents.Implementation b) = AreForOwn own tables
AreFor number own tables (contents.Definition defs) = Unit {0}

abbrev pub ModulesAreFormed : Gathers → Type 0
ModulesAreFormed g = (number : ℕ) (m : Module) (own : Option Table) (tables : List Table)
    → AreFor number own tables m.contents → Holds IsWellFormed (body_module g number m own tables)
