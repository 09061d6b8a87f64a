-- The tables that a module can import from.
use Rattle.std.specs.Prelude.{◌≡◌, ℕ, List, Ok}
use Rattle.m2_tree.specs.declared.decl.Module.{Module}
use Rattle.typed_tree.specs.declared.table.Table.{Table}
use Rattle.check_scope.specs.Elaborated.{Gathers}
use Rattle.check_definition.specs.Predeclared.{console}
use Rattle.check_definition.specs.Compiled.{definition_table}

-- the table of a definition
pub data IsTableOf (g : Gathers) (number : ℕ) (t : Table) : Type 0 where
  is_answered : (m : Module) (imported : List Table)
      → definition_table g number m imported ≡ Ok t → IsTableOf g number t

-- a table that a module of this number can import from
pub data CanBeImported (g : Gathers) (home : ℕ) (t : Table) : Type 0 where
  of_console : t ≡ console → CanBeImported g home t
  of_definition : (number : ℕ) → IsTableOf g number t → (number ≡ home → ⊥)
      → CanBeImported g home t
