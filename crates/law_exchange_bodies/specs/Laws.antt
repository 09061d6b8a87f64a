-- A body is checked the same with other numbers of modules.
use Rattle.std.specs.Prelude.{◌≡◌, ℕ, map, List, Option}
use Rattle.std.specs.Option.{option_map}
use Rattle.m2_tree.specs.declared.decl.Module.{Module}
use Rattle.typed_tree.specs.declared.table.Table.{Table}
use Rattle.check_scope.specs.Elaborated.{least}
use Rattle.check_body.specs.Checks.{body_module}
use Rattle.def_exchange.specs.Moved.{Exchange, moved_table}
use Rattle.law_exchange_types.specs.Pieces.{map_ok}
use Rattle.law_exchange_bodies.specs.Modules.{moved_module}
use Rattle.law_exchange_bodies.specs.Premises.{KeepsConsole}

-- The module that the checker answers moves with the numbers.
abbrev pub BodiesMove : Type 0
BodiesMove =
    (x : Exchange)
    → KeepsConsole x
    → (number : ℕ) (m : Module) (own : Option Table) (tables : List Table)
    → body_module least (x.there number) m (option_map (moved_table x) own)
    (map (moved_table x) tables)
    ≡ map_ok (moved_module x) (body_module least number m own tables)
