-- The tables that a body is checked with: the table of its own definition, and the tables of the
-- modules that it imports.
use Rattle.std.specs.Prelude.{cond, List, [], ◌∷◌, Option, Some, None, drop}
use Rattle.m2_tree.specs.declared.decl.Module.{Module}
use Rattle.m2_tree.specs.Names.{same_name}
use Rattle.typed_tree.specs.declared.table.Table.{Table}

-- the table of a body's own definition, which is the first that it needs
abbrev pub own_table : Module → List Table → Option Table
own_table m [] = None
own_table m (t ∷ ts) = cond (same_name t.name m.name.name) (Some t) None

-- the tables of a body's imports, which stand behind the table of its own definition
abbrev pub tables_behind : Option Table → List Table → List Table
tables_behind None tables = tables
tables_behind (Some own) tables = drop 1 tables
