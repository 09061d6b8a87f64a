-- Fields of records in the making, with other numbers of modules.
use Rattle.check_type_expr.specs.declared.field.Fields.{Fields}
use Rattle.def_exchange.specs.Moved.{Exchange, moved_type}
use Rattle.law_exchange_types.specs.Pieces.{moved_entries}

abbrev pub moved_fields : Exchange → Fields → Fields
moved_fields x fs = record { names = moved_entries (moved_type x) fs.names; cells = fs.cells }
