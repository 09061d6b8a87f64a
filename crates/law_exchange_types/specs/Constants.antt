-- What constants mean, with other numbers of modules.
use Rattle.std.specs.Option.{option_map}
use Rattle.check_const.specs.declared.operand.Ordinal.{Ordinal}
use Rattle.check_const.specs.declared.operand.Operand.{Operand}
use Rattle.check_const.specs.declared.operand.Operand.TheVariants as operand
use Rattle.check_const.specs.declared.denoted.Denoted.{Denoted}
use Rattle.check_const.specs.declared.denoted.Denoted.TheVariants as denoted
use Rattle.def_exchange.specs.Moved.{Exchange, moved_type, moved_value}

module _ (x : Exchange) where
  abbrev pub moved_ordinal : Ordinal → Ordinal
  moved_ordinal a = record { sort = option_map (moved_type x) a.sort; number = a.number }

  abbrev pub moved_operand : Operand → Operand
  moved_operand (operand.Scalar a) = operand.Scalar (moved_ordinal a)
  moved_operand (operand.Set bits) = operand.Set bits

  abbrev pub moved_denoted : Denoted → Denoted
  moved_denoted (denoted.Value v) = denoted.Value (moved_value x v)
  moved_denoted (denoted.«Type» t) = denoted.«Type» (moved_type x t)
  moved_denoted denoted.Variable = denoted.Variable
  moved_denoted denoted.Procedure = denoted.Procedure
  moved_denoted (denoted.Standard f) = denoted.Standard f
  moved_denoted (denoted.Module k) = denoted.Module k
