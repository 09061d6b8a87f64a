-- The numbers with which runs end before their end.
use Rattle.std.specs.Prelude.{ℕ}
use Rattle.m2_rule.specs.declared.fault.Fault.{Fault}
use Rattle.m2_rule.specs.declared.fault.Fault.TheVariants.{OutOfRange, Overflow, Index, Divisor, NoLabel, NoReturn, NoProcedure, Storage, Halt}

abbrev pub fault_number : Fault → ℕ
fault_number OutOfRange = 1
fault_number Overflow = 2
fault_number Index = 3
fault_number Divisor = 4
fault_number NoLabel = 5
fault_number NoReturn = 6
fault_number NoProcedure = 7
fault_number Storage = 8
fault_number Halt = 9
