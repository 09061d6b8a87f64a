-- The numbers of the faults of saving.
use Rattle.std.specs.Prelude.{ℕ}
use Rattle.write_directory.specs.declared.fault.SaveFault.{SaveFault}
use Rattle.write_directory.specs.declared.fault.SaveFault.TheVariants.{NoMemory, Device}

abbrev pub number_of : SaveFault → ℕ
number_of NoMemory = 90
number_of Device = 93
