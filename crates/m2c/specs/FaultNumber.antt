-- The numbers of the faults of a build.
use Rattle.std.specs.Prelude.{ℕ}
use Rattle.m2c.specs.declared.files.BuildFault.{BuildFault}
use Rattle.m2c.specs.declared.files.BuildFault.TheVariants.{Workers, Pages, NoMemory}

abbrev pub number_of : BuildFault → ℕ
number_of Workers = 70
number_of Pages = 73
number_of NoMemory = 90
