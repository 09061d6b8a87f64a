-- The numbers of the refusals, and their words.
use Rattle.std.specs.Prelude.{ℕ, List, codes}
use Rattle.pool_board.specs.declared.refusal.PoolRefusal.{PoolRefusal}
use Rattle.pool_board.specs.declared.refusal.PoolRefusal.TheVariants.{Workers, Prerequisite, NoMemory}

abbrev pub number_of : PoolRefusal → ℕ
number_of Workers = 70
number_of Prerequisite = 71
number_of NoMemory = 90

abbrev pub words_of : PoolRefusal → List ℕ
words_of Workers = codes "there are not 1 to 64 workers"
words_of Prerequisite = codes "a prerequisite is repeated or not smaller than its job"
words_of NoMemory = codes "no memory"
