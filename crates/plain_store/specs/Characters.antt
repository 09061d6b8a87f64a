-- The parts of a string.
use Rattle.std.specs.Prelude.{ℕ, pos}
use Rattle.plain_store.specs.declared.held.Held.{Held}
use Rattle.plain_store.specs.declared.held.Held.TheVariants.{Same}

abbrev pub character_part : ℕ → Held
character_part c = Same (pos c)
