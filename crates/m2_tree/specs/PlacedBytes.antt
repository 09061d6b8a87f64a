-- The list that a place keeps.
use Rattle.std.specs.Prelude.{ℕ, List}
use Rattle.m2_tree.specs.declared.bytes.Place.{Place}
use Rattle.m2_tree.specs.declared.bytes.Place.TheVariants as the

abbrev pub bytes_at_place : Place → List ℕ
bytes_at_place (the.Inline list) = list
bytes_at_place (the.Shared arc) = arc.value.items
