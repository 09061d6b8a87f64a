use Rattle.std.proofs.Common.{take}
use Rattle.emit_buffer.specs.Homes.{ArePlaces}
use Rattle.emit_buffer.proofs.home.places_of.Given as goal

abbrev pub invariant-loop-place : goal.invariant-loop-place
invariant-loop-place l = ArePlaces l.places.entries (take l.place l.imports)
