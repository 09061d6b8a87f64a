use Rattle.std.proofs.Common.{◌≡◌, map}
use Rattle.std.specs.List.{range_with_len}
use Rattle.def_scheme.specs.Coded.{body_index}
use Rattle.emit_buffer.specs.Cut.{cut}
use Rattle.m2_emit.proofs.segments.elements_of.Given as goal

abbrev pub invariant-loop-slot : goal.invariant-loop-slot
invariant-loop-slot l = l.functions ≡ map cut (range_with_len body_index l.slot)
