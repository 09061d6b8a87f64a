use Rattle.std.proofs.Common.{◌≡◌, take, map}
use Rattle.link_parts.specs.Stands.{stand_of, stands_for}
use Rattle.link_parts.proofs.stands.stands_for.Given as goal

abbrev pub invariant-loop-part : goal.invariant-loop-part
invariant-loop-part l = map stand_of l.stands.items ≡ stands_for (take l.part-index l.parts)
