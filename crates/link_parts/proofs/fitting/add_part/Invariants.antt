use Rattle.std.proofs.Common.{◌≡◌, drop}
use Rattle.link_parts.specs.Fitting.{uses_of}
use Rattle.link_parts.specs.Held.{known_of, with_uses}
use Rattle.link_parts.proofs.fitting.add_part.Given as goal

abbrev pub invariant-loop-interface : goal.invariant-loop-interface
invariant-loop-interface l = with_uses (drop l.interface-index (uses_of l.number l.part)) (known_of l.known)
    ≡ with_uses (uses_of l.number l.part) (known_of l.fn.known)
