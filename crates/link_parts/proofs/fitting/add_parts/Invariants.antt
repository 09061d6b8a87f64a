use Rattle.std.proofs.Common.{◌≡◌, drop}
use Rattle.link_parts.specs.Fitting.{uses_from}
use Rattle.link_parts.specs.Held.{known_of, with_uses}
use Rattle.link_parts.proofs.fitting.add_parts.Given as goal

abbrev pub invariant-loop-number : goal.invariant-loop-number
invariant-loop-number l = with_uses (uses_from l.number (drop l.number l.parts)) (known_of l.known)
    ≡ with_uses (uses_from 0 l.parts) (known_of l.fn.known)
