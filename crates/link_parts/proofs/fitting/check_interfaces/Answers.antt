use Rattle.std.proofs.Common.{List, ℕ, subst}
use Rattle.link_parts.specs.declared.fitting.Seen.{Seen}
use Rattle.link_parts.specs.Fitting.{uses_from}
use Rattle.link_parts.specs.Held.{known_of, with_uses, Tells}
use Rattle.link_parts.proofs.Judging.{fits_told, fault_told}
use Rattle.link_parts.proofs.fitting.check_interfaces.Goals as goal

pub returns-clause-fits : goal.returns-clause-fits
returns-clause-fits c =
    fits_told (uses_from 0 c.args.parts.now) (known_of c.add_parts.new.known) c.add_parts.result
    (subst (λ (es : List (List ℕ × Seen)). Tells c.add_parts.result (known_of c.add_parts.new.known)
    (with_uses (uses_from 0 c.args.parts.now) (known_of es))) c.new-known.ensures c.add_parts.ensures)

pub returns-clause-fault : goal.returns-clause-fault
returns-clause-fault c =
    fault_told c.args.parts.now (known_of c.add_parts.new.known) c.add_parts.result
    (subst (λ (es : List (List ℕ × Seen)). Tells c.add_parts.result (known_of c.add_parts.new.known)
    (with_uses (uses_from 0 c.args.parts.now) (known_of es))) c.new-known.ensures c.add_parts.ensures)
