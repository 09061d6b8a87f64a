use Rattle.std.proofs.Common.{sym, ap, ◌∙◌}
use Rattle.std.specs.Option.{option_copied}
use Rattle.link_parts.specs.Fitting.{use_of}
use Rattle.link_parts.specs.Held.{known_of}
use Rattle.link_parts.proofs.Seeing.{none_found, some_found}
use Rattle.link_parts.proofs.fitting.add_interface.Goals as goal

pub returns-in-None : goal.returns-in-None
returns-in-None c =
    none_found c.as_bytes.result.now (use_of c.args.number c.args.interface.now) c.args.known.now c.enter_first.result
    (known_of c.enter_first.new.known)
    (sym c.find.ensures ∙ ap option_copied c.in-None.is) c.as_bytes.ensures.value c.enter_first.ensures

pub returns-in-Some : goal.returns-in-Some
returns-in-Some c =
    some_found c.as_bytes.result.now (use_of c.args.number c.args.interface.now) c.args.known.now c.hold_against.result
    (known_of c.args.known.now) c.in-Some.first.now
    (sym c.find.ensures ∙ ap option_copied c.in-Some.is) c.as_bytes.ensures.value
    (c.hold_against.ensures (known_of c.args.known.now))
