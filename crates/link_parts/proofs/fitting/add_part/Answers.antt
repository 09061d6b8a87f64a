use Rattle.std.proofs.lemmas.Result.{err_from_is_err_and}
use Rattle.link_parts.specs.Fitting.{uses_of}
use Rattle.link_parts.specs.Held.{known_of, with_uses}
use Rattle.link_parts.proofs.Seeing.{interfaces_more, interfaces_fail, interfaces_none}
use Rattle.link_parts.proofs.fitting.add_part.Goals as goal

pub returns-in_err-add_interface : goal.returns-in_err-add_interface
returns-in_err-add_interface c =
    let p = err_from_is_err_and c.from_residual.result c.from_residual.ensures.1 in
    rw (p.1, p.2) (interfaces_fail c.args.number c.deref-interface-items.result.now c.args.part.now.interfaces.items
    c.loop-interface.interface-index (known_of c.loop-interface.known)
    (with_uses (uses_of c.args.number c.args.part.now) (known_of c.args.known.now))
    c.deref-interface-items.ensures.value c.interface-item.result c.in_err-add_interface.field-0.0
    (known_of c.add_interface.new.known)
    (known_of c.add_interface.new.known) c.loop-interface-test.true c.interface-item.is c.in_err-add_interface.ensures
    c.loop-interface.invariant)

pub loop-interface-preserved : goal.loop-interface-preserved
loop-interface-preserved c =
    interfaces_more c.args.number c.deref-interface-items.result.now c.args.part.now.interfaces.items
    c.loop-interface.interface-index (known_of c.loop-interface.known)
    (with_uses (uses_of c.args.number c.args.part.now) (known_of c.args.known.now))
    c.deref-interface-items.ensures.value c.interface-item.result (known_of c.add_interface.new.known)
    c.loop-interface-test.true c.interface-item.is c.in_ok-add_interface.ensures c.loop-interface.invariant

pub returns : goal.returns
returns c =
    interfaces_none c.args.number c.deref-interface-items.result.now c.args.part.now.interfaces.items
    c.loop-interface.interface-index (known_of c.loop-interface.known)
    (with_uses (uses_of c.args.number c.args.part.now) (known_of c.args.known.now))
    c.deref-interface-items.ensures.value c.loop-interface-test.false c.loop-interface.invariant
