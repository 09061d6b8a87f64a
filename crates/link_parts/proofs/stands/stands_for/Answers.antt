use Rattle.std.specs.List.{flat_map}
use Rattle.std.proofs.lemmas.Result.{err_from_is_err_and}
use Rattle.link_parts.specs.Fitting.{names_of}
use Rattle.link_parts.proofs.Naming.{of_more, part_within}
use Rattle.link_parts.proofs.stands.stands_for.Goals as goal

-- the fault of one of the modules
pub returns-in_err-add_stands-clause-fault : goal.returns-in_err-add_stands-clause-fault
returns-in_err-add_stands-clause-fault c =
    let p = err_from_is_err_and c.from_residual.result c.from_residual.ensures.1 in
    let within = part_within c.args.parts.now c.loop-part.part-index c.part-item.result c.loop-part-test.true
    c.part-item.is in
    rw (p.1, p.2) (of_more (names_of c.part-item.result) (flat_map names_of c.args.parts.now)
    c.in_err-add_stands.field-0.0 within c.in_err-add_stands.ensures.fault)
