use Rattle.std.proofs.lemmas.Result.{err_from_is_err_and}
use Rattle.run_program.proofs.Decoded.{lacks_link, lacks_other, one_behind}
use Rattle.run_program.proofs.reading.read_modules.Goals as goal

pub returns-in_err-add_module-clause-err : goal.returns-in_err-add_module-clause-err
returns-in_err-add_module-clause-err c =
    let p = err_from_is_err_and c.from_residual.result c.from_residual.ensures.1 in
    rw (p.1, p.2) (lacks_link c.args.link.now c.args.others.now c.in_err-add_module.field-0.0
    c.in_err-add_module.ensures.err)

pub returns-in_err-add_module-2-clause-err : goal.returns-in_err-add_module-2-clause-err
returns-in_err-add_module-2-clause-err c =
    let p = err_from_is_err_and c.from_residual-in_err-add_module-2.result c.from_residual-in_err-add_module-2.ensures.1
    in
    rw (p.1, p.2) (lacks_other c.args.link.now c.args.others.now c.loop-other.other-index c.other-item.result
    c.deref.result.now c.loop-other-test.true c.other-item.is c.deref.ensures.value c.in_err-add_module-2.field-0.0
    c.in_err-add_module-2.ensures.err)

pub loop-other-preserved : goal.loop-other-preserved
loop-other-preserved c =
    one_behind c.args.link.now c.args.others.now c.loop-other.other-index c.other-item.result c.deref.result.now
    c.loop-other-test.true c.other-item.is c.deref.ensures.value c.loop-other.modules.items
    c.add_module-in-loop-other.new.modules.items c.loop-other.invariant c.in_ok-add_module-2.ensures.ok
