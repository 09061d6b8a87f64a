use Rattle.std.proofs.Common.{ap, ◌∙◌}
use Rattle.typed_tree.specs.declared.typed_module.Which.TheVariants as which
use Rattle.m2_emit.proofs.Procedures.{found_at, one_more}
use Rattle.m2_emit.proofs.functions.push_procedures.Goals as goal

pub procedure-requires-clause-found : goal.procedure-requires-clause-found
procedure-requires-clause-found c =
    found_at c.args.home.now.procedures c.as_slice-routines.result.now c.loop-number.number
    c.index-routines-number.result (c.as_slice-routines.ensures ∙ ap (λ m. m.procedures) c.module_body.ensures)
    c.loop-number-test.true
    c.index-routines-number.is

pub loop-number-preserved : goal.loop-number-preserved
loop-number-preserved c =
    one_more c.args.home.now which.Module c.loop-number.functions c.push.new.self _ c.in_ok-procedure.field-0
    c.loop-number.number c.args.home.now.procedures c.as_slice-routines.result.now c.index-routines-number.result
    (c.as_slice-routines.ensures ∙ ap (λ m. m.procedures) c.module_body.ensures) c.loop-number-test.true
    c.index-routines-number.is c.in_ok-push.ensures.ok c.in_ok-procedure.ensures c.loop-number.invariant
