use Rattle.std.proofs.Common.{ap, ◌∙◌}
use Rattle.typed_tree.specs.declared.typed_module.Which.TheVariants as which
use Rattle.m2_emit.proofs.Procedures.{found_at, one_more}
use Rattle.m2_emit.proofs.functions.push_locals.Goals as goal

pub local-requires-clause-found : goal.local-requires-clause-found
local-requires-clause-found c =
    found_at c.args.home.now.locals c.as_slice-routines.result.now c.loop-number.number c.index-routines-number.result
    (c.as_slice-routines.ensures ∙ ap (λ m. m.locals) c.module_body.ensures) c.loop-number-test.true
    c.index-routines-number.is

pub loop-number-preserved : goal.loop-number-preserved
loop-number-preserved c =
    one_more c.args.home.now which.Local c.loop-number.functions c.push.new.self _ c.in_ok-local.field-0
    c.loop-number.number c.args.home.now.locals c.as_slice-routines.result.now c.index-routines-number.result
    (c.as_slice-routines.ensures ∙ ap (λ m. m.locals) c.module_body.ensures) c.loop-number-test.true
    c.index-routines-number.is c.in_ok-push.ensures.ok c.in_ok-local.ensures c.loop-number.invariant
