use Rattle.std.proofs.Common.{◌∙◌}
use Rattle.std.proofs.lemmas.Result.{err_from_is_err_and}
use Rattle.wasm_tree.specs.Code.{tree}
use Rattle.wasm_tree.specs.Validity.{result_types}
use Rattle.wasm_valid.specs.Framed.{frame_context}
use Rattle.wasm_valid.proofs.Stacks.{exit}
use Rattle.wasm_valid.proofs.Walks.{exit_unfit, exit_halts, goes_on, decides_end, fits_if, shorter}
use Rattle.wasm_valid.proofs.typing.+code.Goals as goal

pub check_code-returns-in_err-next-clause-fits : goal.check_code-returns-in_err-next-clause-fits
check_code-returns-in_err-next-clause-fits t c =
    let p = err_from_is_err_and c.from_residual.result c.from_residual.ensures.1 in
    exit c.from_residual.result p.0 _ _ _ p.1 p.2
    (exit_unfit c.args.frame.now c.args.blocks.now _ (tree c.args.code.now) c.ops.rest.now c.in-Some.op.now
    c.in-Some.others.now c.ops.operands (result_types c.args.given) _ c.ops.invariant.same c.in-Some.ensures
    c.ops.invariant.on c.in_err-next.ensures.fits)

pub check_code-returns-in_err-step-clause-fits : goal.check_code-returns-in_err-step-clause-fits
check_code-returns-in_err-step-clause-fits t c =
    let p = err_from_is_err_and c.from_residual-in_err-step.result c.from_residual-in_err-step.ensures.1 in
    exit c.from_residual-in_err-step.result p.0 _ _ _ p.1 p.2
    (exit_halts c.args.frame.now c.args.blocks.now c.check_front.new.blocks (tree c.args.code.now) c.ops.rest.now
    c.in-Some.op.now c.in-Some.others.now c.ops.operands (result_types c.args.given) _
    (c.in_ok-next.ensures.blocks ∙ c.ops.invariant.same) c.in-Some.ensures c.ops.invariant.on
    (c.in_err-step.ensures c.in-Some.others.now))

pub check_code-returns-clause-fits : goal.check_code-returns-clause-fits
check_code-returns-clause-fits t c = decides_end c.check_last-decided.result
    (frame_context c.args.frame.now c.args.blocks.now) (tree c.args.code.now) c.ops.rest.now c.ops.operands
    (result_types c.args.given) c.in_default.ensures c.ops.invariant.on c.check_last-decided.ensures.fits

pub check_code-ops-preserved : goal.check_code-ops-preserved
check_code-ops-preserved t c =
    let same = c.in_ok-next.ensures.blocks ∙ c.ops.invariant.same in
    record {
      on = goes_on c.args.frame.now c.args.blocks.now _ c.check_front.new.blocks (tree c.args.code.now) c.ops.rest.now
          c.in-Some.op.now c.in-Some.others.now c.in_ok-next.next.now c.ops.operands c.step.new.operands
          c.ops.invariant.same same c.in-Some.ensures c.in_ok-next.ensures.behind c.in_ok-next.ensures.fits
          (c.in_ok-step.ensures c.in-Some.others.now) c.ops.invariant.on;
      same = same;
      shorter = shorter c.args.code.now c.ops.rest.now c.in-Some.op.now c.in-Some.others.now c.in_ok-next.next.now
          c.in-Some.ensures c.in_ok-next.ensures.behind c.ops.invariant.shorter;
    }

pub check_inside-returns-in_ok-check_block-in-If-clause-fits :
    goal.check_inside-returns-in_ok-check_block-in-If-clause-fits
check_inside-returns-in_ok-check_block-in-If-clause-fits t c =
    fits_if c.check_block-in-If-2.result c.args.frame.now c.args.blocks.now c.check_block-in-If.new.blocks c.args.op.now
    c.in-If.t c.in-If.n c.args.rest.now c.split_ops-in-If.result.0.now c.in-If.is c.split_ops-in-If.ensures.front
    c.in_ok-check_block-in-If.ensures.blocks c.in_ok-check_block-in-If.ensures.fits
    c.check_block-in-If-2.ensures.fits

pub check_front-returns-clause-fits : goal.check_front-returns-clause-fits
check_front-returns-clause-fits t c = (c.holds_others.ensures c.args.rest.now c.if-holds_others.false).1
    (frame_context c.args.frame.now c.args.blocks.now)
