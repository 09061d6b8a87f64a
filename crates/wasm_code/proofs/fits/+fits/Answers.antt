use Rattle.std.proofs.Common.{rules, arith, ◌≡◌, true, false, length, sym, ◌∙◌}
use Rattle.std.proofs.lemmas.Grind.{common_steps}
use Rattle.wasm_code.proofs.Fitting.{inside-Block, inside-Loop, inside-If-None, inside-If-Some, fits-Unreachable, fits-Br, fits-BrIf, fits-BrTable, fits-Return, fits-Call, fits-CallIndirect, fits-Drop, fits-LocalGet, fits-LocalSet, fits-LocalTee, fits-GlobalGet, fits-Load, fits-Store, fits-I32Const, fits-I64Const, fits-Numeric, one_fits, one_fails, none_left}
use Rattle.wasm_code.proofs.Written.{no_longer}
use Rattle.wasm_code.proofs.fits.+fits.Goals as goal

pub op_fits-returns-in-Block : goal.op_fits-returns-in-Block
op_fits-returns-in-Block t c = grind (arith, common_steps, inside-Block, inside-Loop, inside-If-None)

pub op_fits-returns-then-fits_inside : goal.op_fits-returns-then-fits_inside
op_fits-returns-then-fits_inside t c = grind (arith, common_steps, inside-If-Some)

pub op_fits-returns-else-fits_inside : goal.op_fits-returns-else-fits_inside
op_fits-returns-else-fits_inside t c = grind (arith, common_steps, inside-If-Some)

pub op_fits-returns-then-are_labels : goal.op_fits-returns-then-are_labels
op_fits-returns-then-are_labels t c = grind (arith, common_steps, fits-BrTable)

pub op_fits-returns-else-are_labels : goal.op_fits-returns-else-are_labels
op_fits-returns-else-are_labels t c = grind (arith, common_steps, fits-BrTable)

pub op_fits-returns-in-Br : goal.op_fits-returns-in-Br
op_fits-returns-in-Br t c = grind (
  arith,
  common_steps,
  fits-Br,
  fits-BrIf,
  fits-Call,
  fits-CallIndirect,
  fits-LocalGet,
  fits-LocalSet,
  fits-LocalTee,
  fits-GlobalGet,
)

pub op_fits-returns-in-I32Const : goal.op_fits-returns-in-I32Const
op_fits-returns-in-I32Const t c = grind (arith, common_steps, fits-I32Const)

pub op_fits-returns-in-I64Const : goal.op_fits-returns-in-I64Const
op_fits-returns-in-I64Const t c = grind (arith, common_steps, fits-I64Const)

pub op_fits-returns-in-Unreachable : goal.op_fits-returns-in-Unreachable
op_fits-returns-in-Unreachable t c = grind
    (arith, common_steps, fits-Unreachable, fits-Return, fits-Drop, fits-Load, fits-Store, fits-Numeric)

pub ops_fit-returns-then-not-op_fits : goal.ops_fit-returns-then-not-op_fits
ops_fit-returns-then-not-op_fits t c =
    let fails : c.op_fits.result ≡ false = search rules in
    one_fails c.args.levels _ c.in-Some.op c.loop-op.left.now c.in-Some.rest.now (sym c.op_fits.ensures ∙ fails)
    c.in-Some.ensures c.loop-op.invariant.0

pub ops_fit-loop-op-preserved : goal.ops_fit-loop-op-preserved
ops_fit-loop-op-preserved t c =
    let fits : c.op_fits.result ≡ true = search rules in (
      one_fits c.args.levels _ c.in-Some.op c.loop-op.left.now c.in-Some.rest.now c.behind-left.result.now
          (sym c.op_fits.ensures ∙ fits) c.in-Some.ensures c.behind-left.ensures c.loop-op.invariant.0,
      no_longer (length c.args.ops.now) c.in-Some.op c.loop-op.left.now c.in-Some.rest.now c.behind-left.result.now
          c.in-Some.ensures c.behind-left.ensures c.loop-op.invariant.1,
    )

pub ops_fit-returns : goal.ops_fit-returns
ops_fit-returns t c = none_left c.args.levels _ c.loop-op.left.now c.in_default.ensures c.loop-op.invariant.0
