use Rattle.std.proofs.Common.{◌∙◌, arith}
use Rattle.std.proofs.lemmas.List.{length-set}
use Rattle.wasm_engine.proofs.Copying.{copy_more, copy_done}
use Rattle.wasm_engine.proofs.bytes.copy_each.Goals as goal

pub loop-done-preserved : goal.loop-done-preserved
loop-done-preserved c = (
  length-set c.loop-done.bytes _ _ ∙ c.loop-done.invariant.0,
  copy_more c.args.count c.loop-done.done c.args.to c.args.from c.loop-done.bytes _
      (omega (arith, c.loop-done-test.true))
      (omega (arith, c.loop-done-test.true, c.loop-done.invariant.0, c.requires.target)) c.loop-done.invariant.1,
)

pub returns : goal.returns
returns c = copy_done c.args.count c.loop-done.done c.args.to c.args.from c.loop-done.bytes _
    (omega (arith, c.loop-done-test.false)) c.loop-done.invariant.1
