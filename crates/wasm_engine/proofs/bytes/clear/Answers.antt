use Rattle.std.proofs.Common.{◌+◌, ◌∙◌, arith}
use Rattle.std.proofs.lemmas.List.{length-set}
use Rattle.wasm_engine.proofs.Clearing.{clear_more, clear_done}
use Rattle.wasm_engine.proofs.bytes.clear.Goals as goal

pub loop-place-preserved : goal.loop-place-preserved
loop-place-preserved c = (
  length-set c.loop-place.bytes c.loop-place.place 0 ∙ c.loop-place.invariant.0,
  clear_more (c.args.to + c.args.count) c.loop-place.place c.loop-place.bytes _ (omega (arith, c.loop-place-test.true))
      (omega (arith, c.loop-place-test.true, c.loop-place.invariant.0, c.requires)) c.loop-place.invariant.1,
)

pub returns : goal.returns
returns c = clear_done (c.args.to + c.args.count) c.loop-place.place c.loop-place.bytes _
    (omega (arith, c.loop-place-test.false)) c.loop-place.invariant.1
