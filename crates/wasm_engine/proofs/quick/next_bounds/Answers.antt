use Rattle.wasm_tree.specs.Code.{tree}
use Rattle.wasm_engine.proofs.AtOnce.{bounds_front}
use Rattle.wasm_engine.proofs.quick.next_bounds.Goals as goal

pub returns : goal.returns
returns c =
    bounds_front (tree c.args.code.now) (tree c.in_ok-low.code.now) (tree c.in_ok-high.code.now)
    (tree c.in_ok-fault.code.now) (tree c.in_ok-check.rest.now) c.in_ok-low.low c.in_ok-high.high
    c.in_ok-fault.fault c.in_ok-check.check
    c.in_ok-low.ensures c.in_ok-high.ensures c.in_ok-fault.ensures c.in_ok-check.ensures
