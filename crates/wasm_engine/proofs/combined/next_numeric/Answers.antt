use Rattle.wasm_engine.proofs.Combining.{numeric_front}
use Rattle.wasm_engine.proofs.combined.next_numeric.Goals as goal

pub returns-in-Numeric : goal.returns-in-Numeric
returns-in-Numeric c = numeric_front c.args.code.now c.in_ok-op.rest.now c.in_ok-op.op c.in-Numeric.numeric
    c.in_ok-op.ensures c.in-Numeric.is
