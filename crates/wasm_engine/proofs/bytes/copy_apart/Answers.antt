use Rattle.std.proofs.Common.{◌+◌, ◌-◌, ◌≡◌, arith}
use Rattle.wasm_engine.proofs.Copying.{copied_in_bulk}
use Rattle.wasm_engine.proofs.bytes.copy_apart.Goals as goal

pub returns : goal.returns
returns c =
    let same : (c.args.from + c.args.count) - c.args.from ≡ c.args.count = omega arith in
    copied_in_bulk c.args.count _ c.args.to c.args.from c.args.bytes.now c.copy_within.new.self same c.requires.target
    c.requires.apart c.copy_within.ensures.len c.copy_within.ensures.by_index.0 c.copy_within.ensures.by_index.1
    c.copy_within.ensures.by_index.2
