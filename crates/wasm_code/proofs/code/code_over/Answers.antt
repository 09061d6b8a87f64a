use Rattle.std.proofs.Common.{arith}
use Rattle.wasm_code.proofs.Counted.{code_counted}
use Rattle.wasm_code.proofs.ScratchStacks.{code_taken}
use Rattle.wasm_code.proofs.code.code_over.Goals as goal

pub returns-clause-gives : goal.returns-clause-gives
returns-clause-gives c =
    code_taken c.clear.new.self.items c.code_within.new.scratch.items c.in_ok-code.code c.args.bytes.now
    c.in_ok-rest.rest.now
    c.clear.ensures.items c.in_ok-rest.ensures c.in_ok-code.ensures

pub returns-clause-shorter : goal.returns-clause-shorter
returns-clause-shorter c =
    let n = code_counted 4096 c.clear.new.self.items c.code_within.new.scratch.items c.args.bytes.now
    c.in_ok-rest.rest.now (λ i. omega (arith, c.type_inv.bytes i)) c.in_ok-rest.ensures in
    omega (arith, n.room, n.grown)
