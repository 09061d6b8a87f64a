use Rattle.std.proofs.Common.{arith}
use Rattle.wasm_binary.proofs.LawsModule.{is_decided}
use Rattle.wasm_binary.proofs.module_bytes.read_module.Goals as goal

pub returns-clause-decided : goal.returns-clause-decided
returns-clause-decided c = is_decided c.args.bytes.now c.module_at.result (λ i. omega (arith, c.type_inv.bytes i))
    c.module_at.ensures.gives
