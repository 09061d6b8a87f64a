use Rattle.std.proofs.Common.{length}
use Rattle.wasm_valid.proofs.operands.empty.Given as goal

abbrev pub decreases-loop-known : goal.decreases-loop-known
decreases-loop-known l = length l.known
