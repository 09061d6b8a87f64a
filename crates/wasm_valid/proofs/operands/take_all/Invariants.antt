use Rattle.std.proofs.Common.{◌≤◌, drop, length}
use Rattle.wasm_valid.specs.Typing.{Takes}
use Rattle.wasm_valid.proofs.operands.take_all.Given as goal

abbrev pub invariant-loop-left : goal.invariant-loop-left
invariant-loop-left l = record {
  taken : Takes l.fn.operands l.operands (drop l.left l.wanted);
  within : l.left ≤ length
      l.wanted;
}

abbrev pub decreases-loop-left : goal.decreases-loop-left
decreases-loop-left l = l.left
