use Rattle.std.proofs.Common.{◌≡◌, ◌++◌, take}
use Rattle.wasm_valid.proofs.operands.put_all.Given as goal

abbrev pub invariant-loop-value_type : goal.invariant-loop-value_type
invariant-loop-value_type l = record {
  known : l.operands.known ≡ l.fn.operands.known
      ++ take l.value_type-index l.given;
  below : l.operands.any_below ≡ l.fn.operands.any_below;
}
