use Rattle.std.proofs.Common.{◌≡◌, ◌++◌, length, take}
use Rattle.std.specs.List.{flat_map}
use Rattle.wasm_code.specs.Number.{unsigned}
use Rattle.wasm_code.specs.ScratchStack.{label_encoding}
use Rattle.wasm_code.proofs.code.write_labels.Given as goal

abbrev pub invariant-loop-label : goal.invariant-loop-label
invariant-loop-label l = l.out ≡ l.fn.out
    ++ (unsigned.encoding (length l.labels) ++ flat_map label_encoding (take l.label-index l.labels))
