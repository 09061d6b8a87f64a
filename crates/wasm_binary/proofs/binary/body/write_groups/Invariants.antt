use Rattle.std.proofs.Common.{◌≡◌, ◌++◌, length, take}
use Rattle.std.specs.List.{flat_map}
use Rattle.wasm_code.specs.Number.{unsigned}
use Rattle.wasm_binary.specs.Binary.{locals_encoding}
use Rattle.wasm_binary.proofs.binary.body.write_groups.Given as goal

abbrev pub invariant-loop-group : goal.invariant-loop-group
invariant-loop-group l = l.out ≡ l.fn.out
    ++ (unsigned.encoding (length l.groups) ++ flat_map locals_encoding (take l.group-index l.groups))
