use Rattle.std.proofs.Common.{◌≡◌, ◌≤◌, ◌*◌, take}
use Rattle.wasm_binary.specs.Binary.{local_count}
use Rattle.wasm_binary.proofs.binary.body.local_count.Given as goal

abbrev pub invariant-loop-group : goal.invariant-loop-group
invariant-loop-group l = (l.total ≡ local_count (take l.group-index l.groups)) × (l.total ≤ l.group-index * 4294967295)
