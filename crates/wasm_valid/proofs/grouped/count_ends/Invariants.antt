use Rattle.std.proofs.Common.{◌≡◌, ◌≤◌, ◌*◌, ◌++◌, drop}
use Rattle.wasm_valid.specs.Ends.{ends_from}
use Rattle.wasm_valid.proofs.grouped.count_ends.Given as goal

abbrev pub invariant-loop-group : goal.invariant-loop-group
invariant-loop-group l = (l.ends.items ++ ends_from l.end (drop l.group-index l.groups) ≡ ends_from 0 l.fn.groups)
    × (l.end ≤ l.group-index * 4294967295)
