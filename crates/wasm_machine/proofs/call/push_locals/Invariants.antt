use Rattle.std.proofs.Common.{◌≡◌, ◌++◌, take}
use Rattle.std.specs.List.{flat_map}
use Rattle.wasm_tree.specs.Machine.{zeros}
use Rattle.wasm_machine.proofs.call.push_locals.Given as goal

abbrev pub invariant-loop-group : goal.invariant-loop-group
invariant-loop-group l = l.locals.known.values ≡ l.fn.locals.known.values
    ++ flat_map zeros (take l.group-index l.groups)
