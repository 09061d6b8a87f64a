use Rattle.std.proofs.Common.{◌≡◌, drop}
use Rattle.wasm_tree.specs.Linking.{addresses}
use Rattle.wasm_link.proofs.Addressed.{before}
use Rattle.wasm_link.proofs.segments.addresses.Given as goal

abbrev pub invariant-loop-function : goal.invariant-loop-function
invariant-loop-function l = before l.slots.items (addresses l.instance (drop l.function-index l.functions))
    ≡ addresses l.instance l.functions
