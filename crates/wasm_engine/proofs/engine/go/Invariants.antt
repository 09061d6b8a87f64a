use Rattle.std.proofs.Common.{◌≡◌, ◌-◌, ◌<◌, ◌≤◌, []}
use Rattle.wasm_tree.specs.Machine.{run}
use Rattle.wasm_machine.specs.Going.{going}
use Rattle.wasm_engine.proofs.engine.go.Given as goal

abbrev pub invariant-loop-count : goal.invariant-loop-count
invariant-loop-count l = (0 < l.left) × (l.left ≤ l.most)
    × (run l.modules (l.most - l.left) (going l.fn.machine) ≡ (going l.machine, []))

abbrev pub decreases-loop-count : goal.decreases-loop-count
decreases-loop-count l = l.left
