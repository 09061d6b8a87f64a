use Rattle.std.proofs.Common.{◌-◌, ◌≤◌}
use Rattle.wasm_engine.proofs.GoesOn.{SoFar}
use Rattle.wasm_engine.proofs.engine.Instances.go_on.Given as goal

abbrev pub invariant-loop-left : goal.invariant-loop-left
invariant-loop-left g l = (l.left ≤ l.steps)
    × SoFar g.S.Sink.reported g.S.Sink.failed (l.steps - l.left) l.fn.self l.self l.fn.out l.out

abbrev pub decreases-loop-left : goal.decreases-loop-left
decreases-loop-left g l = l.left
