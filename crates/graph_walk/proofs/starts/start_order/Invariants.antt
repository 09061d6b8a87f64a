use Rattle.std.proofs.Common.{◌+◌}
use Rattle.graph_walk.specs.Marks.{weight}
use Rattle.graph_walk.specs.Frames.{Going, frames_weight}
use Rattle.graph_walk.proofs.starts.start_order.Given as goal

abbrev pub invariant-loop-frame : goal.invariant-loop-frame
invariant-loop-frame l = Going l.imports l.from l.entered.items l.todo l.order

abbrev pub decreases-loop-frame : goal.decreases-loop-frame
decreases-loop-frame l = weight l.imports l.entered.items + frames_weight l.imports l.todo
