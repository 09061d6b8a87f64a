use Rattle.std.proofs.Common.{◌≡◌}
use Rattle.tool_runs.proofs.running.run_slices.Given as goal

abbrev pub invariant-loop-slice : goal.invariant-loop-slice
invariant-loop-slice g l = l.screen.failures ≡ 0
