use Rattle.std.proofs.Common.{◌≡◌, take}
use Rattle.plain_values.proofs.program.copy_frames.Given as goal

abbrev pub invariant-loop-frame : goal.invariant-loop-frame
invariant-loop-frame l = l.all ≡ take l.frame-index l.frames
