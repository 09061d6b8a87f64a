use Rattle.emit_proc.proofs.routine.+push_around.Given as goal

abbrev pub decreases-push_around : goal.decreases-push_around
decreases-push_around l = l.level
