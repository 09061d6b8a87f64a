use Rattle.std.proofs.Common.{◌≡◌, take}
use Rattle.std.specs.List.{fold}
use Rattle.emit_tables.specs.Needed.{with_routine}
use Rattle.emit_tables.proofs.steps.routines_marks.Given as goal

abbrev pub invariant-loop-routine : goal.invariant-loop-routine
invariant-loop-routine l = l.marks.items
    ≡ fold (with_routine l.module_body) l.fn.marks.items (take l.routine-index l.routines)
