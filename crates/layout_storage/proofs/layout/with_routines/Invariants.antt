use Rattle.std.proofs.Common.{◌≡◌, take, []}
use Rattle.std.specs.List.{fold}
use Rattle.layout_storage.specs.Layouts.{with_routine}
use Rattle.layout_storage.proofs.layout.with_routines.Given as goal

abbrev pub invariant-loop-routine : goal.invariant-loop-routine
invariant-loop-routine l = l.frames ≡ fold (with_routine l.types) (record { rows = []; too_large = l.fn.before })
    (take l.routine-index l.routines)
