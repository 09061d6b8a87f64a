use Rattle.std.proofs.Common.{◌≡◌, take, Ok, []}
use Rattle.std.specs.List.{fold}
use Rattle.check_scope.specs.Elaborated.{least}
use Rattle.check_stmt.specs.Statements.{with_written, with_written_arm}
use Rattle.check_stmt.proofs.body.+body.Given as goal

abbrev pub invariant-statements-loop-written : goal.invariant-statements-loop-written
invariant-statements-loop-written l = (l.scope ≡ l.fn.scope)
    × (l.done ≡ fold (with_written least l.fn.scope l.around) (Ok []) (take l.written-index l.body))

abbrev pub invariant-arms-loop-written : goal.invariant-arms-loop-written
invariant-arms-loop-written l = (l.scope ≡ l.fn.scope)
    × ((l.ranges, l.done) ≡ fold (with_written_arm least l.fn.scope l.around l.base) ([], Ok [])
    (take l.written-index l.all))
