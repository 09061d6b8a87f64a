use Rattle.std.proofs.Common.{◌≡◌, map, take}
use Rattle.check_body.specs.Routines.{empty_routine}
use Rattle.check_body.proofs.routine.no_bodies.Given as goal

abbrev pub invariant-loop-heading : goal.invariant-loop-heading
invariant-loop-heading l = l.procedures ≡ map empty_routine (take l.heading-index l.headings)
