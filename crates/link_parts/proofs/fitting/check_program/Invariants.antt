use Rattle.link_parts.proofs.Programs.{AreFirst}
use Rattle.link_parts.proofs.fitting.check_program.Given as goal

abbrev pub invariant-loop-number : goal.invariant-loop-number
invariant-loop-number l = AreFirst l.parts l.number
