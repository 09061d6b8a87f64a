use Rattle.std.proofs.Common.{◌≡◌, take}
use Rattle.check_definition.specs.Again.{all_passed}
use Rattle.check_definition.proofs.again.pass_all.Given as goal

abbrev pub invariant-loop-name : goal.invariant-loop-name
invariant-loop-name l = l.seen ≡ all_passed l.scope l.fn.seen (take l.name-index l.names)
