use Rattle.std.proofs.Common.{◌≡◌, take}
use Rattle.std.specs.List.{fold}
use Rattle.check_definition.specs.Declare.{finished_owned}
use Rattle.check_definition.proofs.declare.finish_all.Given as goal

abbrev pub invariant-loop-name : goal.invariant-loop-name
invariant-loop-name l = l.scope ≡ fold (finished_owned l.owner l.t) l.fn.scope (take l.name-index l.names)
