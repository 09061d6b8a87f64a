use Rattle.std.proofs.Common.{◌≡◌, take, None}
use Rattle.std.specs.List.{fold}
use Rattle.check_scope.specs.Scopes.{sight_of_entry, nearer}
use Rattle.check_scope.proofs.scope.known_outside.Given as goal

abbrev pub invariant-loop-block : goal.invariant-loop-block
invariant-loop-block l = sight_of_entry l.known ≡ fold (nearer l.name) None (take l.block-index l.outer)
