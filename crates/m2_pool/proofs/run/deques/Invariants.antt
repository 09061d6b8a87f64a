use Rattle.std.proofs.Common.{◌≡◌, length}
use Rattle.m2_pool.proofs.run.deques.Given as goal

abbrev pub invariant-loop : goal.invariant-loop
invariant-loop l = length l.owns.items ≡ l.counter
