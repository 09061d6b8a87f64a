use Rattle.std.proofs.Common.{◌≡◌, length}
use Rattle.m2_pool.proofs.run.stealers_of.Given as goal

abbrev pub invariant-loop-own : goal.invariant-loop-own
invariant-loop-own l = length l.stealers.items ≡ l.own-index
