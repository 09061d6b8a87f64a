use Rattle.std.proofs.Common.{◌≡◌, ◌<◌, length}
use Rattle.m2_pool.proofs.run.dealt.Given as goal

abbrev pub invariant-loop-job : goal.invariant-loop-job
invariant-loop-job l = record {
  count_is : length l.owns.items ≡ l.workers;
  next_is : l.next < l.workers;
}
