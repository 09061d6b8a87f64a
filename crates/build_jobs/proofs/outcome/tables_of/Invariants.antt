use Rattle.std.proofs.Common.{◌≡◌, take, map}
use Rattle.build_jobs.specs.Compiling.{tables_of}
use Rattle.build_jobs.proofs.outcome.tables_of.Given as goal

abbrev pub invariant-loop-compiled : goal.invariant-loop-compiled
invariant-loop-compiled l = l.tables ≡ tables_of (map (λ c. c.now) (take l.compiled-index l.needed))
