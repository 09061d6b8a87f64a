use Rattle.std.proofs.Common.{◌≡◌, drop, map}
use Rattle.std.specs.List.{list_all}
use Rattle.build_jobs.specs.Compiling.{is_sound}
use Rattle.build_jobs.proofs.outcome.are_sound.Given as goal

abbrev pub invariant-loop-compiled : goal.invariant-loop-compiled
invariant-loop-compiled l = list_all is_sound (map (λ c. c.now) (drop l.compiled-index l.needed))
    ≡ list_all is_sound (map (λ c. c.now) l.needed)
