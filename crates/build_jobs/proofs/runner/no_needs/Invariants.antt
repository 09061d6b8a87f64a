use Rattle.std.proofs.Common.{◌≡◌, [], take, map}
use Rattle.build_jobs.proofs.runner.no_needs.Given as goal

abbrev pub invariant-loop : goal.invariant-loop
invariant-loop l = map (λ row. row.items) l.rows.items ≡ map (λ f. []) (take l.index l.files)
