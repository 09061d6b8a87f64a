use Rattle.std.proofs.Common.{List, ℕ, map, subst}
use Rattle.std.specs.Global.{Vec}
use Rattle.m2_graph.specs.Jobs.{AreJobs}
use Rattle.build_jobs.proofs.Rounds.{pool_takes}
use Rattle.build_jobs.proofs.runner.job_graph.Goals as goal

pub graph_of-requires : goal.graph_of-requires
graph_of-requires c = pool_takes (map (λ row. row.items) c.jobs.result.now) c.jobs.ensures.prerequisites

pub returns-clause-sound : goal.returns-clause-sound
returns-clause-sound c = pool_takes (map (λ row. row.items) c.args.graph.now.jobs.items)
    (subst (λ (js : List (Vec ℕ)). AreJobs (map (λ row. row.items) js)) c.jobs.ensures.jobs
    c.jobs.ensures.prerequisites)
