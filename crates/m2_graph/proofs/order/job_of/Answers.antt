use Rattle.std.proofs.Common.{sym, ap, ◌∙◌}
use Rattle.std.specs.Borrow.{Bor}
use Rattle.m2_tree.specs.declared.decl.Module.{Module}
use Rattle.m2_graph.specs.Imports.{needs_of}
use Rattle.m2_graph.specs.Program.{modules_of}
use Rattle.m2_graph.proofs.Bodies.{is_job}
use Rattle.m2_graph.proofs.order.job_of.Goals as goal

pub returns-clause-job : goal.returns-clause-job
returns-clause-job c = is_job c.args.program.now.modules.now c.args.places.now c.args.node c.index-program-node.result _
    _ _ c.requires.within c.index-program-node.is
    (c.in_ok-needs.ensures ∙ ap (λ (b : Bor Module). needs_of (modules_of c.args.program.now) b.now)
    (sym c.index-program-node.is)) c.as_slice.ensures c.in_ok-job.ensures.jobs
