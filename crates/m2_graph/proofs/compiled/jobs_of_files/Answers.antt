use Rattle.m2_graph.proofs.Smaller.{order_within, order_jobs}
use Rattle.m2_graph.proofs.compiled.jobs_of_files.Goals as goal

pub jobs_of-requires-clause-within : goal.jobs_of-requires-clause-within
jobs_of-requires-clause-within c = order_within c.args.program.now.modules.now c.args.numbered c.add_bodies.new.order
    c.as_slice-2.result.now c.requires.numbering c.in_ok-add_bodies.ensures c.as_slice-2.ensures

pub returns-clause-smaller : goal.returns-clause-smaller
returns-clause-smaller c = order_jobs c.args.program.now.modules.now c.args.numbered c.add_bodies.new.order
    c.as_slice-2.result.now _ c.requires.numbering c.in_ok-add_bodies.ensures c.as_slice-2.ensures c.in_ok-jobs.ensures
