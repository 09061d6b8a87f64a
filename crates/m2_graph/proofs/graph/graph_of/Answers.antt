use Rattle.std.proofs.Common.{map, arith}
use Rattle.m2_graph.specs.Sources.{file_of}
use Rattle.m2_graph.proofs.Whole.{compiles_reported, no_items}
use Rattle.m2_graph.proofs.graph.graph_of.Goals as goal

pub returns-in_ok-graph-in-Some-clause-each : goal.returns-in_ok-graph-in-Some-clause-each
returns-in_ok-graph-in-Some-clause-each c =
    compiles_reported _ (map file_of c.args.sources.now) c.in_ok-refusals.field-0.refusals.items
    c.in_ok-graph-in-Some.graph.files.items (map (λ job. job.items) c.in_ok-graph-in-Some.graph.jobs.items)
    c.requires.same c.in_ok-refusals.ensures.reported
    (no_items c.in_ok-refusals.field-0.refusals.items c.in_ok-refusals.field-0.refusals.len
    (omega (arith, c.in_ok-refusals.field-0.refusals.ok.0)) c.if-not-is_empty.ensures) c.in_ok-refusals.ensures.order
    c.in_ok-graph-in-Some.ensures.jobs
