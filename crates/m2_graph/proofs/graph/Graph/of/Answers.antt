use Rattle.std.proofs.Common.{map, ap}
use Rattle.m2_graph.specs.Sources.{file_of}
use Rattle.m2_graph.proofs.Whole.{compiles_given}
use Rattle.m2_graph.specs.Files.{files_of}
use Rattle.m2_graph.proofs.Deciding.{ok_map, err_map, graph_given, refusal_given}
use Rattle.m2_graph.proofs.graph.Graph.of.Goals as goal

pub returns-clause-graph : goal.returns-clause-graph
returns-clause-graph c = ok_map _ _ c.graph_of.result
    (λ g h. graph_given (files_of c.args.files.now) c.in_ok-sources.sources.items c.deref-3.result.now g.files.items
    (map (λ job. job.items) g.jobs.items) g.starts.items c.in_ok-sources.ensures c.deref-3.ensures.value h)
    c.graph_of.ensures.graph

pub returns-clause-refused : goal.returns-clause-refused
returns-clause-refused c = err_map _ _ c.graph_of.result
    (λ e h. refusal_given (files_of c.args.files.now) c.in_ok-sources.sources.items c.deref-3.result.now
    c.in_ok-sources.ensures c.deref-3.ensures.value e h) c.graph_of.ensures.refused

pub returns-clause-each : goal.returns-clause-each
returns-clause-each c = ok_map _ _ c.graph_of.result
    (λ g h. compiles_given (files_of c.args.files.now) (map file_of c.in_ok-sources.sources.items)
    (map file_of c.deref-3.result.now) g.files.items c.in_ok-sources.ensures (ap (map file_of) c.deref-3.ensures.value)
    h) c.graph_of.ensures.each
