use Rattle.std.proofs.Common.{ap, ◌∙◌, map, arith}
use Rattle.std.proofs.lemmas.List.{take_all}
use Rattle.m2_graph.specs.declared.sources.Source.{Source}
use Rattle.m2_graph.proofs.Ordered.{trees_of}
use Rattle.m2_graph.proofs.sources.trees.Goals as goal

pub returns : goal.returns
returns c = c.loop-source.invariant ∙ ap (map (λ (s : Source). s.tree.now))
    (take_all c.loop-source.source-index c.args.sources.now (omega arith)) ∙ trees_of c.args.sources.now
