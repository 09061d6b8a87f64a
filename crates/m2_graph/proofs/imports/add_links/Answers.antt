use Rattle.std.proofs.Common.{arith}
use Rattle.m2_tree.specs.declared.name.Ident.{Ident}
use Rattle.m2_graph.specs.Program.{modules_of}
use Rattle.m2_graph.specs.Imports.{definition_of}
use Rattle.m2_graph.proofs.Importing.{filtered_more}
use Rattle.m2_graph.proofs.imports.add_links.Goals as goal

pub loop-ident-preserved : goal.loop-ident-preserved
loop-ident-preserved c = filtered_more (λ (i : Ident). definition_of (modules_of c.args.program.now) i.name)
    c.args.names.now c.loop-ident.ident-index c.ident-item.result c.args.targets.now c.loop-ident.targets _
    (omega arith) c.ident-item.is c.loop-ident.invariant c.in_ok-add_link.ensures
