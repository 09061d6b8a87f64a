use Rattle.std.proofs.Common.{arith}
use Rattle.m2_tree.specs.declared.decl.Import.{Import}
use Rattle.m2_tree.specs.declared.name.Ident.{Ident}
use Rattle.m2_graph.specs.Program.{modules_of}
use Rattle.m2_graph.specs.Imports.{definition_of, named_by}
use Rattle.m2_graph.proofs.Importing.{flat_filtered_more}
use Rattle.m2_graph.proofs.imports.add_imports.Goals as goal

pub loop-import-preserved : goal.loop-import-preserved
loop-import-preserved c = flat_filtered_more (λ (i : Ident). definition_of (modules_of c.args.program.now) i.name)
    (λ (i : Import). named_by i.from i.names) _ c.loop-import.import-index c.import-item.result c.args.targets.now
    c.loop-import.targets _ (omega arith) c.import-item.is c.loop-import.invariant c.in_ok-add_import.ensures
