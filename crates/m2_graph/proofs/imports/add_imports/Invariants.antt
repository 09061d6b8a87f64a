use Rattle.std.proofs.Common.{◌≡◌, ◌++◌, take}
use Rattle.std.specs.List.{filter_map, flat_map}
use Rattle.m2_tree.specs.declared.decl.Import.{Import}
use Rattle.m2_tree.specs.declared.name.Ident.{Ident}
use Rattle.m2_graph.specs.Program.{modules_of}
use Rattle.m2_graph.specs.Imports.{definition_of, named_by}
use Rattle.m2_graph.proofs.imports.add_imports.Given as goal

abbrev pub invariant-loop-import : goal.invariant-loop-import
invariant-loop-import l = l.targets ≡ l.initial.targets
    ++ filter_map (λ (i : Ident). definition_of (modules_of l.program) i.name)
    (flat_map (λ (i : Import). named_by i.from i.names) (take l.import-index l.imports))
