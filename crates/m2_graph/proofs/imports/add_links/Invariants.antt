use Rattle.std.proofs.Common.{◌≡◌, ◌++◌, take}
use Rattle.std.specs.List.{filter_map}
use Rattle.m2_tree.specs.declared.name.Ident.{Ident}
use Rattle.m2_graph.specs.Program.{modules_of}
use Rattle.m2_graph.specs.Imports.{definition_of}
use Rattle.m2_graph.proofs.imports.add_links.Given as goal

abbrev pub invariant-loop-ident : goal.invariant-loop-ident
invariant-loop-ident l = l.targets ≡ l.initial.targets
    ++ filter_map (λ (i : Ident). definition_of (modules_of l.program) i.name) (take l.ident-index l.names)
