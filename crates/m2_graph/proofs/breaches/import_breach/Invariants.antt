use Rattle.std.proofs.Common.{◌≡◌, take}
use Rattle.std.specs.List.{flat_map}
use Rattle.m2_tree.specs.declared.decl.Import.{Import}
use Rattle.m2_graph.specs.Program.{modules_of}
use Rattle.m2_graph.specs.Imports.{named_by}
use Rattle.m2_graph.specs.Refused.{least_of, import_breaches}
use Rattle.m2_graph.proofs.breaches.import_breach.Given as goal

abbrev pub invariant-loop-import : goal.invariant-loop-import
invariant-loop-import l = l.found ≡ least_of
    (import_breaches (modules_of l.program) l.tree
    (flat_map (λ (i : Import). named_by i.from i.names) (take l.import-index l.imports)))
