use Rattle.std.proofs.Common.{take, All}
use Rattle.std.specs.List.{flat_map}
use Rattle.m2_tree.specs.declared.decl.Import.{Import}
use Rattle.m2_graph.specs.Imports.{named_by}
use Rattle.m2_graph.specs.Program.{modules_of}
use Rattle.m2_graph.specs.Reported.{LeadsBack}
use Rattle.m2_graph.proofs.back.back_in.Given as goal

abbrev pub invariant-loop-import : goal.invariant-loop-import
invariant-loop-import l = All (λ x. LeadsBack (modules_of l.program) l.node x → ⊥)
    (flat_map (λ (i : Import). named_by i.from i.names) (take l.import-index l.imports))
