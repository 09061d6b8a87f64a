use Rattle.std.proofs.Common.{take, All}
use Rattle.m2_graph.specs.Program.{modules_of}
use Rattle.m2_graph.specs.Reported.{LeadsBack}
use Rattle.m2_graph.proofs.back.back_in_names.Given as goal

abbrev pub invariant-loop-ident : goal.invariant-loop-ident
invariant-loop-ident l = All (λ x. LeadsBack (modules_of l.program) l.node x → ⊥) (take l.ident-index l.names)
