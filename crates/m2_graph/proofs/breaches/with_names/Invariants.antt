use Rattle.std.proofs.Common.{◌≡◌, take, fold}
use Rattle.m2_graph.specs.Program.{modules_of}
use Rattle.m2_graph.specs.Refused.{least_with, import_breaches}
use Rattle.m2_graph.proofs.breaches.with_names.Given as goal

abbrev pub invariant-loop-ident : goal.invariant-loop-ident
invariant-loop-ident l = l.found ≡ fold least_with l.initial.found
    (import_breaches (modules_of l.program) l.tree (take l.ident-index l.names))
