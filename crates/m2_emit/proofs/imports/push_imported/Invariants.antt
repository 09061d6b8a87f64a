use Rattle.std.proofs.Common.{◌≡◌, ◌++◌, take, map}
use Rattle.def_scheme.specs.Scheme.{imported_globals}
use Rattle.m2_emit.proofs.imports.push_imported.Given as goal

abbrev pub invariant-loop-module : goal.invariant-loop-module
invariant-loop-module l = l.imports ≡ l.fn.imports
    ++ imported_globals (map (λ i. i.name) (take l.module-index l.imported))
