use Rattle.std.proofs.Common.{◌≡◌, ◌++◌, drop, map}
use Rattle.def_scheme.specs.Modules.{globals_from}
use Rattle.emit_buffer.specs.Cut.{cut_global}
use Rattle.m2_emit.specs.Emitted.{parts}
use Rattle.m2_emit.proofs.link.push_globals.Given as goal

abbrev pub invariant-loop-module : goal.invariant-loop-module
invariant-loop-module l = l.globals ++ map cut_global
    (globals_from l.place l.slot (parts (map (λ m. m.now) (drop l.module-index l.modules)))) ≡ l.fn.globals
    ++ map cut_global (globals_from 0 1 (parts (map (λ m. m.now) l.modules)))
