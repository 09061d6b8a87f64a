use Rattle.std.proofs.Common.{◌≡◌, ◌++◌, drop, map}
use Rattle.def_scheme.specs.Modules.{exports_from}
use Rattle.emit_buffer.specs.Cut.{cut_export}
use Rattle.m2_emit.specs.Emitted.{parts}
use Rattle.m2_emit.proofs.link.push_modules.Given as goal

abbrev pub invariant-loop-module : goal.invariant-loop-module
invariant-loop-module l = l.exports ++ map cut_export
    (exports_from l.global (parts (map (λ m. m.now) (drop l.module-index l.modules)))) ≡ l.fn.exports
    ++ map cut_export (exports_from 1 (parts (map (λ m. m.now) l.modules)))
