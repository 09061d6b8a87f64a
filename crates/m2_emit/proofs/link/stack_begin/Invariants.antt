use Rattle.std.proofs.Common.{◌≡◌, ◌+◌, drop, map}
use Rattle.def_scheme.specs.Modules.{stack_begin}
use Rattle.m2_emit.specs.Emitted.{parts}
use Rattle.m2_emit.proofs.link.stack_begin.Given as goal

abbrev pub invariant-loop-module : goal.invariant-loop-module
invariant-loop-module l = l.all + stack_begin (parts (map (λ m. m.now) (drop l.module-index l.modules)))
    ≡ stack_begin (parts (map (λ m. m.now) l.modules))
