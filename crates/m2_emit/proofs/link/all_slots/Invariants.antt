use Rattle.std.proofs.Common.{◌≡◌, ◌+◌, drop, map}
use Rattle.def_scheme.specs.Modules.{all_slots}
use Rattle.m2_emit.specs.Emitted.{parts}
use Rattle.m2_emit.proofs.link.all_slots.Given as goal

abbrev pub invariant-loop-module : goal.invariant-loop-module
invariant-loop-module l = l.all + all_slots (parts (map (λ m. m.now) (drop l.module-index l.modules)))
    ≡ all_slots (parts (map (λ m. m.now) l.modules))
