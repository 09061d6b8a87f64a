use Rattle.std.proofs.Common.{◌≡◌, take, map}
use Rattle.m2c.specs.Build.{name_bytes, named_bytes}
use Rattle.m2c.proofs.modules.copies_of.Given as goal

abbrev pub invariant-loop-module : goal.invariant-loop-module
invariant-loop-module l =
    map name_bytes l.copies.items ≡ map (λ m. named_bytes m.now) (take l.module-index l.modules)
