use Rattle.std.proofs.Common.{◌≡◌, take}
use Rattle.m2_emit.specs.Emitted.{parts}
use Rattle.link_parts.specs.Linked.{bytes_for}
use Rattle.link_parts.proofs.linking.bytes_for.Given as goal

abbrev pub invariant-loop-module : goal.invariant-loop-module
invariant-loop-module l = l.bytes ≡ bytes_for (parts (take l.module-index l.modules))
