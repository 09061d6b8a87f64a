use Rattle.std.proofs.Common.{◌≡◌, take, map}
use Rattle.link_parts.proofs.linking.link_of.Given as goal

abbrev pub invariant-loop-module : goal.invariant-loop-module
invariant-loop-module l = map (λ m. m.now) l.all.items ≡ take l.module-index l.modules
