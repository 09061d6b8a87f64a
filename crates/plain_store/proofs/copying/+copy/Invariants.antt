use Rattle.std.proofs.Common.{◌≡◌, take}
use Rattle.plain_store.proofs.copying.+copy.Given as goal

abbrev pub invariant-copies-loop-part : goal.invariant-copies-loop-part
invariant-copies-loop-part l = l.all ≡ take l.part-index l.parts
