use Rattle.std.proofs.Common.{◌≡◌, take}
use Rattle.emit_buffer.proofs.setting.again.Given as goal

abbrev pub invariant-loop-w : goal.invariant-loop-w
invariant-loop-w l = l.copied.items ≡ take l.w-index l.withs.items
