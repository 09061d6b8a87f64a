use Rattle.std.proofs.Common.{◌≡◌, ◌++◌, ◌-◌, length, take, replicate}
use Rattle.m2_tree.proofs.bytes.Inline.new.Given as goal

abbrev pub invariant-loop-i : goal.invariant-loop-i
invariant-loop-i l = (length l.bytes ≡ 14) × (l.bytes ≡ take l.i l.list ++ replicate (14 - l.i) 0)
