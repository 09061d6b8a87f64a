use Rattle.std.proofs.Common.{◌≡◌, drop}
use Rattle.wasm_tree.specs.Machine.{are_same}
use Rattle.wasm_link.proofs.types.are_same.Given as goal

abbrev pub invariant-loop-k : goal.invariant-loop-k
invariant-loop-k l = are_same (drop l.k l.xs) (drop l.k l.ys) ≡ are_same l.xs l.ys
