use Rattle.std.proofs.Common.{◌≡◌, ◌≤◌, ℕ, List, map, drop, length}
use Rattle.wasm_tree.specs.Validity.{AreDistinct}
use Rattle.wasm_valid.specs.Named.{holds, is_among}
use Rattle.wasm_valid.proofs.valid.are_distinct.Given as goal

abbrev pub invariant-loop-left : goal.invariant-loop-left
invariant-loop-left l = record {
  distinct : AreDistinct (map (λ e. e.name) (drop l.left l.exports));
  held : (n : List ℕ) → holds l.names n ≡ is_among n (map (λ e. e.name) (drop l.left l.exports));
  within : l.left ≤ length l.exports;
}

abbrev pub decreases-loop-left : goal.decreases-loop-left
decreases-loop-left l = l.left
