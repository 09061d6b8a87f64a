use Rattle.std.proofs.Common.{◌≡◌, ◌+◌, ◌*◌, ◌≤◌, length}
use Rattle.wasm_tree.specs.Code.{tree}
use Rattle.wasm_code.specs.Instructions.{code_within}
use Rattle.wasm_code.proofs.fits.+fits.Given as goal

abbrev pub decreases-ops_fit : goal.decreases-ops_fit
decreases-ops_fit l = length l.ops.now * 3

abbrev pub decreases-fits_inside : goal.decreases-fits_inside
decreases-fits_inside l = length l.ops.now * 3 + 1

abbrev pub decreases-op_fits : goal.decreases-op_fits
decreases-op_fits l = length l.rest.now * 3 + 2

abbrev pub decreases-ops_fit-loop-op : goal.decreases-ops_fit-loop-op
decreases-ops_fit-loop-op l = length l.left

abbrev pub invariant-ops_fit-loop-op : goal.invariant-ops_fit-loop-op
invariant-ops_fit-loop-op l =
    ((code_within l.levels).fits (tree l.left) ≡ (code_within l.levels).fits (tree l.ops))
    × (length l.left ≤ length l.ops)
