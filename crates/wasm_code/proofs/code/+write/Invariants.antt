use Rattle.std.proofs.Common.{◌≡◌, ◌+◌, ◌*◌, ◌≤◌, ◌++◌, length}
use Rattle.std.specs.List.{flat_map}
use Rattle.wasm_tree.specs.Code.{tree}
use Rattle.wasm_code.specs.Instructions.{instr_encoding}
use Rattle.wasm_code.proofs.code.+write.Given as goal

abbrev pub decreases-write_ops : goal.decreases-write_ops
decreases-write_ops l = length l.ops.now * 5

abbrev pub decreases-write_opened : goal.decreases-write_opened
decreases-write_opened l = length l.ops.now * 5 + 1

abbrev pub decreases-write_block : goal.decreases-write_block
decreases-write_block l = length l.ops.now * 5 + 2

abbrev pub decreases-write_sides : goal.decreases-write_sides
decreases-write_sides l = (length l.ops.now + length l.others.now) * 5 + 2

abbrev pub decreases-write_op : goal.decreases-write_op
decreases-write_op l = length l.rest.now * 5 + 3

abbrev pub decreases-write_ops-loop-op : goal.decreases-write_ops-loop-op
decreases-write_ops-loop-op l = length l.left

abbrev pub invariant-write_ops-loop-op : goal.invariant-write_ops-loop-op
invariant-write_ops-loop-op l =
    (l.out ++ flat_map instr_encoding (tree l.left) ≡ l.fn.out ++ flat_map instr_encoding (tree l.ops))
    × (length l.left ≤ length l.ops)
