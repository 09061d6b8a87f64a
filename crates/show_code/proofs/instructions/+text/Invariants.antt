use Rattle.std.proofs.Common.{◌+◌, ◌*◌, ◌≤◌, length}
use Rattle.wasm_tree.specs.Code.{tree}
use Rattle.show_code.specs.Instructions.{code_text}
use Rattle.show_code.proofs.Joined.{Leads}
use Rattle.show_code.proofs.instructions.+text.Given as goal

abbrev pub decreases-put_ops : goal.decreases-put_ops
decreases-put_ops l = length l.ops.now * 5

abbrev pub decreases-put_opened : goal.decreases-put_opened
decreases-put_opened l = length l.ops.now * 5 + 1

abbrev pub decreases-put_block : goal.decreases-put_block
decreases-put_block l = length l.ops.now * 5 + 2

abbrev pub decreases-put_sides : goal.decreases-put_sides
decreases-put_sides l = (length l.ops.now + length l.others.now) * 5 + 2

abbrev pub decreases-put_op : goal.decreases-put_op
decreases-put_op l = length l.rest.now * 5 + 3

abbrev pub decreases-put_ops-loop-op : goal.decreases-put_ops-loop-op
decreases-put_ops-loop-op l = length l.left

abbrev pub invariant-put_ops-loop-op : goal.invariant-put_ops-loop-op
invariant-put_ops-loop-op l =
    Leads l.fn.page l.page (code_text l.level (tree l.left)) (code_text l.level (tree l.ops))
    × (length l.left ≤ length l.ops)
