use Rattle.std.proofs.Common.{◌≡◌, ◌≤◌, ◌+◌, ◌*◌, length}
use Rattle.wasm_tree.specs.Code.{tree}
use Rattle.wasm_valid.specs.Framed.{frame_context}
use Rattle.wasm_valid.proofs.Walks.{Onward}
use Rattle.wasm_valid.proofs.typing.+code.Given as goal

abbrev pub decreases-check_front : goal.decreases-check_front
decreases-check_front l = 4 * length l.rest.now + 3

abbrev pub decreases-check_inside : goal.decreases-check_inside
decreases-check_inside l = 4 * length l.rest.now + 2

abbrev pub decreases-check_block : goal.decreases-check_block
decreases-check_block l = 4 * length l.code.now + 1

abbrev pub decreases-check_code : goal.decreases-check_code
decreases-check_code l = 4 * length l.code.now

abbrev pub invariant-check_code-ops : goal.invariant-check_code-ops
invariant-check_code-ops l = record {
  on : Onward (frame_context l.frame l.fn.blocks) (tree l.code) (tree l.rest)
      l.operands;
  same : l.blocks ≡ l.fn.blocks;
  shorter : length l.rest ≤ length l.code;
}

abbrev pub decreases-check_code-ops : goal.decreases-check_code-ops
decreases-check_code-ops l = length l.rest
