use Rattle.std.proofs.Common.{◌≡◌, ◌≤◌, ◌+◌, ◌-◌, ◌*◌, length}
use Rattle.wasm_code.specs.Instructions.{nested_instruction, sequence}
use Rattle.wasm_code.proofs.Laws.{IsBytes}
use Rattle.wasm_code.specs.ScratchStack.{onto_sequence}
use Rattle.wasm_code.proofs.code.+code.Given as goal

abbrev pub decreases-code_in : goal.decreases-code_in
decreases-code_in l = l.levels * 5 + 3

abbrev pub decreases-code_within : goal.decreases-code_within
decreases-code_within l = l.levels * 5 + 4

abbrev pub decreases-instr_onto : goal.decreases-instr_onto
decreases-instr_onto l = l.levels * 5 + 2

abbrev pub decreases-opened_onto : goal.decreases-opened_onto
decreases-opened_onto l = l.levels * 5 + 1

abbrev pub decreases-sides_onto : goal.decreases-sides_onto
decreases-sides_onto l = l.levels * 5 + 5

abbrev pub invariant-code_in-loop : goal.invariant-code_in-loop
invariant-code_in-loop l =
    (onto_sequence l.scratch.items (sequence (nested_instruction l.levels) (l.end - l.counter) l.rest)
    ≡ onto_sequence l.fn.scratch.items (sequence (nested_instruction l.levels) (length l.bytes) l.bytes))
    × IsBytes l.rest × (length l.rest ≤ length l.bytes)
