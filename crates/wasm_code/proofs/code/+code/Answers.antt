use Rattle.std.proofs.Common.{arith, length, sym, ◌∙◌}
use Rattle.std.proofs.lemmas.Result.{err_from_is_err_and}
use Rattle.wasm_tree.specs.declared.fault.WFault.TheVariants.{Malformed}
use Rattle.wasm_tree.specs.declared.code.Op.TheVariants as op
use Rattle.wasm_code.specs.Instructions.{nested_instruction, instr_of}
use Rattle.wasm_code.proofs.Loop.{sequence_more, sequence_fail, sequence_end, sequence_cut, sequence_none}
use Rattle.wasm_code.proofs.ScratchStacks.{instr_onto, faults, fails_onto, ends_onto, goes_on_onto, sides_end, sides_two}
use Rattle.wasm_code.proofs.Counted.{behind_instr, behind_type, sequence_counted, code_counted, one_longer}
use Rattle.wasm_code.proofs.code.+code.Goals as goal

pub code_in-returns-in_err-opcode : goal.code_in-returns-in_err-opcode
code_in-returns-in_err-opcode t c =
    let p = err_from_is_err_and c.from_residual.result c.from_residual.ensures.1 in
    rw (p.1, p.2) (fails_onto c.in_err-opcode.field-0.0 c.loop.scratch.items _ _
    (sequence_cut (nested_instruction c.args.levels) (length c.args.bytes.now) c.loop.counter c.loop.rest.now
    c.in_err-opcode.field-0.0 c.loop-test.true c.in_err-opcode.ensures.gives) c.loop.invariant.0)

pub code_in-returns-in-Some : goal.code_in-returns-in-Some
code_in-returns-in-Some t c =
    ends_onto c.loop.scratch.items c.in-Some.ending c.in_ok-opcode.after.now _ _
    (sequence_end (nested_instruction c.args.levels) (length c.args.bytes.now) c.loop.counter c.loop.rest.now
    c.in_ok-opcode.opcode c.in_ok-opcode.after.now c.in-Some.ending c.loop-test.true c.in_ok-opcode.ensures.gives
    (sym c.in-Some.ensures)) c.loop.invariant.0

pub code_in-returns : goal.code_in-returns
code_in-returns t c = fails_onto Malformed c.loop.scratch.items _ _
    (sequence_none (nested_instruction c.args.levels) (length c.args.bytes.now) c.loop.counter c.loop.rest.now
    c.loop-test.false) c.loop.invariant.0

pub code_in-returns-in_err-rest : goal.code_in-returns-in_err-rest
code_in-returns-in_err-rest t c =
    let p = err_from_is_err_and c.from_residual-in_err-rest.result c.from_residual-in_err-rest.ensures.1 in
    rw (p.1, p.2) (fails_onto c.in_err-rest.field-0.0 c.loop.scratch.items _ _
    (sequence_fail (nested_instruction c.args.levels) (length c.args.bytes.now) c.loop.counter c.loop.rest.now
    c.in_ok-opcode.opcode c.in_ok-opcode.after.now c.in_err-rest.field-0.0 c.loop-test.true
    c.in_ok-opcode.ensures.gives (sym c.in_default.ensures)
    (faults c.in_err-rest.field-0.0 (instr_of (nested_instruction c.args.levels) c.in_ok-opcode.opcode
    c.in_ok-opcode.after.now) _ c.in_err-rest.ensures)) c.loop.invariant.0)

pub code_in-loop-preserved : goal.code_in-loop-preserved
code_in-loop-preserved t c =
    let left = behind_instr c.args.levels c.loop.scratch.items c.instr_onto.new.scratch.items c.in_ok-opcode.opcode
    c.loop.rest.now c.in_ok-opcode.after.now c.in_ok-rest.rest.now c.loop.invariant.1 c.in_ok-opcode.ensures.gives
    c.in_ok-rest.ensures in
    let put = instr_onto c.loop.scratch.items c.instr_onto.new.scratch.items
    (instr_of (nested_instruction c.args.levels) c.in_ok-opcode.opcode c.in_ok-opcode.after.now)
    c.in_ok-rest.rest.now c.in_ok-rest.ensures in (
      sym (goes_on_onto c.loop.scratch.items c.instr_onto.new.scratch.items put.0 _ _ put.2
          (sequence_more (nested_instruction c.args.levels) (length c.args.bytes.now) c.loop.counter c.loop.rest.now
          c.in_ok-opcode.opcode c.in_ok-opcode.after.now put.0 c.in_ok-rest.rest.now c.loop-test.true
          c.in_ok-opcode.ensures.gives (sym c.in_default.ensures) put.1)) ∙ c.loop.invariant.0,
      left.left,
      omega (arith, left.shorter, c.loop.invariant.2),
    )

pub sides_onto-returns-in-End : goal.sides_onto-returns-in-End
sides_onto-returns-in-End t c =
    sides_end c.args.levels c.args.opcode c.args.kind c.args.scratch.now.items c.put_op.new.scratch.items
    c.args.bytes.now
    c.code_in.new.scratch.items c.close_one.new.scratch.items c.len-place.result op.Unreachable c.in_ok-ending.ending
    c.in_ok-ending.rest.now
    (omega (arith, c.len-place.ensures, c.args.scratch.now.ok.0)) c.in_ok-put_op.ensures c.in-End.is
    c.in_ok-ending.ensures c.close_one.ensures

pub sides_onto-returns-in_ok-rest-in-Else : goal.sides_onto-returns-in_ok-rest-in-Else
sides_onto-returns-in_ok-rest-in-Else t c =
    sides_two c.args.levels c.args.opcode c.args.kind c.args.scratch.now.items c.put_op.new.scratch.items
    c.args.bytes.now
    c.code_in.new.scratch.items c.code_within.new.scratch.items c.close_two.new.scratch.items c.len-place.result
    c.len-second.result op.Unreachable c.in_ok-ending.ending c.in_ok-ending.rest.now c.in_ok-rest-in-Else.rest.now
    (omega (arith, c.len-place.ensures, c.args.scratch.now.ok.0)) c.in_ok-put_op.ensures c.if-opcode-ne-IF.false
    c.in-Else.is c.in_ok-ending.ensures (omega (arith, c.len-second.ensures, c.code_in.new.scratch.ok.0))
    c.in_ok-rest-in-Else.ensures c.close_two.ensures

pub opened_onto-sides_onto-requires : goal.opened_onto-sides_onto-requires
opened_onto-sides_onto-requires t c =
    let left = behind_type c.in_ok-kind.kind c.args.bytes.now c.in_ok-kind.rest.now
    (λ i. omega (arith, c.type_inv.bytes i)) c.in_ok-kind.ensures.gives in
    (omega (arith, c.if-levels-eq0.false), omega (arith, left.shorter, c.requires))

pub sides_onto-close_one-requires-clause-few : goal.sides_onto-close_one-requires-clause-few
sides_onto-close_one-requires-clause-few t c =
    let n = sequence_counted c.args.levels c.put_op.new.scratch.items c.code_in.new.scratch.items c.in_ok-ending.ending
    c.args.bytes.now c.in_ok-ending.rest.now (λ i. omega (arith, c.type_inv.bytes i)) c.in_ok-ending.ensures in
    omega (
      arith,
      n.room,
      c.requires,
      c.len-place.ensures,
      c.args.scratch.now.ok.0,
      one_longer c.args.scratch.now.items
          _ c.in_ok-put_op.ensures,
    )

pub sides_onto-code_within-requires : goal.sides_onto-code_within-requires
sides_onto-code_within-requires t c =
    let n = sequence_counted c.args.levels c.put_op.new.scratch.items c.code_in.new.scratch.items c.in_ok-ending.ending
    c.args.bytes.now c.in_ok-ending.rest.now (λ i. omega (arith, c.type_inv.bytes i)) c.in_ok-ending.ensures in
    (omega arith, omega (arith, n.room, n.grown, c.requires))

pub sides_onto-close_two-requires-clause-few : goal.sides_onto-close_two-requires-clause-few
sides_onto-close_two-requires-clause-few t c =
    let n = sequence_counted c.args.levels c.put_op.new.scratch.items c.code_in.new.scratch.items c.in_ok-ending.ending
    c.args.bytes.now c.in_ok-ending.rest.now (λ i. omega (arith, c.type_inv.bytes i)) c.in_ok-ending.ensures in
    omega (
      arith,
      n.room,
      c.requires,
      c.len-place.ensures,
      c.len-second.ensures,
      c.args.scratch.now.ok.0,
      c.code_in.new.scratch.ok.0,
      one_longer c.args.scratch.now.items _ c.in_ok-put_op.ensures,
    )

pub sides_onto-close_two-requires-clause-others : goal.sides_onto-close_two-requires-clause-others
sides_onto-close_two-requires-clause-others t c =
    let n = sequence_counted c.args.levels c.put_op.new.scratch.items c.code_in.new.scratch.items c.in_ok-ending.ending
    c.args.bytes.now c.in_ok-ending.rest.now (λ i. omega (arith, c.type_inv.bytes i)) c.in_ok-ending.ensures in
    let m = code_counted c.args.levels c.code_in.new.scratch.items c.code_within.new.scratch.items
    c.in_ok-ending.rest.now c.in_ok-rest-in-Else.rest.now n.left c.in_ok-rest-in-Else.ensures in
    omega (arith, n.room, n.grown, m.room, c.requires, c.len-second.ensures, c.code_in.new.scratch.ok.0)
