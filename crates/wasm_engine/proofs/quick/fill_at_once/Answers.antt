use Rattle.std.proofs.Common.{◌+◌, map, refl, arith}
use Rattle.wasm_tree.specs.Code.{tree}
use Rattle.wasm_machine.specs.Going.{activation, store_of, callers_of, going, memory_from}
use Rattle.law_effect.specs.Bytes.{cleared_bytes}
use Rattle.wasm_machine.proofs.Ready.{topmost_i32, lower_i32}
use Rattle.wasm_engine.proofs.AtOnce.{has_fill, fill_callee, none_made, did_fill, did_no_fill, narrow_back, memory_left, changed_filled, did_nothing}
use Rattle.wasm_engine.proofs.quick.fill_at_once.Goals as goal

pub callee_at-requires : goal.callee_at-requires
callee_at-requires c = fill_callee c.args.modules.now (store_of c.args.machine.now) (activation c.args.machine.now.now)
    (callers_of c.args.machine.now) c.args.index c.requires.known

pub pop_i32-count-requires : goal.pop_i32-count-requires
pop_i32-count-requires c = topmost_i32 c.args.machine.now.now.stack.known.values
    (has_fill c.args.modules.now (store_of c.args.machine.now) (activation c.args.machine.now.now)
    (callers_of c.args.machine.now) c.args.index (tree c.args.rest.now) c.requires.next c.requires.known
    c.requires.sound)

pub pop_i32-to-requires : goal.pop_i32-to-requires
pop_i32-to-requires c =
    lower_i32 c.args.machine.now.now.stack.known.values c.pop_i32-count.new.self.known.values c.pop_i32-count.result
    (has_fill c.args.modules.now (store_of c.args.machine.now) (activation c.args.machine.now.now)
    (callers_of c.args.machine.now) c.args.index (tree c.args.rest.now) c.requires.next c.requires.known
    c.requires.sound) c.pop_i32-count.ensures

pub returns-in_default : goal.returns-in_default
returns-in_default c = record { within = omega arith; goes = none_made c.args.modules.now (going c.args.machine.now) }

pub returns-then-done-clause-goes : goal.returns-then-done-clause-goes
returns-then-done-clause-goes c =
    did_fill c.args.modules.now (store_of c.args.machine.now) (activation c.args.machine.now.now)
    (callers_of c.args.machine.now)
    c.args.index c.in-Own.module c.in-Own.function (tree c.args.rest.now) c.pop_i32-count.new.self.known.values
    c.pop_i32-to.new.self.known.values c.pop_i32-to.result c.pop_i32-count.result c.from.result
    (map memory_from c.clear_bytes-done.new.memories.items) c.clear_bytes-done.result
    (omega (arith, c.from.ensures)) c.requires.next c.requires.known c.in-Own.ensures c.pop_i32-count.ensures
    c.pop_i32-to.ensures c.if-done.true
    (changed_filled c.clear_bytes-done.result c.args.machine.now.store (store_of c.args.machine.now).memories
    (store_of c.args.machine.now).globals c.in-Own.module (c.pop_i32-to.result + c.pop_i32-count.result)
    (cleared_bytes c.pop_i32-count.result c.pop_i32-to.result) (store_of c.args.machine.now).memories
    (map memory_from c.clear_bytes-done.new.memories.items) c.clear_bytes-done.ensures)

pub returns-then-most-reductions-clause-goes : goal.returns-then-most-reductions-clause-goes
returns-then-most-reductions-clause-goes c =
    did_nothing c.args.modules.now (store_of c.args.machine.now) (activation c.args.machine.now.now)
    (callers_of c.args.machine.now) 0 c.give_back.new.stack.known.values refl
    (narrow_back c.args.modules.now (store_of c.args.machine.now) (activation c.args.machine.now.now)
    (callers_of c.args.machine.now) c.pop_i32-count.new.self.known.values c.pop_i32-to.new.self.known.values
    c.give_back.new.stack.known.values c.pop_i32-to.result c.pop_i32-count.result c.pop_i32-count.ensures
    c.pop_i32-to.ensures c.in_ok-give_back.ensures)

pub returns-clause-goes : goal.returns-clause-goes
returns-clause-goes c =
    did_no_fill c.args.modules.now (store_of c.args.machine.now) (activation c.args.machine.now.now)
    (callers_of c.args.machine.now) c.give_back-2.new.stack.known.values
    (map memory_from c.clear_bytes-done.new.memories.items)
    (narrow_back c.args.modules.now (store_of c.args.machine.now) (activation c.args.machine.now.now)
    (callers_of c.args.machine.now) c.pop_i32-count.new.self.known.values c.pop_i32-to.new.self.known.values
    c.give_back-2.new.stack.known.values c.pop_i32-to.result c.pop_i32-count.result c.pop_i32-count.ensures
    c.pop_i32-to.ensures c.in_ok-give_back-2.ensures)
    (memory_left c.args.modules.now (store_of c.args.machine.now) (activation c.args.machine.now.now)
    (callers_of c.args.machine.now) c.args.machine.now.store c.in-Own.module
    (c.pop_i32-to.result + c.pop_i32-count.result) (cleared_bytes c.pop_i32-count.result c.pop_i32-to.result)
    c.clear_bytes-done.result (store_of c.args.machine.now).memories
    (map memory_from c.clear_bytes-done.new.memories.items) c.if-done.false c.clear_bytes-done.ensures)
