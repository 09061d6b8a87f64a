use Rattle.std.proofs.Common.{◌+◌, map, refl, arith}
use Rattle.std.specs.Prelude.{max}
use Rattle.wasm_tree.specs.Code.{tree}
use Rattle.wasm_machine.specs.Going.{activation, store_of, callers_of, going, memory_from}
use Rattle.law_effect.specs.Bytes.{copied_bytes}
use Rattle.wasm_machine.proofs.Ready.{topmost_i32, lower_i32}
use Rattle.wasm_engine.proofs.AtOnce.{has_copy, copy_callee, topmost_narrow, lower_narrow, none_made, did_copy, did_no_fill, three_back, memory_left, changed_filled, did_nothing}
use Rattle.wasm_engine.proofs.quick.copy_at_once.Goals as goal

pub callee_at-requires : goal.callee_at-requires
callee_at-requires c = copy_callee c.args.modules.now (store_of c.args.machine.now) (activation c.args.machine.now.now)
    (callers_of c.args.machine.now) c.args.index c.requires.known

pub pop_i32-count-requires : goal.pop_i32-count-requires
pop_i32-count-requires c = topmost_narrow c.args.machine.now.now.stack.known.values
    (has_copy c.args.modules.now (store_of c.args.machine.now) (activation c.args.machine.now.now)
    (callers_of c.args.machine.now) c.args.index (tree c.args.rest.now) c.requires.next c.requires.known
    c.requires.sound)

pub pop_i32-from-requires : goal.pop_i32-from-requires
pop_i32-from-requires c = topmost_i32 c.pop_i32-count.new.self.known.values
    (lower_narrow c.args.machine.now.now.stack.known.values c.pop_i32-count.new.self.known.values c.pop_i32-count.result
    (has_copy c.args.modules.now (store_of c.args.machine.now) (activation c.args.machine.now.now)
    (callers_of c.args.machine.now) c.args.index (tree c.args.rest.now) c.requires.next c.requires.known
    c.requires.sound) c.pop_i32-count.ensures)

pub pop_i32-to-requires : goal.pop_i32-to-requires
pop_i32-to-requires c =
    lower_i32 c.pop_i32-count.new.self.known.values c.pop_i32-from.new.self.known.values c.pop_i32-from.result
    (lower_narrow c.args.machine.now.now.stack.known.values c.pop_i32-count.new.self.known.values c.pop_i32-count.result
    (has_copy c.args.modules.now (store_of c.args.machine.now) (activation c.args.machine.now.now)
    (callers_of c.args.machine.now) c.args.index (tree c.args.rest.now) c.requires.next c.requires.known
    c.requires.sound) c.pop_i32-count.ensures) c.pop_i32-from.ensures

pub returns-in_default : goal.returns-in_default
returns-in_default c = record { within = omega arith; goes = none_made c.args.modules.now (going c.args.machine.now) }

pub returns-then-done-clause-goes : goal.returns-then-done-clause-goes
returns-then-done-clause-goes c =
    did_copy c.args.modules.now (store_of c.args.machine.now) (activation c.args.machine.now.now)
    (callers_of c.args.machine.now)
    c.args.index c.in-Own.module c.in-Own.function (tree c.args.rest.now) c.pop_i32-count.new.self.known.values
    c.pop_i32-from.new.self.known.values c.pop_i32-to.new.self.known.values c.pop_i32-to.result
    c.pop_i32-from.result c.pop_i32-count.result c.from.result
    (map memory_from c.copy_bytes-done.new.memories.items) c.copy_bytes-done.result
    (omega (arith, c.from.ensures)) c.requires.next c.requires.known c.in-Own.ensures c.pop_i32-count.ensures
    c.pop_i32-from.ensures c.pop_i32-to.ensures c.if-done.true
    (changed_filled c.copy_bytes-done.result c.args.machine.now.store (store_of c.args.machine.now).memories
    (store_of c.args.machine.now).globals c.in-Own.module
    (max c.pop_i32-to.result c.pop_i32-from.result + c.pop_i32-count.result)
    (copied_bytes c.pop_i32-count.result c.pop_i32-to.result c.pop_i32-from.result)
    (store_of c.args.machine.now).memories (map memory_from c.copy_bytes-done.new.memories.items)
    c.copy_bytes-done.ensures)

pub returns-then-most-reductions-clause-goes : goal.returns-then-most-reductions-clause-goes
returns-then-most-reductions-clause-goes c =
    did_nothing c.args.modules.now (store_of c.args.machine.now) (activation c.args.machine.now.now)
    (callers_of c.args.machine.now) 0 c.give_back_three.new.stack.known.values refl
    (three_back c.args.modules.now (store_of c.args.machine.now) (activation c.args.machine.now.now)
    (callers_of c.args.machine.now) c.pop_i32-count.new.self.known.values c.pop_i32-from.new.self.known.values
    c.pop_i32-to.new.self.known.values c.give_back_three.new.stack.known.values c.pop_i32-to.result
    c.pop_i32-from.result c.pop_i32-count.result c.pop_i32-count.ensures c.pop_i32-from.ensures c.pop_i32-to.ensures
    c.in_ok-give_back_three.ensures)

pub returns-clause-goes : goal.returns-clause-goes
returns-clause-goes c =
    did_no_fill c.args.modules.now (store_of c.args.machine.now) (activation c.args.machine.now.now)
    (callers_of c.args.machine.now) c.give_back_three-2.new.stack.known.values
    (map memory_from c.copy_bytes-done.new.memories.items)
    (three_back c.args.modules.now (store_of c.args.machine.now) (activation c.args.machine.now.now)
    (callers_of c.args.machine.now) c.pop_i32-count.new.self.known.values c.pop_i32-from.new.self.known.values
    c.pop_i32-to.new.self.known.values c.give_back_three-2.new.stack.known.values c.pop_i32-to.result
    c.pop_i32-from.result c.pop_i32-count.result c.pop_i32-count.ensures c.pop_i32-from.ensures c.pop_i32-to.ensures
    c.in_ok-give_back_three-2.ensures)
    (memory_left c.args.modules.now (store_of c.args.machine.now) (activation c.args.machine.now.now)
    (callers_of c.args.machine.now) c.args.machine.now.store c.in-Own.module
    (max c.pop_i32-to.result c.pop_i32-from.result + c.pop_i32-count.result)
    (copied_bytes c.pop_i32-count.result c.pop_i32-to.result c.pop_i32-from.result) c.copy_bytes-done.result
    (store_of c.args.machine.now).memories (map memory_from c.copy_bytes-done.new.memories.items) c.if-done.false
    c.copy_bytes-done.ensures)
