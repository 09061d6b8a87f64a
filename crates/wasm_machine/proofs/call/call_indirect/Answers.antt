use Rattle.std.proofs.Common.{sym, ◌∙◌}
use Rattle.wasm_machine.specs.Going.{store_of}
use Rattle.wasm_machine.proofs.Ready.{slot_there, under_slot, slots_there, type_there, called_there, call_agreed}
use Rattle.wasm_machine.proofs.call.call_indirect.Goals as goal

pub pop_i32-slot-requires : goal.pop_i32-slot-requires
pop_i32-slot-requires c = slot_there c.args.modules.now (store_of c.args.machine.now) c.args.machine.now.now.instance
    c.args.type_index c.args.machine.now.now.stack.known.values c.requires

pub callee_in-requires : goal.callee_in-requires
callee_in-requires c = slots_there c.args.modules.now (store_of c.args.machine.now) c.args.machine.now.now.instance
    c.args.type_index c.pop_i32-slot.new.self.known.values c.pop_i32-slot.result
    (under_slot c.args.modules.now (store_of c.args.machine.now) c.args.machine.now.now.instance c.args.type_index
    c.args.machine.now.now.stack.known.values c.pop_i32-slot.new.self.known.values c.pop_i32-slot.result c.requires
    c.pop_i32-slot.ensures)

pub type_at-asked-requires : goal.type_at-asked-requires
type_at-asked-requires c = type_there c.args.modules.now (store_of c.args.machine.now) c.args.machine.now.now.instance
    c.args.type_index c.pop_i32-slot.new.self.known.values c.pop_i32-slot.result
    (under_slot c.args.modules.now (store_of c.args.machine.now) c.args.machine.now.now.instance c.args.type_index
    c.args.machine.now.now.stack.known.values c.pop_i32-slot.new.self.known.values c.pop_i32-slot.result c.requires
    c.pop_i32-slot.ensures)

pub agrees-requires : goal.agrees-requires
agrees-requires c = called_there c.args.modules.now (store_of c.args.machine.now) c.args.machine.now.now.instance
    c.args.type_index c.pop_i32-slot.new.self.known.values c.pop_i32-slot.result c.in-Some.callee
    (under_slot c.args.modules.now (store_of c.args.machine.now) c.args.machine.now.now.instance c.args.type_index
    c.args.machine.now.now.stack.known.values c.pop_i32-slot.new.self.known.values c.pop_i32-slot.result c.requires
    c.pop_i32-slot.ensures) (sym c.in-Some.ensures)

pub call-requires : goal.call-requires
call-requires c =
    call_agreed c.args.modules.now (store_of c.args.machine.now) c.args.machine.now.now.instance c.args.type_index
    c.pop_i32-slot.new.self.known.values c.pop_i32-slot.result c.in-Some.callee c.type_at-asked.result.now
    (under_slot c.args.modules.now (store_of c.args.machine.now) c.args.machine.now.now.instance c.args.type_index
    c.args.machine.now.now.stack.known.values c.pop_i32-slot.new.self.known.values c.pop_i32-slot.result c.requires
    c.pop_i32-slot.ensures) (sym c.in-Some.ensures) c.type_at-asked.ensures
    (sym c.agrees.ensures ∙ c.if-not-agrees.false)
