use Rattle.wasm_machine.specs.Going.{store_of}
use Rattle.wasm_machine.proofs.Ready.{number_on_top, address_under, memory_to_store}
use Rattle.wasm_machine.proofs.memory.store.Goals as goal

pub pop_i64-number-requires : goal.pop_i64-number-requires
pop_i64-number-requires c = number_on_top (store_of c.args.machine.now) c.args.machine.now.now.instance
    c.args.machine.now.now.stack.known.values c.requires

pub store_bytes-requires-clause-address : goal.store_bytes-requires-clause-address
store_bytes-requires-clause-address c = address_under (store_of c.args.machine.now) c.args.machine.now.now.instance
    c.args.machine.now.now.stack.known.values c.pop_i64-number.new.self.known.values c.pop_i64-number.result c.requires
    c.pop_i64-number.ensures

pub store_bytes-requires-clause-memory : goal.store_bytes-requires-clause-memory
store_bytes-requires-clause-memory c = memory_to_store (store_of c.args.machine.now) c.args.machine.now.now.instance
    c.args.machine.now.now.stack.known.values c.requires

pub store_bytes-requires-in-One-clause-address : goal.store_bytes-requires-in-One-clause-address
store_bytes-requires-in-One-clause-address c =
    address_under (store_of c.args.machine.now) c.args.machine.now.now.instance
    c.args.machine.now.now.stack.known.values c.pop_i64-number.new.self.known.values c.pop_i64-number.result c.requires
    c.pop_i64-number.ensures

pub store_bytes-requires-in-One-clause-memory : goal.store_bytes-requires-in-One-clause-memory
store_bytes-requires-in-One-clause-memory c =
    memory_to_store (store_of c.args.machine.now) c.args.machine.now.now.instance
    c.args.machine.now.now.stack.known.values c.requires

pub store_bytes-requires-in-Two-clause-address : goal.store_bytes-requires-in-Two-clause-address
store_bytes-requires-in-Two-clause-address c =
    address_under (store_of c.args.machine.now) c.args.machine.now.now.instance
    c.args.machine.now.now.stack.known.values c.pop_i64-number.new.self.known.values c.pop_i64-number.result c.requires
    c.pop_i64-number.ensures

pub store_bytes-requires-in-Two-clause-memory : goal.store_bytes-requires-in-Two-clause-memory
store_bytes-requires-in-Two-clause-memory c =
    memory_to_store (store_of c.args.machine.now) c.args.machine.now.now.instance
    c.args.machine.now.now.stack.known.values c.requires

pub store_bytes-requires-in-Four-clause-address : goal.store_bytes-requires-in-Four-clause-address
store_bytes-requires-in-Four-clause-address c =
    address_under (store_of c.args.machine.now) c.args.machine.now.now.instance
    c.args.machine.now.now.stack.known.values c.pop_i64-number.new.self.known.values c.pop_i64-number.result c.requires
    c.pop_i64-number.ensures

pub store_bytes-requires-in-Four-clause-memory : goal.store_bytes-requires-in-Four-clause-memory
store_bytes-requires-in-Four-clause-memory c =
    memory_to_store (store_of c.args.machine.now) c.args.machine.now.now.instance
    c.args.machine.now.now.stack.known.values c.requires
