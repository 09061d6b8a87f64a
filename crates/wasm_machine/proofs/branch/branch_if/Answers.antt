use Rattle.std.proofs.Common.{map}
use Rattle.wasm_machine.specs.Going.{label_of}
use Rattle.wasm_machine.proofs.Ready.{condition_there, under_condition}
use Rattle.wasm_machine.proofs.branch.branch_if.Goals as goal

pub pop_i32-requires : goal.pop_i32-requires
pop_i32-requires c = condition_there (map label_of c.args.machine.now.now.labels.items) c.args.machine.now.now.arity
    c.args.label c.args.machine.now.now.stack.known.values c.requires

pub branch-machine-requires : goal.branch-machine-requires
branch-machine-requires c = under_condition (map label_of c.args.machine.now.now.labels.items)
    c.args.machine.now.now.arity c.args.label c.args.machine.now.now.stack.known.values c.pop_i32.new.self.known.values
    c.pop_i32.result c.requires c.pop_i32.ensures
