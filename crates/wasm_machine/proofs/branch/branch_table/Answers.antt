use Rattle.std.proofs.Common.{map}
use Rattle.wasm_tree.specs.Code as code
use Rattle.wasm_machine.specs.Going.{activation, store_of, callers_of, label_of}
use Rattle.wasm_machine.proofs.Found.{tabled}
use Rattle.wasm_machine.proofs.Ready.{choice_there, under_choice}
use Rattle.wasm_machine.proofs.branch.branch_table.Goals as goal

pub pop_i32-number-requires : goal.pop_i32-number-requires
pop_i32-number-requires c =
    choice_there (map label_of c.args.machine.now.now.labels.items) c.args.machine.now.now.arity c.args.default
    (map code.label_of c.args.branches.now) c.args.machine.now.now.stack.known.values c.requires

pub branch-machine-requires : goal.branch-machine-requires
branch-machine-requires c =
    under_choice (map label_of c.args.machine.now.now.labels.items) c.args.machine.now.now.arity c.args.default
    (map code.label_of c.args.branches.now) c.args.machine.now.now.stack.known.values
    c.pop_i32-number.new.self.known.values c.pop_i32-number.result c.choice.result c.requires
    c.pop_i32-number.ensures c.choice.ensures

pub returns : goal.returns
returns c =
    tabled c.branch-machine.result c.branch-machine.new.machine (store_of c.args.machine.now)
    (activation c.args.machine.now.now) (callers_of c.args.machine.now) (map code.label_of c.args.branches.now)
    c.args.default c.pop_i32-number.result c.choice.result
    c.pop_i32-number.new.self.known.values c.pop_i32-number.ensures c.choice.ensures c.branch-machine.ensures
