use Rattle.std.proofs.Common.{map, subst, sym}
use Rattle.wasm_tree.specs.Code as code
use Rattle.wasm_sound.specs.Ready.{CanBranchTable}
use Rattle.wasm_machine.specs.Going.{label_of}
use Rattle.wasm_machine.proofs.branch.table.Goals as goal

pub branch_table-requires : goal.branch_table-requires
branch_table-requires c =
    subst (λ ops. ∥ CanBranchTable (map label_of c.args.machine.now.now.labels.items) c.args.machine.now.now.arity
    c.args.machine.now.now.stack.known.values (map code.label_of ops) c.args.default ∥₁)
    (sym c.split_ops.ensures.front) c.requires
