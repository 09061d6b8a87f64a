use Rattle.std.proofs.Common.{[], sym, ap, ◌∙◌, List}
use Rattle.wasm_machine.specs.Going.{activation, store_of, callers_of}
use Rattle.wasm_tree.specs.Machine.{Going}
use Rattle.wasm_tree.specs.declared.store.Value.{Value}
use Rattle.wasm_machine.proofs.Found.{begun_drop}
use Rattle.wasm_machine.proofs.variables.drop_operand.Goals as goal

pub returns : goal.returns
returns c = λ modules.
    ap (λ (l : List Value). (
      Going (store_of c.args.machine.now)
          (record (activation c.args.machine.now.now) { stack = l }) (callers_of c.args.machine.now),
      [],
    ))
    c.drop_last.ensures ∙ sym (begun_drop modules (store_of c.args.machine.now) (activation c.args.machine.now.now)
    (callers_of c.args.machine.now) c.requires)
