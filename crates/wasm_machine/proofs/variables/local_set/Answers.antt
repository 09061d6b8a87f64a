use Rattle.std.proofs.Common.{[], sym, ap₂, ◌∙◌, List}
use Rattle.wasm_machine.specs.Going.{activation, store_of, callers_of}
use Rattle.wasm_tree.specs.Machine.{Going}
use Rattle.wasm_tree.specs.declared.store.Value.{Value}
use Rattle.wasm_machine.proofs.Found.{begun_set}
use Rattle.wasm_machine.proofs.variables.local_set.Goals as goal

pub returns : goal.returns
returns c = λ modules.
    ap₂ (λ (l k : List Value). (
      Going (store_of c.args.machine.now)
          (record (activation c.args.machine.now.now) { locals = l; stack = k }) (callers_of c.args.machine.now),
      [],
    ))
    c.set_last.ensures c.drop_last.ensures
    ∙ sym (begun_set modules (store_of c.args.machine.now) (activation c.args.machine.now.now)
    (callers_of c.args.machine.now) c.args.local c.requires.within c.requires.one)
