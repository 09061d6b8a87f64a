use Rattle.std.proofs.Common.{[], sym, ap, subst, ◌∙◌, List}
use Rattle.wasm_machine.specs.Going.{activation, store_of, callers_of}
use Rattle.wasm_machine.specs.There.{IsThere}
use Rattle.wasm_tree.specs.Machine.{Going}
use Rattle.wasm_tree.specs.declared.store.Value.{Value}
use Rattle.wasm_machine.proofs.Found.{begun_global}
use Rattle.wasm_machine.proofs.Ready.{there_within}
use Rattle.wasm_machine.proofs.variables.global_get.Goals as goal

pub push_copy-requires : goal.push_copy-requires
push_copy-requires c = there_within c.args.machine.now.globals.known.values c.place_of_global-place.result
    (subst IsThere c.place_of_global-place.ensures c.requires)

pub returns : goal.returns
returns c = λ modules.
    ap (λ (l : List Value). (
      Going (store_of c.args.machine.now)
          (record (activation c.args.machine.now.now) { stack = l }) (callers_of c.args.machine.now),
      [],
    ))
    c.in_ok-push_copy.ensures ∙ sym (begun_global modules (store_of c.args.machine.now)
    (activation c.args.machine.now.now) (callers_of c.args.machine.now) c.args.global c.place_of_global-place.result
    c.place_of_global-place.ensures (there_within c.args.machine.now.globals.known.values
    c.place_of_global-place.result (subst IsThere c.place_of_global-place.ensures c.requires)))
