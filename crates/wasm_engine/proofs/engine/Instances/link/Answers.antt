use Rattle.std.proofs.lemmas.Grind.{merely}
use Rattle.wasm_machine.specs.Going.{going, store_of}
use Rattle.wasm_engine.proofs.WellKept.{well_linked}
use Rattle.wasm_engine.proofs.AtOnce.{right_filled}
use Rattle.wasm_engine.proofs.engine.Instances.link.Goals as goal

pub invariant_of-result : goal.invariant_of-result
invariant_of-result c = record {
  sound =
      merely (λ _. record {
        well = well_linked c.args.modules.now (going c.in_ok-machine.machine)
            c.in_ok-machine.ensures.valid c.in_ok-machine.ensures.gives;
        right =
            right_filled c.args.modules.now c.in_ok-machine.machine.store (store_of c.in_ok-machine.machine).memories
            (store_of c.in_ok-machine.machine).globals c.in_ok-table.table c.in_ok-table.ensures;
      });
}
