use Rattle.wasm_machine.specs.Going.{activation}
use Rattle.wasm_machine.proofs.Ready.{results_at_end}
use Rattle.wasm_machine.proofs.branch.end.Goals as goal

pub leave-requires : goal.leave-requires
leave-requires c = results_at_end (activation c.args.machine.now.now) c.requires c.in-None.ensures
