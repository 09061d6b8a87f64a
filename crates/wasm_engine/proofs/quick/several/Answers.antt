use Rattle.std.proofs.Common.{◌≡◌, arith}
use Rattle.wasm_machine.specs.Going.{going}
use Rattle.wasm_engine.proofs.AtOnce.{well_of, holds_still, once_made}
use Rattle.wasm_engine.proofs.quick.several.Goals as goal

pub once-requires : goal.once-requires
once-requires c =
    well_of c.args.modules.now c.args.table.now (going c.at_once.new.machine)
    (holds_still c.args.modules.now c.args.table.now (going c.args.machine.now) (going c.at_once.new.machine)
    c.in_ok-made.made c.requires.sound c.in_ok-made.ensures.goes)

pub returns-clause-made : goal.returns-clause-made
returns-clause-made c =
    let zero : c.in_ok-made.made ≡ 0 = omega arith in
    once_made c.once.result c.args.modules.now (going c.args.machine.now) (going c.at_once.new.machine)
    c.once.new.machine c.in_ok-made.made zero c.in_ok-made.ensures.goes c.once.ensures
