use Rattle.std.proofs.Common.{refl}
use Rattle.wasm_tree.specs.Code.{tree}
use Rattle.wasm_machine.specs.Going.{going}
use Rattle.wasm_known.specs.declared.table.KnownFunction.TheVariants as kind
use Rattle.wasm_engine.proofs.AtOnce.{none_made, calls_known}
use Rattle.wasm_engine.proofs.quick.call_at_once.Goals as goal

pub returns-in_default-clause-goes : goal.returns-in_default-clause-goes
returns-in_default-clause-goes c = none_made c.args.modules.now (going c.args.machine.now)

pub returns-in-Other-clause-goes : goal.returns-in-Other-clause-goes
returns-in-Other-clause-goes c = none_made c.args.modules.now (going c.args.machine.now)

pub fill_at_once-requires : goal.fill_at_once-requires
fill_at_once-requires c = calls_known c.args.modules.now c.args.table.now c.args.machine.now c.in-Some.index
    (tree c.in-Some.rest.now) kind.Fill c.known_at-function.result c.requires c.in-Some.ensures
    c.known_at-function.ensures c.in-Fill.is

pub copy_at_once-requires : goal.copy_at_once-requires
copy_at_once-requires c = calls_known c.args.modules.now c.args.table.now c.args.machine.now c.in-Some.index
    (tree c.in-Some.rest.now) kind.Copy c.known_at-function.result c.requires c.in-Some.ensures
    c.known_at-function.ensures c.in-Copy.is

pub calculate_at_once-requires : goal.calculate_at_once-requires
calculate_at_once-requires c = calls_known c.args.modules.now c.args.table.now c.args.machine.now c.in-Some.index
    (tree c.in-Some.rest.now) c.known_at-function.result c.known_at-function.result c.requires c.in-Some.ensures
    c.known_at-function.ensures refl
