use Rattle.std.proofs.Common.{refl}
use Rattle.wasm_tree.specs.Code.{tree}
use Rattle.wasm_machine.specs.Going.{activation, store_of, callers_of, going}
use Rattle.wasm_engine.proofs.AtOnce.{has_arguments, did_calculate, did_nothing, none_made, calculated_left}
use Rattle.wasm_engine.proofs.quick.calculate_at_once.Goals as goal

pub calculate-requires : goal.calculate-requires
calculate-requires c = has_arguments c.args.modules.now (store_of c.args.machine.now)
    (activation c.args.machine.now.now) (callers_of c.args.machine.now) c.args.function c.args.index
    (tree c.args.rest.now) c.requires.next c.requires.known c.requires.sound

pub returns-then-done-clause-goes : goal.returns-then-done-clause-goes
returns-then-done-clause-goes c =
    did_calculate c.args.modules.now (store_of c.args.machine.now) (activation c.args.machine.now.now)
    (callers_of c.args.machine.now) c.args.function c.reductions_of-reductions.result c.args.index
    (tree c.args.rest.now) c.calculate.new.stack.known.values c.in_ok-done.done c.reductions_of-reductions.ensures
    c.requires.next c.requires.known c.if-done.true c.in_ok-done.ensures

pub returns-then-most-reductions-clause-goes : goal.returns-then-most-reductions-clause-goes
returns-then-most-reductions-clause-goes c = none_made c.args.modules.now (going c.args.machine.now)

pub returns-clause-goes : goal.returns-clause-goes
returns-clause-goes c =
    did_nothing c.args.modules.now (store_of c.args.machine.now) (activation c.args.machine.now.now)
    (callers_of c.args.machine.now) 0 c.calculate.new.stack.known.values refl
    (calculated_left c.args.function c.in_ok-done.done c.args.machine.now.now.stack.known.values
    c.calculate.new.stack.known.values c.if-done.false c.in_ok-done.ensures)
