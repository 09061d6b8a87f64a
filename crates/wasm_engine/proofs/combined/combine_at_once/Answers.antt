use Rattle.std.proofs.Common.{refl}
use Rattle.wasm_tree.specs.Code.{tree}
use Rattle.wasm_machine.specs.Going.{activation, store_of, callers_of, going}
use Rattle.wasm_engine.proofs.AtOnce.{did_nothing, none_made}
use Rattle.wasm_engine.proofs.Combining.{both_front, did_both, has_numbers, not_both}
use Rattle.wasm_engine.proofs.combined.combine_at_once.Goals as goal

pub returns-in_default-clause-goes : goal.returns-in_default-clause-goes
returns-in_default-clause-goes c = none_made c.args.modules.now (going c.args.machine.now)

pub returns-in_default-next_numeric-clause-goes : goal.returns-in_default-next_numeric-clause-goes
returns-in_default-next_numeric-clause-goes c = none_made c.args.modules.now (going c.args.machine.now)

pub returns-then-most-lt-BOTH-clause-goes : goal.returns-then-most-lt-BOTH-clause-goes
returns-then-most-lt-BOTH-clause-goes c = none_made c.args.modules.now (going c.args.machine.now)

pub combine-requires : goal.combine-requires
combine-requires c =
    let front = both_front (tree c.args.machine.now.now.rest.now) (tree c.in-Some.code.now)
    (tree c.in-Some-next_numeric.rest.now) c.in-Some.number c.in-Some-next_numeric.numeric c.in-Some.ensures
    c.in-Some-next_numeric.ensures in
    has_numbers c.args.modules.now (store_of c.args.machine.now) (activation c.args.machine.now.now)
    (callers_of c.args.machine.now) c.in-Some.number c.in-Some-next_numeric.numeric
    (tree c.in-Some-next_numeric.rest.now) front c.args.table.now c.requires

pub returns-then-not-combine-clause-goes : goal.returns-then-not-combine-clause-goes
returns-then-not-combine-clause-goes c =
    did_nothing c.args.modules.now (store_of c.args.machine.now) (activation c.args.machine.now.now)
    (callers_of c.args.machine.now) 0 c.combine.new.stack.known.values refl
    (not_both c.combine.result c.in-Some-next_numeric.numeric c.in-Some.number c.args.machine.now.now.stack.known.values
    c.combine.new.stack.known.values c.if-not-combine.true c.combine.ensures)

pub returns-clause-goes : goal.returns-clause-goes
returns-clause-goes c =
    let front = both_front (tree c.args.machine.now.now.rest.now) (tree c.in-Some.code.now)
    (tree c.in-Some-next_numeric.rest.now) c.in-Some.number c.in-Some-next_numeric.numeric c.in-Some.ensures
    c.in-Some-next_numeric.ensures in
    did_both c.args.modules.now (store_of c.args.machine.now) (activation c.args.machine.now.now)
    (callers_of c.args.machine.now) c.in-Some.number c.in-Some-next_numeric.numeric
    (tree c.in-Some-next_numeric.rest.now) front c.combine.result c.combine.new.stack.known.values
    c.if-not-combine.false c.combine.ensures
