use Rattle.wasm_tree.specs.Code.{tree}
use Rattle.wasm_machine.specs.Going.{activation, store_of, callers_of, going}
use Rattle.wasm_engine.proofs.AtOnce.{none_made, has_number, did_bounds}
use Rattle.wasm_engine.proofs.quick.bounds_at_once.Goals as goal

pub returns-in_default-clause-goes : goal.returns-in_default-clause-goes
returns-in_default-clause-goes c = none_made c.args.modules.now (going c.args.machine.now)

pub returns-then-most-lt-BOUNDED-clause-goes : goal.returns-then-most-lt-BOUNDED-clause-goes
returns-then-most-lt-BOUNDED-clause-goes c = none_made c.args.modules.now (going c.args.machine.now)

pub returns-then-not-is_check-clause-goes : goal.returns-then-not-is_check-clause-goes
returns-then-not-is_check-clause-goes c = none_made c.args.modules.now (going c.args.machine.now)

pub returns-then-not-is_between-clause-goes : goal.returns-then-not-is_between-clause-goes
returns-then-not-is_between-clause-goes c = none_made c.args.modules.now (going c.args.machine.now)

pub top_i64-number-requires : goal.top_i64-number-requires
top_i64-number-requires c = has_number c.args.modules.now (store_of c.args.machine.now)
    (activation c.args.machine.now.now) (callers_of c.args.machine.now) c.args.table.now c.requires
    c.in-Some.bounds.check c.in-Some.bounds.low c.in-Some.bounds.high c.in-Some.bounds.fault (tree c.in-Some.rest.now)
    c.in-Some.ensures (c.is_check.ensures c.if-not-is_check.false)

pub returns-clause-goes : goal.returns-clause-goes
returns-clause-goes c =
    did_bounds c.args.modules.now (store_of c.args.machine.now) (activation c.args.machine.now.now)
    (callers_of c.args.machine.now) c.args.table.now c.requires c.in-Some.bounds.check c.in-Some.bounds.low
    c.in-Some.bounds.high c.in-Some.bounds.fault (tree c.in-Some.rest.now) c.in-Some.ensures
    (c.is_check.ensures c.if-not-is_check.false)
    _ c.top_i64-number.result c.top_i64-number.ensures (c.is_between.ensures c.if-not-is_between.false)
