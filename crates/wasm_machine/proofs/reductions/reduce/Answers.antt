use Rattle.std.proofs.Common.{refl}
use Rattle.wasm_machine.specs.Going.{activation, store_of, callers_of}
use Rattle.wasm_machine.proofs.Fronts.{front_trees, front_ready, end_ready, reduced_front, reduced_end}
use Rattle.wasm_machine.proofs.reductions.reduce.Goals as goal

pub end-requires : goal.end-requires
end-requires c = end_ready c.args.modules.now (store_of c.args.machine.now) (activation c.args.machine.now.now)
    (callers_of c.args.machine.now) c.args.machine.now.now.rest.now refl c.requires c.in-empty.len_below

pub begin-requires-clause-front : goal.begin-requires-clause-front
begin-requires-clause-front c = front_trees c.args.machine.now.now.rest.now c.in-len1-up.len_at_least

pub begin-requires-clause-ready : goal.begin-requires-clause-ready
begin-requires-clause-ready c = front_ready c.args.modules.now (store_of c.args.machine.now)
    (activation c.args.machine.now.now) (callers_of c.args.machine.now) c.args.machine.now.now.rest.now refl c.requires
    c.in-len1-up.len_at_least

pub returns-in-empty : goal.returns-in-empty
returns-in-empty c =
    reduced_end c.args.modules.now (store_of c.args.machine.now) (activation c.args.machine.now.now)
    (callers_of c.args.machine.now) c.args.machine.now.now.rest.now refl c.end.result c.end.new.machine
    c.in-empty.len_below c.end.ensures

pub returns-in-len1-up : goal.returns-in-len1-up
returns-in-len1-up c =
    reduced_front c.args.modules.now (store_of c.args.machine.now) (activation c.args.machine.now.now)
    (callers_of c.args.machine.now) c.args.machine.now.now.rest.now refl c.begin.result c.begin.new.machine
    c.in-len1-up.len_at_least c.begin.ensures
