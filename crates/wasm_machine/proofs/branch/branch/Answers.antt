use Rattle.std.proofs.Common.{arith, map}
use Rattle.wasm_machine.specs.Going.{activation, store_of, callers_of, label_of}
use Rattle.wasm_machine.proofs.Ready.{label_within, results_there, kept_there}
use Rattle.std.proofs.lemmas.List.{length-map}
use Rattle.wasm_machine.proofs.Found.{leaves}
use Rattle.wasm_machine.proofs.branch.branch.Goals as goal

pub pop_labels-requires : goal.pop_labels-requires
pop_labels-requires c = omega (
  arith,
  label_within (map label_of c.args.machine.now.now.labels.items)
      c.args.machine.now.now.arity c.args.machine.now.now.stack.known.values c.args.label c.requires,
  length-map
      c.args.machine.now.now.labels.items label_of,
)

pub leave-requires : goal.leave-requires
leave-requires c = results_there (map label_of c.args.machine.now.now.labels.items) c.args.machine.now.now.arity
    c.args.machine.now.now.stack.known.values c.args.label c.requires c.in-None.ensures

pub go_to-requires : goal.go_to-requires
go_to-requires c = kept_there (map label_of c.args.machine.now.now.labels.items) c.args.machine.now.now.arity
    c.args.machine.now.now.stack.known.values c.args.label c.requires (map label_of c.pop_labels.new.labels.items)
    (label_of c.in-Some.label) c.in-Some.ensures

pub returns-in-None : goal.returns-in-None
returns-in-None c = leaves c.leave.result c.leave.new.machine (store_of c.args.machine.now)
    (activation c.args.machine.now.now) (callers_of c.args.machine.now) c.args.label
    (label_within (map label_of c.args.machine.now.now.labels.items) c.args.machine.now.now.arity
    c.args.machine.now.now.stack.known.values c.args.label c.requires) c.in-None.ensures c.leave.ensures
