use Rattle.std.proofs.Common.{◌++◌, ap, ◌∙◌, List}
use Rattle.std.proofs.Common.{get_or}
use Rattle.wasm_tree.specs.declared.store.Value.{Value}
use Rattle.wasm_tree.specs.Machine.{zeros}
use Rattle.wasm_machine.proofs.Groups.{more, none}
use Rattle.wasm_machine.proofs.call.push_locals.Goals as goal

pub loop-group-preserved : goal.loop-group-preserved
loop-group-preserved c =
    c.in_ok-push_zeros.ensures
    ∙ (ap (λ (l : List Value). l ++ zeros (get_or c.args.groups.now c.loop-group.group-index none))
    c.loop-group.invariant ∙ more zeros c.args.locals.now.known.values c.args.groups.now c.loop-group.group-index
    none c.loop-group-test.true)
