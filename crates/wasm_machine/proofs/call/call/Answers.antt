use Rattle.std.proofs.Common.{subst}
use Rattle.wasm_sound.specs.Ready.{CanCall}
use Rattle.wasm_tree.specs.declared.store.Callee.{Callee}
use Rattle.wasm_machine.proofs.Ready.{function_there, params_there}
use Rattle.wasm_machine.proofs.call.call.Goals as goal

pub function_at-requires : goal.function_at-requires
function_at-requires c = function_there c.args.modules.now c.in-Own.module c.in-Own.function
    c.args.machine.now.now.stack.known.values
    (subst (λ (callee : Callee). ∥ CanCall c.args.modules.now c.args.machine.now.now.stack.known.values callee ∥₁)
    c.in-Own.is c.requires)

pub call_typed-requires : goal.call_typed-requires
call_typed-requires c = params_there c.args.modules.now c.in-Own.module c.in-Own.function
    c.args.machine.now.now.stack.known.values _
    (subst (λ (callee : Callee). ∥ CanCall c.args.modules.now c.args.machine.now.now.stack.known.values callee ∥₁)
    c.in-Own.is c.requires) c.function_at.ensures
