use Rattle.std.proofs.Common.{ap, length}
use Rattle.wasm_tree.specs.Code.{tree, head, behind}
use Rattle.wasm_machine.specs.Going.{activation, store_of}
use Rattle.wasm_machine.proofs.Ready.{there_by, one_less, set_within, set_one}
use Rattle.std.proofs.Math.Logic.{∥∥₁_map}
use Rattle.wasm_tree.specs.Machine.{global_at, memory_of}
use Rattle.wasm_sound.proofs.Uses.{ready_branch_table, ready_return, ready_drop, ready_local_get, ready_local_set, ready_local_tee, ready_global_get, ready_load}
use Rattle.wasm_operands.proofs.Merely.{to_le, to_less}
use Rattle.wasm_machine.proofs.reductions.begin.Goals as goal

pub table-requires : goal.table-requires
table-requires c =
    ∥∥₁_map c.requires.ready (λ h. ready_branch_table c.args.modules.now (store_of c.args.machine.now)
    (record (activation c.args.machine.now.now) { rest = tree (behind c.args.op.now c.args.rest.now) })
    (head tree c.args.op.now c.args.rest.now) h _ _ (ap (λ o. head tree o c.args.rest.now) c.in-BrTable.is))

pub leave-requires : goal.leave-requires
leave-requires c = to_le c.args.machine.now.now.arity (length c.args.machine.now.now.stack.known.values)
    (λ h. ready_return c.args.modules.now (store_of c.args.machine.now)
    (record (activation c.args.machine.now.now) { rest = tree (behind c.args.op.now c.args.rest.now) })
    (head tree c.args.op.now c.args.rest.now) h (ap (λ o. head tree o c.args.rest.now) c.in-Return.is)) c.requires.ready

pub drop_operand-requires : goal.drop_operand-requires
drop_operand-requires c = one_less c.args.machine.now.now.stack.known.values
    (∥∥₁_map c.requires.ready (λ h. ready_drop c.args.modules.now (store_of c.args.machine.now)
    (record (activation c.args.machine.now.now) { rest = tree (behind c.args.op.now c.args.rest.now) })
    (head tree c.args.op.now c.args.rest.now) h (ap (λ o. head tree o c.args.rest.now) c.in-Drop.is)))

pub local_get-requires : goal.local_get-requires
local_get-requires c = to_less _ (length c.args.machine.now.now.locals.known.values)
    (λ h. ready_local_get c.args.modules.now (store_of c.args.machine.now)
    (record (activation c.args.machine.now.now) { rest = tree (behind c.args.op.now c.args.rest.now) })
    (head tree c.args.op.now c.args.rest.now) h _ (ap (λ o. head tree o c.args.rest.now) c.in-LocalGet.is))
    c.requires.ready

pub local_set-requires-clause-within : goal.local_set-requires-clause-within
local_set-requires-clause-within c = set_within c.args.machine.now.now.locals.known.values
    c.args.machine.now.now.stack.known.values _
    (∥∥₁_map c.requires.ready (λ h. ready_local_set c.args.modules.now (store_of c.args.machine.now)
    (record (activation c.args.machine.now.now) { rest = tree (behind c.args.op.now c.args.rest.now) })
    (head tree c.args.op.now c.args.rest.now) h _ (ap (λ o. head tree o c.args.rest.now) c.in-LocalSet.is)))

pub local_set-requires-clause-one : goal.local_set-requires-clause-one
local_set-requires-clause-one c = set_one c.args.machine.now.now.locals.known.values
    c.args.machine.now.now.stack.known.values _
    (∥∥₁_map c.requires.ready (λ h. ready_local_set c.args.modules.now (store_of c.args.machine.now)
    (record (activation c.args.machine.now.now) { rest = tree (behind c.args.op.now c.args.rest.now) })
    (head tree c.args.op.now c.args.rest.now) h _ (ap (λ o. head tree o c.args.rest.now) c.in-LocalSet.is)))

pub local_tee-requires-clause-within : goal.local_tee-requires-clause-within
local_tee-requires-clause-within c = set_within c.args.machine.now.now.locals.known.values
    c.args.machine.now.now.stack.known.values _
    (∥∥₁_map c.requires.ready (λ h. ready_local_tee c.args.modules.now (store_of c.args.machine.now)
    (record (activation c.args.machine.now.now) { rest = tree (behind c.args.op.now c.args.rest.now) })
    (head tree c.args.op.now c.args.rest.now) h _ (ap (λ o. head tree o c.args.rest.now) c.in-LocalTee.is)))

pub local_tee-requires-clause-one : goal.local_tee-requires-clause-one
local_tee-requires-clause-one c = set_one c.args.machine.now.now.locals.known.values
    c.args.machine.now.now.stack.known.values _
    (∥∥₁_map c.requires.ready (λ h. ready_local_tee c.args.modules.now (store_of c.args.machine.now)
    (record (activation c.args.machine.now.now) { rest = tree (behind c.args.op.now c.args.rest.now) })
    (head tree c.args.op.now c.args.rest.now) h _ (ap (λ o. head tree o c.args.rest.now) c.in-LocalTee.is)))

pub global_get-requires : goal.global_get-requires
global_get-requires c = there_by (global_at (store_of c.args.machine.now) (activation c.args.machine.now.now).instance
    _) (λ h. ready_global_get c.args.modules.now (store_of c.args.machine.now)
    (record (activation c.args.machine.now.now) { rest = tree (behind c.args.op.now c.args.rest.now) })
    (head tree c.args.op.now c.args.rest.now) h _ (ap (λ o. head tree o c.args.rest.now) c.in-GlobalGet.is))
    c.requires.ready

pub load-requires-clause-address : goal.load-requires-clause-address
load-requires-clause-address c = ∥∥₁_map c.requires.ready
    (λ h. (ready_load c.args.modules.now (store_of c.args.machine.now)
    (record (activation c.args.machine.now.now) { rest = tree (behind c.args.op.now c.args.rest.now) })
    (head tree c.args.op.now c.args.rest.now) h _ (ap (λ o. head tree o c.args.rest.now) c.in-Load.is)).0)

pub load-requires-clause-memory : goal.load-requires-clause-memory
load-requires-clause-memory c = there_by
    (memory_of (store_of c.args.machine.now) (activation c.args.machine.now.now).instance)
    (λ h. (ready_load c.args.modules.now (store_of c.args.machine.now)
    (record (activation c.args.machine.now.now) { rest = tree (behind c.args.op.now c.args.rest.now) })
    (head tree c.args.op.now c.args.rest.now) h _ (ap (λ o. head tree o c.args.rest.now) c.in-Load.is)).1)
    c.requires.ready
