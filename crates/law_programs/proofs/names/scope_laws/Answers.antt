use Rattle.check_scope.specs.Elaborated.{least, every}
use Rattle.law_programs.proofs.Entering.{formals_are_slots, formals_stay}
use Rattle.law_programs.proofs.Naming.{variable_there, block_typed}
use Rattle.law_programs.proofs.Scoping.{scope_typed, blocks_stay, slots_are_kinds}
use Rattle.law_programs.proofs.names.scope_laws.Goals as goal

pub returns-clause-least_scopes : goal.returns-clause-least_scopes
returns-clause-least_scopes c = λ x opens s h. scope_typed least x opens s h

pub returns-clause-least_blocks : goal.returns-clause-least_blocks
returns-clause-least_blocks c = λ x opens ks level b bs e long p q. blocks_stay x opens ks level b bs e long p q

pub returns-clause-every_scopes : goal.returns-clause-every_scopes
returns-clause-every_scopes c = λ x opens s h. scope_typed every x opens s h

pub returns-clause-every_blocks : goal.returns-clause-every_blocks
returns-clause-every_blocks c = λ x opens ks level b bs e long p q. blocks_stay x opens ks level b bs e long p q

pub returns-clause-slots : goal.returns-clause-slots
returns-clause-slots c = slots_are_kinds

pub returns-clause-least_formals : goal.returns-clause-least_formals
returns-clause-least_formals c = λ s seen h fs e. formals_are_slots least s seen h fs e

pub returns-clause-least_same : goal.returns-clause-least_same
returns-clause-least_same c = λ a b same xs fs e. formals_stay least a b same xs fs e

pub returns-clause-every_formals : goal.returns-clause-every_formals
returns-clause-every_formals c = λ s seen h fs e. formals_are_slots every s seen h fs e

pub returns-clause-every_same : goal.returns-clause-every_same
returns-clause-every_same c = λ a b same xs fs e. formals_stay every a b same xs fs e

pub returns-clause-variables : goal.returns-clause-variables
returns-clause-variables c = variable_there

pub returns-clause-least_names : goal.returns-clause-least_names
returns-clause-least_names c = λ x opens types vs slots level kss es h. block_typed x opens types vs slots level kss es
    h

pub returns-clause-every_names : goal.returns-clause-every_names
returns-clause-every_names c = λ x opens types vs slots level kss es h. block_typed x opens types vs slots level kss es
    h
