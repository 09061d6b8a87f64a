use Rattle.m2_tree.specs.declared.decl.Decl.{out-Decl}
use Rattle.check_scope.specs.Elaborated.{least, every}
use Rattle.law_well_formed.proofs.OrderMade.{type_of_ordered}
use Rattle.law_well_formed.proofs.OrderDeclarations.{def_ordered, decl_ordered}
use Rattle.law_well_formed.proofs.OrderBlocks.{definition_ordered, block_ordered, module_ordered}
use Rattle.law_well_formed.proofs.types.formed_order_laws.Goals as goal

pub returns-clause-least_types : goal.returns-clause-least_types
returns-clause-least_types c = λ base s h t. type_of_ordered least t base s h

pub returns-clause-every_types : goal.returns-clause-every_types
returns-clause-every_types c = λ base s h t. type_of_ordered every t base s h

pub returns-clause-least_defs : goal.returns-clause-least_defs
returns-clause-least_defs c = λ base st p d. def_ordered base least st p d

pub returns-clause-every_defs : goal.returns-clause-every_defs
returns-clause-every_defs c = λ base st p d. def_ordered base every st p d

pub returns-clause-least_decls : goal.returns-clause-least_decls
returns-clause-least_decls c = λ base ends c p d. decl_ordered base least ends c p (out-Decl d)

pub returns-clause-every_decls : goal.returns-clause-every_decls
returns-clause-every_decls c = λ base ends c p d. decl_ordered base every ends c p (out-Decl d)

pub returns-clause-least_definitions : goal.returns-clause-least_definitions
returns-clause-least_definitions c = λ base m modules s h ds. definition_ordered base least m modules s ds h

pub returns-clause-every_definitions : goal.returns-clause-every_definitions
returns-clause-every_definitions c = λ base m modules s h ds. definition_ordered base every m modules s ds h

pub returns-clause-least_blocks : goal.returns-clause-least_blocks
returns-clause-least_blocks c = λ base ends st first p ds. block_ordered base least ends st first ds p

pub returns-clause-every_blocks : goal.returns-clause-every_blocks
returns-clause-every_blocks c = λ base ends st first p ds. block_ordered base every ends st first ds p

pub returns-clause-least_modules : goal.returns-clause-least_modules
returns-clause-least_modules c = λ base modules ends s m h ds. module_ordered base least modules ends s m ds h

pub returns-clause-every_modules : goal.returns-clause-every_modules
returns-clause-every_modules c = λ base modules ends s m h ds. module_ordered base every modules ends s m ds h
