use Rattle.m2_tree.specs.declared.decl.Decl.{out-Decl}
use Rattle.check_scope.specs.Elaborated.{least, every}
use Rattle.law_well_formed.proofs.Constants.{constants_ranged}
use Rattle.law_well_formed.proofs.RangesMade.{type_of_ranged}
use Rattle.law_well_formed.proofs.RangesDeclarations.{def_ranged, decl_ranged}
use Rattle.law_well_formed.proofs.ranges.formed_range_laws.Goals as goal

pub returns-clause-least_constants : goal.returns-clause-least_constants
returns-clause-least_constants c = constants_ranged least

pub returns-clause-every_constants : goal.returns-clause-every_constants
returns-clause-every_constants c = constants_ranged every

pub returns-clause-least_types : goal.returns-clause-least_types
returns-clause-least_types c = λ s h t e. type_of_ranged least (constants_ranged least) t e s h

pub returns-clause-every_types : goal.returns-clause-every_types
returns-clause-every_types c = λ s h t e. type_of_ranged every (constants_ranged every) t e s h

pub returns-clause-least_defs : goal.returns-clause-least_defs
returns-clause-least_defs c = λ st p d e. def_ranged least (constants_ranged least) st p d e

pub returns-clause-every_defs : goal.returns-clause-every_defs
returns-clause-every_defs c = λ st p d e. def_ranged every (constants_ranged every) st p d e

pub returns-clause-least_decls : goal.returns-clause-least_decls
returns-clause-least_decls c = λ ends st p d e. decl_ranged least (constants_ranged least) ends st p (out-Decl d) e

pub returns-clause-every_decls : goal.returns-clause-every_decls
returns-clause-every_decls c = λ ends st p d e. decl_ranged every (constants_ranged every) ends st p (out-Decl d) e
