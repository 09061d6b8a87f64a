use Rattle.m2_tree.specs.declared.decl.Decl.{out-Decl}
use Rattle.check_scope.specs.Elaborated.{least, every}
use Rattle.law_well_formed.proofs.NumbersDeclarations.{decl_grows}
use Rattle.law_well_formed.proofs.Entered.{procedure_entered}
use Rattle.law_well_formed.proofs.declarations.formed_number_laws.Goals as goal

pub returns-clause-least : goal.returns-clause-least
returns-clause-least c = λ fs ends st d. decl_grows fs least ends st (out-Decl d)

pub returns-clause-every : goal.returns-clause-every
returns-clause-every c = λ fs ends st d. decl_grows fs every ends st (out-Decl d)

pub returns-clause-least_entered : goal.returns-clause-least_entered
returns-clause-least_entered c = procedure_entered least

pub returns-clause-every_entered : goal.returns-clause-every_entered
returns-clause-every_entered c = procedure_entered every
