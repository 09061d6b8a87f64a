use Rattle.m2_tree.specs.declared.decl.Decl.{out-Decl}
use Rattle.check_scope.specs.Elaborated.{least, every}
use Rattle.law_well_formed.proofs.ScopesDeclarations.{decl_leads}
use Rattle.law_well_formed.proofs.declarations.formed_scope_laws.Goals as goal

pub returns-clause-least : goal.returns-clause-least
returns-clause-least c = λ m opens ends st d k. decl_leads m opens least ends st (out-Decl d) k

pub returns-clause-every : goal.returns-clause-every
returns-clause-every c = λ m opens ends st d k. decl_leads m opens every ends st (out-Decl d) k
