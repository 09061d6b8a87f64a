use Rattle.check_scope.specs.Elaborated.{least, every}
use Rattle.check_body.specs.Checks.{elaborate_body}
use Rattle.law_well_formed.proofs.Induction.{elaborated_formed}
use Rattle.law_encoding.proofs.Bounds.{statements_small}
use Rattle.law_encoding.proofs.DeclaredProcedures.{procedures_declared}
use Rattle.law_encoding.proofs.DistinctExports.{tables_once}
use Rattle.law_encoding.proofs.ModuleCounts.{module_few}
use Rattle.law_encoding.proofs.declared_procedure_laws.Goals as goal

pub returns-clause-least : goal.returns-clause-least
returns-clause-least c = λ number m own tables once. procedures_declared least (elaborate_body least)
    (elaborated_formed least) number m own tables once

pub returns-clause-every : goal.returns-clause-every
returns-clause-every c = λ number m own tables once. procedures_declared every (elaborate_body every)
    (elaborated_formed every) number m own tables once

pub returns-clause-least_tables : goal.returns-clause-least_tables
returns-clause-least_tables c = λ number m tables. tables_once least number m tables

pub returns-clause-every_tables : goal.returns-clause-every_tables
returns-clause-every_tables c = λ number m tables. tables_once every number m tables

pub returns-clause-least_counts : goal.returns-clause-least_counts
returns-clause-least_counts c = λ number m own tables once. module_few least (elaborate_body least)
    (elaborated_formed least) (λ s r xs. statements_small least s _ xs) number m own tables once

pub returns-clause-every_counts : goal.returns-clause-every_counts
returns-clause-every_counts c = λ number m own tables once. module_few every (elaborate_body every)
    (elaborated_formed every) (λ s r xs. statements_small every s _ xs) number m own tables once
