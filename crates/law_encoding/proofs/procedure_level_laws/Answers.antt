use Rattle.std.proofs.Common.{arith}
use Rattle.check_scope.specs.Elaborated.{least, every}
use Rattle.check_body.specs.Checks.{elaborate_body}
use Rattle.def_grammar.specs.Refusal.{max_nesting}
use Rattle.law_well_formed.proofs.Induction.{elaborated_formed}
use Rattle.law_encoding.proofs.Bounds.{statements_near}
use Rattle.law_encoding.proofs.NestedProcedures.{tree_below}
use Rattle.law_encoding.proofs.ProcedureLevels.{levels_low, bodies_near}
use Rattle.law_encoding.proofs.procedure_level_laws.Goals as goal

pub returns-clause-least : goal.returns-clause-least
returns-clause-least c = λ number m own tables. levels_low least (elaborate_body least) (elaborated_formed least) number
    m own tables

pub returns-clause-every : goal.returns-clause-every
returns-clause-every c = λ number m own tables. levels_low every (elaborate_body every) (elaborated_formed every) number
    m own tables

pub returns-clause-least_near : goal.returns-clause-least_near
returns-clause-least_near c = λ ts m d number own tables. bodies_near max_nesting least (elaborate_body least)
    (elaborated_formed least) (λ s r xs. statements_near least s _ xs) number m own tables (omega arith)
    (tree_below ts m d)

pub returns-clause-every_near : goal.returns-clause-every_near
returns-clause-every_near c = λ ts m d number own tables. bodies_near max_nesting every (elaborate_body every)
    (elaborated_formed every) (λ s r xs. statements_near every s _ xs) number m own tables (omega arith)
    (tree_below ts m d)
