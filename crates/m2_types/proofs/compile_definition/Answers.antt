use Rattle.law_rules.proofs.Ruled.{definitions_ruled}
use Rattle.m2_types.proofs.compile_definition.Goals as goal

pub returns-clause-rules : goal.returns-clause-rules
returns-clause-rules c = λ defs is. definitions_ruled _ _ _ defs is
