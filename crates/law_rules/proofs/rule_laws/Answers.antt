use Rattle.law_rules.proofs.Ruled.{definitions_ruled, programs_ruled, implementations_ruled, lonely_ruled}
use Rattle.law_rules.proofs.rule_laws.Goals as goal

pub returns-clause-definitions : goal.returns-clause-definitions
returns-clause-definitions c = definitions_ruled

pub returns-clause-programs : goal.returns-clause-programs
returns-clause-programs c = programs_ruled

pub returns-clause-implementations : goal.returns-clause-implementations
returns-clause-implementations c = implementations_ruled

pub returns-clause-lonely : goal.returns-clause-lonely
returns-clause-lonely c = lonely_ruled
