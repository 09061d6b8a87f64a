use Rattle.law_rules.proofs.Ruled.{programs_ruled, implementations_ruled}
use Rattle.m2_check.proofs.check.Goals as goal

pub returns-clause-programs : goal.returns-clause-programs
returns-clause-programs c = λ b is others. programs_ruled _ _ _ others b is

pub returns-clause-implementations : goal.returns-clause-implementations
returns-clause-implementations c = λ t b own is w others. implementations_ruled t _ _ w others b is
