use Rattle.law_nothing_missing.proofs.Programs.{strict_runs, nothing_lacks}
use Rattle.law_nothing_missing.proofs.Missing.{missing_lacks, unknown_lacks, named_lacks, local_lacks, five_is_none}
use Rattle.law_nothing_missing.proofs.whole_run_laws.Goals as goal

pub returns-clause-runs : goal.returns-clause-runs
returns-clause-runs c = strict_runs

pub returns-clause-nothing : goal.returns-clause-nothing
returns-clause-nothing c = nothing_lacks

pub returns-clause-missing : goal.returns-clause-missing
returns-clause-missing c = missing_lacks

pub returns-clause-unknown : goal.returns-clause-unknown
returns-clause-unknown c = unknown_lacks

pub returns-clause-named : goal.returns-clause-named
returns-clause-named c = named_lacks

pub returns-clause-local : goal.returns-clause-local
returns-clause-local c = local_lacks

pub returns-clause-five : goal.returns-clause-five
returns-clause-five c = five_is_none
