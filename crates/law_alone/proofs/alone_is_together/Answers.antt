use Rattle.law_exchange_jobs.proofs.Coming.{made_alone}
use Rattle.law_alone.proofs.Moving.{moves_with_numbers}
use Rattle.law_alone.proofs.alone_is_together.Goals as goal

pub returns : goal.returns
returns c = made_alone moves_with_numbers
