use Rattle.law_exchange_jobs.proofs.Coming.{bodies}
use Rattle.law_alone.proofs.Moving.{moves_with_numbers}
use Rattle.law_alone.proofs.bodies_are_separate.Goals as goal

pub returns : goal.returns
returns c = bodies moves_with_numbers
