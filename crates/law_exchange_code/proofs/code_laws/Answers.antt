use Rattle.law_exchange_code.proofs.Emitting.{emitted_kept}
use Rattle.law_exchange_code.proofs.Stored.{too_large_kept}
use Rattle.law_exchange_code.proofs.code_laws.Goals as goal

pub returns : goal.returns
returns c = record { code = emitted_kept; storage = too_large_kept }
