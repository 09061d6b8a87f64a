use Rattle.scan_tokens.proofs.Refusals as refusals
use Rattle.scan_tokens.proofs.tokens.one_refusal.Goals as goal

pub returns : goal.returns
returns c = refusals.one_refusal
