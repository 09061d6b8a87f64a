use Rattle.scan_tokens.proofs.Scanned.{never_both}
use Rattle.scan_tokens.proofs.tokens.tokens_or_refusal.Goals as goal

pub returns : goal.returns
returns c = never_both
