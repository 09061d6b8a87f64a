use Rattle.scan_tokens.proofs.Divisions.{divides_once}
use Rattle.scan_tokens.proofs.tokens.one_division.Goals as goal

pub returns : goal.returns
returns c = divides_once
