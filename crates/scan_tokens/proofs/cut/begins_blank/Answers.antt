use Rattle.scan_tokens.proofs.Fronts.{blank_begins}
use Rattle.scan_tokens.proofs.cut.begins_blank.Goals as goal

pub returns-then-not-is_empty : goal.returns-then-not-is_empty
returns-then-not-is_empty c = blank_begins c.args.text.now
