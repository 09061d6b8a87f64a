use Rattle.law_linking.proofs.Linking.{parts_start}
use Rattle.law_linking.proofs.parts_start_in_order.Goals as goal

pub returns : goal.returns
returns c = parts_start
