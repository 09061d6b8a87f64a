use Rattle.law_encoding.proofs.ImportsRoom.{imports_fit}
use Rattle.law_encoding.proofs.import_laws.Goals as goal

pub returns : goal.returns
returns c = λ m p. imports_fit m p
