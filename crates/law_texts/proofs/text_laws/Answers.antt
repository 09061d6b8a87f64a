use Rattle.law_texts.proofs.Texts.{texts_are_scanned}
use Rattle.law_texts.proofs.text_laws.Goals as goal

pub returns : goal.returns
returns c = texts_are_scanned
