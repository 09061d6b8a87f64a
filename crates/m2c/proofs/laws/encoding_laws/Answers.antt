use Rattle.m2c.proofs.Encodings.{programs_fit}
use Rattle.m2c.proofs.laws.encoding_laws.Goals as goal

pub returns : goal.returns
returns c = λ files trees numbers jobs starts have none p typed pages some most fits.
    programs_fit files trees numbers jobs starts have none p typed pages some most fits
