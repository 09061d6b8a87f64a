use Rattle.law_compiling.proofs.Refusing.{refused_alone}
use Rattle.law_compiling.proofs.what_is_refused_alone_is_refused.Goals as goal

pub returns : goal.returns
returns c = refused_alone
