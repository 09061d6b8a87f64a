use Rattle.law_modules.proofs.LinkModule.{typed_link_valid}
use Rattle.law_modules.proofs.Modules.{typed_module_valid}
use Rattle.law_modules.proofs.valid_laws.Goals as goal

pub returns-clause-modules : goal.returns-clause-modules
returns-clause-modules c = typed_module_valid

pub returns-clause-link : goal.returns-clause-link
returns-clause-link c = typed_link_valid
