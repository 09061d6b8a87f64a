use Rattle.law_encoding.proofs.ValidNumbers.{code_fits}
use Rattle.law_encoding.proofs.ModuleNumbers.{module_uses, module_numbers}
use Rattle.law_encoding.proofs.ConstantSteps.{constants_fit}
use Rattle.law_encoding.proofs.ConstantFunctions.{functions_const}
use Rattle.law_encoding.proofs.code_number_laws.Goals as goal

pub returns-clause-valid : goal.returns-clause-valid
returns-clause-valid c = λ context code before after v few l e. code_fits context code before after v few l e

pub returns-clause-indexes : goal.returns-clause-indexes
returns-clause-indexes c = λ m formed p. (module_uses m formed p, λ e. module_numbers m formed p e)

pub returns-clause-constants : goal.returns-clause-constants
returns-clause-constants c = λ x fs small result ws l a b xs p numbered s counts h g e. constants_fit x fs small result
    ws l a b xs p numbered s counts h g e

pub returns-clause-modules : goal.returns-clause-modules
returns-clause-modules c = λ p pages place m ranged typed small. functions_const p pages place m ranged typed small
