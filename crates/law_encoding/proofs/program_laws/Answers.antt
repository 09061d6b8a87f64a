use Rattle.law_encoding.proofs.ProgramsRoom.{modules_small, programs_fit}
use Rattle.law_encoding.proofs.AcceptedPrograms.{least_fit, every_fit}
use Rattle.law_encoding.proofs.program_laws.Goals as goal

pub returns-clause-small : goal.returns-clause-small
returns-clause-small c = λ p place m coherent stored. modules_small p place m coherent stored

pub returns-clause-fit : goal.returns-clause-fit
returns-clause-fit c = λ p pages are typed short small. programs_fit p pages are typed short small

pub returns-clause-least : goal.returns-clause-least
returns-clause-least c = least_fit

pub returns-clause-every : goal.returns-clause-every
returns-clause-every c = every_fit
