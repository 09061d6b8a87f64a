use Rattle.law_simulation.proofs.Values.{taken, procedure_values, results}
use Rattle.law_simulation.proofs.Copies.{copies, strings}
use Rattle.law_simulation.proofs.Procedures.{number_results}
use Rattle.law_simulation.proofs.calls.value_laws.Goals as goal

pub returns-clause-taken : goal.returns-clause-taken
returns-clause-taken c = taken

pub returns-clause-procedure_values : goal.returns-clause-procedure_values
returns-clause-procedure_values c = procedure_values

pub returns-clause-copies : goal.returns-clause-copies
returns-clause-copies c = copies

pub returns-clause-strings : goal.returns-clause-strings
returns-clause-strings c = strings

pub returns-clause-gives : goal.returns-clause-gives
returns-clause-gives c = results

pub returns-clause-number_results : goal.returns-clause-number_results
returns-clause-number_results c = number_results
