use Rattle.law_simulation.proofs.Held.{held_calls}
use Rattle.law_simulation.proofs.Procedures.{held_loads, held_procedures, held_results, held_numbers, held_taken, held_assigns, held_passes, held_gives}
use Rattle.law_simulation.proofs.calls.held_laws.Goals as goal

pub returns-clause-loads : goal.returns-clause-loads
returns-clause-loads c = held_loads

pub returns-clause-procedures : goal.returns-clause-procedures
returns-clause-procedures c = held_procedures

pub returns-clause-results : goal.returns-clause-results
returns-clause-results c = held_results

pub returns-clause-numbers : goal.returns-clause-numbers
returns-clause-numbers c = held_numbers

pub returns-clause-taken : goal.returns-clause-taken
returns-clause-taken c = held_taken

pub returns-clause-assigns : goal.returns-clause-assigns
returns-clause-assigns c = held_assigns

pub returns-clause-passes : goal.returns-clause-passes
returns-clause-passes c = held_passes

pub returns-clause-gives : goal.returns-clause-gives
returns-clause-gives c = held_gives

pub returns-clause-calls : goal.returns-clause-calls
returns-clause-calls c = held_calls
