use Rattle.law_simulation.proofs.CallsSlots.{kept_locates, alias_locates, open_locates, open_reaches, high_agrees}
use Rattle.law_simulation.proofs.calls.slot_laws.Goals as goal

pub returns-clause-locals : goal.returns-clause-locals
returns-clause-locals c k set p ask kss has slot t there = kept_locates k set kss has slot t there

pub returns-clause-aliases : goal.returns-clause-aliases
returns-clause-aliases c k set p ask kss has slot t there = alias_locates k set kss has slot t there

pub returns-clause-open_arrays : goal.returns-clause-open_arrays
returns-clause-open_arrays c k set p ask kss has slot t there = open_locates k set kss has slot t there

pub returns-clause-open_elements : goal.returns-clause-open_elements
returns-clause-open_elements c k set p ask kss has slot t there i value ha =
    open_reaches k set kss has slot t i.of there i.code value ha

pub returns-clause-highs : goal.returns-clause-highs
returns-clause-highs c k set p ask kss has slot t there = high_agrees k set kss has slot t there
