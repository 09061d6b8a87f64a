use Rattle.law_simulation.proofs.Laws.{globals, own, entire, opened, fields, elements, designators}
use Rattle.law_simulation.proofs.constructs.designator_laws.Goals as goal

pub returns-clause-globals : goal.returns-clause-globals
returns-clause-globals c = globals

pub returns-clause-opened : goal.returns-clause-opened
returns-clause-opened c = opened

pub returns-clause-fields : goal.returns-clause-fields
returns-clause-fields c = fields

pub returns-clause-elements : goal.returns-clause-elements
returns-clause-elements c = elements

pub returns-clause-designators : goal.returns-clause-designators
returns-clause-designators c = designators

pub returns-clause-entire : goal.returns-clause-entire
returns-clause-entire c = entire

pub returns-clause-own : goal.returns-clause-own
returns-clause-own c = own
