use Rattle.law_encoding.proofs.NamesRoom.{text_named, names_room}
use Rattle.law_encoding.proofs.name_laws.Goals as goal

pub returns-clause-texts : goal.returns-clause-texts
returns-clause-texts c = λ text ts m t d. text_named text ts m t d

pub returns-clause-room : goal.returns-clause-room
returns-clause-room c = λ m own others few. names_room m own others few
