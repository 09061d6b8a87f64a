use Rattle.law_encoding.proofs.LinkRoom.{link_has_room}
use Rattle.law_encoding.proofs.link_laws.Goals as goal

pub returns : goal.returns
returns c = λ ms pages small. link_has_room ms pages small
