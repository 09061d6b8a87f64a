use Rattle.check_scope.specs.Elaborated.{least, every}
use Rattle.law_well_formed.proofs.Rooms.{frames_have_room}
use Rattle.law_well_formed.proofs.FramesModules.{modules_nested}
use Rattle.law_well_formed.proofs.modules.frame_laws.Goals as goal

pub returns-clause-room : goal.returns-clause-room
returns-clause-room c = frames_have_room

pub returns-clause-least : goal.returns-clause-least
returns-clause-least c = modules_nested least

pub returns-clause-every : goal.returns-clause-every
returns-clause-every c = modules_nested every
