use Rattle.law_memory.proofs.Frames.{holds_hidden, address_is, link_parts, zeros_hold}
use Rattle.law_memory.proofs.Assigns.{begins_copy}
use Rattle.law_memory.proofs.room_laws.Goals as goal

pub returns-clause-copies_argument : goal.returns-clause-copies_argument
returns-clause-copies_argument c program world x s m h = begins_copy program world x s m h

pub returns-clause-writes_hidden : goal.returns-clause-writes_hidden
returns-clause-writes_hidden c program world x s m h = holds_hidden program world x s m h

pub returns-clause-reads_address : goal.returns-clause-reads_address
returns-clause-reads_address c program world x s m h = address_is program world x s m h

pub returns-clause-reads_link : goal.returns-clause-reads_link
returns-clause-reads_link c program world x s m h = link_parts program world x s m h

pub returns-clause-starts : goal.returns-clause-starts
returns-clause-starts c program t m fit room zero = zeros_hold program t m fit room zero
