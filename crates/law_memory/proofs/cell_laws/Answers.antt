use Rattle.law_memory.proofs.Worlds.{holds_fetched, holds_procedure, holds_assigned}
use Rattle.law_memory.proofs.Assigns.{assigns_whole, begins_frame}
use Rattle.law_memory.proofs.Worlds.{call_ends}
use Rattle.law_memory.proofs.cell_laws.Goals as goal

pub returns-clause-reads : goal.returns-clause-reads
returns-clause-reads c program world x s m h = holds_fetched program world x s m h

pub returns-clause-reads_procedure : goal.returns-clause-reads_procedure
returns-clause-reads_procedure c program world x s m h = holds_procedure program world x s m h

pub returns-clause-assigns : goal.returns-clause-assigns
returns-clause-assigns c program world x s m h = holds_assigned program world x s m h

pub returns-clause-copies : goal.returns-clause-copies
returns-clause-copies c program world x s m h = assigns_whole program world x s m h

pub returns-clause-begins : goal.returns-clause-begins
returns-clause-begins c program world x s m h = begins_frame program world x s m h

pub returns-clause-ends : goal.returns-clause-ends
returns-clause-ends c program world more x x' s m e h = call_ends program world more x x' s m e h
