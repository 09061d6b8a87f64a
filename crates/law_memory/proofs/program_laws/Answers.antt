use Rattle.law_memory.proofs.Bodies.{bodies_called, program_runs}
use Rattle.law_memory.proofs.program_laws.Goals as goal

pub returns-clause-bodies_called : goal.returns-clause-bodies_called
returns-clause-bodies_called c modules fx n calls m top type bs are st s =
    bodies_called modules fx n calls m top type bs are st s

pub returns-clause-program_runs : goal.returns-clause-program_runs
returns-clause-program_runs c modules fx extra n m f index top type bs are bytes =
    program_runs modules fx extra n m f index top type bs are bytes
