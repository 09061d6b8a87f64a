use Rattle.run_program.proofs.Built.{comes_with, fine_if_built}
use Rattle.run_program.proofs.loading.build_files.Goals as goal

pub returns-in-Ok-clause-options : goal.returns-in-Ok-clause-options
returns-in-Ok-clause-options g c = fine_if_built c.args.options c.build.result c.build.ensures.workers
    c.build.ensures.pages c.in-Ok.outcome c.in-Ok.is

pub returns-in-Err-clause-options : goal.returns-in-Err-clause-options
returns-in-Err-clause-options g c = comes_with c.args.options c.build.result c.build.ensures.workers
    c.build.ensures.pages c.in-Err.fault c.from.result c.in-Err.is c.from.ensures
