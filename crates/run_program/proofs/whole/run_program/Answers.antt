use Rattle.run_program.proofs.Cut.{comes_of_run, comes_unbuilt, unbuilt}
use Rattle.run_program.proofs.whole.run_program.Goals as goal

pub returns-in-Err-clause-options : goal.returns-in-Err-clause-options
returns-in-Err-clause-options g c = comes_unbuilt c.args.options c.in-Err.fault c.in-Err.ensures.options

pub returns-in-Err-clause-breaks : goal.returns-in-Err-clause-breaks
returns-in-Err-clause-breaks g c = unbuilt g.S.Sink.reported g.S.Sink.failed c.args.files.now c.args.options.pages
    c.args.steps c.args.sink.now c.args.options c.in-Err.fault c.in-Err.ensures.options

pub returns-in-Ok-clause-options : goal.returns-in-Ok-clause-options
returns-in-Ok-clause-options g c = comes_of_run c.args.options c.in-Ok.ensures.options c.end_of.result
    c.end_of.ensures.faults

pub returns-in-Ok-clause-ends : goal.returns-in-Ok-clause-ends
returns-in-Ok-clause-ends g c = c.end_of.ensures.ends c.args.files.now c.args.options.pages c.in-Ok.ensures.loaded

pub returns-in-Ok-clause-breaks : goal.returns-in-Ok-clause-breaks
returns-in-Ok-clause-breaks g c = c.end_of.ensures.breaks c.args.files.now c.args.options.pages c.in-Ok.ensures.loaded
