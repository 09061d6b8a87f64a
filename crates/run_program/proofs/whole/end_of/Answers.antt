use Rattle.std.proofs.Common.{subst}
use Rattle.run_program.specs.declared.loading.Loaded.{Loaded}
use Rattle.run_program.specs.Loading.{IsLoaded}
use Rattle.run_program.proofs.Cut.{breaks, has_run, nothing, of_run}
use Rattle.run_program.proofs.whole.end_of.Goals as goal

pub returns-in-Refused-clause-ends : goal.returns-in-Refused-clause-ends
returns-in-Refused-clause-ends g c = λ sources pages is. (
  subst (λ (l : Loaded). IsLoaded sources pages l) c.in-Refused.is is,
  nothing g.S.Sink.reported g.S.Sink.failed
      c.args.sink.now,
)

pub returns-in-Ok-clause-ends : goal.returns-in-Ok-clause-ends
returns-in-Ok-clause-ends g c = λ sources pages is.
    has_run g.S.Sink.reported g.S.Sink.failed sources pages c.args.steps c.in-Ready.program.modules.items
    (subst (λ (l : Loaded). IsLoaded sources pages l) c.in-Ready.is is) c.args.sink.now c.run.new.sink c.in-Ok.end
    c.in-Ok.ensures.ok

pub returns-clause-breaks : goal.returns-clause-breaks
returns-clause-breaks g c = λ sources pages is.
    breaks g.S.Sink.reported g.S.Sink.failed sources pages c.args.steps c.in-Ready.program.modules.items
    (subst (λ (l : Loaded). IsLoaded sources pages l) c.in-Ready.is is) c.args.sink.now c.run.new.sink
    c.in-Err.fault c.in-Err.ensures.err

pub returns-clause-faults : goal.returns-clause-faults
returns-clause-faults g c = of_run g.S.Sink.reported g.S.Sink.failed c.in-Ready.program.modules.items c.args.steps
    c.args.sink.now c.run.new.sink c.in-Err.fault c.in-Err.ensures.err
