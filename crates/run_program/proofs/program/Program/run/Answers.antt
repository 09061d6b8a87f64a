use Rattle.run_program.proofs.Cut.{cut_by, none, not_ended}
use Rattle.run_program.proofs.program.Program.run.Goals as goal

pub returns-in-Err-clause-err : goal.returns-in-Err-clause-err
returns-in-Err-clause-err g c = none g.S.Sink.reported g.S.Sink.failed c.args.self.now.modules.items c.args.steps
    c.args.sink.now c.args.self.now.links c.in-Err.fault c.in-Err.ensures

pub broken_by-requires : goal.broken_by-requires
broken_by-requires g c = not_ended c.in-Ok.instances c.run.result c.in-Err-run.fault c.in-Err-run.is c.run.ensures.ended
    c.in-Ok.ensures.2

pub returns-clause-err : goal.returns-clause-err
returns-clause-err g c =
    cut_by c.in-Ok.instances c.run.result c.in-Err-run.fault c.in-Err-run.is g.S.Sink.reported g.S.Sink.failed
    c.args.self.now.modules.items c.args.steps c.args.sink.now c.run.new.out c.in-Ok.ensures.0 c.in-Ok.ensures.1
    c.in-Err-run.ensures.err.0
    c.run.ensures.write c.run.ensures.others c.broken_by.result c.broken_by.ensures
