use Rattle.run_directory.proofs.Running.{broken}
use Rattle.run_directory.proofs.runner.run_all.Goals as goal

pub returns : goal.returns
returns g c =
    broken g.S.Sink.reported g.S.Sink.failed c.args.modules.now c.args.steps c.args.out.now c.run.new.out
    c.in-Ok.instances c.in-Err-run.fault c.run.result c.in-Err-run.is c.in-Ok.ensures.gives c.in-Ok.ensures.fresh.0
    c.in-Err-run.ensures.err.0 c.run.ensures.write c.run.ensures.ended c.in-Ok.ensures.fresh.1
