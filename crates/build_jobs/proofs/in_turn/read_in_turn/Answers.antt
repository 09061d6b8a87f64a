use Rattle.std.proofs.Common.{arith}
use Rattle.build_jobs.proofs.InTurn.{one_more, all_counted}
use Rattle.build_jobs.proofs.in_turn.read_in_turn.Goals as goal

pub loop-file-preserved : goal.loop-file-preserved
loop-file-preserved c =
    one_more c.args.files.now c.loop-file.file-index c.file-item.result c.deref.result.now c.in_ok-read.read
    c.loop-file.reads.items c.push.new.self.items c.loop-file-test.true c.file-item.is c.deref.ensures.value
    c.loop-file.invariant c.in_ok-read.ensures c.in_ok-push.ensures.items

pub returns-clause-count : goal.returns-clause-count
returns-clause-count c = all_counted c.args.files.now c.loop-file.file-index c.loop-file.reads.items
    (omega (arith, c.loop-file-test.false)) c.loop-file.invariant
