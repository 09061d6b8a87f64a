use Rattle.write_directory.proofs.Order.{link_failed}
use Rattle.write_directory.proofs.saving.write_link.Goals as goal

pub returns-then-not-is_written : goal.returns-then-not-is_written
returns-then-not-is_written g c =
    link_failed g.D.OutDir.calls g.D.OutDir.failed c.args.link.now c.args.dir.now c.write-is_written.new.self
    c.remove.new.self c.write-is_written.result c.remove.result
    c.if-not-is_written.true c.if-not-is_written.ensures.failures c.if-not-is_written.ensures.calls
    c.remove.ensures.failures c.remove.ensures.calls
