use Rattle.write_directory.specs.Borrowed.{files_borrowed}
use Rattle.write_directory.proofs.Order.{not_removed, not_written, link_behind}
use Rattle.write_directory.proofs.saving.save_files.Goals as goal

pub returns-then-not-remove : goal.returns-then-not-remove
returns-then-not-remove g c =
    not_removed g.D.OutDir.calls g.D.OutDir.failed c.args.link.now (files_borrowed c.args.files.now) c.args.dir.now
    c.remove.new.self c.if-not-remove.ensures.failures c.if-not-remove.ensures.calls

pub returns-then-not-write_files : goal.returns-then-not-write_files
returns-then-not-write_files g c =
    not_written g.D.OutDir.calls g.D.OutDir.failed c.args.link.now (files_borrowed c.args.files.now) c.args.dir.now
    c.remove.new.self c.if-not-remove.ensures.failures c.if-not-remove.ensures.calls
    c.write_files.new.dir c.if-not-write_files.ensures

pub returns : goal.returns
returns g c =
    link_behind g.D.OutDir.calls g.D.OutDir.failed c.args.link.now (files_borrowed c.args.files.now) c.args.dir.now
    c.remove.new.self c.if-not-remove.ensures.failures c.if-not-remove.ensures.calls
    c.write_files.new.dir c.write_link.new.dir c.write_link.result c.if-not-write_files.ensures c.write_link.ensures
