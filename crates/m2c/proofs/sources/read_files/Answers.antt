use Rattle.std.proofs.Common.{take, map}
use Rattle.std.specs.String.{string_bytes}
use Rattle.run_directory.proofs.Missing.{map_one_more}
use Rattle.m2c.proofs.Readable.{none_so_far, one_behind, stops_at}
use Rattle.m2c.proofs.sources.read_files.Goals as goal

pub loop-name-init : goal.loop-name-init
loop-name-init g c = none_so_far g.I.InDir.reads g.I.InDir.gives c.args.dir.now c.new-files.result.items
    c.new-files.ensures.items

pub loop-name-preserved : goal.loop-name-preserved
loop-name-preserved g c =
    let more = map_one_more string_bytes c.args.names.now c.loop-name.name-index c.name-item.result c.deref.result.now
    c.loop-name-test.true c.name-item.is c.deref.ensures in
    one_behind g.I.InDir.reads g.I.InDir.gives c.args.dir.now c.loop-name.dir c.add_file.new.dir
    (map string_bytes (take c.loop-name.name-index c.args.names.now)) _ c.deref.result.now c.loop-name.files.items
    c.add_file.new.files.items c.loop-name.invariant more c.in-Ok.ensures.ok

pub returns-in-Err-clause-err : goal.returns-in-Err-clause-err
returns-in-Err-clause-err g c =
    stops_at g.I.InDir.reads g.I.InDir.gives string_bytes c.args.names.now c.loop-name.name-index c.name-item.result
    c.deref.result.now c.loop-name-test.true c.name-item.is c.deref.ensures
    c.args.dir.now c.loop-name.dir c.add_file.new.dir c.loop-name.files.items c.loop-name.invariant c.in-Err.ending
    c.in-Err.ensures.err
