use Rattle.std.proofs.Common.{take, map}
use Rattle.std.specs.String.{string_bytes}
use Rattle.run_directory.proofs.Missing.{none_so_far, one_behind, map_one_more, stops_at}
use Rattle.run_directory.proofs.load.modules_of.Goals as goal

pub loop-name-init : goal.loop-name-init
loop-name-init g c = none_so_far g.D.InDir.reads g.D.InDir.gives c.args.dir.now c.args.first.items

pub loop-name-preserved : goal.loop-name-preserved
loop-name-preserved g c =
    let more = map_one_more string_bytes c.args.names.now c.loop-name.name-index c.name-item.result c.deref.result.now
    c.loop-name-test.true c.name-item.is c.deref.ensures in
    one_behind g.D.InDir.reads g.D.InDir.gives c.args.dir.now c.loop-name.dir c.add_module.new.dir c.args.first.items
    (map string_bytes (take c.loop-name.name-index c.args.names.now)) _ c.deref.result.now c.loop-name.modules.items
    c.add_module.new.modules.items c.loop-name.invariant more c.in-Ok.ensures.ok

pub returns-in-Err-clause-err : goal.returns-in-Err-clause-err
returns-in-Err-clause-err g c =
    stops_at g.D.InDir.reads g.D.InDir.gives string_bytes c.args.names.now c.loop-name.name-index c.name-item.result
    c.deref.result.now c.loop-name-test.true c.name-item.is c.deref.ensures
    c.args.dir.now c.loop-name.dir c.add_module.new.dir c.args.first.items c.loop-name.modules.items
    c.loop-name.invariant c.in-Err.report c.in-Err.ensures.err
