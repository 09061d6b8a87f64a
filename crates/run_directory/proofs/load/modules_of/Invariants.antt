use Rattle.std.proofs.Common.{take, map}
use Rattle.std.specs.String.{string_bytes}
use Rattle.run_directory.proofs.Missing.{NamedSoFar}
use Rattle.run_directory.proofs.load.modules_of.Given as goal

abbrev pub invariant-loop-name : goal.invariant-loop-name
invariant-loop-name g l = NamedSoFar g.D.InDir.reads g.D.InDir.gives l.fn.dir l.dir l.fn.first.items
    (map string_bytes (take l.name-index l.names)) l.modules.items
