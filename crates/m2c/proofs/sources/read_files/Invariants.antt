use Rattle.std.proofs.Common.{take, map}
use Rattle.std.specs.String.{string_bytes}
use Rattle.m2c.proofs.Readable.{GivenSoFar}
use Rattle.m2c.proofs.sources.read_files.Given as goal

abbrev pub invariant-loop-name : goal.invariant-loop-name
invariant-loop-name g l = GivenSoFar g.I.InDir.reads g.I.InDir.gives l.fn.dir l.dir
    (map string_bytes (take l.name-index l.names)) l.files.items
