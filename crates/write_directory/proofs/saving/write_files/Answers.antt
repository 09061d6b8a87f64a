use Rattle.std.proofs.Common.{ℕ, List, String}
use Rattle.std.specs.Borrow.{Bor}
use Rattle.std.specs.Global.{Global}
use Rattle.std.specs.String.{string_bytes}
use Rattle.write_directory.proofs.Order.{stops}
use Rattle.write_directory.proofs.saving.write_files.Goals as goal

pub returns-then-not-write : goal.returns-then-not-write
returns-then-not-write g c =
    stops (λ (f : String Global × Bor (List ℕ)). (string_bytes f.0, f.1.now)) c.args.files.now c.loop-file.file-index
    c.file-item.result c.loop-file-test.true c.file-item.is
    g.D.OutDir.calls g.D.OutDir.failed c.args.dir.now c.loop-file.dir c.write.new.self c.loop-file.invariant
    c.deref.result.now c.deref.ensures c.if-not-write.ensures.failures c.if-not-write.ensures.calls
