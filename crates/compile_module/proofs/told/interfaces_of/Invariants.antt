use Rattle.std.proofs.Common.{◌≡◌, ◌++◌, drop, map}
use Rattle.std.specs.List.{flat_map, enumerate_from}
use Rattle.build_jobs.specs.Borrowed.{modules_borrowed}
use Rattle.compile_module.specs.Told.{interface_in, interfaces_of, interface_told}
use Rattle.compile_module.proofs.told.interfaces_of.Given as goal

abbrev pub invariant-loop-file : goal.invariant-loop-file
invariant-loop-file l =
    map interface_told l.interfaces.items
    ++ flat_map interface_in (enumerate_from l.file (modules_borrowed (drop l.file l.trees)))
    ≡ interfaces_of (modules_borrowed l.trees)
