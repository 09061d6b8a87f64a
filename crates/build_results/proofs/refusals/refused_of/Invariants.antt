use Rattle.std.proofs.Common.{◌≡◌, ◌++◌, drop}
use Rattle.std.specs.Prelude.{map}
use Rattle.build_results.specs.Reported.{report_of}
use Rattle.build_results.specs.Texts.{refused_of}
use Rattle.build_results.proofs.refusals.refused_of.Given as goal

abbrev pub invariant-loop-k : goal.invariant-loop-k
invariant-loop-k l = map report_of l.refusals.items
    ++ refused_of (drop l.k l.files) (drop l.k l.reads) ≡ refused_of l.files l.reads
