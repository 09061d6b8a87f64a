use Rattle.std.proofs.Common.{◌≡◌, ◌++◌, List, map, subst}
use Rattle.write_directory.specs.Calls.{File, all_calls}
use Rattle.run_program.proofs.Saved.{calls_known, files_are, link_given, modules_given, comes_to, file}
use Rattle.run_program.proofs.laws.saved_laws.Goals as goal

pub returns : goal.returns
returns g c =
    λ files pages link modules built dir dir_after saves earlier all is_before is_after folder folder_after holds reads
    has_read steps report before after comes.
    let gives = g.I.InDir.gives folder in
    let calls_are = calls_known _ _ _ earlier all saves.noted is_before is_after in
    let written = subst (λ (fs : List File). all ≡ earlier ++ all_calls link.items fs)
    (files_are files pages link modules built) calls_are in
    comes_to files pages link modules built g.S.Sink.reported g.S.Sink.failed gives steps
    (link_given files pages link modules built gives earlier all written holds)
    (modules_given files pages link modules built gives earlier all written holds)
    reads report before after has_read.may_be comes
