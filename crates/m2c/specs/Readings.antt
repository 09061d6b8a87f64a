-- All texts have trees, or some are refused.
use Rattle.std.specs.Prelude.{◌⊎◌, ℕ, List}
use Rattle.m2_tree.specs.declared.refusal.Refusal.{Refusal}
use Rattle.m2_tree.specs.declared.decl.Module.{Module}
use Rattle.build_jobs.specs.declared.file.SourceFile.{SourceFile}
use Rattle.build_results.specs.Texts.{AreTrees, AreUnread}

-- All texts have trees, or some are refused, and these refusals are reported.
abbrev pub TreesOrRefusals : Type 0
TreesOrRefusals =
    (files : List SourceFile)
    → ((trees : List (List ℕ × Module)) × AreTrees files trees)
    ⊎ ((refusals : List Refusal) × AreUnread files refusals)
