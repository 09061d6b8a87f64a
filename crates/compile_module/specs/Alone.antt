-- What comes of a module that is compiled alone.
use Rattle.std.specs.Prelude.{◌≡◌, ◌≢◌, ◌⊎◌, ℕ, List, [], Option, Some}
use Rattle.std.specs.Global.{Vec}
use Rattle.m2_tree.specs.declared.refusal.Refusal.{Refusal}
use Rattle.m2_tree.specs.declared.decl.Module.{Module}
use Rattle.m2_graph.specs.declared.error.GraphError.TheVariants as graph_error
use Rattle.m2_graph.specs.Files.{number_files}
use Rattle.m2_graph.specs.Graph.{IsGraph, IsRefusal}
use Rattle.m2_emit.specs.declared.emitted.ModuleBytes.{ModuleBytes}
use Rattle.build_jobs.specs.declared.file.SourceFile.{SourceFile}
use Rattle.build_jobs.specs.declared.outcome.Compiled.{Compiled}
use Rattle.build_jobs.specs.declared.outcome.Compiled.TheVariants as jobs
use Rattle.build_results.specs.Reported.{AreReported}
use Rattle.build_results.specs.Texts.{AreTrees, AreUnread, modules}
use Rattle.build_results.specs.Results.{refused_by, result_at}
use Rattle.compile_module.specs.declared.made.Made.{Made}
use Rattle.compile_module.specs.declared.made.Made.TheVariants as made
use Rattle.compile_module.specs.Stands.{with_stands, without_stands}
use Rattle.compile_module.specs.Told.{IsTold}

-- The jobs of these modules, and of those that stand for the others of a program: the file of each,
-- and what it needs.
pub record HaveJobs (trees : List (List ℕ × Module)) (numbers : List ℕ) (needs : List (List ℕ))
    : Type 0 where
  pub starts : List ℕ
  pub is_graph : IsGraph (number_files 0 (with_stands trees)) numbers needs starts

-- Imports break rules.
abbrev pub AreUngraphed : List (List ℕ × Module) → List Refusal → Type 0
AreUngraphed trees refusals =
    (all : Vec Refusal) × IsRefusal (number_files 0 (with_stands trees)) (graph_error.Refused all)
    × (refusals ≡ without_stands all.items)

-- Modules break rules, and the least that each breaks is reported.
pub record AreUncompiled (trees : List (List ℕ × Module)) (refusals : List Refusal) : Type 0 where
  pub numbers : List ℕ
  pub needs : List (List ℕ)
  pub have : HaveJobs trees numbers needs
  pub some : refused_by trees numbers needs ≢ []
  pub reported : AreReported (refused_by trees numbers needs) refusals

-- No module breaks a rule, and this became of the first.
pub record IsMade (trees : List (List ℕ × Module)) (became : Option Compiled) : Type 0 where
  pub numbers : List ℕ
  pub needs : List (List ℕ)
  pub have : HaveJobs trees numbers needs
  pub none : refused_by trees numbers needs ≡ []
  pub is : became ≡ result_at trees numbers needs 0

abbrev pub IsNoBody : Option Compiled → Type 0
IsNoBody became = (m : ModuleBytes) → became ≡ Some (jobs.Built m) → ⊥

-- It is this module, of the first of these trees.
abbrev pub IsOf : List Module → ModuleBytes → Made → Type 0
IsOf ms m (made.Built n is_program imports interfaces) =
    (n ≡ m) × IsTold ms is_program imports.items interfaces.items
IsOf ms m made.Defined = ⊥
IsOf ms m (made.Refused refusals) = ⊥

-- what comes of the first of these modules
abbrev pub Comes : List (List ℕ × Module) → Made → Type 0
Comes trees (made.Refused refusals) =
    AreUngraphed trees refusals.items ⊎ AreUncompiled trees refusals.items
Comes trees made.Defined = (became : Option Compiled) × IsMade trees became × IsNoBody became
Comes trees (made.Built m is_program imports interfaces) =
    IsMade trees (Some (jobs.Built m))
    × IsTold (modules trees) is_program imports.items interfaces.items

-- each text has a tree, and this comes of the first
abbrev pub ComesOfTrees : List SourceFile → Made → Type 0
ComesOfTrees files m =
    (trees : List (List ℕ × Module)) × AreTrees files trees × Comes trees m

-- What comes of the module of the first of these files is what a build makes of these files. Rules
-- of tokens and of the grammar come first, then rules of imports, and then rules of modules.
abbrev pub ComesOf : List SourceFile → Made → Type 0
ComesOf files (made.Refused refusals) =
    AreUnread files refusals.items ⊎ ComesOfTrees files (made.Refused refusals)
ComesOf files made.Defined = ComesOfTrees files made.Defined
ComesOf files (made.Built m is_program imports interfaces) =
    ComesOfTrees files (made.Built m is_program imports interfaces)
