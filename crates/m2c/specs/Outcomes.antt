-- All files have an outcome, in every number of pages, and no two that differ.
use Rattle.std.specs.Prelude.{◌≡◌, ◌≢◌, ◌⊎◌, ℕ, ◌*◌, ◌<◌, ◌≤◌, List, []}
use Rattle.m2_tree.specs.declared.decl.Module.{Module}
use Rattle.m2_graph.specs.Files.{number_files}
use Rattle.law_graph.specs.Outcomes.{AreRefused}
use Rattle.def_meaning.specs.Environment.{Modules}
use Rattle.def_scheme.specs.Modules.{max_pages}
use Rattle.build_jobs.specs.declared.file.SourceFile.{SourceFile}
use Rattle.build_jobs.specs.declared.reading.Read.{Read}
use Rattle.build_jobs.specs.Reading.{AreRead}
use Rattle.m2c.specs.Modules.{AreTyped}
use Rattle.m2c.specs.declared.files.Outcome.{Outcome}
use Rattle.build_results.specs.Texts.{modules, refused_of, AreTrees}
use Rattle.build_results.specs.Results.{refused_by}
use Rattle.m2c.specs.Build.{data_and_stack, HaveGraph, IsProgram, IsBuilt, AreAlike}
use Rattle.layout_storage.specs.Sizes.{page_size}

-- Texts break rules of tokens or of the grammar.
pub record BreakTexts (files : List SourceFile) : Type 0 where
  pub reads : List Read
  pub are_read : AreRead files reads
  pub some : refused_of files reads ≢ []

-- Each text has a tree, and imports break rules.
pub record BreakImports (files : List SourceFile) : Type 0 where
  pub trees : List (List ℕ × Module)
  pub are_trees : AreTrees files trees
  pub refused : AreRefused (number_files 0 trees)

-- The files have a graph, and modules break rules.
pub record BreakRules (files : List SourceFile) : Type 0 where
  pub trees : List (List ℕ × Module)
  pub numbers : List ℕ
  pub all_jobs : List (List ℕ)
  pub starts : List ℕ
  pub graph : HaveGraph files trees numbers all_jobs starts
  pub some : refused_by trees numbers all_jobs ≢ []

-- No module breaks a rule, but the data of the program does not fit into the pages.
pub record AreLarge (files : List SourceFile) (pages : ℕ) : Type 0 where
  pub trees : List (List ℕ × Module)
  pub numbers : List ℕ
  pub all_jobs : List (List ℕ)
  pub starts : List ℕ
  pub graph : HaveGraph files trees numbers all_jobs starts
  pub none : refused_by trees numbers all_jobs ≡ []
  pub program : Modules
  pub typed : AreTyped (modules trees) numbers all_jobs starts program
  pub too_large : page_size * pages < data_and_stack program

-- There are modules for the program: the bytes of link, and a name and bytes for each other.
pub record HaveModules (files : List SourceFile) (pages : ℕ) : Type 0 where
  pub link : List ℕ
  pub built : List (List ℕ × List ℕ)
  pub is_program : IsProgram files pages link built

-- Texts break rules, or imports do, or modules do, or the data of the program does not fit, or
-- there are modules for it.
abbrev pub HaveOutcome : List SourceFile → (pages : ℕ) → Type 0
HaveOutcome files pages =
    BreakTexts files
    ⊎ (BreakImports files
    ⊎ (BreakRules files ⊎ (AreLarge files pages ⊎ HaveModules files pages)))

-- All files have an outcome in every number of pages that there may be.
abbrev pub FilesHaveOutcomes : Type 0
FilesHaveOutcomes =
    (files : List SourceFile) (pages : ℕ) → 1 ≤ pages → pages ≤ max_pages → HaveOutcome files pages

-- files have at most one outcome in a number of pages
abbrev pub OneOutcome : Type 0
OneOutcome =
    (files : List SourceFile) (pages : ℕ) (one other : Outcome)
    → IsBuilt files pages one → IsBuilt files pages other → AreAlike one other
