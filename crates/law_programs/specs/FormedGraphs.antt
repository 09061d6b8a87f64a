-- The modules that the jobs of a graph make are as the code of their bodies asks.
use Rattle.std.specs.Prelude.{◌≡◌, ℕ, ◌+◌, ◌*◌, ◌≤◌, true, List, None}
use Rattle.std.specs.List.{AllByRecursion, list_all}
use Rattle.m2_tree.specs.declared.decl.Module.{Module}
use Rattle.m2_graph.specs.Files.{number_files}
use Rattle.m2_graph.specs.Graph.{IsGraph, CompileEach}
use Rattle.typed_tree.specs.declared.typed_module.TypedModule.{TypedModule}
use Rattle.layout_storage.specs.Layouts.{too_large}
use Rattle.law_modules.specs.Linked.{Program, bytes_in}
use Rattle.law_well_formed.specs.FormedKnown.{fits_module}
use Rattle.law_programs.specs.FormedCoherent.{trees_of, AreBodiesIn}
use Rattle.law_programs.specs.FormedTrees.{fits_contents}
use Rattle.law_simulation.specs.Modules.{AreModules}
use Rattle.layout_storage.specs.Sizes.{page_size}
use Rattle.def_meaning.specs.Runs.{least_stack}
use Rattle.def_scheme.specs.Modules.{max_pages}

-- nothing of the module is too large
pub record IsFit (m : TypedModule) : Type 0 where
  pub small : too_large m ≡ None

-- The files have this graph, and their trees fit, with the statements in them. The bodies that
-- start fit, and there is room for them in the pages.
abbrev pub GraphsAreModules : Type 0
GraphsAreModules =
    (fs : List (List ℕ × Module)) (files : List ℕ) (jobs : List (List ℕ)) (starts : List ℕ)
    → IsGraph (number_files 0 fs) files jobs starts
    → CompileEach (number_files 0 fs) files
    → list_all fits_module (trees_of fs) ≡ true
    → list_all (λ m. fits_contents m.contents) (trees_of fs) ≡ true
    → (p : Program)
    → AreBodiesIn (trees_of fs) files jobs starts p
    → AllByRecursion IsFit p
    → (pages : ℕ)
    → bytes_in p + least_stack ≤ page_size * pages
    → pages ≤ max_pages
    → AreModules p
