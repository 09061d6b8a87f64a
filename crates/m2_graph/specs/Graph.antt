-- The graph of a program: its jobs, and the order in which its bodies start.
use Rattle.std.specs.Prelude.{◌≡◌, ℕ, cond, List, [], Option, Some, None, map, slice_get}
use Rattle.std.specs.List.{AllZip, filter_map}
use Rattle.std.specs.List.Sorted.{IsPermutation}
use Rattle.m2_tree.specs.declared.decl.Module.{Module}
use Rattle.m2_graph.specs.declared.error.GraphError.{GraphError}
use Rattle.m2_graph.specs.declared.error.GraphError.TheVariants.{Refused, NoMemory}
use Rattle.m2_graph.specs.Imports.{is_definition, is_program, implements, first_that, links, walks}
use Rattle.m2_graph.specs.Order.{IsJobOrder, IsJob}
use Rattle.graph_walk.specs.Starts.{IsStartOrder}
use Rattle.m2_graph.specs.Files.{File, AreInOrder, trees, given_of}
use Rattle.m2_graph.specs.Reported.{report_of, IsReported}

-- the body that starts where a walk comes to a module: for a definition its implementation
abbrev pub body_of : List Module → ℕ → Option Module → Option ℕ
body_of modules node None = None
body_of modules node (Some m) =
    cond (is_definition m) (first_that (implements m.name.name) modules) (Some node)

-- the bodies that start where a walk comes to these modules
abbrev pub bodies_of : List Module → List ℕ → List ℕ
bodies_of modules nodes = filter_map (λ node. body_of modules node (slice_get modules node)) nodes

-- The jobs of files in order: which module each compiles, and what it needs. Modules are numbered
-- in order of their files.
pub record IsJobs (ordered : List File) (files : List ℕ) (jobs : List (List ℕ)) : Type 0 where
  pub order : List ℕ
  pub is_order : IsJobOrder (links (trees ordered)) (trees ordered) order
  pub compiled : files ≡ map (given_of ordered) order
  pub needs : AllZip (IsJob (trees ordered) order) order jobs

-- The jobs compile each of the files once.
abbrev pub CompileEach : List File → List ℕ → Type 0
CompileEach files compiled = IsPermutation (map (λ f. f.given) files) compiled

-- The order in which the bodies start: a walk from the program module comes to these modules.
pub record IsStarts (ordered : List File) (starts : List ℕ) : Type 0 where
  pub program : ℕ
  pub is_program : first_that is_program (trees ordered) ≡ Some program
  pub walk : List ℕ
  pub is_walk : IsStartOrder (walks (trees ordered)) program walk
  pub started : starts ≡ map (given_of ordered) (bodies_of (trees ordered) walk)

-- Nothing is reported of files in order, and these are their jobs and the order in which their
-- bodies start.
pub record IsGraphOf (ordered : List File) (files : List ℕ) (jobs : List (List ℕ)) (starts : List ℕ)
    : Type 0 where
  pub fine : IsReported ordered []
  pub is_jobs : IsJobs ordered files jobs
  pub is_starts : IsStarts ordered starts

-- The same of files as they are given. Files go by how many were given before them.
abbrev pub IsGraph : List File → List ℕ → List (List ℕ) → List ℕ → Type 0
IsGraph given files jobs starts =
    (ordered : List File) × AreInOrder given ordered × IsGraphOf ordered files jobs starts

-- what is refused in files in order, if memory did not run out
abbrev pub IsRefusalOf : List File → GraphError → Type 0
IsRefusalOf ordered (Refused refusals) =
    IsReported ordered (map report_of refusals.items) × ¬ (map report_of refusals.items ≡ [])
IsRefusalOf ordered NoMemory = Unit {0}

-- the same of files as they are given
abbrev pub IsRefusal : List File → GraphError → Type 0
IsRefusal given (Refused refusals) =
    (ordered : List File) × AreInOrder given ordered × IsRefusalOf ordered (Refused refusals)
IsRefusal given NoMemory = Unit {0}
