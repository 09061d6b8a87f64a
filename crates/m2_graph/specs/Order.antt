-- The order of the jobs.
use Rattle.std.specs.Prelude.{◌≡◌, ℕ, ◌+◌, List, [], ◌∷◌, ◌++◌, map, cond, Option}
use Rattle.std.specs.List.{filter_map}
use Rattle.m2_tree.specs.declared.decl.Module.{Module}
use Rattle.m2_graph.specs.Imports.{is_definition, needs_of}
use Rattle.m2_graph.specs.Jobs.{numbers_of, place_of}
use Rattle.graph_walk.specs.Links.{AreEachOnce, targets}
use Rattle.graph_walk.specs.Numbering.{IsNumbering}

-- the numbers of the bodies among modules that are numbered from here
abbrev pub body_numbers : ℕ → List Module → List ℕ
body_numbers n [] = []
body_numbers n (m ∷ ms) = cond (is_definition m) [] (n ∷ []) ++ body_numbers (n + 1) ms

-- first the definitions, in the order in which they get numbers, and then the bodies
abbrev pub IsJobOrder : List (List ℕ) → List Module → List ℕ → Type 0
IsJobOrder links modules order =
    (definitions : List ℕ) × IsNumbering links (map is_definition modules) definitions
    × (order ≡ definitions ++ body_numbers 0 modules)

-- for each module, what its job needs
abbrev pub needs : List Module → List (List ℕ)
needs modules = map (needs_of modules) modules

-- The prerequisites of the job of this module are the numbers of the jobs that it needs, each once.
abbrev pub IsJob : List Module → List ℕ → ℕ → List ℕ → Type 0
IsJob modules order node job = AreEachOnce job (numbers_of order (targets (needs modules) node))

-- The same by a table that has the place of each node in the order of the jobs.
abbrev pub IsJobBy : List Module → List (Option ℕ) → ℕ → List ℕ → Type 0
IsJobBy modules places node job =
    AreEachOnce job (filter_map (place_of places) (targets (needs modules) node))
