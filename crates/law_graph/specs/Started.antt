-- The modules that start, as a compiler needs them. Places are places of the files as they were
-- given.
use Rattle.std.specs.Prelude.{◌≡◌, ◌≢◌, ◌<◌, ◌≤◌, ℕ, Bool, true, false, List, [], ◌∷◌, ◌++◌, Option, Some, None, length, map, slice_get, ◌⊎◌}
use Rattle.std.specs.List.{All, filter_map, list_any}
use Rattle.std.specs.Str.{bytes_eq}
use Rattle.m2_tree.specs.declared.name.Ident.{Ident}
use Rattle.m2_tree.specs.declared.decl.Module.{Module}
use Rattle.m2_graph.specs.Imports.{imports_of, is_definition, definition_of}
use Rattle.m2_tree.specs.Names.{is_console}
use Rattle.m2_graph.specs.Refused.{max_files}

-- the modules at these places
abbrev pub at_places : List Module → List ℕ → List Module
at_places trees places = filter_map (λ place. slice_get trees place) places

abbrev pub names_of : List Module → List (List ℕ)
names_of modules = map (λ m. m.name.name) modules

-- whether one of the modules has this name
abbrev pub is_named : List Module → List ℕ → Bool
is_named modules name = list_any (λ other. bytes_eq other name) (names_of modules)

-- each differs from those behind it
abbrev pub AreApart : List (List ℕ) → Type 0
AreApart [] = Unit {0}
AreApart (x ∷ xs) = All (λ y. x ≢ y) xs × AreApart xs

-- what a module imports, if there is one
abbrev pub imported_by : Option Module → List Ident
imported_by None = []
imported_by (Some m) = imports_of m

-- what the module at this place imports
abbrev pub definition_imported : List Module → Option ℕ → List Ident
definition_imported trees None = []
definition_imported trees (Some place) = imported_by (slice_get trees place)

-- what a module's definition, and then the module itself, imports
abbrev pub all_imported : List Module → Module → List Ident
all_imported trees m = definition_imported trees (definition_of trees m.name.name) ++ imports_of m

-- These places are places of bodies with names of their own, and what one of them or its definition
-- imports is built in or is among them.
pub record AreStarted (trees : List Module) (starts : List ℕ) : Type 0 where
  pub within : All (λ s. s < length trees) starts
  pub bodies : All (λ m. is_definition m ≡ false) (at_places trees starts)
  pub distinct : AreApart (names_of (at_places trees starts))
  pub closed : All
      (λ m.
      All (λ x. (is_console x.name ≡ true) ⊎ (is_named (at_places trees starts) x.name ≡ true))
      (all_imported trees m))
      (at_places trees starts)
  pub few : length starts ≤ max_files
