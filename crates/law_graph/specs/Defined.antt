-- Each name has one definition.
use Rattle.std.specs.Prelude.{◌≡◌, ℕ, true, List, slice_get, Some}
use Rattle.m2_tree.specs.declared.decl.Module.{Module}
use Rattle.m2_graph.specs.Imports.{imports_of, is_definition, definition_of}
use Rattle.law_graph.specs.Started.{definition_imported}

-- what a definition imports is what the definition of its name imports
abbrev pub OneDefinition : List Module → Type 0
OneDefinition modules =
    (d : Module) → ((k : ℕ) × (slice_get modules k ≡ Some d)) → is_definition d ≡ true
    → definition_imported modules (definition_of modules d.name.name) ≡ imports_of d
