-- The imports of modules, as a program of empty modules has them.
use Rattle.std.specs.Prelude.{ℕ, cond, List, [], ◌∷◌, map}
use Rattle.std.specs.List.{flat_map}
use Rattle.std.specs.String.{string_bytes}
use Rattle.m2_tree.specs.declared.decl.Module.{Module}
use Rattle.empty_modules.specs.Empty.{import_of, empty_definition, empty_body, empty_program}
use Rattle.link_parts.specs.declared.part.Part.{Part}
use Rattle.link_parts.specs.declared.stands.Stand.{Stand}

-- It imports what the definition and the body of the module import.
abbrev pub body_of : Part → Module
body_of p =
    let imports = map (λ n. import_of (string_bytes n)) p.imports.items in
    cond p.is_program (empty_program (string_bytes p.name) imports)
    (empty_body (string_bytes p.name) imports)

-- A program has no definition.
abbrev pub stands_of : Part → List Module
stands_of p =
    cond p.is_program (body_of p ∷ [])
    (empty_definition (string_bytes p.name) ∷ body_of p ∷ [])

-- the module that it stands for, and its tree
abbrev pub stand_of : Stand → Part × Module
stand_of s = (s.part.now, s.tree)

abbrev pub stands_for : List Part → List (Part × Module)
stands_for parts = flat_map (λ p. map (λ m. (p, m)) (stands_of p)) parts

-- their trees, under the names of the modules
abbrev pub trees_of : List (Part × Module) → List (List ℕ × Module)
trees_of stands = map (λ s. (string_bytes s.0.name, s.1)) stands
