-- What the modules of a program import. The modules are in the order of their files.
use Rattle.std.specs.Prelude.{ℕ, Bool, true, false, not, ◌&&◌, ◌||◌, List, [], ◌∷◌, ◌++◌, Option, Some, None, map, suc, cond, slice_index_or}
use Rattle.std.specs.List.{flat_map, filter_map}
use Rattle.std.specs.Option.{option_map, option_to_list}
use Rattle.m2_tree.specs.Names.{same_name}
use Rattle.m2_tree.specs.declared.name.Ident.{Ident}
use Rattle.m2_tree.specs.declared.decl.Module.{Module}
use Rattle.m2_tree.specs.declared.decl.Contents.{Contents}
use Rattle.m2_tree.specs.declared.decl.Contents.TheVariants.{Definition, Implementation, Program}

-- the modules that an import names: the one behind FROM, else each
abbrev pub named_by : Option Ident → List Ident → List Ident
named_by (Some from) names = from ∷ []
named_by None names = names

-- the modules that a module imports, as they are written
abbrev pub imports_of : Module → List Ident
imports_of m = flat_map (λ i. named_by i.from i.names) m.imports

abbrev pub is_definition_part : Contents → Bool
is_definition_part (Definition _) = true
is_definition_part (Implementation _) = false
is_definition_part (Program _) = false

abbrev pub is_program_part : Contents → Bool
is_program_part (Definition _) = false
is_program_part (Implementation _) = false
is_program_part (Program _) = true

abbrev pub is_definition : Module → Bool
is_definition m = is_definition_part m.contents

abbrev pub is_program : Module → Bool
is_program m = is_program_part m.contents

-- an implementation: a body that has a definition
abbrev pub is_implementation : Module → Bool
is_implementation m = not (is_definition m || is_program m)

abbrev pub defines : List ℕ → Module → Bool
defines name m = is_definition m && same_name name m.name.name

abbrev pub implements : List ℕ → Module → Bool
implements name m = is_implementation m && same_name name m.name.name

-- the number of the first that passes
abbrev pub first_that : {X : Type 0} → (X → Bool) → List X → Option ℕ
first_that test [] = None
first_that test (x ∷ xs) = cond (test x) (Some 0) (option_map suc (first_that test xs))

-- the number of the definition that this name means: the first of this name
abbrev pub definition_of : List Module → List ℕ → Option ℕ
definition_of modules name = first_that (defines name) modules

-- The pairs: for each module, the definitions that it imports, as it imports them. A name without
-- definition, as the name of a built in module, makes no pair.
abbrev pub links_of : List Module → Module → List ℕ
links_of modules m = filter_map (λ i. definition_of modules i.name) (imports_of m)

abbrev pub links : List Module → List (List ℕ)
links modules = map (links_of modules) modules

-- ---- what a job needs, and what a walk goes through

-- the definition that a body has
abbrev pub own_definition : List Module → Module → List ℕ
own_definition modules m =
    cond (is_definition m) [] (option_to_list (definition_of modules m.name.name))

-- A definition needs those that it imports, a body its own definition and those that it imports.
abbrev pub needs_of : List Module → Module → List ℕ
needs_of modules m = own_definition modules m ++ links_of modules m

-- what the module of this number imports
abbrev pub links_at : List Module → Module → Option ℕ → List ℕ
links_at modules m None = []
links_at modules m (Some i) = links_of modules (slice_index_or modules i m)

-- what the implementation of a definition imports
abbrev pub body_links : List Module → Module → List ℕ
body_links modules m =
    cond (is_definition m) (links_at modules m (first_that (implements m.name.name) modules)) []

-- A walk goes through a definition's imports, and then through the imports of its implementation.
abbrev pub walk_of : List Module → Module → List ℕ
walk_of modules m = links_of modules m ++ body_links modules m

abbrev pub walks : List Module → List (List ℕ)
walks modules = map (walk_of modules) modules
