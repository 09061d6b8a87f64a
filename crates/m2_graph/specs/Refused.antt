-- Which files are refused, and where. The modules are in the order of their files: by the files'
-- names, and as given if these are equal.
use Rattle.std.specs.Prelude.{ℕ, Bool, not, ◌&&◌, ◌||◌, ◌==◌, nat_lt, List, [], ◌∷◌, ◌++◌, Option, Some, None, map, cond, codes, fold, length}
use Rattle.std.specs.List.{filter}
use Rattle.std.specs.Option.{is_none, is_some}
use Rattle.m2_rule.specs.declared.rule.Rule.TheVariants as rule
use Rattle.m2_tree.specs.declared.pos.Pos.{Pos}
use Rattle.m2_rule.specs.declared.rule.Rule.{Rule}
use Rattle.m2_rule.specs.Breaches.{breach, lesser}
use Rattle.m2_tree.specs.declared.name.Ident.{Ident}
use Rattle.m2_tree.specs.declared.decl.Module.{Module}
use Rattle.m2_rule.specs.declared.breach.Breach.{Breach}
use Rattle.m2_tree.specs.Names.{same_name, is_console}
use Rattle.m2_graph.specs.Imports.{imports_of, is_definition, is_program, is_implementation, defines, implements, definition_of, first_that}

-- the place of a text's first byte
abbrev pub first_place : Pos
first_place = record { line = 1; col = 1 }

-- ---- the least of several

abbrev pub least_with : Option Breach → Breach → Option Breach
least_with None g = Some g
least_with (Some f) g = Some (lesser f g)

abbrev pub least_of : List Breach → Option Breach
least_of fs = fold least_with None fs

abbrev pub breach_where : Bool → Pos → Rule → List Breach
breach_where holds pos broken = cond holds (breach pos broken ∷ []) []

-- ---- what is refused in a module, beside cycles

-- whether a module passes
abbrev pub any_that : (Module → Bool) → List Module → Bool
any_that test modules = is_some (first_that test modules)

abbrev pub is_built_in : List ℕ → Bool
is_built_in name = is_console name || same_name name (codes "link")

-- an import of a module that has no definition, Console apart, or by a body of its own module
abbrev pub is_bad_import : List Module → Module → List ℕ → Bool
is_bad_import modules m name =
    (not (is_console name) && is_none (definition_of modules name))
    || (not (is_definition m) && same_name name m.name.name)

abbrev pub import_breaches : List Module → Module → List Ident → List Breach
import_breaches modules m names =
    map (λ x. breach x.pos rule.MissingModule) (filter (λ x. is_bad_import modules m x.name) names)

-- two definitions, or two bodies, of one name
abbrev pub are_one_part : Module → Module → Bool
are_one_part m other =
    cond (is_definition m) (is_definition other) (not (is_definition other))
    && same_name m.name.name other.name.name

abbrev pub is_second : List Module → Module → Bool
is_second before m = any_that (are_one_part m) before

-- a second file for a definition or a body, or a module with the name of one that is built in
abbrev pub is_repeated : List Module → Module → Bool
is_repeated before m = is_second before m || is_built_in m.name.name

-- the first of modules without a program module
abbrev pub is_without_program : List Module → List Module → Bool
is_without_program modules before = length before == 0 && not (any_that is_program modules)

-- a second program module
abbrev pub is_second_program : List Module → Module → Bool
is_second_program before m = is_program m && any_that is_program before

-- an implementation without definition, or the reverse
abbrev pub is_lone : List Module → Module → Bool
is_lone modules m =
    (is_implementation m && not (any_that (defines m.name.name) modules))
    || (is_definition m && not (any_that (implements m.name.name) modules))

abbrev pub max_files : ℕ
max_files = 1024

-- What is refused in the file with this many before it in order, and this many given before it.
abbrev pub breaches_of : List Module → List Module → ℕ → Module → List Breach
breaches_of modules before given m =
    import_breaches modules m (imports_of m)
    ++ breach_where (is_repeated before m) m.name.pos rule.SecondFile
    ++ breach_where (is_second_program before m) m.name.pos rule.ProgramCount
    ++ breach_where (is_without_program modules before) first_place rule.ProgramCount
    ++ breach_where (is_lone modules m) m.name.pos rule.LonelyModule
    ++ breach_where (given == max_files) first_place rule.FileCount
