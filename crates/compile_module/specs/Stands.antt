-- What stands for the bodies of a program that are not there.
use Rattle.std.specs.Prelude.{ℕ, Bool, not, ◌&&◌, ◌||◌, cond, List, [], ◌∷◌, ◌++◌, map, codes}
use Rattle.std.specs.List.{filter, flat_map, list_any}
use Rattle.std.specs.String.{string_bytes}
use Rattle.m2_tree.specs.declared.refusal.Refusal.{Refusal}
use Rattle.m2_tree.specs.declared.decl.Module.{Module}
use Rattle.m2_tree.specs.Names.{same_name}
use Rattle.m2_graph.specs.Imports.{is_definition, is_program}
use Rattle.empty_modules.specs.Empty.{import_of, empty_body, empty_program}

-- ---- modules

-- Each definition lacks its body, but for that of the body which is the first module.
abbrev pub lacks_body : (first : Module) → Module → Bool
lacks_body first m =
    is_definition m && (is_definition first || not (same_name m.name.name first.name.name))

abbrev pub body_for : (first : Module) → Module → List Module
body_for first m = cond (lacks_body first m) (empty_body m.name.name [] ∷ []) []

-- A program without a name imports the first module, if that is no program.
abbrev pub program_for : (first : Module) → List Module
program_for first =
    cond (is_program first) [] (empty_program [] (import_of first.name.name ∷ []) ∷ [])

-- what makes a program of these modules
abbrev pub stands_for : List Module → List Module
stands_for [] = []
stands_for (m ∷ ms) = flat_map (body_for m) (m ∷ ms) ++ program_for m

-- ---- files

-- the name of their file
abbrev pub stand_file : List ℕ
stand_file = codes "(what stands for modules that are not there)"

abbrev pub with_stands : List (List ℕ × Module) → List (List ℕ × Module)
with_stands trees = trees ++ map (λ m. (stand_file, m)) (stands_for (map (λ f. f.1) trees))

-- It is refused in a file that is there.
abbrev pub is_told : Refusal → Bool
is_told r = not (same_name (string_bytes r.file) stand_file)

-- What is refused of them follows from other refusals. If there are no others, it stays.
abbrev pub without_stands : List Refusal → List Refusal
without_stands rs = cond (list_any is_told rs) (filter is_told rs) rs
