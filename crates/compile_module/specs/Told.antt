-- What is told of a module that was built: the first of these modules.
use Rattle.std.specs.Prelude.{◌≡◌, ℕ, Bool, false, cond, List, [], ◌∷◌, ◌++◌, String, map}
use Rattle.std.specs.Global.{Global}
use Rattle.std.specs.List.{flat_map, enumerate_from}
use Rattle.std.specs.Str.Lossy.{utf8_lossy}
use Rattle.std.specs.String.{string_bytes}
use Rattle.m2_tree.specs.declared.decl.Module.{Module}
use Rattle.m2_graph.specs.Imports.{is_definition, is_program, defines}
use Rattle.list_imports.specs.Listed.{imported_by, texts, told, once}
use Rattle.compile_module.specs.declared.made.Interface.{Interface}

abbrev pub first_is_program : List Module → Bool
first_is_program [] = false
first_is_program (m ∷ ms) = is_program m

-- what a definition imports, if it is that of the module of this name
abbrev pub definition_imports : (name : List ℕ) → Module → List (List ℕ)
definition_imports name m = cond (defines name m) (imported_by m) []

-- what the definition of the first imports, and then what the first imports itself
abbrev pub imports_of : List Module → List (List ℕ)
imports_of [] = []
imports_of (m ∷ ms) = flat_map (definition_imports m.name.name) ms ++ imported_by m

-- a definition, by the name of its module and the place of its file
abbrev pub interface_in : ℕ × Module → List (List ℕ × ℕ)
interface_in f = cond (is_definition f.1) ((utf8_lossy f.1.name.name, f.0) ∷ []) []

-- the definitions among all but the first
abbrev pub interfaces_of : List Module → List (List ℕ × ℕ)
interfaces_of [] = []
interfaces_of (m ∷ ms) = flat_map interface_in (enumerate_from 1 ms)

abbrev pub interface_told : Interface → List ℕ × ℕ
interface_told i = (string_bytes i.name, i.file)

-- Imports are told each once, without Console, and definitions in the order of their files.
pub record IsTold (ms : List Module) (program : Bool) (imports : List (String Global))
    (interfaces : List Interface) : Type 0 where
  pub is_program : program ≡ first_is_program ms
  pub are_imports : texts imports ≡ once (told (imports_of ms))
  pub are_interfaces : map interface_told interfaces ≡ interfaces_of ms
