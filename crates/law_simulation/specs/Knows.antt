-- What a module of a program knows of the others is as they have it.
use Rattle.std.specs.Prelude.{◌≡◌, ℕ, ◌==◌, true, ◌||◌, List, [], ◌++◌, map, All, Option, Some, None, slice_get, if◌then◌else◌}
use Rattle.std.specs.List.{list_any}
use Rattle.typed_tree.specs.declared.typed_module.Imported.{Imported}
use Rattle.typed_tree.specs.declared.typed_module.TypedModule.{TypedModule}
use Rattle.typed_tree.specs.declared.types.TypeNo.{TypeNo}
use Rattle.layout_storage.specs.Types.{Ty}
use Rattle.layout_storage.specs.Shapes.{tree}
use Rattle.def_meaning.specs.Environment.{module_place}
use Rattle.def_scheme.specs.Exprs.{is_own, import_place}
use Rattle.law_modules.specs.Linked.{Program}

-- ---- variables

abbrev pub imported_variables : Option Imported → List TypeNo
imported_variables None = []
imported_variables (Some i) = i.variables

-- the variables of a module that another one knows
abbrev pub known_variables : TypedModule → (home : ℕ) → List TypeNo
known_variables m home =
    if is_own m home
    then m.variables
    else imported_variables (slice_get m.imports (import_place m home))

-- the module itself, and those that it imports
abbrev pub IsKnown : TypedModule → (home : ℕ) → Type 0
IsKnown m home = (is_own m home || list_any (λ i. i.number == home) m.imports) ≡ true

-- ---- modules

-- the module with this number stands there among the others, and its first variables are those that
-- are known of it
pub record Knows (p : Program) (m : TypedModule) (i : Imported) : Type 0 where
  pub home : TypedModule
  pub there : slice_get p (module_place p i.number) ≡ Some home
  pub number : home.types.home ≡ i.number
  pub name : i.name ≡ home.name
  pub more : List Ty
  pub variables : map (tree home.types) home.variables ≡ map (tree m.types) i.variables ++ more

pub record IsCoherent (p : Program) (place : ℕ) (m : TypedModule) : Type 0 where
  pub there : slice_get p place ≡ Some m
  pub own : module_place p m.types.home ≡ place
  pub imports : All (Knows p m) m.imports
